use Rattle.std.proofs.Common.{[], length, Some, refl, ap, ◌∙◌, arith}
use Rattle.pd_subpatches.proofs.PutLemmas.{there, key_low, below_root, is_live, forest, small, apart, near, bare, lists, no_home, ports, owner_fits, others_own, owners, few, once, reach, numbers, other_numbers, no_blocks, value_reach}
use Rattle.pd_subpatches.proofs.putting.put_apart.Goals as goal

pub open_box-requires-clause-small : goal.open_box-requires-clause-small
open_box-requires-clause-small c =
    small c.args.patch.now c.args.room c.args.symbols.now c.requires.can c.requires.room.box c.requires.shell c.requires.shallow c.put_box-key.new.self c.put_box-key.result c.put_box-key.new.seeds
    c.put_box-key.ensures.key c.put_box-key.ensures.part c.put_box-key.ensures.stands c.put_box-key.ensures.uses

pub open_box-requires-clause-here : goal.open_box-requires-clause-here
open_box-requires-clause-here c =
    is_live c.args.patch.now c.args.room c.args.symbols.now c.requires.can c.requires.room.box c.requires.shell c.requires.shallow c.put_box-key.new.self c.put_box-key.result c.put_box-key.new.seeds
    c.put_box-key.ensures.key c.put_box-key.ensures.part c.put_box-key.ensures.stands c.put_box-key.ensures.uses

pub open_box-requires-clause-near : goal.open_box-requires-clause-near
open_box-requires-clause-near c =
    near c.args.patch.now c.args.room c.args.symbols.now c.requires.can c.requires.room.box c.requires.shell c.requires.shallow c.put_box-key.new.self c.put_box-key.result c.put_box-key.new.seeds
    c.put_box-key.ensures.key c.put_box-key.ensures.part c.put_box-key.ensures.stands c.put_box-key.ensures.uses

pub open_box-requires-clause-lists : goal.open_box-requires-clause-lists
open_box-requires-clause-lists c =
    lists c.args.patch.now c.args.room c.args.symbols.now c.requires.can c.requires.room.box c.requires.shell c.requires.shallow c.put_box-key.new.self c.put_box-key.result c.put_box-key.new.seeds
    c.put_box-key.ensures.key c.put_box-key.ensures.part c.put_box-key.ensures.stands c.put_box-key.ensures.uses

pub open_box-requires-clause-bare : goal.open_box-requires-clause-bare
open_box-requires-clause-bare c =
    bare c.args.patch.now c.args.room c.args.symbols.now c.requires.can c.requires.room.box c.requires.shell c.requires.shallow c.put_box-key.new.self c.put_box-key.result c.put_box-key.new.seeds
    c.put_box-key.ensures.key c.put_box-key.ensures.part c.put_box-key.ensures.stands c.put_box-key.ensures.uses

pub open_box-requires-clause-apart : goal.open_box-requires-clause-apart
open_box-requires-clause-apart c = λ j i h. absurd (no_home
    c.args.patch.now c.args.room c.args.symbols.now c.requires.can c.requires.room.box c.requires.shell c.requires.shallow c.put_box-key.new.self c.put_box-key.result c.put_box-key.new.seeds
    c.put_box-key.ensures.key c.put_box-key.ensures.part c.put_box-key.ensures.stands c.put_box-key.ensures.uses j i h)

pub spot_at-spot-requires-clause-forest : goal.spot_at-spot-requires-clause-forest
spot_at-spot-requires-clause-forest c =
    forest c.args.patch.now c.args.room c.args.symbols.now c.requires.can c.requires.room.box c.requires.shell c.requires.shallow c.put_box-key.new.self c.put_box-key.result c.put_box-key.new.seeds
    c.put_box-key.ensures.key c.put_box-key.ensures.part c.put_box-key.ensures.stands c.put_box-key.ensures.uses c.put_box-key.ensures.root

pub spot_at-spot-requires-clause-here : goal.spot_at-spot-requires-clause-here
spot_at-spot-requires-clause-here c =
    is_live c.args.patch.now c.args.room c.args.symbols.now c.requires.can c.requires.room.box c.requires.shell c.requires.shallow c.put_box-key.new.self c.put_box-key.result c.put_box-key.new.seeds
    c.put_box-key.ensures.key c.put_box-key.ensures.part c.put_box-key.ensures.stands c.put_box-key.ensures.uses

pub bind_box-requires-clause-forest : goal.bind_box-requires-clause-forest
bind_box-requires-clause-forest c =
    forest c.args.patch.now c.args.room c.args.symbols.now c.requires.can c.requires.room.box c.requires.shell c.requires.shallow c.put_box-key.new.self c.put_box-key.result c.put_box-key.new.seeds
    c.put_box-key.ensures.key c.put_box-key.ensures.part c.put_box-key.ensures.stands c.put_box-key.ensures.uses c.put_box-key.ensures.root

pub bind_box-requires-clause-apart : goal.bind_box-requires-clause-apart
bind_box-requires-clause-apart c =
    apart c.args.patch.now c.args.room c.args.symbols.now c.requires.can c.requires.room.box c.requires.shell c.requires.shallow c.put_box-key.new.self c.put_box-key.result c.put_box-key.new.seeds
    c.put_box-key.ensures.key c.put_box-key.ensures.part c.put_box-key.ensures.stands c.put_box-key.ensures.uses

pub bind_box-requires-clause-room : goal.bind_box-requires-clause-room
bind_box-requires-clause-room c =
    owner_fits c.args.patch.now c.args.room c.args.symbols.now c.requires.can c.requires.room.box c.requires.shell c.requires.shallow c.put_box-key.new.self c.put_box-key.result c.put_box-key.new.seeds
    c.put_box-key.ensures.key c.put_box-key.ensures.part c.put_box-key.ensures.stands c.put_box-key.ensures.uses c.spot_at-spot.result c.spot_at-spot.ensures.node

pub number_boxes-requires-clause-apart : goal.number_boxes-requires-clause-apart
number_boxes-requires-clause-apart c =
    once c.args.patch.now c.args.room c.args.symbols.now c.requires.can c.requires.room.box c.requires.shell c.requires.shallow c.put_box-key.new.self c.put_box-key.result c.put_box-key.new.seeds
    c.put_box-key.ensures.key c.put_box-key.ensures.part c.put_box-key.ensures.stands c.put_box-key.ensures.uses

pub number_boxes-requires-clause-few : goal.number_boxes-requires-clause-few
number_boxes-requires-clause-few c =
    few c.args.patch.now c.args.room c.args.symbols.now c.requires.can c.requires.room.box c.requires.shell c.requires.shallow c.put_box-key.new.self c.put_box-key.result c.put_box-key.new.seeds
    c.put_box-key.ensures.key c.put_box-key.ensures.part c.put_box-key.ensures.stands c.put_box-key.ensures.uses

pub number_boxes-requires-clause-reach : goal.number_boxes-requires-clause-reach
number_boxes-requires-clause-reach c =
    reach c.args.patch.now c.args.room c.args.symbols.now c.requires.can c.requires.room.box c.requires.shell c.requires.shallow c.put_box-key.new.self c.put_box-key.result c.put_box-key.new.seeds
    c.put_box-key.ensures.key c.put_box-key.ensures.part c.put_box-key.ensures.stands c.put_box-key.ensures.uses

pub put_blocks-requires : goal.put_blocks-requires
put_blocks-requires c =
    value_reach c.args.patch.now c.args.room c.args.symbols.now c.requires.can c.requires.room.box c.requires.shell c.requires.shallow c.put_box-key.new.self c.put_box-key.result c.put_box-key.new.seeds
    c.put_box-key.ensures.key c.put_box-key.ensures.part c.put_box-key.ensures.stands c.put_box-key.ensures.uses (length c.args.patch.now.values.items) c.requires.room.box.keys.values

pub returns-clause-comes : goal.returns-clause-comes
returns-clause-comes c =
    let p = c.args.patch.now in
    let r = c.args.room in
    let t = c.args.symbols.now in
    let g = c.put_box-key.new.self in
    let k = c.put_box-key.result in
    let e = c.put_box-key.ensures in
    let left = c.put_box-key.new.seeds in
    let I = there p r t c.requires.can c.requires.room.box c.requires.shell c.requires.shallow g k left e.key e.part e.stands e.uses in
    let low = key_low p r t c.requires.can c.requires.room.box c.requires.shell c.requires.shallow g k left e.key e.part e.stands e.uses in
    let clocks = c.requires.room.box.keys.clocks in
    record {
      canvas = I.canvas;
      board = I.board;
      grove = I.more;
      sheet = I.sheet;
      root = e.root;
      ports = ports p r t c.requires.can c.requires.room.box c.requires.shell c.requires.shallow g k left e.key e.part e.stands e.uses c.open_box.new.web c.open_box.ensures.ports;
      homes = λ j. c.open_box.ensures.homes.others j (λ i h. no_home p r t c.requires.can c.requires.room.box c.requires.shell c.requires.shallow g k left e.key e.part e.stands e.uses j i h);
      owners = λ file was. owners p r t c.requires.can c.requires.room.box c.requires.shell c.requires.shallow g k left e.key e.part e.stands e.uses c.bind_box.new.names c.spot_at-spot.result c.spot_at-spot.ensures.node e.root (λ f old. c.bind_box.ensures.binds f [] refl old) file was;
      other_owners = others_own p r t c.requires.can c.requires.room.box c.requires.shell c.requires.shallow g k left e.key e.part e.stands e.uses c.bind_box.new.names c.spot_at-spot.result c.spot_at-spot.ensures.node c.bind_box.ensures.others;
      links = refl;
      numbers = numbers p r t c.requires.can c.requires.room.box c.requires.shell c.requires.shallow g k left e.key e.part e.stands e.uses c.number_boxes.new.numbers.items c.requires.number c.number_boxes.ensures;
      other_numbers = other_numbers p r t c.requires.can c.requires.room.box c.requires.shell c.requires.shallow g k left e.key e.part e.stands e.uses c.number_boxes.new.numbers.items c.number_boxes.ensures;
      blocks = record { is = c.put_blocks.ensures.is ∙ ap (λ bs. Some bs) (no_blocks p r t c.requires.can c.requires.room.box c.requires.shell c.requires.shallow g k left e.key e.part e.stands e.uses); others = c.put_blocks.ensures.others };
      clocks = refl;
      clock_room = omega (arith, low, clocks);
      low = below_root p r t c.requires.can c.requires.room.box c.requires.shell c.requires.shallow g k left e.key e.part e.stands e.uses;
      rate = refl;
      present = refl;
    }
