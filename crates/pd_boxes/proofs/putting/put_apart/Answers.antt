use Rattle.std.proofs.Common.{◌+◌, List, [], length, refl, sym, ap, subst, arith}
use Rattle.slab.specs.Slab.{get}
use Rattle.pd_grove.specs.declared.seeds.Seed.{Seed}
use Rattle.pd_grove.specs.declared.ports.Side.TheVariants.{Outlets}
use Rattle.pd_grove.specs.Planting.{seeds_in, AreRoomy}
use Rattle.pd_grove.specs.Room.{HasPlace}
use Rattle.pd_patch.specs.Values.{blocks_told}
use Rattle.pd_boxes.specs.Put.{node_of, keys_before, keys_behind}
use Rattle.pd_boxes.proofs.PortLemmas.{no_home}
use Rattle.pd_boxes.proofs.PutLemmas.{leaf_in, key_low, below_root, is_live, forest, small, apart, near, lists, bare, ports, owner_fits, others_own, owners, few, once, reach, numbers, other_numbers, blocks, value_reach}
use Rattle.pd_boxes.proofs.putting.put_apart.Goals as goal

pub put_box-key-requires-clause-deep : goal.put_box-key-requires-clause-deep
put_box-key-requires-clause-deep c =
    let e = ap length c.requires.room.inside in
    let low = c.requires.can.forest.shallow c.args.room.place.canvas in
    omega (arith, e, low)

pub put_box-key-requires-clause-place : goal.put_box-key-requires-clause-place
put_box-key-requires-clause-place c = subst (λ (ss : List Seed). HasPlace c.args.patch.now.grove c.args.room.place.canvas (length ss + 1)) (sym c.requires.room.inside) c.requires.room.grove

pub put_box-key-requires-clause-roomy : goal.put_box-key-requires-clause-roomy
put_box-key-requires-clause-roomy c = subst AreRoomy (sym c.requires.room.inside) tt

pub open_box-requires-clause-small : goal.open_box-requires-clause-small
open_box-requires-clause-small c =
    let p = c.args.patch.now in
    let r = c.args.room in
    let g = c.put_box-key.new.self in
    let k = c.put_box-key.result in
    let e = c.put_box-key.ensures in
    let M = leaf_in (get p.grove.nodes) (get g.nodes) (get p.grove.boards) (get g.boards) p.grove.root r.place.canvas k r.seed (seeds_in r.inside) (seeds_in c.put_box-key.new.seeds)
    (keys_before p r.place) (keys_behind p r.place) c.requires.leaf c.requires.room.inside c.requires.can.forest e.part e.stands e.uses in
    small p r c.args.symbols.now c.requires.can c.requires.room c.requires.leaf g k e.key M

pub open_box-requires-clause-here : goal.open_box-requires-clause-here
open_box-requires-clause-here c =
    let p = c.args.patch.now in
    let r = c.args.room in
    let g = c.put_box-key.new.self in
    let k = c.put_box-key.result in
    let e = c.put_box-key.ensures in
    let M = leaf_in (get p.grove.nodes) (get g.nodes) (get p.grove.boards) (get g.boards) p.grove.root r.place.canvas k r.seed (seeds_in r.inside) (seeds_in c.put_box-key.new.seeds)
    (keys_before p r.place) (keys_behind p r.place) c.requires.leaf c.requires.room.inside c.requires.can.forest e.part e.stands e.uses in
    is_live p r c.args.symbols.now c.requires.can c.requires.room c.requires.leaf g k e.key M

pub open_box-requires-clause-near : goal.open_box-requires-clause-near
open_box-requires-clause-near c =
    let p = c.args.patch.now in
    let r = c.args.room in
    let g = c.put_box-key.new.self in
    let k = c.put_box-key.result in
    let e = c.put_box-key.ensures in
    let M = leaf_in (get p.grove.nodes) (get g.nodes) (get p.grove.boards) (get g.boards) p.grove.root r.place.canvas k r.seed (seeds_in r.inside) (seeds_in c.put_box-key.new.seeds)
    (keys_before p r.place) (keys_behind p r.place) c.requires.leaf c.requires.room.inside c.requires.can.forest e.part e.stands e.uses in
    near p r c.args.symbols.now c.requires.can c.requires.room c.requires.leaf g k e.key M

pub open_box-requires-clause-lists : goal.open_box-requires-clause-lists
open_box-requires-clause-lists c =
    let p = c.args.patch.now in
    let r = c.args.room in
    let g = c.put_box-key.new.self in
    let k = c.put_box-key.result in
    let e = c.put_box-key.ensures in
    let M = leaf_in (get p.grove.nodes) (get g.nodes) (get p.grove.boards) (get g.boards) p.grove.root r.place.canvas k r.seed (seeds_in r.inside) (seeds_in c.put_box-key.new.seeds)
    (keys_before p r.place) (keys_behind p r.place) c.requires.leaf c.requires.room.inside c.requires.can.forest e.part e.stands e.uses in
    lists p r c.args.symbols.now c.requires.can c.requires.room c.requires.leaf g k e.key M

pub open_box-requires-clause-bare : goal.open_box-requires-clause-bare
open_box-requires-clause-bare c =
    let p = c.args.patch.now in
    let r = c.args.room in
    let g = c.put_box-key.new.self in
    let k = c.put_box-key.result in
    let e = c.put_box-key.ensures in
    let M = leaf_in (get p.grove.nodes) (get g.nodes) (get p.grove.boards) (get g.boards) p.grove.root r.place.canvas k r.seed (seeds_in r.inside) (seeds_in c.put_box-key.new.seeds)
    (keys_before p r.place) (keys_behind p r.place) c.requires.leaf c.requires.room.inside c.requires.can.forest e.part e.stands e.uses in
    bare p r c.args.symbols.now c.requires.can c.requires.room c.requires.leaf g k e.key M

pub open_box-requires-clause-apart : goal.open_box-requires-clause-apart
open_box-requires-clause-apart c =
    let p = c.args.patch.now in
    let r = c.args.room in
    let g = c.put_box-key.new.self in
    let k = c.put_box-key.result in
    let e = c.put_box-key.ensures in
    let M = leaf_in (get p.grove.nodes) (get g.nodes) (get p.grove.boards) (get g.boards) p.grove.root r.place.canvas k r.seed (seeds_in r.inside) (seeds_in c.put_box-key.new.seeds)
    (keys_before p r.place) (keys_behind p r.place) c.requires.leaf c.requires.room.inside c.requires.can.forest e.part e.stands e.uses in
    λ j i h. absurd (no_home p.grove g r.place.canvas k (node_of r.place.canvas r.seed) (keys_before p r.place) (keys_behind p r.place) M j i h)

pub spot_at-spot-requires-clause-forest : goal.spot_at-spot-requires-clause-forest
spot_at-spot-requires-clause-forest c =
    let p = c.args.patch.now in
    let r = c.args.room in
    let g = c.put_box-key.new.self in
    let k = c.put_box-key.result in
    let e = c.put_box-key.ensures in
    let M = leaf_in (get p.grove.nodes) (get g.nodes) (get p.grove.boards) (get g.boards) p.grove.root r.place.canvas k r.seed (seeds_in r.inside) (seeds_in c.put_box-key.new.seeds)
    (keys_before p r.place) (keys_behind p r.place) c.requires.leaf c.requires.room.inside c.requires.can.forest e.part e.stands e.uses in
    forest p r c.args.symbols.now c.requires.can c.requires.room c.requires.leaf g k e.key M e.root

pub spot_at-spot-requires-clause-here : goal.spot_at-spot-requires-clause-here
spot_at-spot-requires-clause-here c =
    let p = c.args.patch.now in
    let r = c.args.room in
    let g = c.put_box-key.new.self in
    let k = c.put_box-key.result in
    let e = c.put_box-key.ensures in
    let M = leaf_in (get p.grove.nodes) (get g.nodes) (get p.grove.boards) (get g.boards) p.grove.root r.place.canvas k r.seed (seeds_in r.inside) (seeds_in c.put_box-key.new.seeds)
    (keys_before p r.place) (keys_behind p r.place) c.requires.leaf c.requires.room.inside c.requires.can.forest e.part e.stands e.uses in
    is_live p r c.args.symbols.now c.requires.can c.requires.room c.requires.leaf g k e.key M

pub bind_box-requires-clause-forest : goal.bind_box-requires-clause-forest
bind_box-requires-clause-forest c =
    let p = c.args.patch.now in
    let r = c.args.room in
    let g = c.put_box-key.new.self in
    let k = c.put_box-key.result in
    let e = c.put_box-key.ensures in
    let M = leaf_in (get p.grove.nodes) (get g.nodes) (get p.grove.boards) (get g.boards) p.grove.root r.place.canvas k r.seed (seeds_in r.inside) (seeds_in c.put_box-key.new.seeds)
    (keys_before p r.place) (keys_behind p r.place) c.requires.leaf c.requires.room.inside c.requires.can.forest e.part e.stands e.uses in
    forest p r c.args.symbols.now c.requires.can c.requires.room c.requires.leaf g k e.key M e.root

pub bind_box-requires-clause-labelled : goal.bind_box-requires-clause-labelled
bind_box-requires-clause-labelled c =
    let p = c.args.patch.now in
    let r = c.args.room in
    let g = c.put_box-key.new.self in
    let k = c.put_box-key.result in
    let e = c.put_box-key.ensures in
    let M = leaf_in (get p.grove.nodes) (get g.nodes) (get p.grove.boards) (get g.boards) p.grove.root r.place.canvas k r.seed (seeds_in r.inside) (seeds_in c.put_box-key.new.seeds)
    (keys_before p r.place) (keys_behind p r.place) c.requires.leaf c.requires.room.inside c.requires.can.forest e.part e.stands e.uses in
    g.labelled

pub bind_box-requires-clause-apart : goal.bind_box-requires-clause-apart
bind_box-requires-clause-apart c =
    let p = c.args.patch.now in
    let r = c.args.room in
    let g = c.put_box-key.new.self in
    let k = c.put_box-key.result in
    let e = c.put_box-key.ensures in
    let M = leaf_in (get p.grove.nodes) (get g.nodes) (get p.grove.boards) (get g.boards) p.grove.root r.place.canvas k r.seed (seeds_in r.inside) (seeds_in c.put_box-key.new.seeds)
    (keys_before p r.place) (keys_behind p r.place) c.requires.leaf c.requires.room.inside c.requires.can.forest e.part e.stands e.uses in
    apart p r c.args.symbols.now c.requires.can c.requires.room c.requires.leaf g k e.key M

pub bind_box-requires-clause-room : goal.bind_box-requires-clause-room
bind_box-requires-clause-room c =
    let p = c.args.patch.now in
    let r = c.args.room in
    let g = c.put_box-key.new.self in
    let k = c.put_box-key.result in
    let e = c.put_box-key.ensures in
    let M = leaf_in (get p.grove.nodes) (get g.nodes) (get p.grove.boards) (get g.boards) p.grove.root r.place.canvas k r.seed (seeds_in r.inside) (seeds_in c.put_box-key.new.seeds)
    (keys_before p r.place) (keys_behind p r.place) c.requires.leaf c.requires.room.inside c.requires.can.forest e.part e.stands e.uses in
    owner_fits p r c.args.symbols.now c.requires.can c.requires.room c.requires.leaf g k e.key M c.spot_at-spot.result c.spot_at-spot.ensures.node

pub number_boxes-requires-clause-apart : goal.number_boxes-requires-clause-apart
number_boxes-requires-clause-apart c =
    let p = c.args.patch.now in
    let r = c.args.room in
    let g = c.put_box-key.new.self in
    let k = c.put_box-key.result in
    let e = c.put_box-key.ensures in
    let M = leaf_in (get p.grove.nodes) (get g.nodes) (get p.grove.boards) (get g.boards) p.grove.root r.place.canvas k r.seed (seeds_in r.inside) (seeds_in c.put_box-key.new.seeds)
    (keys_before p r.place) (keys_behind p r.place) c.requires.leaf c.requires.room.inside c.requires.can.forest e.part e.stands e.uses in
    once p r c.args.symbols.now c.requires.can c.requires.room c.requires.leaf g k e.key M

pub number_boxes-requires-clause-few : goal.number_boxes-requires-clause-few
number_boxes-requires-clause-few c =
    let p = c.args.patch.now in
    let r = c.args.room in
    let g = c.put_box-key.new.self in
    let k = c.put_box-key.result in
    let e = c.put_box-key.ensures in
    let M = leaf_in (get p.grove.nodes) (get g.nodes) (get p.grove.boards) (get g.boards) p.grove.root r.place.canvas k r.seed (seeds_in r.inside) (seeds_in c.put_box-key.new.seeds)
    (keys_before p r.place) (keys_behind p r.place) c.requires.leaf c.requires.room.inside c.requires.can.forest e.part e.stands e.uses in
    few p r c.args.symbols.now c.requires.can c.requires.room c.requires.leaf g k e.key M

pub number_boxes-requires-clause-reach : goal.number_boxes-requires-clause-reach
number_boxes-requires-clause-reach c =
    let p = c.args.patch.now in
    let r = c.args.room in
    let g = c.put_box-key.new.self in
    let k = c.put_box-key.result in
    let e = c.put_box-key.ensures in
    let M = leaf_in (get p.grove.nodes) (get g.nodes) (get p.grove.boards) (get g.boards) p.grove.root r.place.canvas k r.seed (seeds_in r.inside) (seeds_in c.put_box-key.new.seeds)
    (keys_before p r.place) (keys_behind p r.place) c.requires.leaf c.requires.room.inside c.requires.can.forest e.part e.stands e.uses in
    reach p r c.args.symbols.now c.requires.can c.requires.room c.requires.leaf g k e.key M

pub put_blocks-requires : goal.put_blocks-requires
put_blocks-requires c =
    let p = c.args.patch.now in
    let r = c.args.room in
    let g = c.put_box-key.new.self in
    let k = c.put_box-key.result in
    let e = c.put_box-key.ensures in
    let M = leaf_in (get p.grove.nodes) (get g.nodes) (get p.grove.boards) (get g.boards) p.grove.root r.place.canvas k r.seed (seeds_in r.inside) (seeds_in c.put_box-key.new.seeds)
    (keys_before p r.place) (keys_behind p r.place) c.requires.leaf c.requires.room.inside c.requires.can.forest e.part e.stands e.uses in
    value_reach p r c.args.symbols.now c.requires.can c.requires.room c.requires.leaf g k e.key M (length p.values.items) c.requires.room.keys.values

pub returns-clause-comes : goal.returns-clause-comes
returns-clause-comes c =
    let p = c.args.patch.now in
    let r = c.args.room in
    let g = c.put_box-key.new.self in
    let k = c.put_box-key.result in
    let e = c.put_box-key.ensures in
    let M = leaf_in (get p.grove.nodes) (get g.nodes) (get p.grove.boards) (get g.boards) p.grove.root r.place.canvas k r.seed (seeds_in r.inside) (seeds_in c.put_box-key.new.seeds)
    (keys_before p r.place) (keys_behind p r.place) c.requires.leaf c.requires.room.inside c.requires.can.forest e.part e.stands e.uses in
    let told = ports p r c.args.symbols.now c.requires.can c.requires.room c.requires.leaf g k e.key M c.open_box.new.web c.open_box.ensures.ports in
    let low = key_low p r c.args.symbols.now c.requires.can c.requires.room c.requires.leaf g k e.key M in
    let clocks = c.requires.room.keys.clocks in
    record {
      grove = M;
      root = e.root;
      ports = told;
      homes = λ j. c.open_box.ensures.homes.others j (λ i h. no_home p.grove g r.place.canvas k (node_of r.place.canvas r.seed) (keys_before p r.place) (keys_behind p r.place) M j i h);
      owners = λ file was. owners p r c.args.symbols.now c.requires.can c.requires.room c.requires.leaf g k e.key M c.bind_box.new.names c.spot_at-spot.result c.spot_at-spot.ensures.node e.root (λ f old. c.bind_box.ensures.binds f [] refl old) file was;
      other_owners = others_own p r c.args.symbols.now c.requires.can c.requires.room c.requires.leaf g k e.key M c.bind_box.new.names c.spot_at-spot.result c.spot_at-spot.ensures.node c.bind_box.ensures.others;
      links = refl;
      numbers = numbers p r c.args.symbols.now c.requires.can c.requires.room c.requires.leaf g k e.key M c.number_boxes.new.numbers.items c.requires.number c.number_boxes.ensures;
      other_numbers = other_numbers p r c.args.symbols.now c.requires.can c.requires.room c.requires.leaf g k e.key M c.number_boxes.new.numbers.items c.number_boxes.ensures;
      blocks = blocks p r c.args.symbols.now c.requires.can c.requires.room c.requires.leaf g k e.key M c.open_box.new.web (blocks_told p) (blocks_told (record p { values = c.put_blocks.new.values })) (told.ports Outlets) c.put_blocks.ensures;
      clocks = refl;
      clock_room = omega (arith, low, clocks);
      low = below_root p r c.args.symbols.now c.requires.can c.requires.room c.requires.leaf g k e.key M;
      rate = refl;
      present = refl;
    }

pub returns-clause-near : goal.returns-clause-near
returns-clause-near c =
    let p = c.args.patch.now in
    let r = c.args.room in
    let g = c.put_box-key.new.self in
    let k = c.put_box-key.result in
    let e = c.put_box-key.ensures in
    let M = leaf_in (get p.grove.nodes) (get g.nodes) (get p.grove.boards) (get g.boards) p.grove.root r.place.canvas k r.seed (seeds_in r.inside) (seeds_in c.put_box-key.new.seeds)
    (keys_before p r.place) (keys_behind p r.place) c.requires.leaf c.requires.room.inside c.requires.can.forest e.part e.stands e.uses in
    λ l live. c.open_box.ensures.room (l + 1) 0 0 (near p r c.args.symbols.now c.requires.can c.requires.room c.requires.leaf g k e.key M l live)
