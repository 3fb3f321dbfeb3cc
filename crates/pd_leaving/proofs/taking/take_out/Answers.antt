use Rattle.std.proofs.Common.{[], ◌∷◌, map, IsSome, refl, sym, subst}
use Rattle.slab.specs.Slab.{get}
use Rattle.pd_grove.proofs.ForestLemmas.{box_there}
use Rattle.pd_owning.specs.Bound.{AreOwnersBut}
use Rattle.pd_patch.specs.Values.{blocks_told}
use Rattle.pd_boxes.specs.Rows.{PutsUnder}
use Rattle.pd_clearing.proofs.ReadyLemmas.{above, has_order, hold_alone, lawful, loose, numbers_left, numbers_stay, once, owners_left, within}
use Rattle.pd_leaving.proofs.OutLemmas.{leaf_ready}
use Rattle.pd_leaving.proofs.taking.take_out.Goals as goal

pub displace_box-requires-clause-loose : goal.displace_box-requires-clause-loose
displace_box-requires-clause-loose c =
    let p = c.args.patch.now in
    let key = c.args.key in
    loose p c.args.place key (key ∷ []) (leaf_ready p c.args.place key c.requires.can c.requires.is c.requires.leaf c.requires.meet c.requires.bare)

pub displace_box-requires-clause-lawful : goal.displace_box-requires-clause-lawful
displace_box-requires-clause-lawful c =
    let p = c.args.patch.now in
    let key = c.args.key in
    lawful p c.args.place key (key ∷ []) (leaf_ready p c.args.place key c.requires.can c.requires.is c.requires.leaf c.requires.meet c.requires.bare)

pub displace_box-requires-clause-order : goal.displace_box-requires-clause-order
displace_box-requires-clause-order c =
    let p = c.args.patch.now in
    let key = c.args.key in
    has_order p c.args.place key (key ∷ []) (leaf_ready p c.args.place key c.requires.can c.requires.is c.requires.leaf c.requires.meet c.requires.bare)

pub take_box-requires-clause-here : goal.take_box-requires-clause-here
take_box-requires-clause-here c =
    let p = c.args.patch.now in
    let key = c.args.key in
    within p c.args.place key (key ∷ []) (leaf_ready p c.args.place key c.requires.can c.requires.is c.requires.leaf c.requires.meet c.requires.bare)

pub close_box-requires-clause-homes : goal.close_box-requires-clause-homes
close_box-requires-clause-homes c =
    let p = c.args.patch.now in
    let ports = c.requires.can.runs.ports in
    (c.port_boxes_are_known.ensures.known p.grove p.web c.requires.can.forest.own (hold_alone p.grove c.requires.can.forest) ports.ports ports.homes ports.homes_found).told c.args.key

pub lower_numbers-requires-clause-apart : goal.lower_numbers-requires-clause-apart
lower_numbers-requires-clause-apart c =
    let p = c.args.patch.now in
    let key = c.args.key in
    once p c.args.place key (key ∷ []) (leaf_ready p c.args.place key c.requires.can c.requires.is c.requires.leaf c.requires.meet c.requires.bare) c.take_box.new.self c.take_box.result
    (c.take_box.ensures.takes key c.requires.is)

pub lower_numbers-requires-clause-above : goal.lower_numbers-requires-clause-above
lower_numbers-requires-clause-above c =
    let p = c.args.patch.now in
    let key = c.args.key in
    above p c.args.place key (key ∷ []) (leaf_ready p c.args.place key c.requires.can c.requires.is c.requires.leaf c.requires.meet c.requires.bare) c.take_box.new.self c.take_box.result
    (c.take_box.ensures.takes key c.requires.is)

pub spot_at-spot-requires-clause-here : goal.spot_at-spot-requires-clause-here
spot_at-spot-requires-clause-here c =
    let p = c.args.patch.now in
    let B = box_there (get p.grove.nodes c.args.key) c.args.place.canvas (c.requires.can.forest.own.home c.args.place.canvas c.args.place.number c.args.key c.requires.is) in
    subst (λ o. IsSome o) (sym B.is) refl

pub returns-clause-out : goal.returns-clause-out
returns-clause-out c =
    let p = c.args.patch.now in
    let key = c.args.key in
    let place = c.args.place in
    let R = leaf_ready p place key c.requires.can c.requires.is c.requires.leaf c.requires.meet c.requires.bare in
    let h = c.take_box.new.self in
    let n = c.take_box.result in
    let T = c.take_box.ensures.takes key c.requires.is in
    record {
      node = n;
      grove = T;
      root = c.take_box.ensures.root;
      ports = c.close_box.ensures.ports;
      homes = c.close_box.ensures.homes;
      owners = owners_left p place key (key ∷ []) R h n T c.unbind_box.new.names c.args.symbols.now c.take_box.ensures.root
          (λ file away o. subst (λ k. AreOwnersBut c.unbind_box.new.names c.args.symbols.now file p.grove (k ∷ away)) c.spot_at-spot.ensures.node (c.unbind_box.ensures.unbinds file away o));
      links = refl;
      numbers = numbers_left p place key (key ∷ []) R h n T c.lower_numbers.new.numbers.items c.lower_numbers.ensures place.canvas;
      other_numbers = numbers_stay p place key (key ∷ []) R h n T c.lower_numbers.new.numbers.items c.lower_numbers.ensures;
      blocks = subst (PutsUnder (blocks_told p) (map (λ b. b.items) c.put_blocks.new.values.items) key) c.new.ensures.items c.put_blocks.ensures;
      clocks = c.clear.ensures.clocks;
      clock_room = c.clear.ensures.end;
      other_orders = c.displace_box.ensures.others;
      rate = refl;
      present = refl;
    }

pub returns-clause-known : goal.returns-clause-known
returns-clause-known c =
    let p = c.args.patch.now in
    let ports = c.requires.can.runs.ports in
    c.port_boxes_stay_known.ensures.closed p.web c.close_box.new.web c.args.key c.close_box.ensures.ports c.close_box.ensures.homes
    (c.port_boxes_are_known.ensures.known p.grove p.web c.requires.can.forest.own (hold_alone p.grove c.requires.can.forest) ports.ports ports.homes ports.homes_found)
