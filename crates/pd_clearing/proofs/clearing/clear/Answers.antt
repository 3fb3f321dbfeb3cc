use Rattle.std.proofs.Common.{◌≡◌, ◌+◌, ℕ, IsTrue, sym, ◌∙◌, subst, refl}
use Rattle.std.specs.Prelude.{slice_get, Some}
use Rattle.slab.specs.Slab.{get}
use Rattle.pd_grove.specs.declared.grove.Grove.{Grove}
use Rattle.pd_grove.specs.Grafts.{TakesBox}
use Rattle.pd_grove.specs.TextOrder.{keys_of_spots, spots_in_order}
use Rattle.pd_owning.specs.Bound.{is_among}
use Rattle.pd_boxes.specs.Put.{keys_before}
use Rattle.pd_clearing.specs.Clearing.{keys_past, IsPartOf}
use Rattle.pd_clearing.proofs.ClearLemmas.{as_many, cleared_part, is_ready, part_lives, GoesOut}
use Rattle.pd_clearing.proofs.ReadyLemmas.{above, has_order, hold_alone, lawful, loose, once, within, IsReady}
use Rattle.pd_clearing.proofs.clearing.clear.Goals as goal

pub loosen_all-left-requires-clause-live : goal.loosen_all-left-requires-clause-live
loosen_all-left-requires-clause-live g c =
    let p = c.args.patch.now in
    let key = c.args.part.now.key in
    let spots = c.as_slice-spots.result.now in
    let P : IsPartOf p.grove key spots = subst (λ ss. IsPartOf p.grove key ss) (sym c.as_slice-spots.ensures.value) c.requires.part in
    part_lives p c.args.place key (keys_of_spots spots) c.requires.can P.are

pub displace_box-requires-clause-here : goal.displace_box-requires-clause-here
displace_box-requires-clause-here g c =
    let p = c.args.patch.now in
    let key = c.args.part.now.key in
    let spots = c.as_slice-spots.result.now in
    let P : IsPartOf p.grove key spots = subst (λ ss. IsPartOf p.grove key ss) (sym c.as_slice-spots.ensures.value) c.requires.part in
    let r = c.loosen_all-left.new.patch in
    let L = c.loosen_all-left.ensures.loosens in
    let R : IsReady r c.args.place key (keys_of_spots spots) = is_ready p r c.args.place key (keys_of_spots spots) c.args.steps.now c.loosen_all-left.new.steps c.requires.can P.are L in
    (c.args.place.number, R.is)

pub displace_box-requires-clause-loose : goal.displace_box-requires-clause-loose
displace_box-requires-clause-loose g c =
    let p = c.args.patch.now in
    let key = c.args.part.now.key in
    let spots = c.as_slice-spots.result.now in
    let P : IsPartOf p.grove key spots = subst (λ ss. IsPartOf p.grove key ss) (sym c.as_slice-spots.ensures.value) c.requires.part in
    let r = c.loosen_all-left.new.patch in
    let L = c.loosen_all-left.ensures.loosens in
    let R : IsReady r c.args.place key (keys_of_spots spots) = is_ready p r c.args.place key (keys_of_spots spots) c.args.steps.now c.loosen_all-left.new.steps c.requires.can P.are L in
    loose r c.args.place key (keys_of_spots spots) R

pub displace_box-requires-clause-lawful : goal.displace_box-requires-clause-lawful
displace_box-requires-clause-lawful g c =
    let p = c.args.patch.now in
    let key = c.args.part.now.key in
    let spots = c.as_slice-spots.result.now in
    let P : IsPartOf p.grove key spots = subst (λ ss. IsPartOf p.grove key ss) (sym c.as_slice-spots.ensures.value) c.requires.part in
    let r = c.loosen_all-left.new.patch in
    let L = c.loosen_all-left.ensures.loosens in
    let R : IsReady r c.args.place key (keys_of_spots spots) = is_ready p r c.args.place key (keys_of_spots spots) c.args.steps.now c.loosen_all-left.new.steps c.requires.can P.are L in
    lawful r c.args.place key (keys_of_spots spots) R

pub displace_box-requires-clause-order : goal.displace_box-requires-clause-order
displace_box-requires-clause-order g c =
    let p = c.args.patch.now in
    let key = c.args.part.now.key in
    let spots = c.as_slice-spots.result.now in
    let P : IsPartOf p.grove key spots = subst (λ ss. IsPartOf p.grove key ss) (sym c.as_slice-spots.ensures.value) c.requires.part in
    let r = c.loosen_all-left.new.patch in
    let L = c.loosen_all-left.ensures.loosens in
    let R : IsReady r c.args.place key (keys_of_spots spots) = is_ready p r c.args.place key (keys_of_spots spots) c.args.steps.now c.loosen_all-left.new.steps c.requires.can P.are L in
    has_order r c.args.place key (keys_of_spots spots) R

pub unbind_boxes-requires-clause-forest : goal.unbind_boxes-requires-clause-forest
unbind_boxes-requires-clause-forest g c =
    let p = c.args.patch.now in
    let key = c.args.part.now.key in
    let spots = c.as_slice-spots.result.now in
    let P : IsPartOf p.grove key spots = subst (λ ss. IsPartOf p.grove key ss) (sym c.as_slice-spots.ensures.value) c.requires.part in
    let r = c.loosen_all-left.new.patch in
    let L = c.loosen_all-left.ensures.loosens in
    let R : IsReady r c.args.place key (keys_of_spots spots) = is_ready p r c.args.place key (keys_of_spots spots) c.args.steps.now c.loosen_all-left.new.steps c.requires.can P.are L in
    R.can.forest

pub unbind_boxes-requires-clause-apart : goal.unbind_boxes-requires-clause-apart
unbind_boxes-requires-clause-apart g c =
    let p = c.args.patch.now in
    let key = c.args.part.now.key in
    let spots = c.as_slice-spots.result.now in
    let P : IsPartOf p.grove key spots = subst (λ ss. IsPartOf p.grove key ss) (sym c.as_slice-spots.ensures.value) c.requires.part in
    let r = c.loosen_all-left.new.patch in
    let L = c.loosen_all-left.ensures.loosens in
    let R : IsReady r c.args.place key (keys_of_spots spots) = is_ready p r c.args.place key (keys_of_spots spots) c.args.steps.now c.loosen_all-left.new.steps c.requires.can P.are L in
    R.can.apart

pub unbind_boxes-requires-clause-here : goal.unbind_boxes-requires-clause-here
unbind_boxes-requires-clause-here g c =
    let p = c.args.patch.now in
    let key = c.args.part.now.key in
    let spots = c.as_slice-spots.result.now in
    let P : IsPartOf p.grove key spots = subst (λ ss. IsPartOf p.grove key ss) (sym c.as_slice-spots.ensures.value) c.requires.part in
    let r = c.loosen_all-left.new.patch in
    let L = c.loosen_all-left.ensures.loosens in
    let R : IsReady r c.args.place key (keys_of_spots spots) = is_ready p r c.args.place key (keys_of_spots spots) c.args.steps.now c.loosen_all-left.new.steps c.requires.can P.are L in
    λ j q at. subst (λ (g : Grove). (i : ℕ) × (slice_get (spots_in_order g) i ≡ Some q)) (sym L.rest.grove) (P.stand j q at)

pub take_box-requires-clause-forest : goal.take_box-requires-clause-forest
take_box-requires-clause-forest g c =
    let p = c.args.patch.now in
    let key = c.args.part.now.key in
    let spots = c.as_slice-spots.result.now in
    let P : IsPartOf p.grove key spots = subst (λ ss. IsPartOf p.grove key ss) (sym c.as_slice-spots.ensures.value) c.requires.part in
    let r = c.loosen_all-left.new.patch in
    let L = c.loosen_all-left.ensures.loosens in
    let R : IsReady r c.args.place key (keys_of_spots spots) = is_ready p r c.args.place key (keys_of_spots spots) c.args.steps.now c.loosen_all-left.new.steps c.requires.can P.are L in
    R.can.forest

pub take_box-requires-clause-here : goal.take_box-requires-clause-here
take_box-requires-clause-here g c =
    let p = c.args.patch.now in
    let key = c.args.part.now.key in
    let spots = c.as_slice-spots.result.now in
    let P : IsPartOf p.grove key spots = subst (λ ss. IsPartOf p.grove key ss) (sym c.as_slice-spots.ensures.value) c.requires.part in
    let r = c.loosen_all-left.new.patch in
    let L = c.loosen_all-left.ensures.loosens in
    let R : IsReady r c.args.place key (keys_of_spots spots) = is_ready p r c.args.place key (keys_of_spots spots) c.args.steps.now c.loosen_all-left.new.steps c.requires.can P.are L in
    within r c.args.place key (keys_of_spots spots) R

pub close_boxes-requires-clause-here : goal.close_boxes-requires-clause-here
close_boxes-requires-clause-here g c =
    let p = c.args.patch.now in
    let key = c.args.part.now.key in
    let spots = c.as_slice-spots.result.now in
    let P : IsPartOf p.grove key spots = subst (λ ss. IsPartOf p.grove key ss) (sym c.as_slice-spots.ensures.value) c.requires.part in
    let r = c.loosen_all-left.new.patch in
    let L = c.loosen_all-left.ensures.loosens in
    let R : IsReady r c.args.place key (keys_of_spots spots) = is_ready p r c.args.place key (keys_of_spots spots) c.args.steps.now c.loosen_all-left.new.steps c.requires.can P.are L in
    λ k at. L.room (k + 1) 0 0 (c.requires.room k (subst (λ ss. IsTrue (is_among (keys_of_spots ss) k)) c.as_slice-spots.ensures.value at))

pub close_boxes-requires-clause-bare : goal.close_boxes-requires-clause-bare
close_boxes-requires-clause-bare g c =
    let p = c.args.patch.now in
    let key = c.args.part.now.key in
    let spots = c.as_slice-spots.result.now in
    let P : IsPartOf p.grove key spots = subst (λ ss. IsPartOf p.grove key ss) (sym c.as_slice-spots.ensures.value) c.requires.part in
    let r = c.loosen_all-left.new.patch in
    let L = c.loosen_all-left.ensures.loosens in
    let R : IsReady r c.args.place key (keys_of_spots spots) = is_ready p r c.args.place key (keys_of_spots spots) c.args.steps.now c.loosen_all-left.new.steps c.requires.can P.are L in
    L.bare

pub close_boxes-requires-clause-known : goal.close_boxes-requires-clause-known
close_boxes-requires-clause-known g c =
    let p = c.args.patch.now in
    let key = c.args.part.now.key in
    let spots = c.as_slice-spots.result.now in
    let P : IsPartOf p.grove key spots = subst (λ ss. IsPartOf p.grove key ss) (sym c.as_slice-spots.ensures.value) c.requires.part in
    let r = c.loosen_all-left.new.patch in
    let L = c.loosen_all-left.ensures.loosens in
    let R : IsReady r c.args.place key (keys_of_spots spots) = is_ready p r c.args.place key (keys_of_spots spots) c.args.steps.now c.loosen_all-left.new.steps c.requires.can P.are L in
    let ports = R.can.runs.ports in
    c.port_boxes_are_known.ensures.known r.grove r.web R.can.forest.own (hold_alone r.grove R.can.forest) ports.ports ports.homes ports.homes_found

pub lower_numbers-requires-clause-apart : goal.lower_numbers-requires-clause-apart
lower_numbers-requires-clause-apart g c =
    let p = c.args.patch.now in
    let key = c.args.part.now.key in
    let spots = c.as_slice-spots.result.now in
    let P : IsPartOf p.grove key spots = subst (λ ss. IsPartOf p.grove key ss) (sym c.as_slice-spots.ensures.value) c.requires.part in
    let r = c.loosen_all-left.new.patch in
    let L = c.loosen_all-left.ensures.loosens in
    let R : IsReady r c.args.place key (keys_of_spots spots) = is_ready p r c.args.place key (keys_of_spots spots) c.args.steps.now c.loosen_all-left.new.steps c.requires.can P.are L in
    let h = c.take_box.new.self in
    let n = c.take_box.result in
    let T : TakesBox (get r.grove.nodes) (get h.nodes) (get r.grove.boards) (get h.boards) c.args.place.canvas key n (keys_before r c.args.place) (keys_past r c.args.place) = c.take_box.ensures.takes key R.is in
    once r c.args.place key (keys_of_spots spots) R h n T

pub lower_numbers-requires-clause-above : goal.lower_numbers-requires-clause-above
lower_numbers-requires-clause-above g c =
    let p = c.args.patch.now in
    let key = c.args.part.now.key in
    let spots = c.as_slice-spots.result.now in
    let P : IsPartOf p.grove key spots = subst (λ ss. IsPartOf p.grove key ss) (sym c.as_slice-spots.ensures.value) c.requires.part in
    let r = c.loosen_all-left.new.patch in
    let L = c.loosen_all-left.ensures.loosens in
    let R : IsReady r c.args.place key (keys_of_spots spots) = is_ready p r c.args.place key (keys_of_spots spots) c.args.steps.now c.loosen_all-left.new.steps c.requires.can P.are L in
    let h = c.take_box.new.self in
    let n = c.take_box.result in
    let T : TakesBox (get r.grove.nodes) (get h.nodes) (get r.grove.boards) (get h.boards) c.args.place.canvas key n (keys_before r c.args.place) (keys_past r c.args.place) = c.take_box.ensures.takes key R.is in
    above r c.args.place key (keys_of_spots spots) R h n T

pub returns-clause-cleared : goal.returns-clause-cleared
returns-clause-cleared g c =
    let p = c.args.patch.now in
    let key = c.args.part.now.key in
    let spots = c.as_slice-spots.result.now in
    let P : IsPartOf p.grove key spots = subst (λ ss. IsPartOf p.grove key ss) (sym c.as_slice-spots.ensures.value) c.requires.part in
    let r = c.loosen_all-left.new.patch in
    let L = c.loosen_all-left.ensures.loosens in
    let R : IsReady r c.args.place key (keys_of_spots spots) = is_ready p r c.args.place key (keys_of_spots spots) c.args.steps.now c.loosen_all-left.new.steps c.requires.can P.are L in
    let h = c.take_box.new.self in
    let n = c.take_box.result in
    let T : TakesBox (get r.grove.nodes) (get h.nodes) (get r.grove.boards) (get h.boards) c.args.place.canvas key n (keys_before r c.args.place) (keys_past r c.args.place) = c.take_box.ensures.takes key R.is in
    let part = keys_of_spots spots in
    let O : GoesOut r _ c.args.symbols.now c.args.place key part = record {
      node = n;
      grove = T;
      root = c.take_box.ensures.root;
      ports = c.close_boxes.ensures;
      owners = c.unbind_boxes.ensures.unbinds;
      links = refl;
      numbers = c.lower_numbers.ensures;
      blocks = c.drop_all.ensures;
      clocks = c.clear_clocks.ensures.clocks;
      clock_room = c.clear_clocks.ensures.end;
      displaced = c.displace_box.new.orders.items;
      lacks = c.displace_box.ensures.lacks;
      others = c.displace_box.ensures.others;
      orders = c.close_orders.ensures;
      rate = refl;
      present = refl;
    } in
    cleared_part p r _ c.args.symbols.now c.args.place key spots c.args.steps.now c.loosen_all-left.new.steps c.requires.can P L O c.args.part.now.spots.items c.as_slice-spots.ensures.value

pub returns-clause-counted : goal.returns-clause-counted
returns-clause-counted g c =
    c.loosen_all-left.ensures.counted ∙ sym (as_many c.loosen_all-left.new.patch.web c.close_boxes.new.web c.close_boxes.ensures.lines)
