use Rattle.std.proofs.Common.{◌≡◌, length, refl, sym, ap, ◌∙◌, subst}
use Rattle.pd_grove.specs.TextOrder.{keys_of_spots}
use Rattle.pd_web.proofs.CountLemmas.{same_are_as_many}
use Rattle.pd_patch.specs.declared.patch.Patch.{Patch}
use Rattle.pd_adding.specs.Counts.{counts_less}
use Rattle.pd_clearing.specs.Clearing.{CanClear, IsCleared}
use Rattle.pd_deleting.specs.Deletes.{values_of}
use Rattle.pd_deleting.proofs.DeleteLemmas.{box_stands, counted_so, part_room, reserved, still_clear}
use Rattle.pd_deleting.proofs.deleting.clear_out.Goals as goal

pub part_of-requires-clause-here : goal.part_of-requires-clause-here
part_of-requires-clause-here g c = box_stands c.args.patch.now c.args.going.place c.args.going.key c.requires.can

pub clear-wires-requires-clause-can : goal.clear-wires-requires-clause-can
clear-wires-requires-clause-can g c =
    let p = c.args.patch.now in
    let q : Patch = record p { web = c.reserve.new.self } in
    subst (λ k. CanClear q c.args.going.place k) (sym c.in-Ok.ensures.key)
    (still_clear p q c.args.going.place c.args.going.key (reserved p c.reserve.new.self c.reserve.ensures.same) c.requires.can)

pub clear-wires-requires-clause-room : goal.clear-wires-requires-clause-room
clear-wires-requires-clause-room g c =
    let p = c.args.patch.now in
    part_room p.grove c.reserve.new.self c.nodes_end-keys.result c.args.going.key (keys_of_spots c.in-Ok.part.spots.items) c.requires.can.can.forest
    (box_stands p c.args.going.place c.args.going.key c.requires.can) c.in-Ok.ensures.part.are c.nodes_end-keys.ensures.slots c.in-Ok-reserve.ensures.room

pub clear-wires-requires-clause-counted : goal.clear-wires-requires-clause-counted
clear-wires-requires-clause-counted g c = c.requires.counted ∙ sym (same_are_as_many c.args.patch.now.web c.reserve.new.self c.reserve.ensures.same)

pub returns-clause-cleared : goal.returns-clause-cleared
returns-clause-cleared g c = λ path is.
    let p = c.args.patch.now in
    let q : Patch = record p { web = c.reserve.new.self } in
    let new = c.clear-wires.new.patch in
    let spots = c.in-Ok.part.spots.items in
    let K =
    subst (λ k. (x : IsCleared q new c.args.symbols.now c.args.going.place k c.args.steps.now c.clear-wires.new.steps) × (x.part ≡ keys_of_spots spots)) c.in-Ok.ensures.key
    c.clear-wires.ensures.cleared in
    record {
      is = is;
      ready = q;
      room = reserved p c.reserve.new.self c.reserve.ensures.same;
      cleared = K.0;
      counts = counted_so p.rate p.grove c.args.counts c.counts_without-left.result K.0.part spots c.deref.result.now c.clear-wires.result c.counts_without-left.ensures c.deref.ensures.value K.1
          ∙ ap (λ m. counts_less c.args.counts (length K.0.part) (values_of p.rate p.grove K.0.part) m) c.clear-wires.ensures.counted;
      none_around = refl;
      none_gone = c.new.ensures.items;
    }
