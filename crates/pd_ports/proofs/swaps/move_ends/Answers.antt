use Rattle.std.proofs.Common.{◌≡◌, ℕ, List, None, sym, subst, arith}
use Rattle.std.specs.Vec.{with_items}
use Rattle.std.proofs.lemmas.List.{with_items_is}
use Rattle.pd_grove.specs.declared.ports.Side.TheVariants.{Inlets, Outlets}
use Rattle.pd_web.specs.declared.sockets.Port.{Port}
use Rattle.pd_web.specs.declared.sockets.Sockets.{Sockets}
use Rattle.pd_web.specs.Sockets.{side_ports}
use Rattle.pd_ports.specs.Ends.{end_in}
use Rattle.pd_ports.specs.Refits.{MovesEnds}
use Rattle.pd_ports.proofs.FollowLemmas.{by_side}
use Rattle.pd_ports.proofs.RefitLemmas.{moves_as}
use Rattle.pd_ports.proofs.swaps.move_ends.Goals as goal

pub move_side-requires : goal.move_side-requires
move_side-requires c =
    let P : List Port → Type 0 = λ xs. (i : ℕ) → end_in xs i ≡ None in
    record { loose = subst P (sym c.as_mut_slice.ensures.value) (c.requires.loose Inlets) }

pub move_side-requires-2 : goal.move_side-requires-2
move_side-requires-2 c =
    let P : List Port → Type 0 = λ xs. (i : ℕ) → end_in xs i ≡ None in
    record { loose = subst P (sym c.as_mut_slice-3.ensures.value) (c.requires.loose Outlets) }

pub returns-clause-moves : goal.returns-clause-moves
returns-clause-moves c =
    let old = c.args.old.now in
    let own = c.args.own.now in
    let one = c.move_side in
    let two = c.move_side-2 in
    let P : List Port → Type 0 = λ xs. MovesEnds xs c.as_mut_slice.result.now one.new.old one.new.own in
    let Q : List Port → Type 0 = λ xs. MovesEnds old.inlets.items xs one.new.old one.new.own in
    let R : List Port → Type 0 = λ xs. MovesEnds xs c.as_mut_slice-3.result.now two.new.old two.new.own in
    let S : List Port → Type 0 = λ xs. MovesEnds old.outlets.items xs two.new.old two.new.own in
    let old_after : Sockets = record { inlets = with_items old.inlets one.new.old; outlets = with_items old.outlets two.new.old; is_made = old.is_made } in
    let own_after : Sockets = record { inlets = with_items own.inlets one.new.own; outlets = with_items own.outlets two.new.own; is_made = own.is_made } in
    let a = with_items_is old.inlets one.new.old (omega (arith, one.auto.old, c.as_mut_slice-2.ensures.len)) in
    let b = with_items_is own.inlets one.new.own (omega (arith, one.auto.own, c.as_mut_slice.ensures.len)) in
    let d = with_items_is old.outlets two.new.old (omega (arith, two.auto.old, c.as_mut_slice-4.ensures.len)) in
    let e = with_items_is own.outlets two.new.own (omega (arith, two.auto.own, c.as_mut_slice-3.ensures.len)) in
    by_side (λ side. MovesEnds (side_ports side old) (side_ports side own) (side_ports side old_after) (side_ports side own_after))
    (moves_as old.inlets.items own.inlets.items one.new.old one.new.own old_after.inlets.items own_after.inlets.items
    (subst Q c.as_mut_slice.ensures.value (subst P c.as_mut_slice-2.ensures.value one.ensures)) a b)
    (moves_as old.outlets.items own.outlets.items two.new.old two.new.own old_after.outlets.items own_after.outlets.items
    (subst S c.as_mut_slice-3.ensures.value (subst R c.as_mut_slice-4.ensures.value two.ensures)) d e)
