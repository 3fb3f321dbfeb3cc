use Rattle.std.proofs.Common.{arith, ◌≡◌, List, length, sym, ap, ◌∙◌, subst}
use Rattle.std.specs.Prelude.{Option}
use Rattle.std.specs.Vec.{with_items}
use Rattle.std.proofs.lemmas.List.{with_items_is}
use Rattle.pd_order.specs.Listing.{Listing}
use Rattle.pd_patch.specs.Telling.{order_in}
use Rattle.pd_wiring.specs.Graphs.{AreOrderedBy}
use Rattle.pd_placing.specs.Room.{IsSameButRoom}
use Rattle.pd_placing.proofs.PlaceLemmas.{room_all}
use Rattle.pd_placing.proofs.room.reserve_place.Goals as goal

pub returns-clause-all : goal.returns-clause-all
returns-clause-all c =
    let F = c.args.orders.now in
    let N = c.reserve_in.new.orders in
    let len : length N ≡ F.len = (let a = c.reserve_in.auto.orders in let b = c.as_mut_slice.ensures.len in omega arith) in
    let same : (with_items F N).items ≡ N = with_items_is F N len in
    let alike = subst (λ (os : List (Option Listing)). IsSameButRoom (order_in os c.args.canvas) (order_in N c.args.canvas)) c.as_mut_slice.ensures.value c.reserve_in.ensures.same in
    λ g l h. subst (λ (os : List (Option Listing)). AreOrderedBy g l os) (sym same)
    (room_all F.items N c.args.canvas alike (λ d differ. c.reserve_in.ensures.others d differ ∙ ap (λ (os : List (Option Listing)). order_in os d) c.as_mut_slice.ensures.value) g l h)
