use Rattle.std.proofs.Common.{arith, ◌≡◌, ◌≢◌, ◌≤◌, ◌+◌, ℕ, List, length, true, refl, sym, ap, ◌∙◌, subst}
use Rattle.std.specs.Prelude.{Option, Some}
use Rattle.std.specs.Vec.{with_items}
use Rattle.std.proofs.lemmas.List.{with_items_is}
use Rattle.std.proofs.lemmas.Option.{same_Some}
use Rattle.slab.specs.Slab.{get}
use Rattle.pd_order.specs.Listing.{Listing}
use Rattle.pd_grove.specs.Owning.{board_in}
use Rattle.pd_patch.specs.Telling.{order_in}
use Rattle.pd_wiring.specs.Graphs.{lies_in, canvas_graph, signal_boxes, graph_before, graph_with, IsOrderIn, AreOrderedBy}
use Rattle.pd_wiring.specs.Changes.{most_mending, SamePlaces}
use Rattle.pd_wiring.proofs.GraphLemmas.{lies_there, signal_there, canvas_lawful}
use Rattle.pd_wiring.proofs.MendLemmas.{order_before, each_mended, sink_there}
use Rattle.pd_wiring.proofs.link.mend_canvas.Goals as goal

pub mend-requires-clause-ready : goal.mend-requires-clause-ready
mend-requires-clause-ready g c =
    let p = c.args.patch.now in
    let v = c.args.wire in
    let own = c.requires.wired.own in
    let there = sink_there p.grove own v.source v.sink c.canvas_of.result c.in-Some.canvas c.requires.together c.canvas_of.ensures c.in-Some.is in
    let lies : lies_in p.grove c.in-Some.canvas v.sink ≡ true = lies_there p.grove c.in-Some.canvas v.sink own there in
    record {
      lawful = canvas_lawful p.grove p.web p.links c.requires.wired c.in-Some.canvas;
      wire = λ came. rw lies (c.requires.wire came);
      sink = signal_there p.grove c.in-Some.canvas v.sink there c.requires.signal;
    }

pub mend-requires-clause-order : goal.mend-requires-clause-order
mend-requires-clause-order g c =
    let p = c.args.patch.now in
    let v = c.args.wire in
    let own = c.requires.wired.own in
    let there = sink_there p.grove own v.source v.sink c.canvas_of.result c.in-Some.canvas c.requires.together c.canvas_of.ensures c.in-Some.is in
    let base = order_before p.grove own c.args.change p.links v c.in-Some.canvas p.orders.items there c.requires.orders in
    subst (λ (os : List (Option Listing)). IsOrderIn (graph_before c.args.change (canvas_graph p.grove p.links c.in-Some.canvas) v) (signal_boxes p.grove c.in-Some.canvas) (order_in os c.in-Some.canvas))
    (sym c.as_mut_slice.ensures.value) base

pub returns-clause-orders : goal.returns-clause-orders
returns-clause-orders g c =
    let p = c.args.patch.now in
    let v = c.args.wire in
    let own = c.requires.wired.own in
    let there = sink_there p.grove own v.source v.sink c.canvas_of.result c.in-Some.canvas c.requires.together c.canvas_of.ensures c.in-Some.is in
    let F = p.orders in
    let len : length c.mend.new.orders ≡ F.len = (let a = c.mend.auto.orders in let b = c.as_mut_slice.ensures.len in omega arith) in
    let same : (with_items F c.mend.new.orders).items ≡ c.mend.new.orders = with_items_is F c.mend.new.orders len in
    let mended : IsOrderIn (canvas_graph p.grove p.links c.in-Some.canvas) (signal_boxes p.grove c.in-Some.canvas) (order_in c.mend.new.orders c.in-Some.canvas) = c.mend.ensures.order in
    let others : (d : ℕ) → d ≢ c.in-Some.canvas → order_in c.mend.new.orders d ≡ order_in F.items d = (λ (d : ℕ) (differ : d ≢ c.in-Some.canvas).
    c.mend.ensures.others d differ ∙ ap (λ (os : List (Option Listing)). order_in os d) c.as_mut_slice.ensures.value) in
    subst (λ (os : List (Option Listing)). AreOrderedBy p.grove p.links os) (sym same)
    (each_mended p.grove own c.args.change p.links v c.in-Some.canvas F.items c.mend.new.orders there c.requires.orders mended others)

pub returns-clause-rest : goal.returns-clause-rest
returns-clause-rest g c =
    let p = c.args.patch.now in
    let F = p.orders in
    let len : length c.mend.new.orders ≡ F.len = (let a = c.mend.auto.orders in let b = c.as_mut_slice.ensures.len in omega arith) in
    let same : (with_items F c.mend.new.orders).items ≡ c.mend.new.orders = with_items_is F c.mend.new.orders len in
    let told : board_in (get p.grove.nodes c.args.wire.source) ≡ Some c.in-Some.canvas = sym c.canvas_of.ensures ∙ c.in-Some.is in
    record {
      grove = refl;
      names = refl;
      timers = refl;
      numbers = refl;
      values = refl;
      rate = refl;
      present = refl;
      orders = λ k differ. ap (λ (os : List (Option Listing)). order_in os k) same
          ∙ c.mend.ensures.others k (λ e. differ (told ∙ ap (λ (n : ℕ). Some n) (sym e)))
          ∙ ap (λ (os : List (Option Listing)). order_in os k) c.as_mut_slice.ensures.value;
      places = λ k. subst (λ (os : List (Option Listing)). SamePlaces (order_in F.items k) (order_in os k)) (sym same)
          (subst (λ (os : List (Option Listing)). SamePlaces (order_in os k) (order_in c.mend.new.orders k)) c.as_mut_slice.ensures.value (c.mend.ensures.places k));
    }

pub returns-clause-looks : goal.returns-clause-looks
returns-clause-looks g c =
    let p = c.args.patch.now in
    let F = p.orders in
    let len : length c.mend.new.orders ≡ F.len = (let a = c.mend.auto.orders in let b = c.as_mut_slice.ensures.len in omega arith) in
    let same : (with_items F c.mend.new.orders).items ≡ c.mend.new.orders = with_items_is F c.mend.new.orders len in
    let told : board_in (get p.grove.nodes c.args.wire.source) ≡ Some c.in-Some.canvas = sym c.canvas_of.ensures ∙ c.in-Some.is in
    λ k lies.
    let e : c.in-Some.canvas ≡ k = same_Some c.in-Some.canvas k (sym told ∙ lies) in
    let base = c.mend.ensures.looks in
    let by_old = subst (λ (os : List (Option Listing)). c.mend.new.steps ≤ c.args.steps.now + most_mending (graph_with c.args.change (canvas_graph p.grove p.links c.in-Some.canvas) c.args.wire) c.args.wire.sink (order_in os c.in-Some.canvas) (order_in c.mend.new.orders c.in-Some.canvas)) c.as_mut_slice.ensures.value base in
    let by_new = subst (λ (os : List (Option Listing)). c.mend.new.steps ≤ c.args.steps.now + most_mending (graph_with c.args.change (canvas_graph p.grove p.links c.in-Some.canvas) c.args.wire) c.args.wire.sink (order_in F.items c.in-Some.canvas) (order_in os c.in-Some.canvas)) (sym same) by_old in
    subst (λ (n : ℕ). c.mend.new.steps ≤ c.args.steps.now + most_mending (graph_with c.args.change (canvas_graph p.grove p.links n) c.args.wire) c.args.wire.sink (order_in F.items n) (order_in (with_items F c.mend.new.orders).items n)) e by_new
