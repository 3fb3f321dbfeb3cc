use Rattle.std.proofs.Common.{arith, ◌≡◌, ◌≢◌, ℕ, true, false, List, length, refl, sym, ap, ◌∙◌, subst}
use Rattle.std.specs.Prelude.{Option}
use Rattle.std.specs.Vec.{with_items}
use Rattle.std.proofs.lemmas.List.{with_items_is}
use Rattle.slab.specs.Slab.{get}
use Rattle.pd_order.specs.Graph.{take_out}
use Rattle.pd_order.specs.Listing.{Listing}
use Rattle.pd_patch.specs.Orders.{is_signal_node}
use Rattle.pd_patch.specs.Telling.{order_in}
use Rattle.pd_wiring.specs.Graphs.{canvas_graph, signal_boxes, IsOrderIn, AreOrderedBy}
use Rattle.pd_wiring.proofs.GraphLemmas.{signal_there}
use Rattle.pd_placing.specs.Room.{HasPlaces}
use Rattle.pd_placing.specs.Placing.{StayBut}
use Rattle.pd_placing.proofs.GroveLemmas.{lives, none_silent, none_lacks, each_ordered}
use Rattle.pd_placing.proofs.PlaceLemmas.{alone_in, last_behind}
use Rattle.pd_placing.proofs.joining.place_box.Goals as goal

pub join_in-requires-clause-alone : goal.join_in-requires-clause-alone
join_in-requires-clause-alone g c =
    let h = c.args.grove.now in
    let signal : is_signal_node (get h.nodes c.args.key) ≡ true = sym c.is_signal_box.ensures ∙ c.if-not-is_signal_box.false in
    record {
      lawful = c.requires.lawful;
      alone = alone_in h c.args.links.now c.args.canvas c.args.key c.requires.loose;
      there = signal_there h c.args.canvas c.args.key c.requires.here signal;
    }

pub join_in-requires-clause-behind : goal.join_in-requires-clause-behind
join_in-requires-clause-behind g c = λ last. last_behind c.args.grove.now c.args.canvas c.args.key (c.requires.lawful.once c.args.key) (sym c.is_last_box-is_last.ensures ∙ last)

pub join_in-requires-clause-order : goal.join_in-requires-clause-order
join_in-requires-clause-order g c =
    let h = c.args.grove.now in
    subst (λ (os : List (Option Listing)). IsOrderIn (canvas_graph h c.args.links.now c.args.canvas) (take_out c.args.key (signal_boxes h c.args.canvas)) (order_in os c.args.canvas)) (sym c.as_mut_slice.ensures.value) c.requires.lacks

pub join_in-requires-clause-room : goal.join_in-requires-clause-room
join_in-requires-clause-room g c =
    let h = c.args.grove.now in
    let signal : is_signal_node (get h.nodes c.args.key) ≡ true = sym c.is_signal_box.ensures ∙ c.if-not-is_signal_box.false in
    subst (λ (os : List (Option Listing)). HasPlaces (order_in os c.args.canvas) 1) (sym c.as_mut_slice.ensures.value) (c.requires.room signal)

pub returns-then-not-is_signal_box-clause-order : goal.returns-then-not-is_signal_box-clause-order
returns-then-not-is_signal_box-clause-order g c =
    let h = c.args.grove.now in
    let silent : is_signal_node (get h.nodes c.args.key) ≡ false = sym c.is_signal_box.ensures ∙ c.if-not-is_signal_box.true in
    none_lacks h c.args.links.now c.args.canvas c.args.key c.args.orders.now.items (none_silent h c.args.canvas c.args.key silent) c.requires.lacks

pub returns-then-not-is_signal_box-clause-all : goal.returns-then-not-is_signal_box-clause-all
returns-then-not-is_signal_box-clause-all g c =
    let h = c.args.grove.now in
    let os = c.args.orders.now.items in
    let silent : is_signal_node (get h.nodes c.args.key) ≡ false = sym c.is_signal_box.ensures ∙ c.if-not-is_signal_box.true in
    let live = lives (get h.boards c.args.canvas) c.requires.here.0 c.args.key c.requires.here.1 in
    λ b. each_ordered h c.args.links.now os os c.args.canvas live
    (none_lacks h c.args.links.now c.args.canvas c.args.key os (none_silent h c.args.canvas c.args.key silent) b.lacks) (λ d differ. refl) b.others

pub returns-clause-all : goal.returns-clause-all
returns-clause-all g c =
    let h = c.args.grove.now in
    let l = c.args.links.now in
    let F = c.args.orders.now in
    let N = c.join_in.new.orders in
    let len : length N ≡ F.len = (let a = c.join_in.auto.orders in let b = c.as_mut_slice.ensures.len in omega arith) in
    let same : (with_items F N).items ≡ N = with_items_is F N len in
    let live = lives (get h.boards c.args.canvas) c.requires.here.0 c.args.key c.requires.here.1 in
    let others : StayBut F.items N c.args.canvas = (λ (d : ℕ) (differ : d ≢ c.args.canvas).
    c.join_in.ensures.others d differ ∙ ap (λ (os : List (Option Listing)). order_in os d) c.as_mut_slice.ensures.value) in
    λ b. subst (λ (os : List (Option Listing)). AreOrderedBy h l os) (sym same) (each_ordered h l F.items N c.args.canvas live c.join_in.ensures.order others b.others)
