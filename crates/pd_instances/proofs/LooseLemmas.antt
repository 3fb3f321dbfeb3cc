-- No signal wire leads to a box that has just come, or from it, and the order of its canvas lacks it.
use Rattle.std.proofs.Common.{◌≡◌, ℕ, zero, suc, ◌+◌, ◌<◌, ◌≤◌, false, List, [], ◌∷◌, map, length, Option, Some, None, IsSome, IsTrue, refl, sym, ap, ◌∙◌, subst, arith}
use Rattle.std.specs.Prelude.{◌⊎◌}
use Rattle.slab.specs.Slab.{get}
use Rattle.pd_order.specs.Graph.{tally, IsLawful}
use Rattle.pd_order.specs.Listing.{Listing}
use Rattle.pd_links.specs.declared.links.Links.{Links}
use Rattle.pd_links.specs.Linked.{feeders_of, followers_of}
use Rattle.pd_grove.specs.declared.nodes.Node.{Node}
use Rattle.pd_grove.specs.declared.grove.Grove.{Grove}
use Rattle.pd_grove.specs.declared.ports.Side.{Side}
use Rattle.pd_grove.specs.declared.ports.Side.TheVariants.{Outlets}
use Rattle.pd_grove.specs.Forest.{IsForest, holder_in}
use Rattle.pd_grove.specs.Grafts.{HasPartMore}
use Rattle.pd_grove.specs.Ports.{port_signal}
use Rattle.pd_grove.specs.Telling.{inner_in}
use Rattle.pd_grove.proofs.UseLemmas.{not_both}
use Rattle.pd_owning.specs.Bound.{is_among, AreNew}
use Rattle.pd_owning.specs.Parts.{ArePart}
use Rattle.pd_web.specs.declared.jacks.Jack.{Jack}
use Rattle.pd_web.specs.declared.web.Web.{Web}
use Rattle.pd_web.specs.Canvases.{keys_at}
use Rattle.pd_patch.specs.declared.patch.Patch.{Patch}
use Rattle.pd_patch.specs.Linked.{signal_sinks}
use Rattle.pd_patch.specs.Listing.{IsThere}
use Rattle.pd_patch.specs.Orders.{wires_below}
use Rattle.pd_patch.proofs.ListingLemmas.{counted_at, place_in}
use Rattle.pd_placing.specs.Placing.{IsLoose, LacksBox}
use Rattle.pd_placing.specs.Groves.{AreBothOwn}
use Rattle.pd_placing.proofs.ChangeLemmas.{comes_canvas}
use Rattle.pd_wiring.specs.Graphs.{canvas_graph, signal_boxes, AreWired, AreOrderedBy}
use Rattle.pd_wiring.proofs.GraphLemmas.{canvas_lawful, ordered_by_links}
use Rattle.pd_wiring.proofs.HeardLemmas.{joined_boxes}
use Rattle.pd_boxes.specs.declared.room.Place.{Place}
use Rattle.pd_boxes.specs.Put.{CanPut, keys_before, keys_behind}
use Rattle.pd_instances.proofs.PartLemmas.{came_inside, forest, vacant}
use Rattle.pd_instances.proofs.AssembleLemmas.{held_new, none_had}
use Rattle.pd_instances.proofs.NumberLemmas.{box_lives}

not_counted : (xs : List ℕ) → ((x : ℕ) → tally x xs ≡ 0) → xs ≡ []
not_counted [] h = refl
not_counted (x ∷ xs) h = let there = counted_at x (x ∷ xs) 0 refl in let none = h x in absurd (omega (arith, there, none))

none_or_more : (n : ℕ) → (0 < n → ⊥) → n ≡ 0
none_or_more zero h = refl
none_or_more (suc n) h = absurd (h (omega arith))

module _ (p : Patch) (h : Grove) (place : Place) (key : ℕ) (C : CanPut p) (root : h.root ≡ p.grove.root)
    (M : HasPartMore (get p.grove.nodes) (get h.nodes) (get p.grove.boards) (get h.boards) place.canvas key (keys_before p place) (keys_behind p place))
    (part : List ℕ) (A : ArePart (get h.nodes) (get h.boards) key part) (once : AreNew part [])
    (N : (holder_in (get p.grove.boards place.canvas) ≡ None) ⊎ ((n : Node) → get h.nodes key ≡ Some n → (side : Side) → port_signal side n.kind ≡ None)) where
  F : IsForest (get h.nodes) (get h.boards) h.root
  F = forest p.grove h place.canvas key (keys_before p place) (keys_behind p place) C.forest root M

  new : (k : ℕ) → IsTrue (is_among part k) → get p.grove.nodes k ≡ None
  new = vacant p.grove h place.canvas key (keys_before p place) (keys_behind p place) C.forest root M part A

  no_sinks : (k : ℕ) → IsTrue (is_among part k) → signal_sinks p.web k ≡ []
  no_sinks k t = ap (λ (js : List Jack). map (λ v. v.sink) (wires_below p.web k (length js))) (none_had p h place key C root M part A once N Outlets k t)

  not_fed : (k : ℕ) → IsTrue (is_among part k) → (u : ℕ) → tally k (signal_sinks p.web u) ≡ 0
  not_fed k t u = none_or_more (tally k (signal_sinks p.web u)) (λ l.
      let share = (joined_boxes p.grove p.web u k C.runs.ports.ports C.runs.inside l).together in
      not_both (get p.grove.nodes k) (new k t) (box_lives (get p.grove.nodes k) share.canvas (C.forest.own.home share.canvas share.other.0 k share.other.1)))

  -- of each box that came
  pub loose : (k : ℕ) → IsTrue (is_among part k) → IsLoose p.links k
  loose k t = record {
    unfed = not_counted (feeders_of p.links k) (λ u. C.runs.linked.feeders u k ∙ not_fed k t u);
    unfollowed = not_counted (followers_of p.links k) (λ j. C.runs.linked.followers k j ∙ ap (tally j) (no_sinks k t));
  }

  -- and so of each box of the canvases that came
  pub loose_inside : (x c k : ℕ) → IsTrue (is_among part x) → inner_in (get h.nodes x) ≡ Some c → IsThere (keys_at h c) k → IsLoose p.links k
  loose_inside x c k t e at =
      loose k (came_inside p.grove h place.canvas key (keys_before p place) (keys_behind p place) C.forest root M part A k c (held_new p h place key C root M part A once N x c t e) (F.own.home c at.0 k at.1))

  -- the box stands in its canvas
  pub stands_there : IsThere (keys_at h place.canvas) key
  stands_there = F.placed key place.canvas M.lies

  pub lacks : LacksBox h p.links p.orders.items place.canvas key
  lacks =
      let before : AreWired p.grove p.web p.links = record { own = C.runs.own; ports = C.runs.ports.ports; inside = C.runs.inside; linked = C.runs.linked } in
      comes_canvas p.grove h p.links place.canvas key (keys_before p place) (keys_behind p place) (record { one = C.runs.own; other = F.own }) M p.orders.items
      (ordered_by_links p.grove p.web p.links before p.orders.items C.runs.orders place.canvas)

  pub lawful : (w : Web) (l : Links) → AreWired h w l → (c : ℕ) → IsLawful (canvas_graph h l c) (signal_boxes h c)
  lawful w l W c = canvas_lawful h w l W c
