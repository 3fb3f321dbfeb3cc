-- A box came with all that lies in it, layer by layer: what the patch is then.
use Rattle.std.proofs.Common.{◌≡◌, ◌≢◌, ℕ, zero, suc, ◌+◌, ◌<◌, ◌≤◌, ◌^◌, false, true, List, [], ◌∷◌, ◌++◌, append-nil, map, length, replicate, Option, Some, None, IsSome, IsTrue, refl, sym, ap, ◌∙◌, subst, inl, inr, arith}
use Rattle.std.specs.Prelude.{slice_get, ◌⊎◌}
use mathlib.Core.Logic.{⊎_elim}
use Rattle.std.proofs.lemmas.Bool.{cases_eq, false≢true}
use Rattle.std.proofs.lemmas.Option.{none-some, same_Some}
use Rattle.slab.specs.Slab.{get}
use Rattle.pd_order.specs.Listing.{Listing}
use Rattle.pd_order.proofs.Basics.{by_test}
use Rattle.pd_links.specs.declared.links.Links.{Links}
use Rattle.pd_grove.specs.declared.nodes.Node.{Node}
use Rattle.pd_grove.specs.declared.boards.Board.{Board}
use Rattle.pd_grove.specs.declared.grove.Grove.{Grove}
use Rattle.pd_grove.specs.declared.ports.Side.{Side}
use Rattle.pd_grove.specs.declared.ports.Side.TheVariants.{Inlets, Outlets}
use Rattle.pd_grove.specs.Forest.{holder_in, IsForest}
use Rattle.pd_grove.specs.Grafts.{HasPartMore}
use Rattle.pd_grove.specs.Owning.{AreOwn, board_in}
use Rattle.pd_grove.specs.Ports.{port_signal}
use Rattle.pd_grove.specs.Telling.{inner_in, keys_in}
use Rattle.pd_grove.proofs.GraftLemmas.{is_some}
use Rattle.pd_grove.proofs.ForestLemmas.{held_there}
use Rattle.pd_grove.proofs.NestLemmas.{node_there, board_there}
use Rattle.pd_grove.proofs.UseLemmas.{none_or_some, not_both}
use Rattle.pd_owning.specs.Bound.{is_among, AreNew}
use Rattle.pd_owning.specs.Parts.{ArePart}
use Rattle.pd_clearing.proofs.PartLemmas.{key_among, inside, held_inside, held_by_one, in_box, canvas_outside}
use Rattle.pd_web.specs.declared.web.Web.{Web}
use Rattle.pd_web.specs.Canvases.{keys_at}
use Rattle.pd_web.specs.Changes.{KeepsPorts, Meet}
use Rattle.pd_web.specs.Homes.{IsPortOf}
use Rattle.pd_web.specs.Hops.{fan_hops, feed_hops, places_of, port_told, ports_told}
use Rattle.pd_web.specs.Jacks.{jacks_at, jacks_in, made_in}
use Rattle.pd_web.specs.Lines.{fed_from, feeding, lines_at}
use Rattle.pd_web.specs.Sockets.{made_at}
use Rattle.pd_ports.specs.Known.{HoldAlone, KnowsHomes}
use Rattle.pd_patch.specs.declared.patch.Patch.{Patch}
use Rattle.pd_patch.specs.Built.{HasPorts}
use Rattle.pd_patch.specs.Linked.{HasLinks, StayInside}
use Rattle.pd_patch.specs.Listing.{IsThere}
use Rattle.pd_patch.specs.Numbers.{AreUnder, IsOut}
use Rattle.pd_patch.specs.Orders.{box_wires, is_signal_node, HasOrder, AreOrdered}
use Rattle.pd_patch.specs.Telling.{order_in}
use Rattle.pd_placing.specs.Placing.{StayBut}
use Rattle.pd_wiring.specs.Changes.{CanRewire}
use Rattle.pd_wiring.specs.Graphs.{canvas_graph, signal_boxes, AreWired, IsOrderIn}
use Rattle.pd_boxes.specs.declared.room.Place.{Place}
use Rattle.pd_boxes.specs.Put.{CanPut, keys_before, keys_behind}
use Rattle.pd_instances.specs.Lay.{LaysLines}
use Rattle.pd_instances.specs.Layers.{OpensAll, OrdersAll}
use Rattle.pd_instances.specs.Part.{lines_of, ComesAs, HasPartOrders, HasPartPorts, HasPartWires}
use Rattle.pd_instances.proofs.PartLemmas.{forest, key_live, back, vacant, stays, live, only, out_of_part, came_inside, port_inside, jacks_stay, hold_alone}
use Rattle.pd_instances.proofs.SoundLemmas.{inside_still, links_same, wires_same}
use Rattle.pd_instances.proofs.FansLemmas.{no_fans, no_feeds, fed_all, feeding_all, fed_none, feeding_none}
use Rattle.pd_instances.proofs.ChainLemmas.{live_by_wires, order_kept, wires_kept}

-- what a law of webs says of port boxes
pub record AreKnown : Type 0 where
  pub known : (g : Grove) (w : Web) → AreOwn (get g.nodes) (get g.boards) → HoldAlone g → ((side : Side) (k : ℕ) → ports_told w side k ≡ jacks_at side g k)
      → ((j k i : ℕ) → port_told w j ≡ Some (k, i) → IsPortOf g j k i) → ((j k i : ℕ) → IsPortOf g j k i → IsSome (port_told w j)) → KnowsHomes w
  pub homes : (g : Grove) (w : Web) → ((side : Side) (k : ℕ) → ports_told w side k ≡ jacks_at side g k) → KnowsHomes w → (j k i : ℕ) → port_told w j ≡ Some (k, i) → IsPortOf g j k i
  pub homes_found : (g : Grove) (w : Web) → ((side : Side) (k : ℕ) → ports_told w side k ≡ jacks_at side g k) → KnowsHomes w → (j k i : ℕ) → IsPortOf g j k i → IsSome (port_told w j)

module _ (p : Patch) (h : Grove) (place : Place) (key : ℕ) (C : CanPut p) (root : h.root ≡ p.grove.root)
    (M : HasPartMore (get p.grove.nodes) (get h.nodes) (get p.grove.boards) (get h.boards) place.canvas key (keys_before p place) (keys_behind p place))
    (part : List ℕ) (A : ArePart (get h.nodes) (get h.boards) key part) (once : AreNew part [])
    (N : (holder_in (get p.grove.boards place.canvas) ≡ None) ⊎ ((n : Node) → get h.nodes key ≡ Some n → (side : Side) → port_signal side n.kind ≡ None)) where
  F : IsForest (get h.nodes) (get h.boards) h.root
  F = forest p.grove h place.canvas key (keys_before p place) (keys_behind p place) C.forest root M

  stay : (k : ℕ) → is_among part k ≡ false → get h.nodes k ≡ get p.grove.nodes k
  stay = stays p.grove h place.canvas key (keys_before p place) (keys_behind p place) C.forest root M part A

  none_before : (k : ℕ) → IsTrue (is_among part k) → get p.grove.nodes k ≡ None
  none_before = vacant p.grove h place.canvas key (keys_before p place) (keys_behind p place) C.forest root M part A

  jacks : (side : Side) (k : ℕ) → is_among part k ≡ false → jacks_at side h k ≡ jacks_at side p.grove k
  jacks = jacks_stay p.grove h place.canvas key (keys_before p place) (keys_behind p place) C.forest root M part A N

  pub comes : ComesAs p (record p { grove = h }) key part
  comes = record {
    is_part = A;
    once = once;
    vacant = none_before;
    live = live p.grove h place.canvas key (keys_before p place) (keys_behind p place) C.forest root M part A;
    only = only p.grove h place.canvas key (keys_before p place) (keys_behind p place) C.forest root M part A;
  }

  -- the boxes had no ports, and so no wires
  pub none_had : (side : Side) (k : ℕ) → IsTrue (is_among part k) → ports_told p.web side k ≡ []
  none_had side k t = C.runs.ports.ports side k ∙ ap (jacks_in side p.grove) (none_before k t)

  old_box : (c x : ℕ) → IsThere (keys_at p.grove c) x → is_among part x ≡ false
  old_box c x t = out_of_part p.grove h place.canvas key (keys_before p place) (keys_behind p place) C.forest root M part A x (lives (get p.grove.nodes x) c (C.forest.own.home c t.0 x t.1))
    where
      lives : (o : Option Node) (y : ℕ) → board_in o ≡ Some y → IsSome o
      lives None y e = absurd (none-some y e)
      lives (Some n) y e = refl

  -- Canvases that came.

  -- a canvas that one of these boxes holds has come
  pub held_new : (x d : ℕ) → IsTrue (is_among part x) → inner_in (get h.nodes x) ≡ Some d → get p.grove.boards d ≡ None
  held_new x d t e = (M.inside x d (none_before x t) e).0

  -- one of these boxes holds a canvas that came
  pub one_holds : (d : ℕ) → get p.grove.boards d ≡ None → IsSome (get h.boards d) → (x : ℕ) × IsTrue (is_among part x) × (inner_in (get h.nodes x) ≡ Some d)
  one_holds d new some = by (holder_in (get h.boards d)) refl
    where
      by : (o : Option ℕ) → holder_in (get h.boards d) ≡ o → (x : ℕ) × IsTrue (is_among part x) × (inner_in (get h.nodes x) ≡ Some d)
      by None e = absurd (M.closed d new some e)
      by (Some x) e =
          let holds = F.held d x e in
          (x, by_test (is_among part x) (λ t. t) (λ f. absurd (none-some x (sym (ap holder_in new) ∙ C.forest.inside x d (sym (ap inner_in (stay x f)) ∙ holds)))), holds)

  -- a box of a canvas that was there is none of a canvas that came
  pub old_out : (c k : ℕ) → IsSome (get p.grove.boards c) → board_in (get h.nodes k) ≡ Some c → (x d : ℕ) → IsTrue (is_among part x) → inner_in (get h.nodes x) ≡ Some d → IsOut (keys_at h d) k
  old_out c k some lies x d t e i at =
      let same : d ≡ c = same_Some d c (sym (F.own.home d i k at) ∙ lies) in
      not_both (get p.grove.boards c) (ap (get p.grove.boards) (sym same) ∙ held_new x d t e) some

  -- nor is one that is none of these boxes
  pub other_out : (k : ℕ) → is_among part k ≡ false → (x d : ℕ) → IsTrue (is_among part x) → inner_in (get h.nodes x) ≡ Some d → IsOut (keys_at h d) k
  other_out k f x d t e i at =
      false≢true (sym f ∙ came_inside p.grove h place.canvas key (keys_before p place) (keys_behind p place) C.forest root M part A k d (held_new x d t e) (F.own.home d i k at))

  -- and one of a canvas that came is none of another one
  far_out : (c k x : ℕ) → board_in (get h.nodes k) ≡ Some c → inner_in (get h.nodes x) ≡ Some c → (y d : ℕ) → y ≢ x → IsTrue (is_among part y) → inner_in (get h.nodes y) ≡ Some d → IsOut (keys_at h d) k
  far_out c k x lies holds y d differ t e i at =
      let same : d ≡ c = same_Some d c (sym (F.own.home d i k at) ∙ lies) in
      differ (same_Some y x (sym (F.inside y d e) ∙ ap (λ z. holder_in (get h.boards z)) same ∙ F.inside x c holds))

  module _ (o : Web) (O : OpensAll h p.web o part) where
    -- Ports.

    pub ports : (side : Side) (k : ℕ) → ports_told o side k ≡ jacks_at side h k
    ports side k = by_test (is_among part k)
        (λ t. O.ports side k t)
        (λ f. O.other_ports side k f ∙ C.runs.ports.ports side k ∙ sym (jacks side k f))

    pub made : (k : ℕ) → made_at o.sockets.items k ≡ made_in (get h.nodes k)
    made k = by_test (is_among part k)
        (λ t. O.made k t)
        (λ f. O.others_made k f ∙ C.runs.ports.made k ∙ ap made_in (sym (stay k f)))

    pub wired : AreWired h o p.links
    wired = record {
      own = F.own;
      ports = ports;
      inside = inside_still p.grove h place.canvas key (keys_before p place) (keys_behind p place) M p.web o C.runs.inside O.fans;
      linked = links_same p.grove p.web o part C.runs.inside old_box O.other_ports O.fans (none_had Outlets) p.links C.runs.linked;
    }

    module _ (L : AreKnown) where
      knows : KnowsHomes o
      knows = O.known (L.known p.grove p.web C.runs.own (hold_alone p.grove C.forest) C.runs.ports.ports C.runs.ports.homes C.runs.ports.homes_found)

      pub has_ports : (v : Web) → KeepsPorts o v → HasPorts h v
      has_ports v K = record {
        ports = λ side k. K.ports side k ∙ ports side k;
        made = λ k. K.made k ∙ made k;
        homes = λ j k i e. L.homes h o ports knows j k i (sym (K.homes j) ∙ e);
        homes_found = λ j k i R. subst (λ (x : Option (ℕ × ℕ)). IsSome x) (sym (K.homes j)) (L.homes_found h o ports knows j k i R);
      }

    module _ (v : Web) (Y : LaysLines o v (lines_of h part)) where
      -- Wires.

      pub other_fans : (k n : ℕ) → is_among part k ≡ false → fan_hops v k n ≡ fan_hops p.web k n
      other_fans k n f = Y.same_fans k n (fed_none h part k n (other_out k f)) ∙ O.fans k n

      pub other_feeds : (k n : ℕ) → is_among part k ≡ false → feed_hops v k n ≡ feed_hops p.web k n
      other_feeds k n f = Y.same_feeds k n (feeding_none h part k n (other_out k f)) ∙ O.feeds k n

      key_lies : board_in (get h.nodes key) ≡ Some place.canvas
      key_lies = M.lies

      pub key_fans : (n : ℕ) → fan_hops v key n ≡ []
      key_fans n =
          Y.same_fans key n (fed_none h part key n (old_out place.canvas key M.live key_lies)) ∙ O.fans key n
          ∙ no_fans p.web key n (none_had Outlets key (key_among (get h.nodes) (get h.boards) h.root F key part A))

      pub key_feeds : (n : ℕ) → feed_hops v key n ≡ []
      key_feeds n =
          Y.same_feeds key n (feeding_none h part key n (old_out place.canvas key M.live key_lies)) ∙ O.feeds key n
          ∙ no_feeds p.web key n (none_had Inlets key (key_among (get h.nodes) (get h.boards) h.root F key part A))

      came : (c k : ℕ) → get p.grove.boards c ≡ None → board_in (get h.nodes k) ≡ Some c → IsTrue (is_among part k)
      came = λ c k new lies. came_inside p.grove h place.canvas key (keys_before p place) (keys_behind p place) C.forest root M part A k c new lies

      board_live : (c k : ℕ) → board_in (get h.nodes k) ≡ Some c → IsSome (get h.boards c)
      board_live c k lies = let P = F.placed k c lies in let B = board_there (get h.boards c) P.0 k P.1 in is_some (get h.boards c) B.0 B.1

      pub own_fans : (c k n : ℕ) → get p.grove.boards c ≡ None → board_in (get h.nodes k) ≡ Some c → places_of (fan_hops v k n) ≡ fed_from k n (lines_at h c)
      own_fans c k n new lies =
          let H = one_holds c new (board_live c k lies) in
          Y.fans k n
          ∙ ap (λ hs. places_of hs ++ fed_from k n (lines_of h part)) (O.fans k n ∙ no_fans p.web k n (none_had Outlets k (came c k new lies)))
          ∙ fed_all h part k n H.0 c once H.1 H.2 (far_out c k H.0 lies H.2)

      pub own_feeds : (c k n : ℕ) → get p.grove.boards c ≡ None → board_in (get h.nodes k) ≡ Some c → places_of (feed_hops v k n) ≡ feeding k n (lines_at h c)
      own_feeds c k n new lies =
          let H = one_holds c new (board_live c k lies) in
          Y.feeds k n
          ∙ ap (λ hs. places_of hs ++ feeding k n (lines_of h part)) (O.feeds k n ∙ no_feeds p.web k n (none_had Inlets k (came c k new lies)))
          ∙ feeding_all h part k n H.0 c once H.1 H.2 (far_out c k H.0 lies H.2)

      -- Orders.

      -- each box of a canvas that was there has the signal wires that it had before wires came
      wires_old : (c : ℕ) → IsSome (get p.grove.boards c) → (i k : ℕ) → slice_get (keys_at h c) i ≡ Some k → box_wires v k ≡ box_wires o k
      wires_old c some i k at =
          wires_kept o v Y.kept k (λ n. Y.same_fans k n (fed_none h part k n (old_out c k some (F.own.home c i k at))))

      -- the canvas around, where the box joined its order
      pub outer_order : (x : Option Listing) → IsOrderIn (canvas_graph h p.links place.canvas) (signal_boxes h place.canvas) x → HasOrder h v (get h.boards place.canvas) x
      outer_order x is = order_kept h h o v (get h.boards place.canvas) x (λ i k at. refl) (wires_old place.canvas M.live)
          (live_by_wires h o p.links wired place.canvas x M.lives is)

      signal_old : (c : ℕ) → (i k : ℕ) → slice_get (keys_at p.grove c) i ≡ Some k → is_signal_node (get h.nodes k) ≡ is_signal_node (get p.grove.nodes k)
      signal_old c i k at = ap is_signal_node (stay k (old_box c k (i, at)))

      -- another canvas that was there
      pub other_order : (c : ℕ) → c ≢ place.canvas → IsSome (get p.grove.boards c) → HasOrder h v (get h.boards c) (order_in p.orders.items c)
      other_order c differ some =
          let same : get h.boards c ≡ get p.grove.boards c = M.canvases_stay c differ some in
          let opened : HasOrder h o (get p.grove.boards c) (order_in p.orders.items c) =
          order_kept p.grove h p.web o (get p.grove.boards c) (order_in p.orders.items c) (signal_old c)
          (λ i k at. wires_same p.grove p.web o part C.runs.inside old_box O.other_ports O.fans (none_had Outlets) k) (C.runs.orders c) in
          order_kept h h o v (get h.boards c) (order_in p.orders.items c) (λ i k at. refl) (wires_old c some)
          (subst (λ (b : Option Board). HasOrder h o b (order_in p.orders.items c)) (sym same) opened)
