-- Ports, wires and signal orders, where a box went with all that lay in it.
use Rattle.std.proofs.Common.{◌≡◌, ◌≢◌, ℕ, zero, suc, Bool, false, cond, List, [], ◌∷◌, ◌++◌, map, length, Option, Some, None, IsSome, IsTrue, is_some, refl, sym, ap, ◌∙◌, subst}
use Rattle.std.specs.Prelude.{slice_get, option_and_then}
use Rattle.std.specs.List.{AllByRecursion}
use mathlib.Core.Logic.{⊎_elim}
use Rattle.std.proofs.lemmas.Bool.{both_ways, cases_eq}
use Rattle.std.proofs.lemmas.Option.{none-some, same_Some}
use Rattle.slab.specs.Slab.{get}
use Rattle.pd_object.specs.declared.kinds.Kind.{Kind}
use Rattle.pd_order.specs.Graph.{tally}
use Rattle.pd_order.specs.Listing.{Listing}
use Rattle.pd_order.proofs.Basics.{by_test}
use Rattle.pd_chain.specs.declared.graph.SignalWire.{SignalWire}
use Rattle.pd_grove.specs.declared.nodes.Node.{Node}
use Rattle.pd_grove.specs.declared.grove.Grove.{Grove}
use Rattle.pd_grove.specs.declared.ports.Side.{Side}
use Rattle.pd_grove.specs.declared.ports.Side.TheVariants.{Inlets, Outlets}
use Rattle.pd_grove.specs.declared.ports.PortSpot.{PortSpot}
use Rattle.pd_grove.specs.Ports.{port_signal, spot_by, node_spot, spot_at, with_spot, ports_among}
use Rattle.pd_grove.specs.Telling.{inner_in, keys_in}
use Rattle.pd_grove.specs.Forest.{holder_in, IsForest}
use Rattle.pd_grove.specs.Grafts.{LiesInBox, TakesBox}
use Rattle.pd_grove.proofs.ForestLemmas.{box_there}
use Rattle.pd_owning.specs.Bound.{is_among}
use Rattle.pd_web.specs.declared.jacks.Jack.{Jack}
use Rattle.pd_web.specs.declared.web.Hop.{Hop}
use Rattle.pd_web.specs.declared.web.Web.{Web}
use Rattle.pd_web.specs.Changes.{hop_at}
use Rattle.pd_web.specs.Homes.{inner_in as box_in}
use Rattle.pd_web.specs.Hops.{ports_told, jack_told, signal_in, fan_hops, feed_hops, port_told}
use Rattle.pd_web.specs.Jacks.{spot_jack, canvas_jacks, jacks_by, jacks_in, jacks_at, made_in}
use Rattle.pd_ports.proofs.OnceLemmas.{port_stands}
use Rattle.pd_patch.specs.declared.patch.Patch.{Patch}
use Rattle.pd_patch.specs.Built.{HasPorts}
use Rattle.pd_patch.specs.Linked.{HasLinks, ShareCanvas, StayInside}
use Rattle.pd_patch.specs.Listing.{IsThere}
use Rattle.pd_patch.specs.Orders.{is_heard, wires_by, wires_from, wires_below, box_wires, AreOrdered}
use Rattle.pd_wiring.specs.Graphs.{AreOrderedBy}
use Rattle.pd_wiring.proofs.GraphLemmas.{ordered_by_wires}
use Rattle.pd_wiring.proofs.HeardLemmas.{all_at, sinks_of}
use Rattle.pd_boxes.specs.declared.room.Place.{Place}
use Rattle.pd_boxes.specs.Put.{keys_before}
use Rattle.pd_clearing.specs.Clearing.{keys_past}
use Rattle.pd_taking.proofs.LoseLemmas.{none_listed}
use Rattle.pd_clearing.specs.Layers.{but_of_all, ClosesAll}
use Rattle.pd_clearing.proofs.PartLemmas.{box_gone, box_stays, held_by_one, held_inside, outside, there_left}
use Rattle.pd_clearing.proofs.ReadyLemmas.{forest_left, IsPlain, IsReady}

-- Lists.

all_from : {X : Type 0} (P : X → Type 0) (xs : List X) → ((i : ℕ) (x : X) → slice_get xs i ≡ Some x → P x) → AllByRecursion P xs
all_from P [] h = tt
all_from P (x ∷ xs) h = (h 0 x refl, all_from P xs (λ i. h (suc i)))

spots_same : (side : Side) (nodes nodes' : ℕ → Option Node) (ks : List ℕ) → ((i k : ℕ) → slice_get ks i ≡ Some k → nodes' k ≡ nodes k) → ports_among side nodes' ks ≡ ports_among side nodes ks
spots_same side nodes nodes' [] h = refl
spots_same side nodes nodes' (k ∷ ks) h =
    ap (λ (o : Option Node). with_spot (option_and_then (node_spot side k) o) (ports_among side nodes' ks)) (h zero k refl)
    ∙ ap (with_spot (spot_at side nodes k)) (spots_same side nodes nodes' ks (λ i. h (suc i)))

spots_more : (side : Side) (nodes : ℕ → Option Node) (a b : List ℕ) (k : ℕ) → spot_at side nodes k ≡ None → ports_among side nodes (a ++ k ∷ b) ≡ ports_among side nodes (a ++ b)
spots_more side nodes [] b k e = ap (λ (o : Option PortSpot). with_spot o (ports_among side nodes b)) e
spots_more side nodes (x ∷ a) b k e = ap (with_spot (spot_at side nodes x)) (spots_more side nodes a b k e)

no_spot : (side : Side) (nodes : ℕ → Option Node) (k : ℕ) (n : Node) → nodes k ≡ Some n → port_signal side n.kind ≡ None → spot_at side nodes k ≡ None
no_spot side nodes k n is e = ap (option_and_then (node_spot side k)) is ∙ ap (spot_by k n.element.x) e

but_kept : (part : List ℕ) (o : Option (ℕ × ℕ)) → ((k i : ℕ) → o ≡ Some (k, i) → is_among part k ≡ false) → but_of_all part o ≡ o
but_kept part None h = refl
but_kept part (Some x) h = ap (λ (b : Bool). cond b None (Some x)) (h x.0 x.1 refl)

-- Signal wires.

none_from : (w : Web) (k : ℕ) → ((o : ℕ) → fan_hops w k o ≡ []) → (n : ℕ) → wires_below w k n ≡ []
none_from w k none zero = refl
none_from w k none (suc n) = ap (λ (vs : List SignalWire). vs ++ wires_from w k n) (none_from w k none n) ∙ by_test (signal_in (jack_told w Outlets k n))
    (λ t. rw t (ap (wires_by w k) (none n)))
    (λ f. rw f refl)

-- between boxes that keep their ports the same wires carry signals
module _ (w w' : Web) (part : List ℕ) (ports : (side : Side) (k : ℕ) → is_among part k ≡ false → ports_told w' side k ≡ ports_told w side k) (fans : (k o : ℕ) → fan_hops w' k o ≡ fan_hops w k o)
    (bare : (k : ℕ) → IsTrue (is_among part k) → (o : ℕ) → fan_hops w k o ≡ []) (apart : (k o i : ℕ) (h : Hop) → slice_get (fan_hops w k o) i ≡ Some h → is_among part h.node ≡ false) where
  heard_same : (h : Hop) → is_among part h.node ≡ false → is_heard w' h ≡ is_heard w h
  heard_same h out = ap (λ (js : List Jack). signal_in (slice_get js h.port)) (ports Inlets h.node out)

  by_same : (u : ℕ) (hops : List Hop) → AllByRecursion (λ (h : Hop). is_among part h.node ≡ false) hops → wires_by w' u hops ≡ wires_by w u hops
  by_same u [] A = refl
  by_same u (h ∷ hops) A =
      let same = heard_same h A.0 in
      by_test (is_heard w h)
      (λ t. rw (same, t) (ap (λ (vs : List SignalWire). record { source = u; sink = h.node } ∷ vs) (by_same u hops A.1)))
      (λ f. rw (same, f) (by_same u hops A.1))

  from_same : (u o : ℕ) → is_among part u ≡ false → wires_from w' u o ≡ wires_from w u o
  from_same u o out =
      let sounds : signal_in (jack_told w' Outlets u o) ≡ signal_in (jack_told w Outlets u o) = ap (λ (js : List Jack). signal_in (slice_get js o)) (ports Outlets u out) in
      by_test (signal_in (jack_told w Outlets u o))
      (λ t. rw (sounds, t) (ap (wires_by w' u) (fans u o) ∙ by_same u (fan_hops w u o) (all_from (λ (h : Hop). is_among part h.node ≡ false) (fan_hops w u o) (apart u o))))
      (λ f. rw (sounds, f) refl)

  below_same : (u m : ℕ) → is_among part u ≡ false → wires_below w' u m ≡ wires_below w u m
  below_same u zero out = refl
  below_same u (suc m) out =
      ap (λ (vs : List SignalWire). vs ++ wires_from w' u m) (below_same u m out) ∙ ap (λ (vs : List SignalWire). wires_below w u m ++ vs) (from_same u m out)

  wires_same : (u : ℕ) → box_wires w' u ≡ box_wires w u
  wires_same u = by_test (is_among part u)
      (λ at. none_from w' u (λ o. fans u o ∙ bare u at o) (length (ports_told w' Outlets u)) ∙ sym (none_from w u (bare u at) (length (ports_told w Outlets u))))
      (λ out. ap (λ (js : List Jack). wires_below w' u (length js)) (ports Outlets u out) ∙ below_same u (length (ports_told w Outlets u)) out)

module _ (p : Patch) (place : Place) (key : ℕ) (part : List ℕ) (R : IsReady p place key part) (h : Grove) (n : Node)
    (T : TakesBox (get p.grove.nodes) (get h.nodes) (get p.grove.boards) (get h.boards) place.canvas key n (keys_before p place) (keys_past p place)) (w : Web) (G : ClosesAll p.web w part) where
  abbrev F : IsForest (get p.grove.nodes) (get p.grove.boards) p.grove.root
  F = R.can.forest

  gone_box : (l : ℕ) → IsTrue (is_among part l) → get h.nodes l ≡ None
  gone_box = box_gone (get p.grove.nodes) (get p.grove.boards) p.grove.root F key part R.are (get h.nodes) (get h.boards) place.canvas n (keys_before p place) (keys_past p place) T

  pub kept_box : (l : ℕ) → is_among part l ≡ false → get h.nodes l ≡ get p.grove.nodes l
  kept_box = box_stays (get p.grove.nodes) (get p.grove.boards) p.grove.root F key part R.are (get h.nodes) (get h.boards) place.canvas n (keys_before p place) (keys_past p place) T

  -- no wire leads to what went
  apart : (k o i : ℕ) (x : Hop) → slice_get (fan_hops p.web k o) i ≡ Some x → is_among part x.node ≡ false
  apart k o i x e = by_test (is_among part x.node)
      (λ at. absurd (none_listed (feed_hops p.web x.node x.port) (hop_at x.key k o) ((R.bare x.node at).feeds x.port) (R.meet.fed k o i x e)))
      (λ f. f)

  pub inside_left : StayInside h w
  inside_left u o = by_test (is_among part u)
      (λ at. subst (AllByRecursion (λ (x : Hop). ShareCanvas h u x.node)) (sym (G.fans u o ∙ (R.bare u at).fans o)) tt)
      (λ out. subst (AllByRecursion (λ (x : Hop). ShareCanvas h u x.node)) (sym (G.fans u o)) (all_from (λ (x : Hop). ShareCanvas h u x.node) (fan_hops p.web u o) (shared out)))
    where
      left : (d x : ℕ) → is_among part x ≡ false → IsThere (keys_in (get p.grove.boards d)) x → IsThere (keys_in (get h.boards d)) x
      left = there_left (get p.grove.nodes) (get p.grove.boards) p.grove.root F key part R.are (get h.nodes) (get h.boards) place.canvas n (keys_before p place) (keys_past p place) T

      shared : is_among part u ≡ false → (i : ℕ) (x : Hop) → slice_get (fan_hops p.web u o) i ≡ Some x → ShareCanvas h u x.node
      shared out i x at =
          let s = all_at (λ (y : Hop). ShareCanvas p.grove u y.node) (fan_hops p.web u o) i x (R.can.runs.inside u o) at in
          record { canvas = s.canvas; one = left s.canvas u out s.one; other = left s.canvas x.node (apart u o i x at) s.other }

  wires_left : (u : ℕ) → box_wires w u ≡ box_wires p.web u
  wires_left = wires_same p.web w part G.ports G.fans (λ k at. (R.bare k at).fans) apart

  pub linked_left : HasLinks w p.links
  linked_left = record {
    followers = λ u j. R.can.runs.linked.followers u j ∙ sym (ap (λ (vs : List SignalWire). tally j (sinks_of vs)) (wires_left u));
    feeders = λ u j. R.can.runs.linked.feeders u j ∙ sym (ap (λ (vs : List SignalWire). tally j (sinks_of vs)) (wires_left u));
  }

-- where it is no port of a box around
module _ (p : Patch) (place : Place) (key : ℕ) (part : List ℕ) (R : IsReady p place key part) (plain : IsPlain p place key) (h : Grove) (n : Node)
    (T : TakesBox (get p.grove.nodes) (get h.nodes) (get p.grove.boards) (get h.boards) place.canvas key n (keys_before p place) (keys_past p place)) (w : Web) (G : ClosesAll p.web w part) where
  -- Every other box has the ports that it had.

  kept_at : (d i x : ℕ) → slice_get (keys_in (get h.boards d)) i ≡ Some x → get h.nodes x ≡ get p.grove.nodes x
  kept_at d i x at =
      let B = box_there (get h.nodes x) d ((forest_left p place key part R h n T).own.home d i x at) in
      T.none_comes x (subst (λ o. IsSome o) (sym B.is) refl)

  canvas_kept : (side : Side) (l d : ℕ) → is_among part l ≡ false → inner_in (get p.grove.nodes l) ≡ Some d → canvas_jacks side h d ≡ canvas_jacks side p.grove d
  canvas_kept side l d out held = ⊎_elim here elsewhere (cases_eq d place.canvas)
    where
      far : LiesInBox (get p.grove.nodes) (get p.grove.boards) key d → ⊥
      far L =
          let H = held_by_one (get p.grove.nodes) (get p.grove.boards) p.grove.root R.can.forest key part R.are d L in
          both_ways (is_among part l) out (ap (is_among part) (same_Some l H.box (sym (R.can.forest.inside l d held) ∙ R.can.forest.inside H.box d H.holds)) ∙ H.among)

      elsewhere : d ≢ place.canvas → canvas_jacks side h d ≡ canvas_jacks side p.grove d
      elsewhere f =
          let same : get h.boards d ≡ get p.grove.boards d = T.boards_stay d f far in
          ap (λ o. map spot_jack (ports_among side (get h.nodes) (keys_in o))) same
          ∙ ap (map spot_jack) (spots_same side (get p.grove.nodes) (get h.nodes) (keys_in (get p.grove.boards d)) (λ i x at. kept_at d i x (ap (λ o. slice_get (keys_in o) i) same ∙ at)))

      without : port_signal side n.kind ≡ None → canvas_jacks side h place.canvas ≡ canvas_jacks side p.grove place.canvas
      without e =
          let had = ap keys_in T.board ∙ T.had in
          let has = ap keys_in T.without ∙ T.has in
          ap (λ ks. map spot_jack (ports_among side (get h.nodes) ks)) has
          ∙ ap (map spot_jack) (spots_same side (get p.grove.nodes) (get h.nodes) (keys_before p place ++ keys_past p place) (λ i x at. kept_at place.canvas i x (ap (λ ks. slice_get ks i) has ∙ at)))
          ∙ sym (ap (map spot_jack) (spots_more side (get p.grove.nodes) (keys_before p place) (keys_past p place) key (no_spot side (get p.grove.nodes) key n T.was e)))
          ∙ sym (ap (λ ks. map spot_jack (ports_among side (get p.grove.nodes) ks)) had)

      here : d ≡ place.canvas → canvas_jacks side h d ≡ canvas_jacks side p.grove d
      here e = ⊎_elim
          (λ (free : holder_in (get p.grove.boards place.canvas) ≡ None). absurd (none-some l (sym free ∙ ap (λ x. holder_in (get p.grove.boards x)) (sym e) ∙ R.can.forest.inside l d held)))
          (λ (none : (side : Side) → port_signal side n.kind ≡ None). subst (λ x. canvas_jacks side h x ≡ canvas_jacks side p.grove x) (sym e) (without (none side)))
          (plain n T.was)

  inner_kept : (side : Side) (kind : Kind) (o : Option ℕ) → ((d : ℕ) → o ≡ Some d → canvas_jacks side h d ≡ canvas_jacks side p.grove d) → jacks_by side h kind o ≡ jacks_by side p.grove kind o
  inner_kept side kind None f = refl
  inner_kept side kind (Some d) f = f d refl

  jacks_kept : (side : Side) (l : ℕ) → is_among part l ≡ false → jacks_at side h l ≡ jacks_at side p.grove l
  jacks_kept side l out = ap (jacks_in side h) (kept_box p place key part R h n T w G l out) ∙ by (get p.grove.nodes l) refl
    where
      by : (o : Option Node) → get p.grove.nodes l ≡ o → jacks_in side h o ≡ jacks_in side p.grove o
      by None e = refl
      by (Some m) e = inner_kept side m.kind m.inner (λ d q. canvas_kept side l d out (ap inner_in e ∙ q))

  told_kept : (side : Side) (l : ℕ) → ports_told w side l ≡ jacks_at side h l
  told_kept side l = by_test (is_among part l)
      (λ at. G.gone side l at ∙ sym (ap (jacks_in side h) (gone_box p place key part R h n T w G l at)))
      (λ out. G.ports side l out ∙ R.can.runs.ports.ports side l ∙ sym (jacks_kept side l out))

  jack_kept : (side : Side) (l i : ℕ) → jack_told w side l i ≡ slice_get (jacks_at side h l) i
  jack_kept side l i = ap (λ (js : List Jack). slice_get js i) (told_kept side l)

  pub ports_left : HasPorts h w
  ports_left = record {
    ports = told_kept;
    made = λ l. by_test (is_among part l)
        (λ at. G.unmade l at ∙ sym (ap made_in (gone_box p place key part R h n T w G l at)))
        (λ out. G.made l out ∙ R.can.runs.ports.made l ∙ sym (ap made_in (kept_box p place key part R h n T w G l out)));
    homes = λ j l i e. let t = G.known.told l j i e in record { side = t.0; told = ap box_in (sym (jack_kept t.0 l i)) ∙ t.1 };
    homes_found = λ j l i q. ap is_some (G.known.found q.side j l i (ap box_in (jack_kept q.side l i) ∙ q.told));
  }

  -- a box that stays is the port that it was
  pub homes_left : (j : ℕ) → is_among part j ≡ false → port_told w j ≡ port_told p.web j
  homes_left j out = G.homes j ∙ but_kept part (port_told p.web j) (λ k i e. by_test (is_among part k)
      (λ at. let q = R.can.runs.ports.homes j k i e in
      let s = port_stands p.grove q.side k i j q.told in
      absurd (outside (get p.grove.nodes) (get p.grove.boards) p.grove.root R.can.forest key part R.are j s.canvas out (R.can.forest.own.home s.canvas s.place j s.at)
      (held_inside (get p.grove.nodes) (get p.grove.boards) p.grove.root R.can.forest key part R.are k s.canvas at s.held)))
      (λ f. f))

  pub orders_left : (orders : List (Option Listing)) → AreOrderedBy h p.links orders → AreOrdered h w orders
  orders_left orders O =
      ordered_by_wires h w p.links (record { own = (forest_left p place key part R h n T).own; ports = told_kept; inside = inside_left p place key part R h n T w G; linked = linked_left p place key part R h n T w G }) orders O
