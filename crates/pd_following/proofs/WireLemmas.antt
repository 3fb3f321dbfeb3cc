-- Signal wires, links and orders where a box has one port more.
use Rattle.std.proofs.Common.{◌≡◌, ◌≢◌, ℕ, zero, suc, ◌≤◌, Bool, true, false, cond, List, [], ◌∷◌, ◌++◌, append-nil, filter, map, length, slice_get, Option, Some, None, inl, inr, eq-eqb, refl, sym, ap, ◌∙◌, subst, arith}
use Rattle.std.specs.Prelude.{if◌then◌else◌}
use Rattle.std.specs.List.{AllByRecursion}
use Rattle.std.proofs.lemmas.Bool.{cases_eq, cases_lt}
use Rattle.pd_order.specs.Graph.{tally, IsOrder}
use Rattle.pd_order.specs.Listing.{Listing}
use Rattle.pd_chain.specs.declared.graph.SignalWire.{SignalWire}
use Rattle.pd_chain.specs.Wires.{graph_of}
use Rattle.pd_links.specs.declared.links.Links.{Links}
use Rattle.pd_grove.specs.declared.boards.Board.{Board}
use Rattle.pd_grove.specs.declared.grove.Grove.{Grove}
use Rattle.pd_grove.specs.declared.ports.Side.{Side}
use Rattle.pd_grove.specs.declared.ports.Side.TheVariants.{Inlets, Outlets}
use Rattle.pd_web.specs.declared.jacks.Jack.{Jack}
use Rattle.pd_web.specs.declared.web.Hop.{Hop}
use Rattle.pd_web.specs.declared.web.Web.{Web}
use Rattle.pd_web.specs.Hops.{ports_told, jack_told, signal_in, fan_hops}
use Rattle.pd_patch.specs.Linked.{HasLinks, StayInside, ShareCanvas}
use Rattle.pd_patch.specs.Orders.{is_heard, wire_to, wires_by, wires_from, wires_below, box_wires, signal_among, signal_wires_among, HasOrder}
use Rattle.pd_wiring.proofs.HeardLemmas.{sinks_of}
use Rattle.pd_following.specs.Raising.{up, raised, Raises}
use Rattle.pd_following.proofs.ListLemmas.{up_before, up_behind, up_or, insert_up, insert_length}
use Rattle.pd_following.proofs.RaiseLemmas.{differ_test}

abbrev silent_or : Bool → List SignalWire → List SignalWire
silent_or b vs = if b then vs else []

silent_none : (b : Bool) → silent_or b [] ≡ []
silent_none true = refl
silent_none false = refl

all_mapped : {X : Type 0} (P : X → Type 0) (f : X → X) (xs : List X) → ((x : X) → P x → P (f x)) → AllByRecursion P xs → AllByRecursion P (map f xs)
all_mapped P f [] h a = tt
all_mapped P f (x ∷ xs) h a = (h x a.0, all_mapped P f xs h a.1)

-- The box has an inlet more.
module _ (w w' : Web) (key at : ℕ) (jack : Jack) (X : Raises w w' key Inlets at jack) where
  heard_raised : (h : Hop) → is_heard w' (raised key at h) ≡ is_heard w h
  heard_raised h = elim (cases_eq h.node key) [
    | inl e ↦
        ap (λ (t : Bool). signal_in (jack_told w' Inlets h.node (cond t (up at h.port) h.port))) (eq-eqb h.node key e)
        ∙ ap (λ x. signal_in (jack_told w' Inlets x (up at h.port))) e
        ∙ ap (λ (js : List Jack). signal_in (slice_get js (up at h.port))) X.ports ∙ ap signal_in (insert_up (ports_told w Inlets key) at h.port jack X.within)
        ∙ sym (ap (λ x. signal_in (jack_told w Inlets x h.port)) e)
    | inr d ↦
        ap (λ (t : Bool). signal_in (jack_told w' Inlets h.node (cond t (up at h.port) h.port))) (differ_test h.node key d)
        ∙ ap (λ (js : List Jack). signal_in (slice_get js h.port)) (X.other_ports Inlets h.node (λ e. absurd (d e)))
  ]

  by_raised : (u : ℕ) (hops : List Hop) → wires_by w' u (map (raised key at) hops) ≡ wires_by w u hops
  by_raised u [] = refl
  by_raised u (h ∷ hops) =
      ap (λ (b : Bool). map (wire_to u) (cond b (raised key at h ∷ filter (is_heard w') (map (raised key at) hops)) (filter (is_heard w') (map (raised key at) hops)))) (heard_raised h)
      ∙ step (is_heard w h) (by_raised u hops)
    where
      step : (b : Bool) → wires_by w' u (map (raised key at) hops) ≡ wires_by w u hops
          → map (wire_to u) (cond b (raised key at h ∷ filter (is_heard w') (map (raised key at) hops)) (filter (is_heard w') (map (raised key at) hops)))
          ≡ map (wire_to u) (cond b (h ∷ filter (is_heard w) hops) (filter (is_heard w) hops))
      step true rec = ap (λ (vs : List SignalWire). wire_to u h ∷ vs) rec
      step false rec = rec

  from_raised : (u o : ℕ) → wires_from w' u o ≡ wires_from w u o
  from_raised u o =
      ap (λ (js : List Jack). silent_or (signal_in (slice_get js o)) (wires_by w' u (fan_hops w' u o))) (X.other_ports Outlets u (λ _ e. cc))
      ∙ ap (silent_or (signal_in (jack_told w Outlets u o))) (ap (wires_by w' u) (X.across u o) ∙ by_raised u (fan_hops w u o))

  below_raised : (u m : ℕ) → wires_below w' u m ≡ wires_below w u m
  below_raised u zero = refl
  below_raised u (suc m) = ap (λ (vs : List SignalWire). vs ++ wires_from w' u m) (below_raised u m) ∙ ap (λ (vs : List SignalWire). wires_below w u m ++ vs) (from_raised u m)

  inlets_wires : (u : ℕ) → box_wires w' u ≡ box_wires w u
  inlets_wires u = ap (λ (js : List Jack). wires_below w' u (length js)) (X.other_ports Outlets u (λ _ e. cc)) ∙ below_raised u (length (ports_told w Outlets u))

  inlets_inside : (g : Grove) → StayInside g w → StayInside g w'
  inlets_inside g inside u o =
      subst (AllByRecursion (λ (h : Hop). ShareCanvas g u h.node)) (sym (X.across u o))
      (all_mapped (λ (h : Hop). ShareCanvas g u h.node) (raised key at) (fan_hops w u o) (λ h s. s) (inside u o))

-- The box has an outlet more.
module _ (w w' : Web) (key at : ℕ) (jack : Jack) (X : Raises w w' key Outlets at jack) where
  by_same : (u : ℕ) (hops : List Hop) → wires_by w' u hops ≡ wires_by w u hops
  by_same u [] = refl
  by_same u (h ∷ hops) =
      ap (λ (js : List Jack). map (wire_to u) (cond (signal_in (slice_get js h.port)) (h ∷ filter (is_heard w') hops) (filter (is_heard w') hops))) (X.other_ports Inlets h.node (λ _ e. cc))
      ∙ step (is_heard w h) (by_same u hops)
    where
      step : (b : Bool) → wires_by w' u hops ≡ wires_by w u hops
          → map (wire_to u) (cond b (h ∷ filter (is_heard w') hops) (filter (is_heard w') hops)) ≡ map (wire_to u) (cond b (h ∷ filter (is_heard w) hops) (filter (is_heard w) hops))
      step true rec = ap (λ (vs : List SignalWire). wire_to u h ∷ vs) rec
      step false rec = rec

  from_other : (u o : ℕ) → u ≢ key → wires_from w' u o ≡ wires_from w u o
  from_other u o d =
      ap (λ (js : List Jack). silent_or (signal_in (slice_get js o)) (wires_by w' u (fan_hops w' u o))) (X.other_ports Outlets u (λ e. absurd (d e)))
      ∙ ap (silent_or (signal_in (jack_told w Outlets u o))) (ap (wires_by w' u) (X.others u o d) ∙ by_same u (fan_hops w u o))

  below_other : (u m : ℕ) → u ≢ key → wires_below w' u m ≡ wires_below w u m
  below_other u zero d = refl
  below_other u (suc m) d = ap (λ (vs : List SignalWire). vs ++ wires_from w' u m) (below_other u m d) ∙ ap (λ (vs : List SignalWire). wires_below w u m ++ vs) (from_other u m d)

  from_up : (i : ℕ) → wires_from w' key (up at i) ≡ wires_from w key i
  from_up i =
      ap (λ (js : List Jack). silent_or (signal_in (slice_get js (up at i))) (wires_by w' key (fan_hops w' key (up at i)))) X.ports
      ∙ ap (λ (o : Option Jack). silent_or (signal_in o) (wires_by w' key (fan_hops w' key (up at i)))) (insert_up (ports_told w Outlets key) at i jack X.within)
      ∙ ap (silent_or (signal_in (jack_told w Outlets key i))) (ap (wires_by w' key) (X.own i) ∙ by_same key (fan_hops w key i))

  from_new : wires_from w' key at ≡ []
  from_new = ap (λ (hops : List Hop). silent_or (signal_in (jack_told w' Outlets key at)) (wires_by w' key hops)) X.came ∙ silent_none (signal_in (jack_told w' Outlets key at))

  below_before : (m : ℕ) → m ≤ at → wires_below w' key m ≡ wires_below w key m
  below_before zero l = refl
  below_before (suc m) l =
      ap (λ (vs : List SignalWire). vs ++ wires_from w' key m) (below_before m (omega (arith, l)))
      ∙ ap (λ (vs : List SignalWire). wires_below w key m ++ vs) (ap (wires_from w' key) (sym (up_before at m (omega (arith, l)))) ∙ from_up m)

  new_behind : (m : ℕ) → m ≡ at → wires_below w' key (suc m) ≡ wires_below w key m
  new_behind m e =
      ap (λ (vs : List SignalWire). vs ++ wires_from w' key m) (below_before m (omega (arith, e)))
      ∙ ap (λ (vs : List SignalWire). wires_below w key m ++ vs) (ap (wires_from w' key) e ∙ from_new) ∙ append-nil (wires_below w key m)

  below_behind : (m : ℕ) → at ≤ m → wires_below w' key (suc m) ≡ wires_below w key m
  below_behind zero l = new_behind zero (omega (arith, l))
  below_behind (suc m) l = elim (cases_lt m at) [
    | inl x ↦ new_behind (suc m) (omega (arith, l, x))
    | inr x ↦
        ap (λ (vs : List SignalWire). vs ++ wires_from w' key (suc m)) (below_behind m x)
        ∙ ap (λ (vs : List SignalWire). wires_below w key m ++ vs) (ap (wires_from w' key) (sym (up_behind at m x)) ∙ from_up m)
  ]

  outlets_wires : (u : ℕ) → box_wires w' u ≡ box_wires w u
  outlets_wires u = elim (cases_eq u key) [
    | inl e ↦ ap (box_wires w') e ∙ ap (λ (js : List Jack). wires_below w' key (length js)) X.ports ∙ ap (wires_below w' key) (insert_length (ports_told w Outlets key) at jack)
        ∙ below_behind (length (ports_told w Outlets key)) X.within ∙ sym (ap (box_wires w) e)
    | inr d ↦ ap (λ (js : List Jack). wires_below w' u (length js)) (X.other_ports Outlets u (λ e. absurd (d e))) ∙ below_other u (length (ports_told w Outlets u)) d
  ]

  outlets_inside : (g : Grove) → StayInside g w → StayInside g w'
  outlets_inside g inside u o = elim (cases_eq u key) [
    | inr d ↦ subst (AllByRecursion (λ (h : Hop). ShareCanvas g u h.node)) (sym (X.others u o d)) (inside u o)
    | inl e ↦ elim (up_or at o) [
      | inl new ↦ subst (AllByRecursion (λ (h : Hop). ShareCanvas g u h.node)) (sym (ap (λ x. fan_hops w' x o) e ∙ ap (fan_hops w' key) new ∙ X.came)) tt
      | inr i ↦ subst (AllByRecursion (λ (h : Hop). ShareCanvas g u h.node)) (sym (ap (λ x. fan_hops w' x o) e ∙ ap (fan_hops w' key) i.1 ∙ X.own i.0 ∙ sym (ap (λ x. fan_hops w x i.0) e))) (inside u i.0)
    ]
  ]

-- The box has a port more on some side: every box has the signal wires that it had.
pub wires_raised : (w w' : Web) (key : ℕ) (side : Side) (at : ℕ) (jack : Jack) → Raises w w' key side at jack → (u : ℕ) → box_wires w' u ≡ box_wires w u
wires_raised w w' key Inlets at jack X = inlets_wires w w' key at jack X
wires_raised w w' key Outlets at jack X = outlets_wires w w' key at jack X

pub inside_raised : (w w' : Web) (key : ℕ) (side : Side) (at : ℕ) (jack : Jack) → Raises w w' key side at jack → (g : Grove) → StayInside g w → StayInside g w'
inside_raised w w' key Inlets at jack X = inlets_inside w w' key at jack X
inside_raised w w' key Outlets at jack X = outlets_inside w w' key at jack X

among_same : (w w' : Web) → ((k : ℕ) → box_wires w' k ≡ box_wires w k) → (ks : List ℕ) → signal_wires_among w' ks ≡ signal_wires_among w ks
among_same w w' same [] = refl
among_same w w' same (k ∷ ks) =
    ap (λ (vs : List SignalWire). vs ++ signal_wires_among w' ks) (same k) ∙ ap (λ (vs : List SignalWire). box_wires w k ++ vs) (among_same w w' same ks)

module _ (w w' : Web) (same : (u : ℕ) → box_wires w' u ≡ box_wires w u) where
  pub links_stay : (l : Links) → HasLinks w l → HasLinks w' l
  links_stay l H = record {
    followers = λ u j. H.followers u j ∙ sym (ap (λ (vs : List SignalWire). tally j (sinks_of vs)) (same u));
    feeders = λ u j. H.feeders u j ∙ sym (ap (λ (vs : List SignalWire). tally j (sinks_of vs)) (same u));
  }

  pub order_stays : (g : Grove) (b : Option Board) (o : Option Listing) → HasOrder g w b o → HasOrder g w' b o
  order_stays g None o h = h
  order_stays g (Some b) None h = h
  order_stays g (Some b) (Some o) h =
      let ks = b.nodes.items in
      subst (λ (vs : List SignalWire). IsOrder (graph_of ks vs) (signal_among g ks) o.chain o.stuck) (sym (among_same w w' same (signal_among g ks))) h
