-- The signal wires of boxes where one port of a box went elsewhere.
use Rattle.std.proofs.Common.{◌≡◌, ℕ, zero, suc, ◌<◌, Bool, true, false, cond, List, [], ◌∷◌, ◌++◌, filter, map, length, slice_get, Option, inl, inr, eq-eqb, refl, sym, ap, ◌∙◌, subst, arith}
use Rattle.std.specs.Prelude.{if◌then◌else◌}
use Rattle.std.specs.List.{AllByRecursion}
use Rattle.std.proofs.lemmas.Bool.{cases_eq, cases_lt}
use Rattle.std.proofs.lemmas.Option.{slice_get_past}
use Rattle.pd_order.specs.Graph.{tally}
use Rattle.pd_order.proofs.Basics.{tally-append}
use Rattle.pd_chain.specs.declared.graph.SignalWire.{SignalWire}
use Rattle.pd_links.specs.declared.links.Links.{Links}
use Rattle.pd_grove.specs.declared.grove.Grove.{Grove}
use Rattle.pd_grove.specs.declared.ports.Side.{Side}
use Rattle.pd_grove.specs.declared.ports.Side.TheVariants.{Inlets, Outlets}
use Rattle.pd_web.specs.declared.jacks.Jack.{Jack}
use Rattle.pd_web.specs.declared.web.Hop.{Hop}
use Rattle.pd_web.specs.declared.web.Web.{Web}
use Rattle.pd_web.specs.Hops.{ports_told, jack_told, signal_in, fan_hops, places_of}
use Rattle.pd_patch.specs.Linked.{HasLinks, StayInside, ShareCanvas}
use Rattle.pd_patch.specs.Orders.{is_heard, wire_to, wires_by, wires_from, wires_below, box_wires}
use Rattle.pd_wiring.proofs.HeardLemmas.{sinks_of}
use Rattle.pd_following.proofs.RaiseLemmas.{differ_test}
use Rattle.pd_sliding.specs.Slides.{slid, outlet_slid, place_slid, Slides}
use Rattle.pd_sliding.proofs.ListLemmas.{slid_far, slid_from, sum_below, sums_same, sum_slid}

-- what is said of each box to which hops lead, told by their places
abbrev AreAll : (ℕ → Type 0) → List (ℕ × ℕ) → Type 0
AreAll P ps = AllByRecursion (λ (p : ℕ × ℕ). P p.0) ps

to_places : (P : ℕ → Type 0) (hops : List Hop) → AllByRecursion (λ (h : Hop). P h.node) hops → AreAll P (places_of hops)
to_places P [] a = tt
to_places P (h ∷ hops) a = (a.0, to_places P hops a.1)

from_places : (P : ℕ → Type 0) (hops : List Hop) → AreAll P (places_of hops) → AllByRecursion (λ (h : Hop). P h.node) hops
from_places P [] a = tt
from_places P (h ∷ hops) a = (a.0, from_places P hops a.1)

slid_places : (P : ℕ → Type 0) (side : Side) (key from to : ℕ) (ps : List (ℕ × ℕ)) → AreAll P ps → AreAll P (map (place_slid side key from to) ps)
slid_places P side key from to [] a = tt
slid_places P Inlets key from to (p ∷ ps) a = (a.0, slid_places P Inlets key from to ps a.1)
slid_places P Outlets key from to (p ∷ ps) a = (a.0, slid_places P Outlets key from to ps a.1)

-- the signal wires to these places
abbrev heard_at : Web → ℕ × ℕ → Bool
heard_at w p = signal_in (jack_told w Inlets p.0 p.1)

abbrev wire_at : ℕ → ℕ × ℕ → SignalWire
wire_at source p = record { source = source; sink = p.0 }

abbrev wires_to : Web → ℕ → List (ℕ × ℕ) → List SignalWire
wires_to w source ps = map (wire_at source) (filter (heard_at w) ps)

by_places : (w : Web) (source : ℕ) (hops : List Hop) → wires_by w source hops ≡ wires_to w source (places_of hops)
by_places w source [] = refl
by_places w source (h ∷ hops) = step (is_heard w h) (by_places w source hops)
  where
    step : (b : Bool) → wires_by w source hops ≡ wires_to w source (places_of hops)
        → map (wire_to source) (cond b (h ∷ filter (is_heard w) hops) (filter (is_heard w) hops))
        ≡ map (wire_at source) (cond b ((h.node, h.port) ∷ filter (heard_at w) (places_of hops)) (filter (heard_at w) (places_of hops)))
    step true rec = ap (λ (vs : List SignalWire). wire_to source h ∷ vs) rec
    step false rec = rec

to_slid : (w w' : Web) (source : ℕ) (f : ℕ × ℕ → ℕ × ℕ) → ((p : ℕ × ℕ) → heard_at w' (f p) ≡ heard_at w p) → ((p : ℕ × ℕ) → (f p).0 ≡ p.0) → (ps : List (ℕ × ℕ))
    → wires_to w' source (map f ps) ≡ wires_to w source ps
to_slid w w' source f heard box [] = refl
to_slid w w' source f heard box (p ∷ ps) =
    ap (λ (b : Bool). map (wire_at source) (cond b (f p ∷ filter (heard_at w') (map f ps)) (filter (heard_at w') (map f ps)))) (heard p)
    ∙ step (heard_at w p) (to_slid w w' source f heard box ps)
  where
    step : (b : Bool) → wires_to w' source (map f ps) ≡ wires_to w source ps
        → map (wire_at source) (cond b (f p ∷ filter (heard_at w') (map f ps)) (filter (heard_at w') (map f ps)))
        ≡ map (wire_at source) (cond b (p ∷ filter (heard_at w) ps) (filter (heard_at w) ps))
    step true rec = ap (λ (n : ℕ). record { source = source; sink = n } ∷ wires_to w' source (map f ps)) (box p) ∙ ap (λ (vs : List SignalWire). wire_at source p ∷ vs) rec
    step false rec = rec

silent_or : Bool → List SignalWire → List SignalWire
silent_or b vs = if b then vs else []

module _ (w w' : Web) (key : ℕ) (from to : ℕ) where
  -- the ports of the side told as before
  jack_far : (side : Side) → Slides w w' key side from to → (i : ℕ) → jack_told w' side key (slid from to i) ≡ jack_told w side key i
  jack_far side S i = elim (cases_lt i (length (ports_told w side key))) [
    | inl l ↦ S.ports i l
    | inr l ↦
        let a = S.goes in
        let b = S.comes in
        let c = S.as_many in
        ap (λ m. jack_told w' side key m) (slid_far from to i (omega (arith, a, l)) (omega (arith, b, l)))
        ∙ slice_get_past (ports_told w' side key) i (omega (arith, c, l)) ∙ sym (slice_get_past (ports_told w side key) i l)
  ]

  heard_slid : (side : Side) → Slides w w' key side from to → (p : ℕ × ℕ) → heard_at w' (place_slid side key from to p) ≡ heard_at w p
  heard_slid Inlets S p = elim (cases_eq p.0 key) [
    | inl e ↦
        ap (λ (b : Bool). signal_in (jack_told w' Inlets p.0 (cond b (slid from to p.1) p.1))) (eq-eqb p.0 key e) ∙ ap (λ n. signal_in (jack_told w' Inlets n (slid from to p.1))) e
        ∙ ap signal_in (jack_far Inlets S p.1) ∙ sym (ap (λ n. signal_in (jack_told w Inlets n p.1)) e)
    | inr d ↦
        ap (λ (b : Bool). signal_in (jack_told w' Inlets p.0 (cond b (slid from to p.1) p.1))) (differ_test p.0 key d)
        ∙ ap (λ (js : List Jack). signal_in (slice_get js p.1)) (S.other_ports Inlets p.0 (λ e. absurd (d e)))
  ]
  heard_slid Outlets S p = ap (λ (js : List Jack). signal_in (slice_get js p.1)) (S.other_ports Inlets p.0 (λ _ e. cc))

  box_slid : (side : Side) (p : ℕ × ℕ) → (place_slid side key from to p).0 ≡ p.0
  box_slid Inlets p = refl
  box_slid Outlets p = refl

  outlet_told : (side : Side) → Slides w w' key side from to → (n o : ℕ) → jack_told w' Outlets n (outlet_slid side key from to n o) ≡ jack_told w Outlets n o
  outlet_told Inlets S n o = ap (λ (js : List Jack). slice_get js o) (S.other_ports Outlets n (λ _ e. cc))
  outlet_told Outlets S n o = elim (cases_eq n key) [
    | inl e ↦
        ap (λ (b : Bool). jack_told w' Outlets n (cond b (slid from to o) o)) (eq-eqb n key e) ∙ ap (λ x. jack_told w' Outlets x (slid from to o)) e ∙ jack_far Outlets S o
        ∙ sym (ap (λ x. jack_told w Outlets x o) e)
    | inr d ↦ ap (λ (b : Bool). jack_told w' Outlets n (cond b (slid from to o) o)) (differ_test n key d) ∙ ap (λ (js : List Jack). slice_get js o) (S.other_ports Outlets n (λ e. absurd (d e)))
  ]

  module _ (side : Side) (S : Slides w w' key side from to) where
    -- an outlet has the signal wires that it had
    from_slid : (n o : ℕ) → wires_from w' n (outlet_slid side key from to n o) ≡ wires_from w n o
    unfolding silent_or
    from_slid n o =
        ap (λ (j : Option Jack). silent_or (signal_in j) (wires_by w' n (fan_hops w' n (outlet_slid side key from to n o)))) (outlet_told side S n o)
        ∙ ap (silent_or (signal_in (jack_told w Outlets n o))) (by_places w' n (fan_hops w' n (outlet_slid side key from to n o)) ∙ ap (wires_to w' n) (S.places n o)
        ∙ to_slid w w' n (place_slid side key from to) (heard_slid side S) (box_slid side) (places_of (fan_hops w n o)) ∙ sym (by_places w n (fan_hops w n o)))

    abbrev count_from : Web → ℕ → ℕ → ℕ → ℕ
    count_from v j n o = tally j (sinks_of (wires_from v n o))

    sinks_join : (xs ys : List SignalWire) → sinks_of (xs ++ ys) ≡ sinks_of xs ++ sinks_of ys
    sinks_join [] ys = refl
    sinks_join (x ∷ xs) ys = ap (λ ns. x.sink ∷ ns) (sinks_join xs ys)

    tally_below : (v : Web) (j n m : ℕ) → tally j (sinks_of (wires_below v n m)) ≡ sum_below (count_from v j n) m
    tally_below v j n zero = refl
    tally_below v j n (suc m) =
        let a = ap (tally j) (sinks_join (wires_below v n m) (wires_from v n m)) in
        let b = tally-append j (sinks_of (wires_below v n m)) (sinks_of (wires_from v n m)) in
        let c = tally_below v j n m in
        omega (arith, a, b, c)

    outlets_as_many : (n : ℕ) → length (ports_told w' Outlets n) ≡ length (ports_told w Outlets n)
    outlets_as_many n = by_side side S
      where
        by_side : (s : Side) → Slides w w' key s from to → length (ports_told w' Outlets n) ≡ length (ports_told w Outlets n)
        by_side Inlets T = ap length (T.other_ports Outlets n (λ _ e. cc))
        by_side Outlets T = elim (cases_eq n key) [
          | inl e ↦ ap (λ x. length (ports_told w' Outlets x)) e ∙ T.as_many ∙ sym (ap (λ x. length (ports_told w Outlets x)) e)
          | inr d ↦ ap length (T.other_ports Outlets n (λ e. absurd (d e)))
        ]

    sum_then : (s : Side) → s ≡ side → (j n : ℕ) → sum_below (count_from w' j n) (length (ports_told w Outlets n)) ≡ sum_below (count_from w j n) (length (ports_told w Outlets n))
    sum_then Inlets e j n =
        sums_same (count_from w' j n) (count_from w j n) (length (ports_told w Outlets n)) (λ i l. ap (λ (vs : List SignalWire). tally j (sinks_of vs))
        (subst (λ (t : Side). wires_from w' n (outlet_slid t key from to n i) ≡ wires_from w n i) (sym e) (from_slid n i)))
    sum_then Outlets e j n = elim (cases_eq n key) [
      | inl here ↦
          let T : Slides w w' key Outlets from to = subst (λ (t : Side). Slides w w' key t from to) (sym e) S in
          let goes = subst (λ m. from < length (ports_told w Outlets m)) (sym here) T.goes in
          let comes = subst (λ m. to < length (ports_told w Outlets m)) (sym here) T.comes in
          sum_slid (count_from w j n) (count_from w' j n) from to (length (ports_told w Outlets n)) goes comes (λ i l.
          ap (λ (b : Bool). count_from w' j n (cond b (slid from to i) i)) (sym (eq-eqb n key here)) ∙ ap (λ (vs : List SignalWire). tally j (sinks_of vs))
          (subst (λ (t : Side). wires_from w' n (outlet_slid t key from to n i) ≡ wires_from w n i) (sym e) (from_slid n i)))
      | inr away ↦
          sums_same (count_from w' j n) (count_from w j n) (length (ports_told w Outlets n)) (λ i l.
          ap (λ (b : Bool). count_from w' j n (cond b (slid from to i) i)) (sym (differ_test n key away)) ∙ ap (λ (vs : List SignalWire). tally j (sinks_of vs))
          (subst (λ (t : Side). wires_from w' n (outlet_slid t key from to n i) ≡ wires_from w n i) (sym e) (from_slid n i)))
    ]

    -- as many signal wires lead from a box to another as before
    sinks_slid : (n j : ℕ) → tally j (sinks_of (box_wires w' n)) ≡ tally j (sinks_of (box_wires w n))
    sinks_slid n j =
        tally_below w' j n (length (ports_told w' Outlets n)) ∙ ap (sum_below (count_from w' j n)) (outlets_as_many n) ∙ sum_then side refl j n
        ∙ sym (tally_below w j n (length (ports_told w Outlets n)))

    pub links_slid : (l : Links) → HasLinks w l → HasLinks w' l
    links_slid l H = record {
      followers = λ u j. H.followers u j ∙ sym (sinks_slid u j);
      feeders = λ u j. H.feeders u j ∙ sym (sinks_slid u j);
    }

    -- each outlet then is one that was
    outlet_from : (s : Side) (n m : ℕ) → (o : ℕ) × (outlet_slid s key from to n o ≡ m)
    outlet_from Inlets n m = (m, refl)
    outlet_from Outlets n m = elim (cases_eq n key) [
      | inl e ↦ let x = slid_from from to m in (x.0, ap (λ (b : Bool). cond b (slid from to x.0) x.0) (eq-eqb n key e) ∙ x.1)
      | inr d ↦ (m, ap (λ (b : Bool). cond b (slid from to m) m) (differ_test n key d))
    ]

    pub inside_slid : (g : Grove) → StayInside g w → StayInside g w'
    inside_slid g inside n m =
        let o = outlet_from side n m in
        subst (λ x. AllByRecursion (λ (h : Hop). ShareCanvas g n h.node) (fan_hops w' n x)) o.1
        (from_places (ShareCanvas g n) (fan_hops w' n (outlet_slid side key from to n o.0)) (subst (AreAll (ShareCanvas g n)) (sym (S.places n o.0))
        (slid_places (ShareCanvas g n) side key from to (places_of (fan_hops w n o.0)) (to_places (ShareCanvas g n) (fan_hops w n o.0) (inside n o.0)))))
