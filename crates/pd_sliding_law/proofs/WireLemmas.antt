-- The wires that are saved of a canvas where a port of a box of it went to another number.
use Rattle.std.proofs.Common.{◌≡◌, ℕ, suc, ◌==◌, ◌&&◌, Bool, true, false, cond, List, [], ◌∷◌, map, slice_get, Option, Some, None, inl, inr, eq-eqb, eqb-true, refl, sym, ap, ◌∙◌, subst}
use Rattle.std.proofs.lemmas.Bool.{cases_eq}
use Rattle.std.proofs.lemmas.Option.{same_Some}
use Rattle.pd_canvas.specs.declared.wires.Wire.{Wire}
use Rattle.pd_canvas.specs.Wiring.{fan_out}
use Rattle.pd_grove.specs.declared.ports.Side.{Side}
use Rattle.pd_grove.specs.declared.ports.Side.TheVariants.{Inlets, Outlets}
use Rattle.pd_web.specs.declared.web.Hop.{Hop}
use Rattle.pd_web.specs.declared.web.Web.{Web}
use Rattle.pd_web.specs.Hops.{fan_hops, places_of}
use Rattle.pd_present.specs.Presents.{number_in, wire_along, outlet_wires, wires_among}
use Rattle.pd_reload_law.specs.Wires.{AreNumbered, IsAmong, StayAmong}
use Rattle.pd_reload_law.proofs.FanLemmas.{number_is, saved_sorted, saved_fan, saved_none}
use Rattle.pd_reload_law.proofs.SortedLemmas.{sorted_same}
use Rattle.pd_following.proofs.RaiseLemmas.{differ_test}
use Rattle.pd_sliding.specs.Slides.{slid, outlet_slid, place_slid, Slides}
use Rattle.pd_sliding_law.specs.Slid.{slid_wire, slid_wires}
use Rattle.pd_sliding_law.proofs.SlidLemmas.{slid_back, slid_same}
use Rattle.pd_sliding_law.proofs.SortLemmas.{by_outlet_is, filter_turned, sorted_alike}

by_option : {P : Type 0} (o : Option ℕ) → (o ≡ None → P) → ((k : ℕ) → o ≡ Some k → P) → P
by_option None n s = n refl
by_option (Some k) n s = s k refl

-- a wire from an outlet of a box to a place
abbrev wire_to : List ℕ → (k o : ℕ) → ℕ × ℕ → Wire
wire_to numbers k o place = record { source = number_in numbers k; outlet = o; sink = number_in numbers place.0; inlet = place.1 }

along_places : (numbers : List ℕ) (k o : ℕ) (hops : List Hop) → map (wire_along numbers k o) hops ≡ map (wire_to numbers k o) (places_of hops)
along_places numbers k o [] = refl
along_places numbers k o (h ∷ hops) = ap (λ (vs : List Wire). wire_along numbers k o h ∷ vs) (along_places numbers k o hops)

-- wires that lead from the boxes of a canvas to the same places are saved alike
pub places_stay : (w w' : Web) (numbers keys : List ℕ) → AreNumbered numbers keys → ((k o : ℕ) → IsAmong keys k → places_of (fan_hops w' k o) ≡ places_of (fan_hops w k o))
    → wires_among w' numbers keys ≡ wires_among w numbers keys
places_stay w w' numbers keys num h =
    sorted_same (wires_among w' numbers keys) (wires_among w numbers keys) (saved_sorted w' numbers keys num) (saved_sorted w numbers keys num) (λ s o.
    by_option (slice_get keys s)
    (λ none. saved_none w' numbers keys s o num none ∙ sym (saved_none w numbers keys s o num none))
    (λ k is.
    saved_fan w' numbers keys s k o num is ∙ along_places numbers k o (fan_hops w' k o) ∙ ap (map (wire_to numbers k o)) (h k o (s, is))
    ∙ sym (along_places numbers k o (fan_hops w k o)) ∙ sym (saved_fan w numbers keys s k o num is)))

-- ---- the canvas of the box

-- which outlet had this number
abbrev was : Side → (from to : ℕ) → Bool → ℕ → ℕ
was Inlets from to b o = o
was Outlets from to b o = cond b (slid to from o) o

now : (from to : ℕ) (b : Bool) (o : ℕ) → cond b (slid from to (was Outlets from to b o)) (was Outlets from to b o) ≡ o
now from to true o = slid_back from to o
now from to false o = refl

-- a port has a number then where it had the one before
turned_test : (from to i o : ℕ) → (slid from to i == o) ≡ (i == slid to from o)
turned_test from to i o = elim (cases_eq (slid from to i) o) [
  | inl e ↦ eq-eqb (slid from to i) o e ∙ sym (eq-eqb i (slid to from o) (sym (slid_back to from i) ∙ ap (slid to from) e))
  | inr d ↦ differ_test (slid from to i) o d ∙ sym (differ_test i (slid to from o) (λ e. d (ap (slid from to) e ∙ slid_back from to o)))
]

test_turned : (side : Side) (n from to s o : ℕ) (v : Wire)
    → ((slid_wire side n from to v).source == s && (slid_wire side n from to v).outlet == o) ≡ (v.source == s && v.outlet == was side from to (s == n) o)
test_turned Inlets n from to s o v = refl
test_turned Outlets n from to s o v = by (v.source == s) refl
  where
    same : (b : Bool) → (cond b (slid from to v.outlet) v.outlet == o) ≡ (v.outlet == cond b (slid to from o) o)
    same true = turned_test from to v.outlet o
    same false = refl

    by : (b : Bool) → (v.source == s) ≡ b
        → (v.source == s && cond (v.source == n) (slid from to v.outlet) v.outlet == o) ≡ (v.source == s && v.outlet == cond (s == n) (slid to from o) o)
    by true e =
        ap (λ x. v.source == s && cond (x == n) (slid from to v.outlet) v.outlet == o) (eqb-true v.source s e)
        ∙ ap (λ (t : Bool). v.source == s && t) (same (s == n))
    by false e =
        ap (λ (t : Bool). t && cond (v.source == n) (slid from to v.outlet) v.outlet == o) e
        ∙ sym (ap (λ (t : Bool). t && v.outlet == cond (s == n) (slid to from o) o) e)

fan_turned : (side : Side) (n from to s o : ℕ) (ws : List Wire)
    → fan_out s o (map (slid_wire side n from to) ws) ≡ map (slid_wire side n from to) (fan_out s (was side from to (s == n) o) ws)
fan_turned side n from to s o ws =
    filter_turned (slid_wire side n from to) (λ v. v.source == s && v.outlet == was side from to (s == n) o) (λ v. v.source == s && v.outlet == o)
    (test_turned side n from to s o) ws

module _ (w w' : Web) (numbers keys : List ℕ) (holder n from to : ℕ) (num : AreNumbered numbers keys) (stay : StayAmong w keys) (there : slice_get keys n ≡ Some holder) where
  -- a box of the canvas is the one by its number just where it is by its key
  same_test : (k : ℕ) → IsAmong keys k → (k == holder) ≡ (number_in numbers k == n)
  same_test k a = elim (cases_eq k holder) [
    | inl e ↦ eq-eqb k holder e ∙ sym (eq-eqb (number_in numbers k) n (number_is numbers k n (num n k (there ∙ ap (λ x. Some x) (sym e)))))
    | inr d ↦ differ_test k holder d ∙ sym (differ_test (number_in numbers k) n (λ e. d (same_Some k holder (
        sym a.1 ∙ ap (slice_get keys) (sym (number_is numbers k a.0 (num a.0 k a.1)) ∙ e) ∙ there))))
  ]

  -- the wires of one outlet
  hops_turned : (side : Side) (k o old : ℕ) → (side ≡ Outlets → o ≡ cond (number_in numbers k == n) (slid from to old) old) → (side ≡ Inlets → o ≡ old) → (hops : List Hop)
      → ((i : ℕ) (h : Hop) → slice_get hops i ≡ Some h → IsAmong keys h.node)
      → map (wire_to numbers k o) (map (place_slid side holder from to) (places_of hops)) ≡ map (slid_wire side n from to) (map (wire_along numbers k old) hops)
  hops_turned side k o old out inn [] a = refl
  hops_turned Inlets k o old out inn (h ∷ hops) a =
      ap (λ (b : Bool). record { source = number_in numbers k; outlet = o; sink = number_in numbers h.node; inlet = cond b (slid from to h.port) h.port }
      ∷ map (wire_to numbers k o) (map (place_slid Inlets holder from to) (places_of hops))) (same_test h.node (a 0 h refl))
      ∙ ap (λ x. record { source = number_in numbers k; outlet = x; sink = number_in numbers h.node; inlet = cond (number_in numbers h.node == n) (slid from to h.port) h.port }
      ∷ map (wire_to numbers k o) (map (place_slid Inlets holder from to) (places_of hops))) (inn refl)
      ∙ ap (λ (vs : List Wire). slid_wire Inlets n from to (wire_along numbers k old h) ∷ vs) (hops_turned Inlets k o old out inn hops (λ i. a (suc i)))
  hops_turned Outlets k o old out inn (h ∷ hops) a =
      ap (λ x. record { source = number_in numbers k; outlet = x; sink = number_in numbers h.node; inlet = h.port }
      ∷ map (wire_to numbers k o) (map (place_slid Outlets holder from to) (places_of hops))) (out refl)
      ∙ ap (λ (vs : List Wire). slid_wire Outlets n from to (wire_along numbers k old h) ∷ vs) (hops_turned Outlets k o old out inn hops (λ i. a (suc i)))

  number_test : (s k : ℕ) → slice_get keys s ≡ Some k → (number_in numbers k == n) ≡ (s == n)
  number_test s k is = ap (λ z. z == n) (number_is numbers k s (num s k is))

  outlet_now : (side : Side) (s k o : ℕ) → slice_get keys s ≡ Some k → outlet_slid side holder from to k (was side from to (s == n) o) ≡ o
  outlet_now Inlets s k o is = refl
  outlet_now Outlets s k o is =
      ap (λ (b : Bool). cond b (slid from to (was Outlets from to (s == n) o)) (was Outlets from to (s == n) o)) (same_test k (s, is) ∙ number_test s k is) ∙ now from to (s == n) o

  wires_turned : (side : Side) → Slides w w' holder side from to → (s k o : ℕ) → slice_get keys s ≡ Some k
      → outlet_wires w' numbers k o ≡ map (slid_wire side n from to) (outlet_wires w numbers k (was side from to (s == n) o))
  wires_turned side X s k o is =
      let old = was side from to (s == n) o in
      along_places numbers k o (fan_hops w' k o)
      ∙ ap (map (wire_to numbers k o)) (ap (λ x. places_of (fan_hops w' k x)) (sym (outlet_now side s k o is)) ∙ X.places k old)
      ∙ hops_turned side k o old
      (λ e. sym (ap (λ (b : Bool). cond b (slid from to old) old) (number_test s k is) ∙ ap (λ (z : Side). cond (s == n) (slid from to (was z from to (s == n) o)) (was z from to (s == n) o)) e
      ∙ now from to (s == n) o))
      (λ e. sym (ap (λ (z : Side). was z from to (s == n) o) e))
      (fan_hops w k old) (λ i h at. stay k old i h (s, is) at)

  fans_turned : (side : Side) → Slides w w' holder side from to → (s o : ℕ)
      → fan_out s o (wires_among w' numbers keys) ≡ fan_out s o (map (slid_wire side n from to) (wires_among w numbers keys))
  fans_turned side X s o = by_option (slice_get keys s)
      (λ none.
      saved_none w' numbers keys s o num none
      ∙ sym (fan_turned side n from to s o (wires_among w numbers keys) ∙ ap (map (slid_wire side n from to)) (saved_none w numbers keys s (was side from to (s == n) o) num none)))
      (λ k is.
      saved_fan w' numbers keys s k o num is ∙ wires_turned side X s k o is
      ∙ sym (fan_turned side n from to s o (wires_among w numbers keys) ∙ ap (map (slid_wire side n from to)) (saved_fan w numbers keys s k (was side from to (s == n) o) num is)))

  -- the wires of the canvas lead to where the ports are then
  pub slid_around : (side : Side) → Slides w w' holder side from to → wires_among w' numbers keys ≡ slid_wires side n from to (wires_among w numbers keys)
  slid_around Inlets X =
      sorted_same (wires_among w' numbers keys) (map (slid_wire Inlets n from to) (wires_among w numbers keys)) (saved_sorted w' numbers keys num)
      (sorted_alike (slid_wire Inlets n from to) (λ v u. refl) (wires_among w numbers keys) (saved_sorted w numbers keys num)) (fans_turned Inlets X)
  slid_around Outlets X =
      by_outlet_is (wires_among w' numbers keys) (map (slid_wire Outlets n from to) (wires_among w numbers keys)) (saved_sorted w' numbers keys num) (fans_turned Outlets X)

-- ---- another canvas

map_none : (f : ℕ × ℕ → ℕ × ℕ) (hops : List Hop) → ((i : ℕ) (h : Hop) → slice_get hops i ≡ Some h → f (h.node, h.port) ≡ (h.node, h.port)) → map f (places_of hops) ≡ places_of hops
map_none f [] e = refl
map_none f (h ∷ hops) e = ap (λ (x : ℕ × ℕ). x ∷ map f (places_of hops)) (e 0 h refl) ∙ ap (λ (l : List (ℕ × ℕ)). (h.node, h.port) ∷ l) (map_none f hops (λ i. e (suc i)))

module _ (w w' : Web) (numbers keys : List ℕ) (holder from to : ℕ) (num : AreNumbered numbers keys) (stay : StayAmong w keys) (away : IsAmong keys holder → ⊥) where
  pub places_away : (side : Side) → Slides w w' holder side from to → (k o : ℕ) → IsAmong keys k → places_of (fan_hops w' k o) ≡ places_of (fan_hops w k o)
  places_away Inlets X k o a =
      X.places k o
      ∙ map_none (place_slid Inlets holder from to) (fan_hops w k o) (λ i h at.
      ap (λ (b : Bool). (h.node, cond b (slid from to h.port) h.port)) (differ_test h.node holder (λ e. away (subst (λ x. IsAmong keys x) e (stay k o i h a at)))))
  places_away Outlets X k o a =
      ap (λ (b : Bool). places_of (fan_hops w' k (cond b (slid from to o) o))) (sym (differ_test k holder (λ e. away (subst (λ x. IsAmong keys x) e a))))
      ∙ X.places k o ∙ map_none (place_slid Outlets holder from to) (fan_hops w k o) (λ i h at. refl)

  pub slid_away : (side : Side) → Slides w w' holder side from to → wires_among w' numbers keys ≡ wires_among w numbers keys
  slid_away side X = places_stay w w' numbers keys num (places_away side X)

-- ---- a port that kept its number

module _ (w w' : Web) (holder from to : ℕ) (same : from ≡ to) where
  either : (b : Bool) (i : ℕ) → cond b (slid from to i) i ≡ i
  either true i = slid_same from to i same
  either false i = refl

  pub places_kept : (side : Side) → Slides w w' holder side from to → (k o : ℕ) → places_of (fan_hops w' k o) ≡ places_of (fan_hops w k o)
  places_kept Inlets X k o = X.places k o ∙ map_none (place_slid Inlets holder from to) (fan_hops w k o) (λ i h at. ap (λ x. (h.node, x)) (either (h.node == holder) h.port))
  places_kept Outlets X k o =
      ap (λ x. places_of (fan_hops w' k x)) (sym (either (k == holder) o))
      ∙ X.places k o ∙ map_none (place_slid Outlets holder from to) (fan_hops w k o) (λ i h at. refl)

  pub slid_kept : (numbers keys : List ℕ) → AreNumbered numbers keys → (side : Side) → Slides w w' holder side from to → wires_among w' numbers keys ≡ wires_among w numbers keys
  slid_kept numbers keys num side X = places_stay w w' numbers keys num (λ k o a. places_kept side X k o)
