-- The wires that are saved of a canvas where a box of it has a port more.
use Rattle.std.proofs.Common.{◌≡◌, ◌≢◌, ℕ, zero, suc, ◌+◌, ◌≤◌, ◌==◌, Bool, cond, List, [], ◌∷◌, ◌++◌, map, length, slice_get, Some, inl, inr, eq-eqb, refl, sym, ap, ◌∙◌, subst, arith}
use Rattle.std.specs.List.{flat_map, range_with_len}
use Rattle.std.proofs.lemmas.Bool.{cases_eq}
use Rattle.std.proofs.lemmas.List.{map-append}
use Rattle.std.proofs.lemmas.Option.{same_Some}
use Rattle.pd_canvas.specs.declared.wires.Wire.{Wire}
use Rattle.pd_grove.specs.declared.ports.Side.{Side}
use Rattle.pd_grove.specs.declared.ports.Side.TheVariants.{Inlets, Outlets}
use Rattle.pd_web.specs.declared.jacks.Jack.{Jack}
use Rattle.pd_web.specs.declared.web.Hop.{Hop}
use Rattle.pd_web.specs.declared.web.Web.{Web}
use Rattle.pd_web.specs.Hops.{ports_told, fan_hops}
use Rattle.pd_present.specs.Presents.{number_in, wire_along, outlet_wires, box_wires, wires_among}
use Rattle.pd_reload_law.specs.Wires.{AreNumbered, IsAmong, StayAmong}
use Rattle.pd_reload_law.proofs.FanLemmas.{number_is}
use Rattle.pd_following.specs.Raising.{up, raised, Raises}
use Rattle.pd_following.proofs.ListLemmas.{up_before, up_behind, insert_length}
use Rattle.pd_following.proofs.RaiseLemmas.{differ_test}
use Rattle.pd_following_law.specs.Raised.{raised_wire}

-- ---- lists

map_turned : {X Y : Type 0} (f : X → Y) (g : X → X) (h : Y → Y) (xs : List X) → ((i : ℕ) (x : X) → slice_get xs i ≡ Some x → f (g x) ≡ h (f x)) → map f (map g xs) ≡ map h (map f xs)
map_turned f g h [] e = refl
map_turned f g h (x ∷ xs) e = ap (λ y. y ∷ map f (map g xs)) (e 0 x refl) ∙ ap (λ ys. h (f x) ∷ ys) (map_turned f g h xs (λ i. e (suc i)))

map_stays : {X Y : Type 0} (f : X → Y) (h : Y → Y) (xs : List X) → ((i : ℕ) (x : X) → slice_get xs i ≡ Some x → f x ≡ h (f x)) → map f xs ≡ map h (map f xs)
map_stays f h [] e = refl
map_stays f h (x ∷ xs) e = ap (λ y. y ∷ map f xs) (e 0 x refl) ∙ ap (λ ys. h (f x) ∷ ys) (map_stays f h xs (λ i. e (suc i)))

flat_turned : {Y : Type 0} (g' g : ℕ → List Y) (h : Y → Y) (xs : List ℕ) → ((i x : ℕ) → slice_get xs i ≡ Some x → g' x ≡ map h (g x)) → flat_map g' xs ≡ map h (flat_map g xs)
flat_turned g' g h [] e = refl
flat_turned g' g h (x ∷ xs) e =
    ap (λ ys. ys ++ flat_map g' xs) (e 0 x refl) ∙ ap (λ ys. map h (g x) ++ ys) (flat_turned g' g h xs (λ i. e (suc i)))
    ∙ sym (map-append h (g x) (flat_map g xs))

flat_same : {Y : Type 0} (g' g : ℕ → List Y) (xs : List ℕ) → ((i x : ℕ) → slice_get xs i ≡ Some x → g' x ≡ g x) → flat_map g' xs ≡ flat_map g xs
flat_same g' g [] e = refl
flat_same g' g (x ∷ xs) e = ap (λ ys. ys ++ flat_map g' xs) (e 0 x refl) ∙ ap (λ ys. g x ++ ys) (flat_same g' g xs (λ i. e (suc i)))

-- numbers from one on, where one more without anything came before them
flat_behind : {Y : Type 0} (g' g : ℕ → List Y) (at : ℕ) → ((i : ℕ) → g' (up at i) ≡ g i) → (n a : ℕ) → at ≤ a → flat_map g' (range_with_len (a + 1) n) ≡ flat_map g (range_with_len a n)
flat_behind g' g at h zero a l = refl
flat_behind g' g at h (suc n) a l =
    let next : a + 1 ≡ up at a = (let u = up_behind at a l in omega (arith, u)) in
    ap (λ ys. ys ++ flat_map g' (range_with_len (a + 1 + 1) n)) (ap g' next ∙ h a) ∙ ap (λ ys. g a ++ ys) (flat_behind g' g at h n (a + 1) (omega (arith, l)))

-- and where it came among them
flat_more : {Y : Type 0} (g' g : ℕ → List Y) (at : ℕ) → ((i : ℕ) → g' (up at i) ≡ g i) → g' at ≡ [] → (n a : ℕ) → a ≤ at → at ≤ a + n → flat_map g' (range_with_len a (suc n)) ≡ flat_map g (range_with_len a n)
flat_more g' g at h none zero a l m = let e : a ≡ at = omega (arith, l, m) in ap (λ ys. ys ++ []) (ap g' e ∙ none)
flat_more g' g at h none (suc n) a l m = elim (cases_eq a at) [
  | inl e ↦ ap (λ ys. ys ++ flat_map g' (range_with_len (a + 1) (suc n))) (ap g' e ∙ none) ∙ flat_behind g' g at h (suc n) a (omega (arith, e))
  | inr d ↦
      ap (λ ys. ys ++ flat_map g' (range_with_len (a + 1) (suc n))) (ap g' (sym (up_before at a (omega (arith, l, d)))) ∙ h a)
      ∙ ap (λ ys. g a ++ ys) (flat_more g' g at h none n (a + 1) (omega (arith, l, d)) (omega (arith, m)))
]

from_none : (at n : ℕ) → at ≤ n → at ≤ 0 + n
from_none at n l = omega (arith, l)

-- ---- one canvas

module _ (w w' : Web) (numbers keys : List ℕ) (holder n at : ℕ) (jack : Jack) (num : AreNumbered numbers keys) (stay : StayAmong w keys) (there : slice_get keys n ≡ Some holder) where
  -- a box of the canvas is the one by its number just where it is by its key
  same_test : (k : ℕ) → IsAmong keys k → (k == holder) ≡ (number_in numbers k == n)
  same_test k a = elim (cases_eq k holder) [
    | inl e ↦ eq-eqb k holder e ∙ sym (eq-eqb (number_in numbers k) n (number_is numbers k n (num n k (there ∙ ap (λ x. Some x) (sym e)))))
    | inr d ↦ differ_test k holder d ∙ sym (differ_test (number_in numbers k) n (λ e. d (same_Some k holder (
        sym a.1 ∙ ap (slice_get keys) (sym (number_is numbers k a.0 (num a.0 k a.1)) ∙ e) ∙ there))))
  ]

  -- an inlet came
  inlets_outlet : Raises w w' holder Inlets at jack → (k o : ℕ) → IsAmong keys k → outlet_wires w' numbers k o ≡ map (raised_wire Inlets n at) (outlet_wires w numbers k o)
  inlets_outlet X k o a =
      ap (map (wire_along numbers k o)) (X.across k o)
      ∙ map_turned (wire_along numbers k o) (raised holder at) (raised_wire Inlets n at) (fan_hops w k o) (λ i h e.
      ap (λ (b : Bool). record { source = number_in numbers k; outlet = o; sink = number_in numbers h.node; inlet = cond b (up at h.port) h.port }) (same_test h.node (stay k o i h a e)))

  inlets_box : Raises w w' holder Inlets at jack → (k : ℕ) → IsAmong keys k → box_wires w' numbers k ≡ map (raised_wire Inlets n at) (box_wires w numbers k)
  inlets_box X k a =
      ap (λ (js : List Jack). flat_map (outlet_wires w' numbers k) (range_with_len 0 (length js))) (X.other_ports Outlets k (λ _ e. cc))
      ∙ flat_turned (outlet_wires w' numbers k) (outlet_wires w numbers k) (raised_wire Inlets n at) (range_with_len 0 (length (ports_told w Outlets k))) (λ i o e. inlets_outlet X k o a)

  -- an outlet came, and at another box
  other_outlet : (k : ℕ) → IsAmong keys k → k ≢ holder → (o : ℕ) (hops : List Hop) → map (wire_along numbers k o) hops ≡ map (raised_wire Outlets n at) (map (wire_along numbers k o) hops)
  other_outlet k a d o hops = map_stays (wire_along numbers k o) (raised_wire Outlets n at) hops (λ i h e.
      ap (λ (b : Bool). record { source = number_in numbers k; outlet = cond b (up at o) o; sink = number_in numbers h.node; inlet = h.port }) (sym (differ_test k holder d) ∙ same_test k a))

  -- at the box itself
  own_outlet : (o : ℕ) (hops : List Hop) → map (wire_along numbers holder (up at o)) hops ≡ map (raised_wire Outlets n at) (map (wire_along numbers holder o) hops)
  own_outlet o [] = refl
  own_outlet o (h ∷ hops) =
      ap (λ (b : Bool). record { source = number_in numbers holder; outlet = cond b (up at o) o; sink = number_in numbers h.node; inlet = h.port } ∷ map (wire_along numbers holder (up at o)) hops)
      (sym (eq-eqb (number_in numbers holder) n (number_is numbers holder n (num n holder there))))
      ∙ ap (λ (vs : List Wire). raised_wire Outlets n at (wire_along numbers holder o h) ∷ vs) (own_outlet o hops)

  outlets_box : Raises w w' holder Outlets at jack → (k : ℕ) → IsAmong keys k → box_wires w' numbers k ≡ map (raised_wire Outlets n at) (box_wires w numbers k)
  outlets_box X k a = elim (cases_eq k holder) [
    | inr d ↦
        ap (λ (js : List Jack). flat_map (outlet_wires w' numbers k) (range_with_len 0 (length js))) (X.other_ports Outlets k (λ e. absurd (d e)))
        ∙ flat_turned (outlet_wires w' numbers k) (outlet_wires w numbers k) (raised_wire Outlets n at) (range_with_len 0 (length (ports_told w Outlets k)))
        (λ i o e. ap (map (wire_along numbers k o)) (X.others k o d) ∙ other_outlet k a d o (fan_hops w k o))
    | inl e ↦ ap (box_wires w' numbers) e ∙ holder_box X ∙ sym (ap (λ x. map (raised_wire Outlets n at) (box_wires w numbers x)) e)
  ]
    where
      holder_box : Raises w w' holder Outlets at jack → box_wires w' numbers holder ≡ map (raised_wire Outlets n at) (box_wires w numbers holder)
      holder_box X =
          ap (λ m. flat_map (outlet_wires w' numbers holder) (range_with_len 0 m)) (ap length X.ports ∙ insert_length (ports_told w Outlets holder) at jack)
          ∙ flat_more (outlet_wires w' numbers holder) (λ o. map (raised_wire Outlets n at) (outlet_wires w numbers holder o)) at
          (λ o. ap (map (wire_along numbers holder (up at o))) (X.own o) ∙ own_outlet o (fan_hops w holder o))
          (ap (map (wire_along numbers holder at)) X.came) (length (ports_told w Outlets holder)) 0 (omega arith) (from_none at (length (ports_told w Outlets holder)) X.within)
          ∙ flat_turned (λ o. map (raised_wire Outlets n at) (outlet_wires w numbers holder o)) (outlet_wires w numbers holder) (raised_wire Outlets n at)
          (range_with_len 0 (length (ports_told w Outlets holder))) (λ i o e. refl)

  -- the wires of the canvas lead to where the ports are then
  pub wires_here : (side : Side) → Raises w w' holder side at jack → wires_among w' numbers keys ≡ map (raised_wire side n at) (wires_among w numbers keys)
  wires_here Inlets X = flat_turned (box_wires w' numbers) (box_wires w numbers) (raised_wire Inlets n at) keys (λ i k e. inlets_box X k (i, e))
  wires_here Outlets X = flat_turned (box_wires w' numbers) (box_wires w numbers) (raised_wire Outlets n at) keys (λ i k e. outlets_box X k (i, e))

-- ---- another canvas

module _ (w w' : Web) (numbers keys : List ℕ) (holder at : ℕ) (jack : Jack) (stay : StayAmong w keys) (away : IsAmong keys holder → ⊥) where
  away_inlets : Raises w w' holder Inlets at jack → (k : ℕ) → IsAmong keys k → box_wires w' numbers k ≡ box_wires w numbers k
  away_inlets X k a =
      ap (λ (js : List Jack). flat_map (outlet_wires w' numbers k) (range_with_len 0 (length js))) (X.other_ports Outlets k (λ _ e. cc))
      ∙ flat_same (outlet_wires w' numbers k) (outlet_wires w numbers k) (range_with_len 0 (length (ports_told w Outlets k))) (λ i o e. outlet o)
    where
      still : (o : ℕ) (hops : List Hop) → ((i : ℕ) (h : Hop) → slice_get hops i ≡ Some h → h.node ≢ holder) → map (wire_along numbers k o) (map (raised holder at) hops) ≡ map (wire_along numbers k o) hops
      still o [] d = refl
      still o (h ∷ hops) d =
          ap (λ (b : Bool). record { source = number_in numbers k; outlet = o; sink = number_in numbers h.node; inlet = cond b (up at h.port) h.port } ∷ map (wire_along numbers k o) (map (raised holder at) hops))
          (differ_test h.node holder (d 0 h refl))
          ∙ ap (λ (vs : List Wire). wire_along numbers k o h ∷ vs) (still o hops (λ i. d (suc i)))

      outlet : (o : ℕ) → outlet_wires w' numbers k o ≡ outlet_wires w numbers k o
      outlet o = ap (map (wire_along numbers k o)) (X.across k o)
          ∙ still o (fan_hops w k o) (λ i h e same. away (subst (λ x. IsAmong keys x) same (stay k o i h a e)))

  away_outlets : Raises w w' holder Outlets at jack → (k : ℕ) → IsAmong keys k → box_wires w' numbers k ≡ box_wires w numbers k
  away_outlets X k a =
      let d : k ≢ holder = (λ e. away (subst (λ x. IsAmong keys x) e a)) in
      ap (λ (js : List Jack). flat_map (outlet_wires w' numbers k) (range_with_len 0 (length js))) (X.other_ports Outlets k (λ e. absurd (d e)))
      ∙ flat_same (outlet_wires w' numbers k) (outlet_wires w numbers k) (range_with_len 0 (length (ports_told w Outlets k))) (λ i o e. ap (map (wire_along numbers k o)) (X.others k o d))

  pub wires_away : (side : Side) → Raises w w' holder side at jack → wires_among w' numbers keys ≡ wires_among w numbers keys
  wires_away Inlets X = flat_same (box_wires w' numbers) (box_wires w numbers) keys (λ i k e. away_inlets X k (i, e))
  wires_away Outlets X = flat_same (box_wires w' numbers) (box_wires w numbers) keys (λ i k e. away_outlets X k (i, e))
