-- The order of wires, and what keeps it.
use Rattle.std.proofs.Common.{◌≡◌, ℕ, Bool, true, false, cond, ◌&&◌, ◌||◌, ◌==◌, not, List, [], ◌∷◌, ◌++◌, map, filter, refl, sym, ap, ◌∙◌, arith}
use Rattle.std.specs.Prelude.{nat_lt}
use Rattle.std.specs.List.{AllByRecursion}
use Rattle.std.proofs.lemmas.Bool.Decides.{nat_tests}
use Rattle.pd_canvas.specs.declared.wires.Wire.{Wire}
use Rattle.pd_canvas.specs.Wiring.{precedes, with_wire, is_same, without_wire, lowered, lowered_wire, spares, without_box, AreSorted, fan_out}

by_test : {P : Type 0} (b : Bool) → (b ≡ true → P) → (b ≡ false → P) → P
by_test true t f = t refl
by_test false t f = f refl

abbrev Later : Wire → Wire → Type 0
Later w v = precedes v w ≡ false

abbrev less : ℕ → ℕ → ℕ → ℕ → Bool
less a b c d = nat_lt a c || (a == c && nat_lt b d)

less_turns : (a b c d : ℕ) → less a b c d ≡ true → less c d a b ≡ false
less_turns a b c d h = grind (arith, nat_tests)

less_on : (a b c d e f : ℕ) → less a b c d ≡ true → less e f c d ≡ false → less e f a b ≡ false
less_on a b c d e f h k = grind (arith, nat_tests)

all_later : (w v : Wire) (vs : List Wire) → precedes w v ≡ true → AllByRecursion (Later v) vs → AllByRecursion (Later w) vs
all_later w v [] h k = tt
all_later w v (u ∷ vs) h k = (less_on w.source w.outlet v.source v.outlet u.source u.outlet h k.0, all_later w v vs h k.1)

all_with_step : (P : Wire → Type 0) (w v : Wire) (vs : List Wire) (b : Bool) → P w → P v → AllByRecursion P vs → AllByRecursion P (with_wire w vs)
    → AllByRecursion P (cond b (w ∷ v ∷ vs) (v ∷ with_wire w vs))
all_with_step P w v vs true p q h k = (p, (q, h))
all_with_step P w v vs false p q h k = (q, k)

pub all_with : (P : Wire → Type 0) (w : Wire) (ws : List Wire) → P w → AllByRecursion P ws → AllByRecursion P (with_wire w ws)
all_with P w [] p h = (p, tt)
all_with P w (v ∷ vs) p h = all_with_step P w v vs (precedes w v) p h.0 h.1 (all_with P w vs p h.1)

sorted_with_step : (w v : Wire) (vs : List Wire) (b : Bool) → precedes w v ≡ b → AllByRecursion (Later v) vs → AreSorted vs → AreSorted (with_wire w vs)
    → AreSorted (cond b (w ∷ v ∷ vs) (v ∷ with_wire w vs))
sorted_with_step w v vs true e h s k =
    ((less_turns w.source w.outlet v.source v.outlet e, all_later w v vs e h), (h, s))
sorted_with_step w v vs false e h s k = (all_with (Later v) w vs e h, k)

pub sorted_with : (w : Wire) (ws : List Wire) → AreSorted ws → AreSorted (with_wire w ws)
sorted_with w [] h = (tt, tt)
sorted_with w (v ∷ vs) h = sorted_with_step w v vs (precedes w v) refl h.0 h.1 (sorted_with w vs h.1)

all_without_step : (P : Wire → Type 0) (w v : Wire) (vs : List Wire) (b : Bool) → P v → AllByRecursion P vs → AllByRecursion P (without_wire w vs)
    → AllByRecursion P (cond b vs (v ∷ without_wire w vs))
all_without_step P w v vs true p h k = h
all_without_step P w v vs false p h k = (p, k)

pub all_without : (P : Wire → Type 0) (w : Wire) (ws : List Wire) → AllByRecursion P ws → AllByRecursion P (without_wire w ws)
all_without P w [] h = tt
all_without P w (v ∷ vs) h = all_without_step P w v vs (is_same v w) h.0 h.1 (all_without P w vs h.1)

sorted_without_step : (w v : Wire) (vs : List Wire) (b : Bool) → AllByRecursion (Later v) vs → AreSorted vs → AreSorted (without_wire w vs)
    → AreSorted (cond b vs (v ∷ without_wire w vs))
sorted_without_step w v vs true h s k = s
sorted_without_step w v vs false h s k = (all_without (Later v) w vs h, k)

pub sorted_without : (w : Wire) (ws : List Wire) → AreSorted ws → AreSorted (without_wire w ws)
sorted_without w [] h = tt
sorted_without w (v ∷ vs) h = sorted_without_step w v vs (is_same v w) h.0 h.1 (sorted_without w vs h.1)

-- less a box
abbrev moved_down : ℕ → List Wire → List Wire
moved_down n ws = map (lowered_wire n) (filter (spares n) ws)

all_box_step : (P Q : Wire → Type 0) (n : ℕ) (v : Wire) (vs : List Wire) (b : Bool) → (b ≡ true → P (lowered_wire n v)) → AllByRecursion P (moved_down n vs)
    → AllByRecursion P (map (lowered_wire n) (cond b (v ∷ filter (spares n) vs) (filter (spares n) vs)))
all_box_step P Q n v vs true p k = (p refl, k)
all_box_step P Q n v vs false p k = k

pub all_box : (P Q : Wire → Type 0) (n : ℕ) → ((v : Wire) → spares n v ≡ true → Q v → P (lowered_wire n v)) → (ws : List Wire) → AllByRecursion Q ws
    → AllByRecursion P (without_box n ws)
all_box P Q n f [] h = tt
all_box P Q n f (v ∷ vs) h = all_box_step P Q n v vs (spares n v) (λ e. f v e h.0) (all_box P Q n f vs h.1)

abbrev apart : ℕ → ℕ → ℕ → Bool
apart n a b = not (a == n) && not (b == n)

less_lowered : (n a b c d s t : ℕ) → apart n a s ≡ true → apart n c t ≡ true → less a b c d ≡ false → less (lowered n a) b (lowered n c) d ≡ false
less_lowered n a b c d s t h k l = grind (arith, nat_tests)

sorted_box_step : (n : ℕ) (v : Wire) (vs : List Wire) (b : Bool) → spares n v ≡ b → AllByRecursion (Later v) vs → AreSorted (moved_down n vs)
    → AreSorted (map (lowered_wire n) (cond b (v ∷ filter (spares n) vs) (filter (spares n) vs)))
sorted_box_step n v vs true e h k = (
  all_box (Later (lowered_wire n v)) (Later v) n
      (λ u s l. less_lowered n u.source u.outlet v.source v.outlet u.sink v.sink s e l) vs h,
  k,
)
sorted_box_step n v vs false e h k = k

pub sorted_box : (n : ℕ) (ws : List Wire) → AreSorted ws → AreSorted (without_box n ws)
sorted_box n [] h = tt
sorted_box n (v ∷ vs) h = sorted_box_step n v vs (spares n v) refl h.0 (sorted_box n vs h.1)

-- the fan-out of an outlet
abbrev from : ℕ → ℕ → Wire → Bool
from s o w = w.source == s && w.outlet == o

from_own : (a b : ℕ) → (a == a && b == b) ≡ true
from_own a b = grind (arith, nat_tests)

less_apart : (a b c d : ℕ) → less a b c d ≡ true → (c == a && d == b) ≡ false
less_apart a b c d h = grind (arith, nat_tests)

less_apart_on : (a b c d e f : ℕ) → less a b c d ≡ true → less e f c d ≡ false → (e == a && f == b) ≡ false
less_apart_on a b c d e f h k = grind (arith, nat_tests)

none_step : (p : Wire → Bool) (v : Wire) (vs : List Wire) (b : Bool) → b ≡ false → filter p vs ≡ [] → cond b (v ∷ filter p vs) (filter p vs) ≡ []
none_step p v vs true e k = cc
none_step p v vs false e k = k

none_later : (w v : Wire) (vs : List Wire) → precedes w v ≡ true → AllByRecursion (Later v) vs → filter (from w.source w.outlet) vs ≡ []
none_later w v [] h k = refl
none_later w v (u ∷ vs) h k =
    none_step (from w.source w.outlet) u vs (from w.source w.outlet u)
    (less_apart_on w.source w.outlet v.source v.outlet u.source u.outlet h k.0) (none_later w v vs h k.1)

own_step : (p : Wire → Bool) (w : Wire) (vs : List Wire) (b : Bool) → b ≡ true → filter p vs ≡ []
    → cond b (w ∷ filter p vs) (filter p vs) ≡ filter p vs ++ w ∷ []
own_step p w vs true e k = ap (λ l. w ∷ l) k ∙ ap (λ l. l ++ w ∷ []) (sym k)
own_step p w vs false e k = cc

on_step : (v w : Wire) (F G : List Wire) (b : Bool) → G ≡ F ++ w ∷ [] → cond b (v ∷ G) G ≡ cond b (v ∷ F) F ++ w ∷ []
on_step v w F G true e = ap (λ l. v ∷ l) e
on_step v w F G false e = e

last_step : (w v : Wire) (vs : List Wire) (b : Bool) → precedes w v ≡ b → AllByRecursion (Later v) vs
    → filter (from w.source w.outlet) (with_wire w vs) ≡ filter (from w.source w.outlet) vs ++ w ∷ []
    → filter (from w.source w.outlet) (cond b (w ∷ v ∷ vs) (v ∷ with_wire w vs)) ≡ filter (from w.source w.outlet) (v ∷ vs) ++ w ∷ []
last_step w v vs true e h k =
    own_step (from w.source w.outlet) w (v ∷ vs) (from w.source w.outlet w) (from_own w.source w.outlet)
    (none_step (from w.source w.outlet) v vs (from w.source w.outlet v) (less_apart w.source w.outlet v.source v.outlet e) (none_later w v vs e h))
last_step w v vs false e h k = on_step v w _ _ (from w.source w.outlet v) k

pub fan_out_last : (w : Wire) (ws : List Wire) → AreSorted ws → fan_out w.source w.outlet (with_wire w ws) ≡ fan_out w.source w.outlet ws ++ w ∷ []
fan_out_last w [] h = own_step (from w.source w.outlet) w [] (from w.source w.outlet w) (from_own w.source w.outlet) refl
fan_out_last w (v ∷ vs) h = last_step w v vs (precedes w v) refl h.0 (fan_out_last w vs h.1)

skip_step : (p : Wire → Bool) (w : Wire) (ws : List Wire) (b : Bool) → b ≡ false → cond b (w ∷ filter p ws) (filter p ws) ≡ filter p ws
skip_step p w ws true e = cc
skip_step p w ws false e = refl

other_step : (p : Wire → Bool) (w v : Wire) (vs : List Wire) (b : Bool) → p w ≡ false → filter p (with_wire w vs) ≡ filter p vs
    → filter p (cond b (w ∷ v ∷ vs) (v ∷ with_wire w vs)) ≡ filter p (v ∷ vs)
other_step p w v vs true e k = skip_step p w (v ∷ vs) (p w) e
other_step p w v vs false e k = ap (λ l. cond (p v) (v ∷ l) l) k

pub fan_out_other : (w : Wire) (ws : List Wire) (s o : ℕ) → (w.source == s && w.outlet == o) ≡ false → fan_out s o (with_wire w ws) ≡ fan_out s o ws
fan_out_other w [] s o e = skip_step (from s o) w [] (from s o w) e
fan_out_other w (v ∷ vs) s o e = other_step (from s o) w v vs (precedes w v) e (fan_out_other w vs s o e)
