-- Lists of wires that have the same wires from each outlet are as long.
use Rattle.std.proofs.Common.{◌≡◌, ℕ, zero, suc, ◌+◌, ◌≤◌, ◌==◌, ◌&&◌, Bool, true, false, cond, not, List, [], ◌∷◌, filter, length, refl, sym, ap, ◌∙◌, arith}
use Rattle.std.proofs.lemmas.Bool.Decides.{nat_tests}
use Rattle.pd_canvas.specs.declared.wires.Wire.{Wire}
use Rattle.pd_canvas.specs.Wiring.{fan_out}
use Rattle.pd_order.proofs.Basics.{by_test}
use Rattle.pd_reload_law.proofs.SortedLemmas.{from}

filters_swap : {X : Type 0} (p q : X → Bool) (xs : List X) → filter p (filter q xs) ≡ filter q (filter p xs)
filters_swap p q [] = refl
filters_swap {X} p q (x ∷ xs) = by_test (p x)
    (λ s. by_test (q x)
    (λ t. rw (s, t, s) (ap (λ (l : List X). x ∷ l) (filters_swap p q xs)))
    (λ t. rw (s, t) (filters_swap p q xs)))
    (λ s. by_test (q x)
    (λ t. rw (s, t, s) (filters_swap p q xs))
    (λ t. rw (s, t) (filters_swap p q xs)))

-- those that pass and those that don't
both_parts : {X : Type 0} (p : X → Bool) (xs : List X) → length xs ≡ length (filter p xs) + length (filter (λ x. not (p x)) xs)
both_parts p [] = omega arith
both_parts {X} p (x ∷ xs) = step (p x) (both_parts p xs)
  where
    step : (b : Bool) → length xs ≡ length (filter p xs) + length (filter (λ y. not (p y)) xs)
        → length (x ∷ xs) ≡ length (cond b (x ∷ filter p xs) (filter p xs)) + length (cond (not b) (x ∷ filter (λ y. not (p y)) xs) (filter (λ y. not (p y)) xs))
    step true e = omega (arith, e)
    step false e = omega (arith, e)

one_at_least : {X : Type 0} (b : Bool) (x : X) (xs : List X) → b ≡ true → 1 ≤ length (cond b (x ∷ xs) xs)
one_at_least true x xs t = omega arith
one_at_least false x xs t = cc

own_outlet : (w : Wire) → from w.source w.outlet w ≡ true
own_outlet w = same w.source w.outlet
  where
    same : (a b : ℕ) → (a == a && b == b) ≡ true
    same a b = grind (arith, nat_tests)

fan_filled : (w : Wire) (ws : List Wire) → 1 ≤ length (fan_out w.source w.outlet (w ∷ ws))
fan_filled w ws = one_at_least (from w.source w.outlet w) w (fan_out w.source w.outlet ws) (own_outlet w)

less_left : (n a b c : ℕ) → a ≡ b + c → 1 ≤ b → a ≤ suc n → c ≤ n
less_left n a b c e l m = omega (arith, e, l, m)

nothing_left : (n : ℕ) → 1 ≤ n → n ≡ 0 → ⊥
nothing_left n l e = omega (arith, l, e)

sums : (a b c d x y : ℕ) → x ≡ a + b → y ≡ c + d → a ≡ c → b ≡ d → x ≡ y
sums a b c d x y p q r s = omega (arith, p, q, r, s)

below : (n : ℕ) (x : Wire) (xs : List Wire) → length (x ∷ xs) ≤ 0 → ⊥
below n x xs l = omega (arith, l)

as_long : (n : ℕ) (xs ys : List Wire) → length xs ≤ n → ((s o : ℕ) → fan_out s o xs ≡ fan_out s o ys) → length xs ≡ length ys
as_long n [] [] l e = refl
as_long n [] (y ∷ ys) l e =
    absurd (nothing_left (length (fan_out y.source y.outlet (y ∷ ys))) (fan_filled y ys) (ap (λ (ws : List Wire). length ws) (sym (e y.source y.outlet))))
as_long zero (x ∷ xs) ys l e = absurd (below 0 x xs l)
as_long (suc n) (x ∷ xs) ys l e =
    let p : Wire → Bool = from x.source x.outlet in
    let out : Wire → Bool = λ w. not (p w) in
    let a = both_parts p (x ∷ xs) in
    let b = both_parts p ys in
    let less : length (filter out (x ∷ xs)) ≤ n =
    less_left n (length (x ∷ xs)) (length (filter p (x ∷ xs))) (length (filter out (x ∷ xs))) a (fan_filled x xs) l in
    let rest : length (filter out (x ∷ xs)) ≡ length (filter out ys) =
    as_long n (filter out (x ∷ xs)) (filter out ys) less (λ s o.
    filters_swap (from s o) out (x ∷ xs) ∙ ap (filter out) (e s o) ∙ sym (filters_swap (from s o) out ys)) in
    sums (length (filter p (x ∷ xs))) (length (filter out (x ∷ xs))) (length (filter p ys)) (length (filter out ys)) (length (x ∷ xs)) (length ys) a b
    (ap (λ (ws : List Wire). length ws) (e x.source x.outlet)) rest

pub same_length : (xs ys : List Wire) → ((s o : ℕ) → fan_out s o xs ≡ fan_out s o ys) → length xs ≡ length ys
same_length xs ys e = as_long (length xs) xs ys (itself (length xs)) e
  where
    itself : (n : ℕ) → n ≤ n
    itself n = omega arith
