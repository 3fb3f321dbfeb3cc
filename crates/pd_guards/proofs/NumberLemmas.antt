-- What the objects compute is in the range of numbers.
use Rattle.std.proofs.Common.{◌≡◌, ℕ, ℤ, pos, negsuc, neg_ℤ, zero, suc, ◌*◌, ◌/◌, ◌^◌, ◌<◌, ◌≤◌, ◌≤ℤ◌, min, max, unsigned_abs, List, [], ◌∷◌, slice_index_or, refl, arith, rules}
use Rattle.std.proofs.lemmas.Int.{ints, unsigned_abs-mul}
use Rattle.std.proofs.Math.Nat.{mul-le-mul_left}
use Rattle.std.specs.Prelude.{int_div}
use Rattle.std.specs.List.{AllByRecursion}
use Rattle.pd_num.specs.Scale.{billionths, IsInRange, saturated, whole_of, number_of}
use Rattle.pd_kind.specs.States.{units_of, whole_at_least}
use Rattle.pd_guards.specs.Order.{IsNumber}

pub near : (z : ℤ) → unsigned_abs z ≤ 1000000000000000 → IsNumber z
near (pos n) h = (search rules, search rules)
near (negsuc n) h = (search rules, search rules)

pub far : (z : ℤ) → IsNumber z → unsigned_abs z ≤ 1000000000000000
far z h = let a : neg_ℤ (pos 1000000000000000) ≤ℤ z = h.0 in let b : z ≤ℤ pos 1000000000000000 = h.1 in omega (arith, ints)

pub near_pos : (n : ℕ) → n ≤ 1000000000000000 → IsNumber (pos n)
near_pos n h = near (pos n) h

pub abs_neg : (n : ℕ) → unsigned_abs (neg_ℤ (pos n)) ≡ n
abs_neg zero = refl
abs_neg (suc n) = refl

pub div_less : (n d : ℕ) → n / d ≤ n
div_less n d = search rules

pub abs_div : (a : ℤ) (d : ℕ) → unsigned_abs (int_div a (pos d)) ≡ unsigned_abs a / d
abs_div (pos n) d = refl
abs_div (negsuc n) d = abs_neg (suc n / d)

pub whole_in : (z : ℤ) → IsNumber z → IsNumber (whole_of z)
whole_in z h =
    let a : unsigned_abs z ≤ 1000000000000000 = far z h in
    let e : unsigned_abs (whole_of z) ≡ unsigned_abs (int_div z (pos 1000000)) * 1000000 = unsigned_abs-mul (int_div z (pos 1000000)) (pos 1000000) in
    let q : unsigned_abs (int_div z (pos 1000000)) ≡ unsigned_abs z / 1000000 = abs_div z 1000000 in
    near (whole_of z) (omega arith)

pub saturated_in : (z : ℤ) → IsNumber (saturated 1000000000000000 z)
saturated_in (pos n) = near_pos (min n 1000000000000000) (omega arith)
saturated_in (negsuc n) = near (neg_ℤ (pos (min (suc n) 1000000000000000))) (omega (arith, abs_neg (min (suc n) 1000000000000000)))

pub least_in : (n : ℕ) (z : ℤ) → n ≤ 1 → IsNumber z → IsNumber (whole_at_least n z)
least_in n (pos m) l h = let a : m ≤ 1000000000000000 = far (pos m) h in near_pos (max n (m / 1000000) * 1000000) (omega arith)
least_in n (negsuc m) l h = near_pos (max n 0 * 1000000) (omega arith)

units_small : (z : ℤ) → IsNumber z → units_of z ≤ 1000000000
units_small (pos m) h = let a : m ≤ 1000000000000000 = far (pos m) h in omega arith
units_small (negsuc m) h = omega arith

-- a share of a range
pub drawn_in : (seed : ℕ) (range : ℤ) → seed < 2 ^ 32 → IsNumber range → IsNumber (pos (units_of range * seed / 2 ^ 32 * 1000000))
drawn_in seed range l h =
    let u : units_of range ≤ 1000000000 = units_small range h in
    let m : units_of range * seed ≤ units_of range * 2 ^ 32 = mul-le-mul_left (units_of range) (omega arith) in
    near_pos (units_of range * seed / 2 ^ 32 * 1000000) (omega arith)

pub number_of_in : (v : ℤ) → IsInRange billionths v → IsNumber (number_of v)
number_of_in v h =
    let a : neg_ℤ (pos 1000000000000000000) ≤ℤ v = h.0 in let b : v ≤ℤ pos 1000000000000000000 = h.1 in
    let c : unsigned_abs v ≤ 1000000000000000000 = omega (arith, ints) in
    let e : unsigned_abs (number_of v) ≡ unsigned_abs v / 1000 = abs_div v 1000 in
    near (number_of v) (omega arith)

pub get_in : (values : List ℤ) (i : ℕ) → AllByRecursion IsNumber values → IsNumber (slice_index_or values i (pos 0))
get_in [] i h = near_pos 0 (omega arith)
get_in (v ∷ values) zero h = h.0
get_in (v ∷ values) (suc i) h = get_in values i h.1

pub magnitude_in : (z : ℤ) → IsNumber z → IsNumber (pos (unsigned_abs z))
magnitude_in z h = near_pos (unsigned_abs z) (far z h)
