-- The part of a way that is done.
use Rattle.std.proofs.Common.{◌≡◌, ℕ, ℤ, zero, suc, pos, negsuc, neg_ℤ, ◌*◌, ◌/◌, ◌<◌, ◌≤◌, ◌*ℤ◌, int_div, refl, sym, ap, ◌∙◌, arith}
use Rattle.std.proofs.Math.Nat.{div-le_of_le-mul, mul-le-mul_left, zero-div}
use Rattle.std.proofs.lemmas.Int.{ints}
use Rattle.pd_vline.specs.Values.{IsPart}

below : (w k n : ℕ) → k < n → w * k / n ≤ w
below w k n lt = let h : k ≤ n = omega arith in div-le_of_le-mul n (omega (arith, mul-le-mul_left w h))

negated : (m n : ℕ) → int_div (neg_ℤ (pos m)) (pos n) ≡ neg_ℤ (pos (m / n))
negated zero n = ap pos (zero-div n) ∙ sym (ap (λ (m : ℕ). neg_ℤ (pos m)) (zero-div n))
negated (suc m) n = refl

pub is_part : (way part : ℤ) (done length : ℕ) → part ≡ int_div (way *ℤ pos done) (pos length) → done < length → IsPart way part
is_part (pos w) part k n e lt =
    let q : ℕ = w * k / n in
    let f : part ≡ pos q = e in
    let h : q ≤ w = below w k n lt in
    record { up = λ u. (omega (arith, ints), omega (arith, ints)); down = λ u. (omega (arith, ints), omega (arith, ints)) }
is_part (negsuc w) part k n e lt =
    let q : ℕ = suc w * k / n in
    let f : part ≡ neg_ℤ (pos q) = e ∙ negated (suc w * k) n in
    let h : q ≤ suc w = below (suc w) k n lt in
    record { up = λ u. (omega (arith, ints), omega (arith, ints)); down = λ u. (omega (arith, ints), omega (arith, ints)) }
