-- The cosine by parts of the circle.
use Rattle.std.proofs.Common.{◌≡◌, ℕ, zero, suc, ℤ, pos, negsuc, neg_ℤ, ◌+◌, ◌*◌, ◌/◌, ◌%◌, ◌+ℤ◌, ◌-ℤ◌, ◌*ℤ◌, ◌<◌, ◌≤◌, int_div, refl, ap, ◌∙◌, sym, arith}
use Rattle.std.proofs.Math.Nat.{mul-div-mul_right, mul_assoc, zero-div, div-add-mod, zero-mul}
use Rattle.std.proofs.lemmas.Nat.{mod-mul-add}
use Rattle.pd_tone.specs.Cosine.{point, between, cosine}
use Rattle.pd_tone.proofs.Points.{last_point}

zero_share : (n : ℕ) → n ≡ 0 → pos n ≡ neg_ℤ (pos n)
zero_share zero e = refl
zero_share (suc n) e = absurd (omega arith)

pub negative_share : (a b : ℕ) → int_div (neg_ℤ (pos a)) (pos b) ≡ neg_ℤ (pos (a / b))
negative_share zero b = zero_share (0 / b) (zero-div b)
negative_share (suc a) b = refl

scaled_share : (a r b c : ℕ) → 0 < c → a * (r * c) / (b * c) ≡ a * r / b
scaled_share a r b c h = ap (λ n. n / (b * c)) (sym (mul_assoc a r c)) ∙ mul-div-mul_right (a * r) b h

-- a fraction's parts, both c times as many
scaled : (d : ℤ) (r b c : ℕ) → 0 < c → int_div (d *ℤ pos (r * c)) (pos (b * c)) ≡ int_div (d *ℤ pos r) (pos b)
scaled (pos a) r b c h = ap pos (scaled_share a r b c h)
scaled (negsuc a) r b c h =
    negative_share (suc a * (r * c)) (b * c) ∙ ap (λ n. neg_ℤ (pos n)) (scaled_share (suc a) r b c h) ∙ sym (negative_share (suc a * r) b)

regrouped : (p q r b c : ℕ) → p ≡ b * q + r → p * c ≡ q * (b * c) + r * c
regrouped p q r b c e = grind arith

less_scaled : (r b c : ℕ) → r < b → 0 < c → r * c < b * c
less_scaled r b c g h = grind arith

scaled_rest : (p b c : ℕ) → 0 < b → 0 < c → p * c % (b * c) ≡ p % b * c
scaled_rest p b c g h =
    let l : p % b < b = omega arith in
    ap (λ n. n % (b * c)) (regrouped p (p / b) (p % b) b c (sym (div-add-mod p b))) ∙ mod-mul-add (p / b) (b * c) (p % b * c) (less_scaled (p % b) b c l h)

proportioned : (k k' r r' m part : ℕ) → k' ≡ k → r' ≡ r * 2048 → m ≡ part * 2048 →
    between (point k') (point (suc k')) r' m ≡ between (point k) (point (k + 1)) r part
proportioned k k' r r' m part e f g =
    let next : suc k' ≡ k + 1 = omega arith in
    rw (next, e, f, g) (ap (λ z. point k +ℤ z) (scaled (point (k + 1) -ℤ point k) r part 2048 (omega arith)))

pub cosine_is : (part p : ℕ) → 0 < part → cosine (part * 2048) p ≡ between (point (p / part)) (point (p / part + 1)) (p % part) part
unfolding cosine
cosine_is part p h =
    proportioned (p / part) (p * 2048 / (part * 2048)) (p % part) (p * 2048 % (part * 2048)) (part * 2048) part
    (mul-div-mul_right p part (omega arith)) (scaled_rest p part 2048 h (omega arith)) refl

level : (from to : ℤ) (r m : ℕ) → from ≡ pos 1000000000 → to ≡ pos 1000000000 → between from to r m ≡ pos 1000000000
level from to r m e f = let none : 0 * r / m ≡ 0 = ap (λ n. n / m) (zero-mul r) ∙ zero-div m in rw (e, f) (ap pos (omega arith))

-- past the circle it is that at its end
pub cosine_past : (part p : ℕ) → 0 < part → 2048 ≤ p / part → cosine (part * 2048) p ≡ pos 1000000000
cosine_past part p h g =
    cosine_is part p h ∙ level (point (p / part)) (point (p / part + 1)) (p % part) part (last_point (p / part) g) (last_point (p / part + 1) (omega arith))
