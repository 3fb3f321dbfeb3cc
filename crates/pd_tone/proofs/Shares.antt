-- Fractions of a part in shares of 2^64: a fraction little above a phase gives the same cosine, and goes on in step with it.
use Rattle.std.proofs.Common.{◌≡◌, ℕ, suc, ℤ, pos, negsuc, neg_ℤ, ◌+◌, ◌-◌, ◌*◌, ◌/◌, ◌%◌, ◌^◌, ◌+ℤ◌, ◌-ℤ◌, ◌*ℤ◌, ◌<◌, ◌≤◌, int_div, unsigned_abs, inl, inr, ap, ◌∙◌, sym, arith}
use Rattle.std.proofs.Math.Nat.{div-add-mod, mul-le-mul_right, mul-le-mul_left, div-lt_iff_lt-mul}
use Rattle.std.proofs.lemmas.Nat.{mod-mul-add, div-mul-add}
use Rattle.std.proofs.lemmas.Bool.{cases_lt}
use Rattle.pd_tone.specs.Cosine.{point, between, cosine}
use Rattle.pd_tone.proofs.Points.{steps_small}
use Rattle.pd_tone.proofs.Proportions.{cosine_is, negative_share}

pub placed : (n q w : ℕ) → q * w ≤ n → n < q * w + w → n / w ≡ q
placed n q w a b = let e : n ≡ q * w + (n - q * w) = omega arith in ap (λ m. m / w) e ∙ div-mul-add q w (n - q * w) (omega arith)

cancelled : (a b p : ℕ) → 0 < p → a * p ≤ b * p → a ≤ b
cancelled a b p h l = elim (cases_lt b a) [
  | inl lt ↦ (let m : suc b * p ≤ a * p = mul-le-mul_right p lt in absurd (omega (arith, m, l, h)))
  | inr ge ↦ ge
]

word_positive : 0 < 2 ^ 64
word_positive = omega arith

pub high_small : (a b : ℕ) → a < 2 ^ 64 → b < 2 ^ 64 → a * b / 2 ^ 64 < 2 ^ 64
high_small a b g h =
    let l : a * b ≤ a * 2 ^ 64 = mul-le-mul_left a (omega arith) in
    (div-lt_iff_lt-mul word_positive).1 (omega (arith, l, g))

pub product_fits : (a b : ℕ) → a < 2 ^ 64 → b < 2 ^ 64 → a * b < 2 ^ 128
product_fits a b g h =
    let l : a * b ≤ a * 2 ^ 64 = mul-le-mul_left a (omega arith) in
    omega (arith, l, g)

pub digit_fits : (part rest shares : ℕ) → part ≤ 46875000000 → rest < part → shares ≤ 268435456 → rest * shares < 2 ^ 64
digit_fits part rest shares s h l =
    let m : rest * shares ≤ rest * 268435456 = mul-le-mul_left rest l in
    omega (arith, m, h, s)

pub digit_small : (part rest shares : ℕ) → 0 < shares → rest < part → rest * shares / part < shares
digit_small part rest shares g h =
    let l : suc rest * shares ≤ part * shares = mul-le-mul_right shares h in
    let positive : 0 < part = omega (arith, h) in
    (div-lt_iff_lt-mul positive).1 (omega (arith, l, g))

pub digit_is : (part n : ℕ) → part * (n / part) + n % part ≡ n
digit_is part n = div-add-mod n part

pub fraction_fits : (f part rest : ℕ) → 0 < part → part ≤ 46875000000 → rest < part → f * part ≤ rest * 2 ^ 64 → f + 1 < 2 ^ 64
fraction_fits f part rest g s h l = elim (cases_lt (f + 1) (2 ^ 64)) [
  | inl lt ↦ lt
  | inr ge ↦ (let m : 2 ^ 64 * part ≤ (f + 1) * part = mul-le-mul_right part ge in absurd (omega (arith, m, l, h, s)))
]

fraction_parts : (f part rest : ℕ) → f * part ≤ rest * 2 ^ 64 → rest * 2 ^ 64 < f * part + part → (f + 1) * part ≡ rest * 2 ^ 64 + (f * part + part - rest * 2 ^ 64)
fraction_parts f part rest l u = omega arith

pub fraction_whole : (f part rest : ℕ) → part ≤ 46875000000 → f * part ≤ rest * 2 ^ 64 → rest * 2 ^ 64 < f * part + part → (f + 1) * part / 2 ^ 64 ≡ rest
fraction_whole f part rest s l u =
    ap (λ n. n / 2 ^ 64) (fraction_parts f part rest l u) ∙ div-mul-add rest (2 ^ 64) (f * part + part - rest * 2 ^ 64) (omega arith)

pub fraction_near : (f part rest : ℕ) → part ≤ 46875000000 → f * part ≤ rest * 2 ^ 64 → rest * 2 ^ 64 < f * part + part → (f + 1) * part % 2 ^ 64 ≤ part
fraction_near f part rest s l u =
    let e : (f + 1) * part % 2 ^ 64 ≡ f * part + part - rest * 2 ^ 64 =
    ap (λ n. n % 2 ^ 64) (fraction_parts f part rest l u) ∙ mod-mul-add rest (2 ^ 64) (f * part + part - rest * 2 ^ 64) (omega arith) in
    omega arith

pub uncarried : (a b : ℕ) → a + b < 2 ^ 64 → (a + b) / 2 ^ 64 ≡ 0
uncarried a b h = placed (a + b) 0 (2 ^ 64) (omega arith) (omega arith)

pub carried : (a b : ℕ) → a < 2 ^ 64 → b < 2 ^ 64 → 2 ^ 64 ≤ a + b → (a + b) / 2 ^ 64 ≡ 1
carried a b g h l = placed (a + b) 1 (2 ^ 64) (omega arith) (omega arith)

pub share_small : (s f : ℕ) → s ≤ 3067957 → f < 2 ^ 64 → s * f / 2 ^ 64 ≤ 3067957
share_small s f g h =
    let l : s * f ≤ s * 2 ^ 64 = mul-le-mul_left s (omega arith) in
    let b : s * f / 2 ^ 64 < 3067958 = (div-lt_iff_lt-mul word_positive).1 (omega (arith, l, g)) in omega arith

-- what a change comes to over a fraction that is little above a rest, and over that rest
share_core : (s f part r e q t : ℕ) → 0 < part → part ≤ 46875000000 → s ≤ 3067957 → f * part ≡ r * 2 ^ 64 + e → e ≤ 64 * part
    → part * q + t ≡ s * r → t < part → s * f / 2 ^ 64 ≡ q
share_core s f part r e q t g small few is near parts rest =
    let scaled : s * (f * part) ≡ s * (r * 2 ^ 64 + e) = ap (λ n. s * n) is in
    let a : s * e ≤ s * (64 * part) = mul-le-mul_left s near in
    let b : s * part ≤ 3067957 * part = mul-le-mul_right part few in
    let wide : (part * q + t) * 2 ^ 64 ≡ s * r * 2 ^ 64 = ap (λ n. n * 2 ^ 64) parts in
    let low : q * 2 ^ 64 ≤ s * f = cancelled (q * 2 ^ 64) (s * f) part g (omega (arith, scaled, wide)) in
    let high : s * f + 1 ≤ q * 2 ^ 64 + 2 ^ 64 = cancelled (s * f + 1) (q * 2 ^ 64 + 2 ^ 64) part g (omega (arith, scaled, wide, a, b, rest, small)) in
    placed (s * f) q (2 ^ 64) low (omega (arith, high))

share_near : (s f part : ℕ) → 0 < part → part ≤ 46875000000 → s ≤ 3067957 → f * part % 2 ^ 64 ≤ 64 * part → s * f / 2 ^ 64 ≡ s * (f * part / 2 ^ 64) / part
share_near s f part g small few near =
    let l : s * (f * part / 2 ^ 64) % part < part = omega arith in
    let is : f * part ≡ f * part / 2 ^ 64 * 2 ^ 64 + f * part % 2 ^ 64 = omega (arith, div-add-mod (f * part) (2 ^ 64)) in
    share_core s f part (f * part / 2 ^ 64) (f * part % 2 ^ 64) (s * (f * part / 2 ^ 64) / part) (s * (f * part / 2 ^ 64) % part) g small few is near
    (div-add-mod (s * (f * part / 2 ^ 64)) part) l

between_near : (from d : ℤ) (f part : ℕ) → 0 < part → part ≤ 46875000000 → unsigned_abs d ≤ 3067957 → f * part % 2 ^ 64 ≤ 64 * part
    → from +ℤ int_div (d *ℤ pos f) (pos (2 ^ 64)) ≡ from +ℤ int_div (d *ℤ pos (f * part / 2 ^ 64)) (pos part)
between_near from (pos s) f part g small few near = ap (λ n. from +ℤ pos n) (share_near s f part g small few near)
between_near from (negsuc s) f part g small few near =
    ap (λ z. from +ℤ z) (negative_share (suc s * f) (2 ^ 64) ∙ (ap (λ n. neg_ℤ (pos n)) (share_near (suc s) f part g small few near) ∙ sym (negative_share (suc s * (f * part / 2 ^ 64)) part)))

pub rest_small : (f part : ℕ) → f < 2 ^ 64 → 0 < part → f * part / 2 ^ 64 < part
rest_small f part h g =
    let l : (f + 1) * part ≤ 2 ^ 64 * part = mul-le-mul_right part (omega arith) in
    (div-lt_iff_lt-mul word_positive).1 (omega (arith, l, g))

-- the cosine at such a fraction
pub cosine_near : (k f part : ℕ) → 0 < part → part ≤ 46875000000 → k < 2048 → f < 2 ^ 64 → f * part % 2 ^ 64 ≤ 64 * part
    → cosine (part * 2048) (k * part + f * part / 2 ^ 64) ≡ between (point k) (point (k + 1)) f (2 ^ 64)
cosine_near k f part g small within word near =
    let l : f * part / 2 ^ 64 < part = rest_small f part word g in
    let q : (k * part + f * part / 2 ^ 64) / part ≡ k = div-mul-add k part (f * part / 2 ^ 64) l in
    let r : (k * part + f * part / 2 ^ 64) % part ≡ f * part / 2 ^ 64 = mod-mul-add k part (f * part / 2 ^ 64) l in
    cosine_is part (k * part + f * part / 2 ^ 64) g
    ∙ rw (q, r) (sym (between_near (point k) (point (k + 1) -ℤ point k) f part g small (steps_small k within) near))
