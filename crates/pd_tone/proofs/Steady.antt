-- Steps of one size, taken by parts of the circle and fractions of them.
use Rattle.std.proofs.Common.{◌≡◌, ℕ, suc, ℤ, ◌+◌, ◌-◌, ◌*◌, ◌/◌, ◌%◌, ◌^◌, ◌<◌, ◌≤◌, List, [], ◌∷◌, ◌++◌, length, take, map, set, replicate, ap, subst, ◌∙◌, sym, append_assoc, arith}
use Rattle.std.proofs.lemmas.List.{take_all, append-nil, take_more_set}
use Rattle.std.proofs.Math.Nat.{div-add-mod, mul-le-mul_right}
use Rattle.std.proofs.lemmas.Nat.{mod-mul-add, div-mul-add}
use Rattle.pd_tone.specs.Tones.{moved, phases, phase_after}
use Rattle.pd_tone.proofs.Circle.{moved_by}
use Rattle.pd_tone.proofs.Shares.{rest_small}

mod_parts : (a part r : ℕ) → r < part → (a * part + r) % (part * 2048) ≡ a % 2048 * part + r
mod_parts a part r h =
    let d : 2048 * (a / 2048) + a % 2048 ≡ a = div-add-mod a 2048 in
    let wide : (2048 * (a / 2048) + a % 2048) * part ≡ a * part = ap (λ n. n * part) d in
    let l : a % 2048 * part ≤ 2047 * part = mul-le-mul_right part (omega arith) in
    let is : a * part + r ≡ a / 2048 * (part * 2048) + (a % 2048 * part + r) = omega (arith, wide) in
    ap (λ n. n % (part * 2048)) is ∙ mod-mul-add (a / 2048) (part * 2048) (a % 2048 * part + r) (omega (arith, l, h))

-- the fraction after a step, where both are little above their rests
left_over : (f df part r e r' e' c g : ℕ) → f * part ≡ r * 2 ^ 64 + e → df * part ≡ r' * 2 ^ 64 + e' → e + e' < 2 ^ 64 → f + df ≡ c * 2 ^ 64 + g
    → g * part ≡ (r + r' - c * part) * 2 ^ 64 + (e + e')
left_over f df part r e r' e' c g is is' small sum =
    let wide : (f + df) * part ≡ (c * 2 ^ 64 + g) * part = ap (λ n. n * part) sum in
    omega (arith, wide, is, is', small)

carry_small : (f df part r e r' e' c g : ℕ) → f * part ≡ r * 2 ^ 64 + e → df * part ≡ r' * 2 ^ 64 + e' → e + e' < 2 ^ 64 → f + df ≡ c * 2 ^ 64 + g
    → c * part ≤ r + r'
carry_small f df part r e r' e' c g is is' small sum =
    let wide : (f + df) * part ≡ (c * 2 ^ 64 + g) * part = ap (λ n. n * part) sum in
    omega (arith, wide, is, is', small)

place_core : (k dk f df part r e r' e' c g : ℕ) → 0 < part → f * part ≡ r * 2 ^ 64 + e → df * part ≡ r' * 2 ^ 64 + e' → e + e' < 2 ^ 64 → f + df ≡ c * 2 ^ 64 + g → g < 2 ^ 64
    → (k + dk + c) % 2048 * part + g * part / 2 ^ 64 ≡ (k * part + r + (dk * part + r')) % (part * 2048)
place_core k dk f df part r e r' e' c g h is is' small sum word =
    let rest : g * part / 2 ^ 64 ≡ r + r' - c * part = ap (λ n. n / 2 ^ 64) (left_over f df part r e r' e' c g is is' small sum) ∙ div-mul-add (r + r' - c * part) (2 ^ 64) (e + e') small in
    let l : g * part / 2 ^ 64 < part = rest_small g part word h in
    let o : c * part ≤ r + r' = carry_small f df part r e r' e' c g is is' small sum in
    let all : k * part + r + (dk * part + r') ≡ (k + dk + c) * part + g * part / 2 ^ 64 = omega (arith, rest, o) in
    sym (ap (λ n. n % (part * 2048)) all ∙ mod_parts (k + dk + c) part (g * part / 2 ^ 64) l)

by_word : (n : ℕ) → n ≡ n / 2 ^ 64 * 2 ^ 64 + n % 2 ^ 64
by_word n = omega (arith, div-add-mod n (2 ^ 64))

word_rest : (n : ℕ) → n % 2 ^ 64 < 2 ^ 64
word_rest n = omega arith

next_place : (k dk f df part : ℕ) → 0 < part → f * part % 2 ^ 64 + df * part % 2 ^ 64 < 2 ^ 64
    → (k + dk + (f + df) / 2 ^ 64) % 2048 * part + (f + df) % 2 ^ 64 * part / 2 ^ 64 ≡ (k * part + f * part / 2 ^ 64 + (dk * part + df * part / 2 ^ 64)) % (part * 2048)
next_place k dk f df part h small =
    place_core k dk f df part (f * part / 2 ^ 64) (f * part % 2 ^ 64) (df * part / 2 ^ 64) (df * part % 2 ^ 64) ((f + df) / 2 ^ 64) ((f + df) % 2 ^ 64)
    h (by_word (f * part)) (by_word (df * part)) small (by_word (f + df)) (word_rest (f + df))

pub next_near : (f df part : ℕ) → f * part % 2 ^ 64 + df * part % 2 ^ 64 < 2 ^ 64 → (f + df) % 2 ^ 64 * part % 2 ^ 64 ≡ f * part % 2 ^ 64 + df * part % 2 ^ 64
next_near f df part small =
    ap (λ n. n % 2 ^ 64) (left_over f df part (f * part / 2 ^ 64) (f * part % 2 ^ 64) (df * part / 2 ^ 64) (df * part % 2 ^ 64) ((f + df) / 2 ^ 64) ((f + df) % 2 ^ 64)
    (by_word (f * part)) (by_word (df * part)) small (by_word (f + df)))
    ∙ mod-mul-add (f * part / 2 ^ 64 + df * part / 2 ^ 64 - (f + df) / 2 ^ 64 * part) (2 ^ 64) (f * part % 2 ^ 64 + df * part % 2 ^ 64) small

-- the phase moves as the part and the fraction do
pub goes_on : (k f df part way : ℕ) (x : ℤ) → 0 < part → way ≡ moved (part * 2048) 0 x → df * part / 2 ^ 64 ≡ way % part → f * part % 2 ^ 64 + df * part % 2 ^ 64 < 2 ^ 64
    → moved (part * 2048) (k * part + f * part / 2 ^ 64) x ≡ (k + way / part + (f + df) / 2 ^ 64) % 2048 * part + (f + df) % 2 ^ 64 * part / 2 ^ 64
goes_on k f df part way x h is rest small =
    let whole : way / part * part + df * part / 2 ^ 64 ≡ way = omega (arith, rest, div-add-mod way part) in
    let by : moved (part * 2048) (k * part + f * part / 2 ^ 64) x ≡ (k * part + f * part / 2 ^ 64 + moved (part * 2048) 0 x) % (part * 2048) =
    moved_by (part * 2048) (k * part + f * part / 2 ^ 64) x (omega (arith, h)) in
    by ∙ (ap (λ n. (k * part + f * part / 2 ^ 64 + n) % (part * 2048)) (sym is ∙ sym whole) ∙ sym (next_place k (way / part) f df part h small))

more_left : (i n : ℕ) (v : ℤ) → i < n → replicate (n - i) v ≡ v ∷ replicate (n - (i + 1)) v
more_left i n v h = let e : n - i ≡ suc (n - (i + 1)) = omega arith in ap (λ k. replicate k v) e

none_left : (i n : ℕ) (v : ℤ) → n ≤ i → replicate (n - i) v ≡ []
none_left i n v h = let e : n - i ≡ 0 = omega arith in ap (λ k. replicate k v) e

-- one sample more
pub sample_more : (f : ℕ → ℤ) (m p p' i n : ℕ) (v y : ℤ) (out all : List ℤ) → i < n → i < length out → moved m p v ≡ p' → y ≡ f p
    → take i out ++ map f (phases m p (replicate (n - i) v)) ≡ all → take (i + 1) (set out i y) ++ map f (phases m p' (replicate (n - (i + 1)) v)) ≡ all
sample_more f m p p' i n v y out all g h e w s =
    let whole : take i out ++ map f (phases m p (v ∷ replicate (n - (i + 1)) v)) ≡ all = subst (λ vs. take i out ++ map f (phases m p vs) ≡ all) (more_left i n v g) s in
    let next : take i out ++ f p ∷ map f (phases m p' (replicate (n - (i + 1)) v)) ≡ all =
    subst (λ q. take i out ++ f p ∷ map f (phases m q (replicate (n - (i + 1)) v)) ≡ all) e whole in
    rw (w, take_more_set out i (f p) h, append_assoc) next

pub phase_more : (m p p' i n whole : ℕ) (v : ℤ) → i < n → moved m p v ≡ p' → phase_after m p (replicate (n - i) v) ≡ whole → phase_after m p' (replicate (n - (i + 1)) v) ≡ whole
phase_more m p p' i n whole v g e s =
    let next : phase_after m p (v ∷ replicate (n - (i + 1)) v) ≡ whole = subst (λ vs. phase_after m p vs ≡ whole) (more_left i n v g) s in
    subst (λ q. phase_after m q (replicate (n - (i + 1)) v) ≡ whole) e next

pub samples_done : (f : ℕ → ℤ) (m p i n : ℕ) (v : ℤ) (out all : List ℤ) → n ≤ i → length out ≤ i → take i out ++ map f (phases m p (replicate (n - i) v)) ≡ all → out ≡ all
samples_done f m p i n v out all g h s =
    rw (take_all i out h, append-nil out) at (subst (λ vs. take i out ++ map f (phases m p vs) ≡ all) (none_left i n v g) s)

pub phase_done : (m p i n whole : ℕ) (v : ℤ) → n ≤ i → phase_after m p (replicate (n - i) v) ≡ whole → p ≡ whole
phase_done m p i n whole v g s = subst (λ vs. phase_after m p vs ≡ whole) (none_left i n v g) s

-- a place on the circle by its part and the rest
pub by_part : (p part f : ℕ) → f * part / 2 ^ 64 ≡ p % part → p / part * part + f * part / 2 ^ 64 ≡ p
by_part p part f e = omega (arith, e, div-add-mod p part)
