-- A loop over a block has written what its definition gives, once nothing is left of the inputs.
use Rattle.std.proofs.Common.{◌≡◌, refl, sym, subst, inl, inr, ◌∙◌, ap, ℕ, zero, suc, ℤ, ◌+◌, ◌-◌, ◌<◌, ◌≤◌, min, List, [], ◌∷◌, length, map, replicate, ◌++◌, take, drop, slice_set, arith}
use Rattle.std.proofs.lemmas.List.{take_all, drop_all, append-nil, take_more_set, take-append-le, length-drop}
use Rattle.std.proofs.lemmas.List.FromFn.{map-range_with_len_more}
use Rattle.std.proofs.lemmas.Bool.{cases_lt}
use Rattle.std.proofs.Math.Seq.{take-append-add}
use Rattle.std.specs.List.{range_with_len}
use Rattle.pd_signal.specs.Samples.{zip_with, low_passed, kept_values}

pub ended : (out rest whole : List ℤ) (i : ℕ) → length out ≤ i → rest ≡ [] → take i out ++ rest ≡ whole → out ≡ whole
ended out rest whole i o r e =
    let all : take i out ≡ out = take_all i out o in
    rw (r, all, append-nil) at e

pub map_ended : (f : ℤ → ℤ) (xs out whole : List ℤ) (i : ℕ) → length xs ≤ i → length out ≤ i
    → take i out ++ map f (drop i xs) ≡ whole → out ≡ whole
map_ended f xs out whole i x o e = ended out (map f (drop i xs)) whole i o (ap (map f) (drop_all i xs x)) e

pub zip_ended : (f : ℤ → ℤ → ℤ) (xs ys out whole : List ℤ) (i : ℕ) → length xs ≤ i → length out ≤ i
    → take i out ++ zip_with f (drop i xs) (drop i ys) ≡ whole → out ≡ whole
zip_ended f xs ys out whole i x o e = ended out (zip_with f (drop i xs) (drop i ys)) whole i o (ap (λ z. zip_with f z (drop i ys)) (drop_all i xs x)) e

-- a block with one value
pub zip_replicate : (f : ℤ → ℤ → ℤ) (v : ℤ) (xs : List ℤ) (n : ℕ) → length xs ≡ n → zip_with f xs (replicate n v) ≡ map (λ x. f x v) xs
zip_replicate f v [] n e = refl
zip_replicate f v (x ∷ xs) zero e = absurd (omega arith)
zip_replicate f v (x ∷ xs) (suc n) e = ap (λ zs. f x v ∷ zs) (zip_replicate f v xs n (omega arith))

pub low_ended : (k v : ℤ) (xs out whole : List ℤ) (i : ℕ) → length xs ≤ i → length out ≤ i
    → take i out ++ low_passed k v (drop i xs) ≡ whole → out ≡ whole
low_ended k v xs out whole i x o e = ended out (low_passed k v (drop i xs)) whole i o (ap (low_passed k v) (drop_all i xs x)) e

pub kept_ended : (last kept : ℤ) (xs ys out whole : List ℤ) (i : ℕ) → length xs ≤ i → length out ≤ i
    → take i out ++ kept_values last kept (drop i xs) (drop i ys) ≡ whole → out ≡ whole
kept_ended last kept xs ys out whole i x o e =
    ended out (kept_values last kept (drop i xs) (drop i ys)) whole i o (ap (λ z. kept_values last kept z (drop i ys)) (drop_all i xs x)) e

-- one value more of a range
pub range_more : (f : ℕ → ℤ) (out : List ℤ) (a i : ℕ) (v : ℤ) → i < length out → v ≡ f (a + i) → take i out ≡ map f (range_with_len a i)
    → take (i + 1) (slice_set out i v) ≡ map f (range_with_len a (i + 1))
range_more f out a i v lt e h =
    take_more_set out i v lt ∙ (ap (λ xs. xs ++ v ∷ []) h ∙ (ap (λ z. map f (range_with_len a i) ++ z ∷ []) e ∙ sym (map-range_with_len_more f a i (a + i) refl)))

abbrev Reads : List ℤ → ℕ → ℕ → Type 0
Reads ring at first = take first (drop at ring) ++ take (64 - first) ring ≡ take 64 (drop at ring ++ ring)

-- the two parts of a ring that are read from a place on
far_parts : (ring : List ℤ) (at : ℕ) → 64 ≤ length (drop at ring) → take 64 (drop at ring) ++ take 0 ring ≡ take 64 (drop at ring ++ ring)
far_parts ring at far = append-nil (take 64 (drop at ring)) ∙ sym (take-append-le 64 (drop at ring) ring far)

near_parts : (ring : List ℤ) (at : ℕ) → length (drop at ring) ≤ 64
    → take (length (drop at ring)) (drop at ring) ++ take (64 - length (drop at ring)) ring ≡ take 64 (drop at ring ++ ring)
near_parts ring at near =
    let all : take (length (drop at ring)) (drop at ring) ≡ drop at ring = take_all (length (drop at ring)) (drop at ring) (omega arith) in
    let joined : take (length (drop at ring) + (64 - length (drop at ring))) (drop at ring ++ ring) ≡ drop at ring ++ take (64 - length (drop at ring)) ring =
    take-append-add (drop at ring) ring (64 - length (drop at ring)) in
    let sum : length (drop at ring) + (64 - length (drop at ring)) ≡ 64 = omega arith in
    ap (λ xs. xs ++ take (64 - length (drop at ring)) ring) all ∙ (sym joined ∙ ap (λ n. take n (drop at ring ++ ring)) sum)

pub read_parts : (ring : List ℤ) (at first : ℕ) → first ≡ min (length ring - at) 64
    → take first (drop at ring) ++ take (64 - first) ring ≡ take 64 (drop at ring ++ ring)
read_parts ring at first e =
    let len : length (drop at ring) ≡ length ring - at = length-drop at ring in
    elim (cases_lt 64 (length (drop at ring))) [
      | inl far ↦ (let is : first ≡ 64 = omega arith in subst (Reads ring at) (sym is) (far_parts ring at (omega arith)))
      | inr near ↦ (let is : first ≡ length (drop at ring) = omega arith in subst (Reads ring at) (sym is) (near_parts ring at near))
    ]
