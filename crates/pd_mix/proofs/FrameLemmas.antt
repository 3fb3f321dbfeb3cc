-- One frame more of the samples of a block.
use Rattle.std.proofs.Common.{◌≡◌, refl, sym, ◌∙◌, ap, ℕ, ℤ, ◌+◌, ◌-◌, ◌*◌, ◌<◌, ◌≤◌, suc, List, [], ◌∷◌, ◌++◌, length, take, drop, get_or, append_assoc, add-one, arith, drop-cons, length-drop}
use Rattle.std.proofs.lemmas.List.{append-nil, take_all, drop_all, length-take-le}
use Rattle.std.proofs.lemmas.Slice.{take-put_mid}
use borrow.Rule.Slice.PartMut.{mid_of, put_mid, same_len_mid}
use Rattle.pd_mix.specs.Samples.{sample_bytes, frames}

-- the frames of the values from a place on
frames_from : (left right : List ℤ) (i : ℕ) (x y : ℤ) → i < length left → i < length right
    → frames (drop i left) (drop i right) ≡ sample_bytes (get_or left i x) ++ (sample_bytes (get_or right i y) ++ frames (drop (suc i) left) (drop (suc i) right))
unfolding frames
frames_from left right i x y l r =
    let a : drop i left ≡ get_or left i x ∷ drop (suc i) left = drop-cons left i x l in
    let b : drop i right ≡ get_or right i y ∷ drop (suc i) right = drop-cons right i y r in
    rw (a, b) refl

joined : (xs a b rest : List ℕ) → (xs ++ (a ++ (b ++ []))) ++ rest ≡ xs ++ (a ++ (b ++ rest))
joined xs a b rest = simp (append_assoc, append-nil)

-- the part of the samples that a frame takes up
part_len : (out : List ℕ) (i k : ℕ) → i < 64 → length out ≡ 256 → k ≡ 4 → length (mid_of (4 * i) k out) ≡ 4
part_len out i k lt o e = length-take-le k (drop (4 * i) out) (omega (arith, length-drop (4 * i) out)) ∙ e

frame_is : (out ys a b : List ℕ) (i k : ℕ) → i < 64 → length out ≡ 256 → k ≡ 4 → ys ≡ a ++ (b ++ drop 4 (mid_of (4 * i) k out)) → ys ≡ a ++ (b ++ [])
frame_is out ys a b i k lt o e h = h ∙ ap (λ z. a ++ (b ++ z)) (drop_all 4 (mid_of (4 * i) k out) (omega (arith, part_len out i k lt o e)))

four : (x y : ℤ) → length (sample_bytes x ++ (sample_bytes y ++ [])) ≡ 4
four x y = refl

pub frame_more : (out ys : List ℕ) (left right : List ℤ) (whole : List ℕ) (i k : ℕ) (x y : ℤ) → i < 64 → k ≡ 4 → length left ≡ 64 → length right ≡ 64 → length out ≡ 256
    → ys ≡ sample_bytes (get_or left i x) ++ (sample_bytes (get_or right i y) ++ drop 4 (mid_of (4 * i) k out))
    → take (4 * i) out ++ frames (drop i left) (drop i right) ≡ whole
    → take (4 * (i + 1)) (put_mid (4 * i) k out ys) ++ frames (drop (i + 1) left) (drop (i + 1) right) ≡ whole
frame_more out ys left right whole i k x y lt e l r o h w =
    let is = frame_is out ys (sample_bytes (get_or left i x)) (sample_bytes (get_or right i y)) i k lt o e h in
    let n : length ys ≡ 4 = ap length is ∙ four (get_or left i x) (get_or right i y) in
    let front : take (4 * (i + 1)) (put_mid (4 * i) k out ys) ≡ take (4 * i) out ++ ys = take-put_mid (4 * i) k out ys (4 * (i + 1)) (omega arith) (omega arith) in
    let from = frames_from left right i x y (omega arith) (omega arith) in
    let more = joined (take (4 * i) out) (sample_bytes (get_or left i x)) (sample_bytes (get_or right i y)) (frames (drop (suc i) left) (drop (suc i) right)) in
    rw (front, add-one) (ap (λ z. (take (4 * i) out ++ z) ++ frames (drop (suc i) left) (drop (suc i) right)) is ∙ more ∙ ap (λ z. take (4 * i) out ++ z) (sym from) ∙ w)

pub frame_len : (out ys : List ℕ) (left right : List ℤ) (i k : ℕ) (x y : ℤ) → i < 64 → k ≡ 4 → length out ≡ 256
    → ys ≡ sample_bytes (get_or left i x) ++ (sample_bytes (get_or right i y) ++ drop 4 (mid_of (4 * i) k out)) → length (put_mid (4 * i) k out ys) ≡ 256
frame_len out ys left right i k x y lt e o h =
    let is = frame_is out ys (sample_bytes (get_or left i x)) (sample_bytes (get_or right i y)) i k lt o e h in
    same_len_mid (4 * i) k out ys (ap length is ∙ four (get_or left i x) (get_or right i y) ∙ sym (part_len out i k lt o e)) ∙ o

pub frames_ended : (out : List ℕ) (left right : List ℤ) (whole : List ℕ) (i : ℕ) → i ≡ 64 → length left ≡ 64 → length out ≡ 256
    → take (4 * i) out ++ frames (drop i left) (drop i right) ≡ whole → out ≡ whole
unfolding frames
frames_ended out left right whole i n l o h =
    let none : drop i left ≡ [] = drop_all i left (omega arith) in
    let all : take (4 * i) out ≡ out = take_all (4 * i) out (omega arith) in
    rw (none, all, append-nil) at h
