-- Parts of a list between two places.
use Rattle.std.proofs.Common.{◌≡◌, ℕ, ◌+◌, ◌-◌, ◌≤◌, List, ◌++◌, length, take, drop, sym, ap, ◌∙◌, arith, length-take, length-drop}
use Rattle.std.specs.Prelude.{slice_range}
use Rattle.std.proofs.Math.Seq.{take-add}
use Rattle.std.proofs.lemmas.List.{drop-take, drop-drop, drop-append-le}
use Rattle.std.proofs.lemmas.Slice.{between_is}

pub range-drop : (xs : List ℕ) (s e n : ℕ) → n ≤ e - s → slice_range xs (s + n) e ≡ drop n (slice_range xs s e)
range-drop xs s e n h =
    let m : ℕ = e - (s + n) in
    let i : e - s ≡ n + m = omega arith in
    sym (ap (λ k. drop n (take k (drop s xs))) i ∙ drop-take n m (drop s xs) ∙ ap (take m) (drop-drop n s xs))

pub range_from_front : (xs ys : List ℕ) (s e : ℕ) → take e ys ≡ take e xs → slice_range ys s e ≡ slice_range xs s e
range_from_front xs ys s e h = between_is ys s e ∙ ap (drop s) h ∙ sym (between_is xs s e)

pub range-join : (xs : List ℕ) (s e n : ℕ) → s ≤ e → e ≤ length xs → slice_range xs s (e + n) ≡ slice_range xs s e ++ slice_range xs e (e + n)
range-join xs s e n h l =
    let k : s ≤ length (take e xs) = omega (arith, length-take e xs) in
    let m : n ≡ e + n - e = omega arith in
    between_is xs s (e + n) ∙ ap (drop s) (take-add e n xs) ∙ drop-append-le s (take e xs) (take n (drop e xs)) k
    ∙ ap (λ (front : List ℕ). front ++ take n (drop e xs)) (sym (between_is xs s e))
    ∙ ap (λ (j : ℕ). slice_range xs s e ++ take j (drop e xs)) m

pub length-range : (xs : List ℕ) (s e : ℕ) → e ≤ length xs → length (slice_range xs s e) ≡ e - s
length-range xs s e h = omega (arith, length-take (e - s) (drop s xs), length-drop s xs)

-- a part that was moved, and then bytes were read behind it
pub moved_part : (store first moved second last part : List ℕ) (i j s e : ℕ) → slice_range store i j ≡ part → first ≡ store →
    slice_range moved s e ≡ slice_range first i j → second ≡ moved → take e last ≡ take e second → slice_range last s e ≡ part
moved_part store first moved second last part i j s e is a m b f =
    range_from_front second last s e f ∙ ap (λ (l : List ℕ). slice_range l s e) b ∙ m ∙ ap (λ (l : List ℕ). slice_range l i j) a ∙ is
