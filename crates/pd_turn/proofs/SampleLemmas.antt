-- A block of samples as a list.
use Rattle.std.proofs.Common.{◌≡◌, ℕ, ℤ, pos, ◌+◌, ◌*◌, List, length, map, sym, ◌∙◌, zero-add, arith}
use Rattle.std.specs.List.{range_with_len}
use Rattle.std.proofs.lemmas.List.{ext_get_or}
use Rattle.std.proofs.lemmas.List.FromFn.{get_or-map-range_with_len, length-map-range_with_len}
use Rattle.pd_vline.specs.Ramps.{AreSamples}
use Rattle.pd_turn.specs.Rows.{values_from}

pub samples_are : (xs : List ℤ) (f : ℕ → ℤ) (start : ℕ) → length xs ≡ 64 → AreSamples xs f start → xs ≡ values_from f start
samples_are xs f start l h =
    let g : ℕ → ℤ = λ i. f (start + i * 1000000000) in
    ext_get_or (pos 0) xs (map g (range_with_len 0 64)) (l ∙ sym (length-map-range_with_len g 0 64))
    (λ i few. h i (omega arith) ∙ sym (get_or-map-range_with_len g 0 64 i i (pos 0) (omega arith) (zero-add i)))
