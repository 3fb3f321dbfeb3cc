-- Bytes that come in pieces are tallied as those that come at once.
use Rattle.std.proofs.Common.{◌≡◌, ℕ, ◌+◌, ◌-◌, ◌^◌, ◌≤◌, List, [], ◌∷◌, ◌++◌, length, Option, Some, None, refl, sym, ap, ◌∙◌, arith, append_assoc, length-append}
use Rattle.pd_made.specs.declared.tally.Tally.{Tally}
use Rattle.pd_made.specs.Tallies.{magnitudes, half, bytes_held, bounded, tallied}

half_join : (xs ys : List ℕ) → half (bytes_held (half xs) ++ ys) ≡ half (xs ++ ys)
half_join [] ys = refl
half_join (low ∷ []) ys = refl
half_join (low ∷ high ∷ xs) ys = half_join xs ys

magnitudes_join : (xs ys : List ℕ) → magnitudes xs + magnitudes (bytes_held (half xs) ++ ys) ≡ magnitudes (xs ++ ys)
magnitudes_join [] ys = omega arith
magnitudes_join (low ∷ []) ys = omega arith
magnitudes_join (low ∷ high ∷ xs) ys = omega (arith, magnitudes_join xs ys)

abbrev tally_by : ℕ → ℕ → Option ℕ → Tally
tally_by sum count low = record { sum = sum; count = count; low = low }

same_tally : (a b d e : ℕ) (c f : Option ℕ) → a ≡ d → b ≡ e → c ≡ f → tally_by a b c ≡ tally_by d e f
same_tally a b d e c f p q r = cc

bounded_join : (a b c d : ℕ) → b + c ≡ d → bounded (bounded (a + b) + c) ≡ bounded (a + d)
bounded_join a b c d e = omega arith

pub tallied_join : (t : Tally) (xs ys : List ℕ) → tallied (tallied t xs) ys ≡ tallied t (xs ++ ys)
tallied_join t xs ys =
    let held = bytes_held t.low in
    same_tally
    (bounded (bounded (t.sum + magnitudes (held ++ xs)) + magnitudes (bytes_held (half (held ++ xs)) ++ ys)))
    (bounded (bounded (t.count + length xs) + length ys))
    (bounded (t.sum + magnitudes (held ++ (xs ++ ys)))) (bounded (t.count + length (xs ++ ys)))
    (half (bytes_held (half (held ++ xs)) ++ ys)) (half (held ++ (xs ++ ys)))
    (bounded_join t.sum (magnitudes (held ++ xs)) (magnitudes (bytes_held (half (held ++ xs)) ++ ys)) (magnitudes (held ++ (xs ++ ys)))
    (magnitudes_join (held ++ xs) ys ∙ ap magnitudes (append_assoc held xs ys)))
    (bounded_join t.count (length xs) (length ys) (length (xs ++ ys)) (sym (length-append xs ys)))
    (half_join (held ++ xs) ys ∙ ap half (append_assoc held xs ys))

bounded_same : (n m : ℕ) → n ≤ 2 ^ 64 - 1 → m ≡ 0 → bounded (n + m) ≡ n
bounded_same n m h e = omega arith

held_alone : (low : Option ℕ) → magnitudes (bytes_held low ++ []) ≡ 0
held_alone None = refl
held_alone (Some l) = refl

half_alone : (low : Option ℕ) → half (bytes_held low ++ []) ≡ low
half_alone None = refl
half_alone (Some l) = refl

pub tallied_none : (t : Tally) → t.sum ≤ 2 ^ 64 - 1 → t.count ≤ 2 ^ 64 - 1 → tallied t [] ≡ t
tallied_none t s k =
    same_tally (bounded (t.sum + magnitudes (bytes_held t.low ++ []))) (bounded (t.count + 0)) t.sum t.count (half (bytes_held t.low ++ [])) t.low
    (bounded_same t.sum (magnitudes (bytes_held t.low ++ [])) s (held_alone t.low)) (bounded_same t.count 0 k refl) (half_alone t.low)
