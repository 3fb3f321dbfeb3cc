-- Where two chains differ.
use Rattle.std.proofs.Common.{◌≡◌, ℕ, zero, suc, ◌+◌, ◌<◌, ◌≤◌, ◌==◌, inl, inr, List, [], ◌∷◌, sym, ap, arith}
use Rattle.std.specs.Prelude.{Some, slice_get}
use Rattle.pd_order.proofs.Basics.{by_test, same_node}
use Rattle.pd_order.proofs.BoundLemmas.{nothing_past}
use Rattle.pd_order.specs.Window.{IsWindow, first_difference, differences_end}

agree_before : (xs ys : List ℕ) (i : ℕ) → i < first_difference xs ys → slice_get xs i ≡ slice_get ys i
unfolding first_difference
agree_before [] ys i h = absurd (omega arith)
agree_before (x ∷ xs) [] i h = absurd (omega arith)
agree_before (x ∷ xs) (y ∷ ys) zero h = by_test (x == y)
    (λ t. ap Some (same_node x y t))
    (λ t. absurd (let k : 0 < 0 = rw t at h in omega arith))
agree_before (x ∷ xs) (y ∷ ys) (suc i) h = by_test (x == y)
    (λ t. let k : suc i < first_difference xs ys + 1 = rw t at h in agree_before xs ys i (omega arith))
    (λ t. absurd (let k : suc i < 0 = rw t at h in omega arith))

agree_after : (xs ys : List ℕ) (i : ℕ) → differences_end xs ys ≤ i → slice_get xs i ≡ slice_get ys i
unfolding differences_end
agree_after [] ys i h = sym (nothing_past ys i h)
agree_after (x ∷ xs) [] i h = nothing_past (x ∷ xs) i (omega arith)
agree_after (x ∷ xs) (y ∷ ys) zero h = by_test (differences_end xs ys == 0)
    (λ t. by_test (x == y)
    (λ u. ap Some (same_node x y u))
    (λ u. absurd (let k : 1 ≤ 0 = rw (t, u) at h in omega arith)))
    (λ t. absurd (let k : differences_end xs ys + 1 ≤ 0 = rw t at h in omega arith))
agree_after (x ∷ xs) (y ∷ ys) (suc i) h = by_test (differences_end xs ys == 0)
    (λ t. let z : differences_end xs ys ≡ 0 = same_node (differences_end xs ys) 0 t in agree_after xs ys i (omega arith))
    (λ t. let k : differences_end xs ys + 1 ≤ suc i = rw t at h in agree_after xs ys i (omega arith))

-- outside the places from the first difference to the last, the chains agree
pub differences_window : (old new : List ℕ) → IsWindow old new (first_difference old new) (differences_end old new)
differences_window old new i h = elim h [
  | inl a ↦ agree_before old new i a
  | inr b ↦ agree_after old new i b
]
