-- A walk along a list, which has met the items so far and holds what comes next.
use Rattle.std.proofs.Common.{◌≡◌, ℕ, ◌+◌, ◌-◌, ◌<◌, List, [], ◌∷◌, ◌++◌, length, take, Option, Some, None, refl, sym, ap, ◌∙◌, inl, inr, arith}
use Rattle.std.specs.List.{slice_get}
use Rattle.std.proofs.lemmas.Bool.{cases_lt}
use Rattle.std.proofs.lemmas.List.{take_more, take_all, length-append}
use Rattle.std.proofs.lemmas.Option.{slice_get_within, get_or_from_slice_get, slice_get-get_or}

-- the items are the front of the list, and next is what stands behind them
pub record Walks (xs items : List ℕ) (next : Option ℕ) : Type 0 where
  pub front : items ≡ take (length items) xs
  pub behind : next ≡ slice_get xs (length items)

pub walk_begins : (xs : List ℕ) (next : Option ℕ) → next ≡ slice_get xs 0 → Walks xs [] next
walk_begins xs next q = record { front = refl; behind = q }

length_more : (items : List ℕ) (key : ℕ) → length (items ++ key ∷ []) ≡ length items + 1
length_more items key = length-append items (key ∷ [])

pub walk_steps : (xs items : List ℕ) (key : ℕ) (next : Option ℕ) → Walks xs items (Some key) → next ≡ slice_get xs (length items + 1) → Walks xs (items ++ key ∷ []) next
walk_steps xs items key next w q =
    let n = length items in
    let here : slice_get xs n ≡ Some key = sym w.behind in
    let more : length (items ++ key ∷ []) ≡ n + 1 = length_more items key in
    record {
      front =
          ap (λ ys. ys ++ key ∷ []) w.front
          ∙ ap (λ k. take n xs ++ k ∷ []) (sym (get_or_from_slice_get xs n key 0 here))
          ∙ sym (take_more xs n 0 (slice_get_within xs n key here))
          ∙ ap (λ m. take m xs) (sym more);
      behind = q ∙ ap (slice_get xs) (sym more);
    }

pub walk_ends : (xs items : List ℕ) → Walks xs items None → items ≡ xs
walk_ends xs items w = elim (cases_lt (length items) (length xs)) [
  | inl lt ↦ absurd (none_some (w.behind ∙ slice_get-get_or xs (length items) 0 lt))
  | inr ge ↦ w.front ∙ take_all (length items) xs ge
]
  where
    none_some : {x : ℕ} → None ≡ Some x → ⊥
    none_some q = cc

pub walk_left : (xs items : List ℕ) (key : ℕ) → Walks xs items (Some key) → length items < length xs
walk_left xs items key w = slice_get_within xs (length items) key (sym w.behind)

pub walk_less : (xs items : List ℕ) (key : ℕ) → Walks xs items (Some key) → length xs - length (items ++ key ∷ []) < length xs - length items
walk_less xs items key w = omega (arith, length_more items key, walk_left xs items key w)
