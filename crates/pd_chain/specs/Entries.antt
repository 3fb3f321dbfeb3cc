-- Numbers under keys.
use Rattle.std.specs.Prelude.{ℕ, ◌+◌, ◌<◌, ◌≤◌, ◌==◌, cond, List, [], ◌∷◌, length, slice_index_or}
use Rattle.std.specs.List.Sorted.{IsNonDecreasingBy}
use Rattle.pd_chain.specs.declared.entries.Entry.{Entry}

-- a table has fewer entries
abbrev pub entry_limit : ℕ
entry_limit = 4294967295

-- the values under the key x
abbrev pub values_at : List Entry → ℕ → List ℕ
values_at [] x = []
values_at (e ∷ es) x = cond (e.key == x) (e.value ∷ values_at es x) (values_at es x)

-- no entry stands behind one of a greater key
abbrev pub IsByKey : List Entry → Type 0
IsByKey es = IsNonDecreasingBy (λ e. e.key) es

-- where the entries of x begin, or would begin
pub record IsStart (es : List Entry) (x start : ℕ) : Type 0 where
  pub within : start ≤ length es
  pub before : (k : ℕ) (d : Entry) → k < start → (slice_index_or es k d).key < x
  pub behind : (k : ℕ) (d : Entry) → start ≤ k → k < length es → x ≤ (slice_index_or es k d).key

-- where they end
pub record IsEnd (es : List Entry) (x end : ℕ) : Type 0 where
  pub within : end ≤ length es
  pub before : (k : ℕ) (d : Entry) → k < end → (slice_index_or es k d).key ≤ x
  pub behind : (k : ℕ) (d : Entry) → end ≤ k → k < length es → x < (slice_index_or es k d).key

-- each key with its place, counted from i
abbrev pub numbered : ℕ → List ℕ → List Entry
numbered i [] = []
numbered i (x ∷ xs) = record { key = x; value = i } ∷ numbered (i + 1) xs
