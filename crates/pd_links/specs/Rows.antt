-- Lists of keys under keys.
use Rattle.std.specs.Prelude.{◌≡◌, ◌≢◌, ℕ, ◌+◌, ◌-◌, ◌<◌, ◌≤◌, ◌^◌, List, [], length, slice_get, Option, None, Some, vec_len, vec_capacity}
use Rattle.std.specs.declared.vec.Vec.{Vec}
use Rattle.std.specs.declared.alloc.Global.{Global}

abbrev pub keys_in : Option (Vec ℕ Global) → List ℕ
keys_in None = []
keys_in (Some v) = v.items

-- how many more keys a list takes without memory
abbrev pub spare_in : Option (Vec ℕ Global) → ℕ
spare_in None = 0
spare_in (Some v) = vec_capacity v - vec_len v

-- the keys under the key k, in any order and with repeats
abbrev pub keys_at : List (Vec ℕ Global) → ℕ → List ℕ
keys_at rows k = keys_in (slice_get rows k)

abbrev pub spare_at : List (Vec ℕ Global) → ℕ → ℕ
spare_at rows k = spare_in (slice_get rows k)

-- a number of 32 bits counts the keys under each key, and one more
abbrev pub AreFew : List (Vec ℕ Global) → Type 0
AreFew rows = (k : ℕ) → length (keys_at rows k) + 1 < 2 ^ 32

-- every list has the same keys, and room for at least as many more
pub record SameRows (old new : List (Vec ℕ Global)) : Type 0 where
  pub keys : (k : ℕ) → keys_at new k ≡ keys_at old k
  pub spare : (k : ℕ) → spare_at old k ≤ spare_at new k

-- every list but the one under the key is as it was, its room too
abbrev pub OthersStay : List (Vec ℕ Global) → List (Vec ℕ Global) → ℕ → Type 0
OthersStay old new key = (k : ℕ) → k ≢ key → slice_get new k ≡ slice_get old k
