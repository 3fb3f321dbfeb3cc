-- Lists by key: the numbers of boxes, and the blocks of their outlets.
use Rattle.std.specs.Prelude.{◌≡◌, ◌≢◌, ◌<◌, ◌≤◌, ℕ, List, ◌++◌, drop, replicate, slice_get, Some}
use Rattle.pd_patch.specs.Numbers.{IsOut}

-- the list has so many more elements behind, each this one
abbrev pub IsLonger : {X : Type 0} → X → List X → List X → Type 0
IsLonger x old new = (n : ℕ) × (new ≡ old ++ replicate n x)

-- under the key of each box of a canvas from a number on stands its number, and what stands under other keys stays
pub record NumbersFrom (old new keys : List ℕ) (number : ℕ) : Type 0 where
  pub under : (i k : ℕ) → number ≤ i → slice_get keys i ≡ Some k → slice_get new k ≡ Some i
  pub others : (k : ℕ) → IsOut (drop number keys) k → slice_get new k ≡ slice_get old k

-- the same of the boxes with numbers from one on and below another
pub record NumbersBetween (old new keys : List ℕ) (number end : ℕ) : Type 0 where
  pub under : (i k : ℕ) → number ≤ i → i < end → slice_get keys i ≡ Some k → slice_get new k ≡ Some i
  pub others : (k : ℕ) → IsOut (drop number keys) k → slice_get new k ≡ slice_get old k

-- under a key stands this, and what stands under other keys stays
pub record PutsUnder {X : Type 0} (old new : List X) (key : ℕ) (x : X) : Type 0 where
  pub is : slice_get new key ≡ Some x
  pub others : (k : ℕ) → k ≢ key → slice_get new k ≡ slice_get old k
