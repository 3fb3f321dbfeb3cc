-- The numbers of boxes in their canvases, each under the key of its box.
use Rattle.std.specs.Prelude.{◌≡◌, ◌≢◌, ◌<◌, ℕ, List, slice_get, Some}
use Rattle.pd_grove.specs.declared.grove.Grove.{Grove}
use Rattle.pd_web.specs.Canvases.{keys_at, IsOwn}

-- what stood in the table stands there still
abbrev pub Keeps : List ℕ → List ℕ → Type 0
Keeps old new = (k n : ℕ) → slice_get old k ≡ Some n → slice_get new k ≡ Some n

-- what stood in the table at all places but one stands there still
abbrev pub StayBut : List ℕ → List ℕ → ℕ → Type 0
StayBut old new key = (k n : ℕ) → k ≢ key → slice_get old k ≡ Some n → slice_get new k ≡ Some n

-- no box of the list has this key
abbrev pub IsOut : List ℕ → ℕ → Type 0
IsOut keys k = (i : ℕ) → slice_get keys i ≡ Some k → ⊥

-- what stood in the table at places that are none of these keys stands there still
pub record Spares (old new keys : List ℕ) : Type 0 where
  pub others : (k n : ℕ) → IsOut keys k → slice_get old k ≡ Some n → slice_get new k ≡ Some n

-- no box stands twice in the list
abbrev pub AreApart : List ℕ → Type 0
AreApart keys = (i j k : ℕ) → slice_get keys i ≡ Some k → slice_get keys j ≡ Some k → i ≡ j

-- under the keys of the first so many boxes stand their numbers
abbrev pub AreUnderFirst : ℕ → List ℕ → List ℕ → Type 0
AreUnderFirst n numbers keys = (i k : ℕ) → i < n → slice_get keys i ≡ Some k → slice_get numbers k ≡ Some i

-- under the key of each box of a canvas stands its number
abbrev pub AreUnder : List ℕ → List ℕ → Type 0
AreUnder numbers keys = (i k : ℕ) → slice_get keys i ≡ Some k → slice_get numbers k ≡ Some i

-- under the key of each box that stands once in its canvas and in no other stands its number
abbrev pub AreNumbered : Grove → List ℕ → Type 0
AreNumbered g numbers = (c : ℕ) → IsOwn g c → AreUnder numbers (keys_at g c)
