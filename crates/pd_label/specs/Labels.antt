-- Labels of keys, which rise along lists of keys.
use Rattle.std.specs.Prelude.{◌≡◌, ◌≢◌, ◌<◌, ℕ, List, Some, length, slice_get, slice_index}

-- the label of a key
abbrev pub label_of : List ℕ → ℕ → ℕ
label_of labels k = slice_index labels k

-- of two keys of the list the later one has the greater label
abbrev pub Rise : List ℕ → List ℕ → Type 0
Rise labels keys = (i j a b : ℕ) → i < j → slice_get keys i ≡ Some a → slice_get keys j ≡ Some b → label_of labels a < label_of labels b

-- the same where the key of one number is left out
abbrev pub RiseBut : ℕ → List ℕ → List ℕ → Type 0
RiseBut n labels keys =
    (i j a b : ℕ) → i < j → i ≢ n → j ≢ n → slice_get keys i ≡ Some a → slice_get keys j ≡ Some b → label_of labels a < label_of labels b

-- the label is above those of the keys before this number, and below those of the keys behind it
pub record IsBetween (labels keys : List ℕ) (n label : ℕ) : Type 0 where
  pub above : (i a : ℕ) → i < n → slice_get keys i ≡ Some a → label_of labels a < label
  pub below : (i a : ℕ) → n < i → slice_get keys i ≡ Some a → label < label_of labels a

-- each key has a label
abbrev pub Reach : List ℕ → List ℕ → Type 0
Reach labels keys = (i k : ℕ) → slice_get keys i ≡ Some k → k < length labels

-- each key stands once
abbrev pub AreApart : List ℕ → Type 0
AreApart keys = (i j k : ℕ) → slice_get keys i ≡ Some k → slice_get keys j ≡ Some k → i ≡ j

-- the key is not in the list
abbrev pub IsAway : List ℕ → ℕ → Type 0
IsAway keys k = (i : ℕ) → slice_get keys i ≢ Some k

-- the key of this number has got a label: labels rise along the list if they did without this key, and each key outside it has the label that it had
pub record PutsLabel (old new keys : List ℕ) (n : ℕ) : Type 0 where
  pub rise : Reach old keys → AreApart keys → RiseBut n old keys → Rise new keys
  pub others : (k : ℕ) → IsAway keys k → label_of new k ≡ label_of old k
  pub long : length new ≡ length old
