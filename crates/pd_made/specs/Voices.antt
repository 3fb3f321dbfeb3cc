-- The voices of a made patch: their numbers, and the words of their texts in a table.
use Rattle.std.specs.Prelude.{◌≡◌, ℕ, zero, suc, List, [], ◌∷◌, ◌++◌, codes, position, bytes_eq, unwrap_or, Some}
use Rattle.pd_atom.specs.Names.{Names, interned}
use Rattle.pd_made.specs.declared.words.Words.{Words}

-- the numbers of n voices: 1, 2, .. n
abbrev pub voices : ℕ → List ℕ
voices zero = []
voices (suc n) = voices n ++ suc n ∷ []

-- the table with a name, which goes last where it is new
abbrev pub with_name : Names → List ℕ → Names
with_name names name = (interned names name).names

-- the table with the words of a made patch, in the order of its text
abbrev pub with_words : Names → Names
with_words names = with_name (with_name (with_name names (codes "dac~")) (codes "osc~")) (codes "*~")

-- the number of a name that the table has
abbrev pub number_of : Names → List ℕ → ℕ
number_of names name = unwrap_or (position (bytes_eq name) names) 0

-- the words of a made patch in a table that has them
abbrev pub words_in : Names → Words
words_in names = record { output = number_of names (codes "dac~"); oscillator = number_of names (codes "osc~"); factor = number_of names (codes "*~") }

-- these are the places of the words in the table
pub record AreWords (names : Names) (words : Words) : Type 0 where
  pub output : position (bytes_eq (codes "dac~")) names ≡ Some words.output
  pub oscillator : position (bytes_eq (codes "osc~")) names ≡ Some words.oscillator
  pub factor : position (bytes_eq (codes "*~")) names ≡ Some words.factor
