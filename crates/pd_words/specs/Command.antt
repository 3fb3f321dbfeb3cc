-- The words of a command, as they are written.
use Rattle.std.specs.Prelude.{◌≡◌, List, [], ◌∷◌, ◌++◌, map, flat_map, Some, codes}
use Rattle.pd_words.specs.Grammar.{Asked, Part, Text, a_make, a_patch, a_rate, asked_by, part}

-- a patch, or an option with its value: as two words, or as one, joined by `=`
pub data Piece : Type 0 where
  patch : Text → Piece
  rate : Text → Piece
  rate_joined : Text → Piece
  make : Text → Piece
  make_joined : Text → Piece

abbrev pub written : Piece → List Text
written (patch name) = name ∷ []
written (rate value) = codes "--rate" ∷ value ∷ []
written (rate_joined value) = (codes "--rate=" ++ value) ∷ []
written (make value) = codes "--make" ∷ value ∷ []
written (make_joined value) = (codes "--make=" ++ value) ∷ []

abbrev pub part_of : Piece → Part
part_of (patch name) = part a_patch name
part_of (rate value) = part a_rate value
part_of (rate_joined value) = part a_rate value
part_of (make value) = part a_make value
part_of (make_joined value) = part a_make value

-- the words are those of some pieces, one behind the other, which ask for this
abbrev pub IsCommand : List Text → Asked → Type 0
IsCommand words asked = (pieces : List Piece) × (words ≡ flat_map written pieces) × (asked_by (map part_of pieces) ≡ Some asked)
