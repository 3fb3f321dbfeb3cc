-- Which text stands for which records.
use Rattle.std.specs.Prelude.{◌≡◌, ℕ, ◌+◌, ◌<◌, ◌≤◌, drop, slice_range, slice_index, Bool, List, [], ◌∷◌, ◌++◌, length, ◌⊎◌, IsTrue, IsFalse, ◌==◌, ◌||◌, if◌then◌else◌}

-- space, tab, line feed and carriage return
abbrev pub is_space : ℕ → Bool
is_space b = b == 32 || b == 9 || b == 10 || b == 13

-- what ends a run of units: white space, a comma, a semicolon
abbrev pub is_stop : ℕ → Bool
is_stop b = is_space b || b == 44 || b == 59

abbrev pub AreSpaces : List ℕ → Type 0
AreSpaces [] = Unit {0}
AreSpaces (b ∷ bs) = IsTrue (is_space b) × AreSpaces bs

-- A run of units: a backslash takes the byte after it along, and any other byte is none of the special ones.
abbrev pub AreUnits : List ℕ → Type 0
AreUnits [] = Unit {0}
AreUnits (b ∷ []) = IsFalse (b == 92) × IsFalse (is_stop b)
AreUnits (b ∷ c ∷ cs) = (IsTrue (b == 92) × AreUnits cs) ⊎ (IsFalse (b == 92) × IsFalse (is_stop b) × AreUnits (c ∷ cs))

-- a token: a run of units, or a comma by itself
pub data Piece : Type 0 where
  Word : List ℕ → Piece
  Comma : Piece

abbrev pub piece_text : Piece → List ℕ
piece_text (Word w) = w
piece_text Comma = 44 ∷ []

abbrev pub IsPiece : Piece → Type 0
IsPiece (Word w) = (0 < length w) × AreUnits w
IsPiece Comma = Unit {0}

-- a run of units is a longest one where nothing or a special byte comes behind it
abbrev pub IsStopped : List ℕ → Type 0
IsStopped [] = Unit {0}
IsStopped (b ∷ bs) = IsTrue (is_stop b)

abbrev pub IsLongest : Piece → List ℕ → Type 0
IsLongest (Word w) rest = IsStopped rest
IsLongest Comma rest = Unit {0}

-- what stands before a record's semicolon: these tokens, with white space between them or around them
abbrev pub StandsForPieces : List ℕ → List Piece → Type 0
StandsForPieces text [] = AreSpaces text
StandsForPieces text (p ∷ ps) =
    (before : List ℕ) × (rest : List ℕ) × AreSpaces before × IsPiece p × (text ≡ before ++ (piece_text p ++ rest)) × IsLongest p rest ×
    StandsForPieces rest ps

-- the text is these records, and then white space alone
abbrev pub StandsFor : List ℕ → List (List Piece) → Type 0
StandsFor text [] = AreSpaces text
StandsFor text (r ∷ rs) =
    (front : List ℕ) × (rest : List ℕ) × StandsForPieces front r × (text ≡ front ++ (59 ∷ rest)) × StandsFor rest rs

-- the bytes of a run of units
abbrev pub unescaped : List ℕ → List ℕ
unescaped [] = []
unescaped (b ∷ []) = b ∷ []
unescaped (b ∷ c ∷ cs) = if b == 92 then c ∷ unescaped cs else b ∷ unescaped (c ∷ cs)

-- k is the first place from `at` on with a backslash and a byte behind it
pub record IsEscape (token : List ℕ) (at k : ℕ) : Type 0 where
  pub from : at ≤ k
  pub within : k + 1 < length token
  pub bytes : unescaped (drop at token) ≡ slice_range token at k ++ slice_index token (k + 1) ∷ unescaped (drop (k + 2) token)

-- white space, comma, semicolon, dollar and backslash
abbrev pub is_special : ℕ → Bool
is_special b = is_stop b || b == 36 || b == 92

-- with a backslash before each special byte
abbrev pub escaped : List ℕ → List ℕ
escaped [] = []
escaped (b ∷ bs) = if is_special b then 92 ∷ b ∷ escaped bs else b ∷ escaped bs

-- k is the first place from `at` on with a special byte
pub record IsSpecial (name : List ℕ) (at k : ℕ) : Type 0 where
  pub from : at ≤ k
  pub within : k < length name
  pub bytes : escaped (drop at name) ≡ slice_range name at k ++ 92 ∷ slice_index name k ∷ escaped (drop (k + 1) name)
