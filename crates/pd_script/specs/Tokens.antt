-- The tokens of a record, each as its bytes without its escapes.
use Rattle.std.specs.Prelude.{ℕ, ◌<◌, ◌≤◌, ◌==◌, Bool, IsTrue, List, [], ◌∷◌, length, map, Option, Some, None, if◌then◌else◌, nat_lt}
use Rattle.std.specs.List.{AllByRecursion}
use Rattle.pd_lex.specs.Text.{Piece, unescaped}
use Rattle.pd_lex.specs.Text.Piece.{Word, Comma}
use Rattle.pd_lex.specs.Reading.{pieces, is_body}

abbrev pub bytes_of : Piece → List ℕ
bytes_of (Word w) = unescaped w
bytes_of Comma = 44 ∷ []

abbrev pub tokens_of : List ℕ → List (List ℕ)
tokens_of body = map bytes_of (pieces body)

-- more bytes than a token may have
abbrev pub is_long : List ℕ → Bool
is_long token = nat_lt 255 (length token)

-- a byte at least, and as many as a token may have
abbrev pub IsToken : List ℕ → Type 0
IsToken token = (0 < length token) × (length token ≤ 255)

-- the most tokens that a record has
abbrev pub most_tokens : ℕ
most_tokens = 65536

-- what stands before a record's semicolon, and no token of it is too long
pub record IsReadable (body : List ℕ) : Type 0 where
  pub record_body : IsTrue (is_body body)
  pub tokens : AllByRecursion IsToken (tokens_of body)
  pub few : length (tokens_of body) ≤ most_tokens

abbrev pub is_empty : List (List ℕ) → Bool
is_empty tokens = length tokens == 0

-- the value, where no token is left
abbrev pub only : {A : Type 0} → List (List ℕ) → A → Option A
only tokens a = if is_empty tokens then Some a else None

-- the first token of the code, whether it is a comma by itself, and what stands behind it
abbrev pub piece_in : List ℕ → Bool → Piece
piece_in raw bare_comma = if bare_comma then Comma else Word raw
