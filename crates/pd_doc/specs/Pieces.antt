-- The tokens of a record.
use Rattle.std.specs.Prelude.{ℕ, ℤ, ◌-◌, Bool, true, false, ◌&&◌, List, [], ◌∷◌, length, take, drop, Option, Some, None, is_some, if◌then◌else◌, nat_lt, codes, bytes_eq}
use Rattle.pd_num.specs.Reading.{number_at}
use Rattle.pd_lex.specs.Text.{Piece, unescaped}
use Rattle.pd_lex.specs.Text.Piece.{Word, Comma}
use Rattle.pd_doc.specs.declared.lexemes.Lexeme.{Lexeme}

-- what a token of the code is
abbrev pub piece : Lexeme → Piece
piece l = if l.bare_comma then Comma else Word l.raw.now

-- a token's bytes without its escapes
abbrev pub bytes_of : Piece → List ℕ
bytes_of (Word w) = unescaped w
bytes_of Comma = 44 ∷ []

abbrev pub is_bare_comma : Piece → Bool
is_bare_comma (Word w) = false
is_bare_comma Comma = true

-- more bytes than a token may have
abbrev pub is_long : Piece → Bool
is_long p = nat_lt 255 (length (bytes_of p))

-- the token spells the word
abbrev pub spells : List ℕ → Piece → Bool
spells word p = bytes_eq (bytes_of p) word

-- the first token spells the word
abbrev pub starts_with : List ℕ → List Piece → Bool
starts_with word [] = false
starts_with word (p ∷ ps) = spells word p

-- the number that a token spells
abbrev pub number_of : Piece → Option ℤ
number_of p = if is_long p then None else number_at (bytes_of p)

-- the numbers that the tokens spell, where each spells one
abbrev pub cons_number : Option ℤ → Option (List ℤ) → Option (List ℤ)
cons_number None rest = None
cons_number (Some z) None = None
cons_number (Some z) (Some zs) = Some (z ∷ zs)

abbrev pub numbers_of : List Piece → Option (List ℤ)
numbers_of [] = Some []
numbers_of (p ∷ ps) = cons_number (number_of p) (numbers_of ps)

-- the width that the first three tokens give: a bare comma, `f` and a number
abbrev pub width_of : List Piece → Option ℤ
width_of [] = None
width_of (p ∷ []) = None
width_of (p ∷ q ∷ []) = None
width_of (p ∷ q ∷ r ∷ ps) = if is_bare_comma p && spells (codes "f") q then number_of r else None

-- the width at the end of the tokens, and the tokens without it
abbrev pub width_in : List Piece → Option ℤ
width_in ps = width_of (drop (length ps - 3) ps)

abbrev pub text_in : List Piece → List Piece
text_in ps = if is_some (width_in ps) then take (length ps - 3) ps else ps
