-- The first token of a record, taken from the others.
use Rattle.std.specs.Prelude.{◌≡◌, ℕ, ◌<◌, Bool, IsTrue, List, ◌∷◌, length}
use Rattle.pd_lex.specs.Reading.{pieces, is_body}
use Rattle.pd_script.specs.Tokens.{bytes_of, piece_in}

-- a token, whether it is a comma by itself, and what stands behind it
pub record IsSplit (body raw : List ℕ) (bare_comma : Bool) (after : List ℕ) : Type 0 where
  pub some : 0 < length (bytes_of (piece_in raw bare_comma))
  pub shorter : length after < length body
  pub goes_on : IsTrue (is_body after)
  pub parts : pieces body ≡ piece_in raw bare_comma ∷ pieces after
