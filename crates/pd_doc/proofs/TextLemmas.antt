-- The text of rows stands for the rows.
use Rattle.std.proofs.Common.{◌≡◌, ℕ, List, [], ◌∷◌, ◌++◌, refl, sym, ap, ◌∙◌, append_assoc}
use Rattle.std.specs.List.{AllByRecursion}
use Rattle.pd_lex.specs.Text.{Piece, AreSpaces, IsPiece, IsLongest, StandsForPieces, StandsFor, piece_text}
use Rattle.pd_lex.specs.Text.Piece.{Word, Comma}
use Rattle.pd_doc.specs.Writing.{spaced, joined, lines_of}

-- a row that isn't empty, of tokens
abbrev pub IsRow : List Piece → Type 0
IsRow [] = ⊥
IsRow (p ∷ ps) = AllByRecursion IsPiece (p ∷ ps)

stopped : (p : Piece) (ps : List Piece) → IsLongest p (spaced ps)
stopped Comma ps = tt
stopped (Word w) [] = tt
stopped (Word w) (Word v ∷ ps) = refl
stopped (Word w) (Comma ∷ ps) = refl

pieces_stand : (ps : List Piece) → AllByRecursion IsPiece ps → StandsForPieces (spaced ps) ps
pieces_stand [] h = tt
pieces_stand (Word w ∷ ps) h = (32 ∷ [], spaced ps, (refl, tt), h.0, refl, stopped (Word w) ps, pieces_stand ps h.1)
pieces_stand (Comma ∷ ps) h = ([], spaced ps, tt, h.0, refl, tt, pieces_stand ps h.1)

joined_is : (p : Piece) (ps : List Piece) → joined (p ∷ ps) ≡ piece_text p ++ spaced ps
joined_is (Word w) ps = refl
joined_is Comma ps = refl

row_stands : (ws : List ℕ) (r : List Piece) → AreSpaces ws → IsRow r → StandsForPieces (ws ++ joined r) r
row_stands ws [] s h = absurd h
row_stands ws (p ∷ ps) s h = (ws, spaced ps, s, h.0, ap (λ l. ws ++ l) (joined_is p ps), stopped p ps, pieces_stand ps h.1)

spaces_stand : (ws : List ℕ) → AreSpaces ws → AreSpaces (ws ++ [])
spaces_stand [] h = tt
spaces_stand (b ∷ ws) h = (h.0, spaces_stand ws h.1)

rows_stand : (ws : List ℕ) (rs : List (List Piece)) → AreSpaces ws → AllByRecursion IsRow rs → StandsFor (ws ++ lines_of rs) rs
unfolding lines_of
rows_stand ws [] s h = spaces_stand ws s
rows_stand ws (r ∷ rs) s h = (
  ws ++ joined r,
  10 ∷ lines_of rs,
  row_stands ws r s h.0,
  ap (λ l. ws ++ l) (append_assoc (joined r) (59 ∷ 10 ∷ []) (lines_of rs)) ∙ sym (append_assoc ws (joined r) (59 ∷ 10 ∷ lines_of rs)),
  rows_stand (10 ∷ []) rs (refl, tt) h.1,
)

pub lines_stand : (rs : List (List Piece)) → AllByRecursion IsRow rs → StandsFor (lines_of rs) rs
lines_stand rs h = rows_stand [] rs tt h
