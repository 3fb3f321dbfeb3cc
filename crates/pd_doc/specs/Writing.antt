-- The canonical text of a document.
use Rattle.std.specs.Prelude.{ℕ, zero, suc, ◌+◌, ◌*◌, ◌/◌, ℤ, pos, min, List, [], ◌∷◌, ◌++◌, map, length, take, drop, Option, Some, None, if◌then◌else◌, codes}
use Rattle.pd_lex.specs.Text.{Piece, escaped}
use Rattle.pd_lex.specs.Text.Piece.{Word, Comma}
use Rattle.pd_atom.specs.Names.{Names}
use Rattle.pd_atom.specs.Atoms.{spelled}
use Rattle.pd_atom.specs.declared.Atom.{Atom}
use Rattle.pd_atom.specs.declared.Atom.TheVariants.{Number, Symbol}
use Rattle.pd_canvas.specs.declared.wires.Wire.{Wire}
use Rattle.pd_canvas.specs.Pages.{Shape, Obj, Msg, Comment, FloatBox, SymbolBox, Sub, Array, Other, Head, Frame, Boxes, End, Box, Page, frame_of}
use Rattle.pd_canvas.specs.Arrays.{is_saved}

-- an atom as a token
abbrev pub atom_piece : Names → Atom → Piece
atom_piece names a = Word (escaped (spelled names a))

abbrev pub atom_pieces : Names → List Atom → List Piece
atom_pieces names atoms = map (atom_piece names) atoms

-- the number of so many whole units
abbrev pub whole : ℕ → ℤ
whole n = pos (min (n * 1000000) 1000000000000000)

abbrev pub wire_atoms : Wire → List Atom
wire_atoms w = Number (whole w.source) ∷ Number (whole w.outlet) ∷ Number (whole w.sink) ∷ Number (whole w.inlet) ∷ []

abbrev pub opening_row : Names → List Atom → List Piece
opening_row names header = Word (codes "#N") ∷ Word (codes "canvas") ∷ atom_pieces names header

abbrev pub kept_row : Names → List Atom → List Piece
kept_row names atoms = Word (codes "#X") ∷ atom_pieces names atoms

abbrev pub tail_row : Names → List Atom → List Piece
tail_row names atoms = Word (codes "#A") ∷ atom_pieces names atoms

abbrev pub connect_row : Names → Wire → List Piece
connect_row names w = Word (codes "#X") ∷ Word (codes "connect") ∷ atom_pieces names (wire_atoms w)

abbrev pub coords_row : Names → List Atom → List Piece
coords_row names atoms = Word (codes "#X") ∷ Word (codes "coords") ∷ atom_pieces names atoms

abbrev pub array_row : Names → List Atom → List Piece
array_row names atoms = Word (codes "#X") ∷ Word (codes "array") ∷ atom_pieces names atoms

-- the word of an element of this form
abbrev pub word_of : Names → Shape → List ℕ
word_of names Obj = codes "obj"
word_of names Msg = codes "msg"
word_of names Comment = codes "text"
word_of names FloatBox = codes "floatatom"
word_of names SymbolBox = codes "symbolatom"
word_of names Sub = codes "restore"
word_of names (Array vs) = codes "array"
word_of names (Other s) = escaped (spelled names (Symbol s))

-- a width is a bare comma, `f` and the number
abbrev pub width_pieces : Names → Option ℤ → List Piece
width_pieces names None = []
width_pieces names (Some z) = Comma ∷ Word (codes "f") ∷ atom_piece names (Number z) ∷ []

abbrev pub element_row : Names → Head → List Piece
element_row names h =
    Word (codes "#X") ∷ Word (word_of names h.form) ∷ atom_piece names (Number h.x) ∷ atom_piece names (Number h.y) ∷
    (atom_pieces names h.text ++ width_pieces names h.width)

-- the first k runs of 1,000 values, each behind the place of its first value, which is counted from `from`
abbrev pub runs : Names → ℕ → ℕ → List ℤ → List (List Piece)
runs names zero from vs = []
runs names (suc k) from vs =
    (Word (codes "#A") ∷ atom_piece names (Number (whole from)) ∷ map (λ v. atom_piece names (Number v)) (take 1000 vs)) ∷ runs names k (from + 1000) (drop 1000 vs)

-- values in runs of 1,000
abbrev pub value_rows : Names → List ℤ → List (List Piece)
value_rows names vs = runs names ((length vs + 999) / 1000) 0 vs

-- the records of an element, where those of its canvas are given
abbrev pub box_rows : Names → List (List Piece) → Head → Shape → List (List Piece)
box_rows names inner h Sub = inner ++ element_row names h ∷ []
box_rows names inner h (Array vs) = array_row names h.text ∷ (if is_saved h.text then value_rows names vs else [])
box_rows names inner h Obj = element_row names h ∷ []
box_rows names inner h Msg = element_row names h ∷ []
box_rows names inner h Comment = element_row names h ∷ []
box_rows names inner h FloatBox = element_row names h ∷ []
box_rows names inner h SymbolBox = element_row names h ∷ []
box_rows names inner h (Other s) = element_row names h ∷ []

-- the records of a canvas, where those of its elements are given: its header, its kept records, its elements, its wires, its coords
abbrev pub frame_rows : Names → Frame → List (List Piece) → List (List Piece)
frame_rows names f boxes =
    opening_row names f.header ∷ (map (kept_row names) f.kept ++ (boxes ++ (map (connect_row names) f.wires ++ map (coords_row names) f.coords)))

-- the records of elements, each followed by its tail rows
abbrev pub boxes_rows : Names → Boxes → List (List Piece)
boxes_rows names End = []
boxes_rows names (Box h f inner rest) =
    box_rows names (frame_rows names f (boxes_rows names inner)) h h.form ++ (map (tail_row names) h.tail ++ boxes_rows names rest)

abbrev pub page_rows : Names → Page → List (List Piece)
page_rows names p = frame_rows names (frame_of p) (boxes_rows names p.boxes)

-- tokens behind the first: a space before each but a bare comma
abbrev pub spaced : List Piece → List ℕ
spaced [] = []
spaced (Word w ∷ ps) = 32 ∷ (w ++ spaced ps)
spaced (Comma ∷ ps) = 44 ∷ spaced ps

abbrev pub joined : List Piece → List ℕ
joined [] = []
joined (Word w ∷ ps) = w ++ spaced ps
joined (Comma ∷ ps) = 44 ∷ spaced ps

-- a record on one line
abbrev pub line_of : List Piece → List ℕ
line_of ps = joined ps ++ 59 ∷ 10 ∷ []

unfoldable pub lines_of : List (List Piece) → List ℕ
lines_of [] = []
lines_of (r ∷ rs) = line_of r ++ lines_of rs

-- the text of a document
abbrev pub text_of : Names → Page → List ℕ
text_of names p = lines_of (page_rows names p)
