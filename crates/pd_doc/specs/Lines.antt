-- The canonical text, as the code writes it: line after line.
use Rattle.std.specs.Prelude.{ℕ, zero, suc, ◌+◌, ◌/◌, ℤ, List, [], ◌∷◌, ◌++◌, map, length, take, drop, if◌then◌else◌, codes}
use Rattle.pd_atom.specs.Names.{Names}
use Rattle.pd_atom.specs.declared.Atom.{Atom}
use Rattle.pd_atom.specs.declared.Atom.TheVariants.{Number}
use Rattle.pd_canvas.specs.declared.wires.Wire.{Wire}
use Rattle.pd_canvas.specs.Arrays.{is_saved}
use Rattle.pd_canvas.specs.Pages.{Shape, Obj, Msg, Comment, FloatBox, SymbolBox, Sub, Array, Other, Head, Frame, Boxes, End, Box, Page, Entry, frame_of}
use Rattle.pd_doc.specs.Writing.{atom_piece, atom_pieces, whole, wire_atoms, word_of, width_pieces, spaced}

-- a line of a word or two and tokens
abbrev pub line_text : List ℕ → List ℕ → List ℕ
line_text words more = words ++ (more ++ 59 ∷ 10 ∷ [])

-- lines of a word or two and atoms
abbrev pub rows_text : Names → List ℕ → List (List Atom) → List ℕ
rows_text names words [] = []
rows_text names words (r ∷ rs) = line_text words (spaced (atom_pieces names r)) ++ rows_text names words rs

abbrev pub wires_text : Names → List Wire → List ℕ
wires_text names [] = []
wires_text names (w ∷ ws) = line_text (codes "#X connect") (spaced (atom_pieces names (wire_atoms w))) ++ wires_text names ws

-- a run of values behind the place of its first value
abbrev pub run_text : Names → ℕ → List ℤ → List ℕ
run_text names from vs = line_text (codes "#A") (spaced (atom_piece names (Number (whole from)) ∷ map (λ v. atom_piece names (Number v)) vs))

abbrev pub runs_text : Names → ℕ → ℕ → List ℤ → List ℕ
runs_text names zero from vs = []
runs_text names (suc k) from vs = run_text names from (take 1000 vs) ++ runs_text names k (from + 1000) (drop 1000 vs)

abbrev pub values_text : Names → List ℤ → List ℕ
values_text names vs = runs_text names ((length vs + 999) / 1000) 0 vs

abbrev pub element_text : Names → Head → List ℕ
element_text names h =
    line_text (codes "#X ")
    (word_of names h.form ++ (spaced (atom_pieces names (Number h.x ∷ Number h.y ∷ [])) ++ (spaced (atom_pieces names h.text) ++ spaced (width_pieces names h.width))))

-- the lines of an element but for its tail rows, where the text of its canvas is given
abbrev pub own_text : Names → Head → List ℕ → Shape → List ℕ
own_text names h inner Sub = inner ++ element_text names h
own_text names h inner (Array vs) =
    line_text (codes "#X array") (spaced (atom_pieces names h.text)) ++ (if is_saved h.text then values_text names vs else [])
own_text names h inner Obj = element_text names h
own_text names h inner Msg = element_text names h
own_text names h inner Comment = element_text names h
own_text names h inner FloatBox = element_text names h
own_text names h inner SymbolBox = element_text names h
own_text names h inner (Other s) = element_text names h

abbrev pub frame_text : Names → Frame → List ℕ → List ℕ
frame_text names f boxes =
    line_text (codes "#N canvas") (spaced (atom_pieces names f.header))
    ++ (rows_text names (codes "#X") f.kept ++ (boxes ++ (wires_text names f.wires ++ rows_text names (codes "#X coords") f.coords)))

abbrev pub boxes_text : Names → Boxes → List ℕ
boxes_text names End = []
boxes_text names (Box h f inner rest) =
    own_text names h (frame_text names f (boxes_text names inner)) h.form ++ (rows_text names (codes "#A") h.tail ++ boxes_text names rest)

abbrev pub page_text : Names → Page → List ℕ
page_text names p = frame_text names (frame_of p) (boxes_text names p.boxes)

abbrev pub box_text : Names → Entry → List ℕ
box_text names e = own_text names e.head (page_text names e.page) e.head.form ++ rows_text names (codes "#A") e.head.tail
