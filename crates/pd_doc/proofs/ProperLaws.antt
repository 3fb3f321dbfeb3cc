-- The atoms of a proper document are of the table.
use Rattle.std.proofs.Common.{List, [], ◌∷◌}
use Rattle.std.specs.List.{AllByRecursion}
use Rattle.pd_atom.specs.Names.{Names}
use Rattle.pd_atom.specs.declared.Atom.{Atom}
use Rattle.pd_canvas.specs.Pages.{Shape, Obj, Msg, Comment, FloatBox, SymbolBox, Sub, Array, Other, Head, Frame, Boxes, End, Box, Page, frame_of}
use Rattle.pd_canvas.specs.Proper.{AreReady, IsText, IsKept, FitsForm, IsHead, IsFrame, AreBoxes, IsProper}
use Rattle.pd_doc.specs.Atoms.{AreOf, RowsOf, ShapeOf, HeadOf, FrameOf, BoxesOf, PageOf}

atoms_of_table : (names : Names) (l : List Atom) → AreReady names l → AreOf names l
atoms_of_table names [] h = tt
atoms_of_table names (a ∷ l) h = (h.0.0, atoms_of_table names l h.1)

rows_of_table : (names : Names) (rs : List (List Atom)) → AllByRecursion (AreReady names) rs → RowsOf names rs
rows_of_table names [] h = tt
rows_of_table names (r ∷ rs) h = (atoms_of_table names r h.0, rows_of_table names rs h.1)

texts_of_table : (names : Names) (rs : List (List Atom)) → AllByRecursion (IsText names) rs → RowsOf names rs
texts_of_table names [] h = tt
texts_of_table names (r ∷ rs) h = (atoms_of_table names r h.0.0, texts_of_table names rs h.1)

kept_of_table : (names : Names) (rs : List (List Atom)) → AllByRecursion (IsKept names) rs → RowsOf names rs
kept_of_table names [] h = tt
kept_of_table names ([] ∷ rs) h = absurd h.0
kept_of_table names ((a ∷ r) ∷ rs) h = (atoms_of_table names (a ∷ r) h.0.0.0, kept_of_table names rs h.1)

shape_of_table : (names : Names) (s : Shape) (x : Head) → FitsForm names s x → ShapeOf names s
shape_of_table names Obj x h = tt
shape_of_table names Msg x h = tt
shape_of_table names Comment x h = tt
shape_of_table names FloatBox x h = tt
shape_of_table names SymbolBox x h = tt
shape_of_table names Sub x h = tt
shape_of_table names (Array vs) x h = tt
shape_of_table names (Other s) x h = h.0

head_of_table : (names : Names) (x : Head) → IsHead names x → HeadOf names x
head_of_table names x h = (atoms_of_table names x.text h.text.0, rows_of_table names x.tail h.tail, shape_of_table names x.form x h.form)

frame_of_table : (names : Names) (f : Frame) → IsFrame names f → FrameOf names f
frame_of_table names f h = (atoms_of_table names f.header h.header.0, kept_of_table names f.kept h.kept, texts_of_table names f.coords h.coords)

boxes_of_table : (names : Names) (b : Boxes) → AreBoxes names b → BoxesOf names b
boxes_of_table names End h = tt
boxes_of_table names (Box x f inner rest) h =
    (head_of_table names x h.0, frame_of_table names f h.2, boxes_of_table names inner h.3, boxes_of_table names rest h.4)

pub proper_of_table : (names : Names) (p : Page) → IsProper names p → PageOf names p
proper_of_table names p h = (frame_of_table names (frame_of p) h.sound.0, boxes_of_table names p.boxes h.sound.1)
