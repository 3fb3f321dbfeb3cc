-- Documents whose atoms are of a table.
use Rattle.std.specs.Prelude.{◌<◌, List, length}
use Rattle.std.specs.List.{AllByRecursion}
use Rattle.pd_atom.specs.Names.{Names}
use Rattle.pd_atom.specs.Atoms.{IsOf}
use Rattle.pd_atom.specs.declared.Atom.{Atom}
use Rattle.pd_canvas.specs.Pages.{Shape, Obj, Msg, Comment, FloatBox, SymbolBox, Sub, Array, Other, Head, Frame, Boxes, End, Box, Page, Entry, frame_of}

abbrev pub AreOf : Names → List Atom → Type 0
AreOf names atoms = AllByRecursion (IsOf names) atoms

abbrev pub RowsOf : Names → List (List Atom) → Type 0
RowsOf names rows = AllByRecursion (AreOf names) rows

abbrev pub ShapeOf : Names → Shape → Type 0
ShapeOf names Obj = Unit {0}
ShapeOf names Msg = Unit {0}
ShapeOf names Comment = Unit {0}
ShapeOf names FloatBox = Unit {0}
ShapeOf names SymbolBox = Unit {0}
ShapeOf names Sub = Unit {0}
ShapeOf names (Array vs) = Unit {0}
ShapeOf names (Other s) = s < length names

abbrev pub HeadOf : Names → Head → Type 0
HeadOf names h = AreOf names h.text × RowsOf names h.tail × ShapeOf names h.form

abbrev pub FrameOf : Names → Frame → Type 0
FrameOf names f = AreOf names f.header × RowsOf names f.kept × RowsOf names f.coords

abbrev pub BoxesOf : Names → Boxes → Type 0
BoxesOf names End = Unit {0}
BoxesOf names (Box h f inner rest) = HeadOf names h × FrameOf names f × BoxesOf names inner × BoxesOf names rest

-- the atoms of the document are of the table
abbrev pub PageOf : Names → Page → Type 0
PageOf names p = FrameOf names (frame_of p) × BoxesOf names p.boxes

abbrev pub EntryOf : Names → Entry → Type 0
EntryOf names e = HeadOf names e.head × PageOf names e.page
