-- The box that an edit puts into a canvas, as the document gets it.
use Rattle.std.specs.Prelude.{◌≡◌, map, slice_get, Option}
use Rattle.std.specs.List.{All}
use Rattle.pd_num.specs.Scale.{millionths, IsInRange}
use Rattle.pd_atom.specs.Names.{Names}
use Rattle.pd_atom.specs.Atoms.{IsOf}
use Rattle.pd_atom.specs.Tokens.{settled}
use Rattle.pd_canvas.specs.declared.edits.Edit.{Edit}
use Rattle.pd_canvas.specs.declared.edits.Edit.TheVariants as edit
use Rattle.pd_canvas.specs.Pages.{Entry, End, elements_of, empty_page}
use Rattle.pd_canvas.specs.Edits.{edited}
use Rattle.pd_canvas.specs.Proper.{IsReady, AreReady}

-- an edit as it is written down: each atom of its text as the atom's spelling reads
abbrev pub settled_edit : Names → Edit → Edit
settled_edit names (edit.Obj x y text) = edit.Obj x y (map (settled names) text)
settled_edit names (edit.Msg x y text) = edit.Msg x y (map (settled names) text)
settled_edit names (edit.Comment x y text) = edit.Comment x y (map (settled names) text)
settled_edit names (edit.FloatBox x y text) = edit.FloatBox x y (map (settled names) text)
settled_edit names (edit.SymbolBox x y text) = edit.SymbolBox x y (map (settled names) text)
settled_edit names (edit.Sub x y name) = edit.Sub x y (map (settled names) name)
settled_edit names (edit.Retype number text) = edit.Retype number (map (settled names) text)
settled_edit names e = e

-- the atoms of an edit's text are of the table
abbrev pub IsKnown : Names → Edit → Type 0
IsKnown names (edit.Obj x y text) = All (IsOf names) text
IsKnown names (edit.Msg x y text) = All (IsOf names) text
IsKnown names (edit.Comment x y text) = All (IsOf names) text
IsKnown names (edit.FloatBox x y text) = All (IsOf names) text
IsKnown names (edit.SymbolBox x y text) = All (IsOf names) text
IsKnown names (edit.Sub x y name) = All (IsOf names) name
IsKnown names (edit.Retype number text) = All (IsOf names) text
IsKnown names e = Unit {0}

-- the box that an edit puts last in a canvas, as into an empty one; none where it puts none
abbrev pub box_put : Edit → Option Entry
box_put e = slice_get (elements_of (edited e empty_page)) 0

-- an edit that puts a box, whose atoms are of the table and what their spellings read as
abbrev pub PutsBox : Names → Edit → Type 0
PutsBox names (edit.Obj x y text) = All (IsReady names) text
PutsBox names (edit.Msg x y text) = All (IsReady names) text
PutsBox names (edit.Comment x y text) = All (IsReady names) text
PutsBox names (edit.FloatBox x y text) = All (IsReady names) text
PutsBox names (edit.SymbolBox x y text) = All (IsReady names) text
PutsBox names (edit.Sub x y name) = All (IsReady names) name
PutsBox names e = ⊥

-- a box that holds no box, with such a text
abbrev pub IsBare : Names → Entry → Type 0
IsBare names e = All (IsReady names) e.head.text × (e.page.boxes ≡ End)

-- an element can be written and read again: its place has numbers, and each atom of its text is of the table and what its spelling reads as
pub record CanBeWritten (names : Names) (b : Entry) : Type 0 where
  pub x : IsInRange millionths b.head.x
  pub y : IsInRange millionths b.head.y
  pub text : AreReady names b.head.text
