-- The edit that a change and a text are.
use Rattle.std.specs.Prelude.{ℕ, ℤ, Bool, true, false, List, Option, Some, None}
use Rattle.pd_atom.specs.declared.Atom.{Atom}
use Rattle.pd_canvas.specs.declared.edits.Edit.{Edit}
use Rattle.pd_canvas.specs.declared.edits.Edit.TheVariants as edit
use Rattle.pd_script.specs.declared.changes.Change.{Change}
use Rattle.pd_script.specs.declared.changes.Change.TheVariants as change
use Rattle.pd_script.specs.Changes.{made_box}

-- a change that takes no text passes over it
abbrev pub edit_of : Change → List Atom → Edit
edit_of (change.Box shape x y) text = made_box shape x y text
edit_of (change.Connect wire) text = edit.Connect wire
edit_of (change.Disconnect wire) text = edit.Disconnect wire
edit_of (change.Delete number) text = edit.Delete number
edit_of (change.Retype number) text = edit.Retype number text
edit_of (change.Move number x y) text = edit.Move number x y

-- whether an edit puts a box
abbrev pub puts_box : Edit → Bool
puts_box (edit.Connect wire) = false
puts_box (edit.Disconnect wire) = false
puts_box (edit.Delete number) = false
puts_box (edit.Retype number text) = false
puts_box (edit.Move number x y) = false
puts_box e = true

-- the number of the box that an edit deletes
abbrev pub deleted : Edit → Option ℕ
deleted (edit.Delete number) = Some number
deleted e = None

-- the number of the box that an edit moves, and its new place in its window
abbrev pub moved : Edit → Option (ℕ × ℤ × ℤ)
moved (edit.Move number x y) = Some (number, x, y)
moved e = None
