-- An edit as it is stored.
use Rattle.std.specs.Prelude.{List, Option, Some, None}
use Rattle.pd_atom.specs.declared.Atom.{Atom}
use Rattle.pd_canvas.specs.declared.edits.Edit.{Edit}
use Rattle.pd_canvas.specs.declared.edits.Edit.TheVariants as edit
use Rattle.pd_queue.specs.declared.entries.Change.{Change}
use Rattle.pd_queue.specs.declared.entries.Change.TheVariants.{Box, Connect, Disconnect}
use Rattle.pd_queue.specs.Asking.{box_edit}

abbrev pub edit_of : Change → List Atom → Edit
edit_of (Box verb x y) text = box_edit verb x y text
edit_of (Connect wire) text = edit.Connect wire
edit_of (Disconnect wire) text = edit.Disconnect wire

-- the edit, where it joins or cuts a wire
abbrev pub wire_edit : Edit → Option Edit
wire_edit (edit.Connect wire) = Some (edit.Connect wire)
wire_edit (edit.Disconnect wire) = Some (edit.Disconnect wire)
wire_edit e = None
