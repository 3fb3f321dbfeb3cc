-- Commands whose symbols and atoms are of a table.
use Rattle.std.specs.Prelude.{ℕ, ◌<◌, List, length, Option, Some, None, IsTrue}
use Rattle.std.specs.List.{AllByRecursion, list_all}
use Rattle.pd_atom.specs.Names.{Names}
use Rattle.pd_atom.specs.Atoms.{IsOf}
use Rattle.pd_atom.specs.declared.Atom.{Atom}
use Rattle.pd_canvas.specs.declared.edits.Edit.{Edit}
use Rattle.pd_canvas.specs.declared.edits.Edit.TheVariants as edit
use Rattle.pd_script.specs.declared.commands.Command.{Command}
use Rattle.pd_script.specs.declared.commands.Command.TheVariants as command
use Rattle.pd_script.specs.declared.commands.Script.{Script}
use Rattle.pd_script.specs.declared.commands.Script.TheVariants as script
use Rattle.pd_script.specs.Atoms.{is_plain}

abbrev pub AreOf : Names → List Atom → Type 0
AreOf names atoms = AllByRecursion (IsOf names) atoms

abbrev pub DocumentOf : Names → Option ℕ → Type 0
DocumentOf names None = Unit {0}
DocumentOf names (Some s) = s < length names

abbrev pub EditOf : Names → Edit → Type 0
EditOf names (edit.Obj x y text) = AreOf names text
EditOf names (edit.Msg x y text) = AreOf names text
EditOf names (edit.Comment x y text) = AreOf names text
EditOf names (edit.FloatBox x y text) = AreOf names text
EditOf names (edit.SymbolBox x y text) = AreOf names text
EditOf names (edit.Sub x y text) = AreOf names text
EditOf names (edit.Connect wire) = Unit {0}
EditOf names (edit.Disconnect wire) = Unit {0}
EditOf names (edit.Delete number) = Unit {0}
EditOf names (edit.Retype number text) = AreOf names text
EditOf names (edit.Move number x y) = Unit {0}

-- the atoms of a message are numbers and symbols besides
abbrev pub CommandOf : Names → Command → Type 0
CommandOf names (command.Send s atoms) = (s < length names) × AreOf names atoms × IsTrue (list_all is_plain atoms)
CommandOf names (command.Edit place e) = DocumentOf names place.document × EditOf names e
CommandOf names (command.Save document) = DocumentOf names document
CommandOf names (command.Show path) = Unit {0}
CommandOf names command.Undo = Unit {0}
CommandOf names command.Redo = Unit {0}

abbrev pub ScriptOf : Names → Script → Type 0
ScriptOf names (script.Run c) = CommandOf names c
ScriptOf names script.End = Unit {0}
