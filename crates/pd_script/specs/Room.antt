-- The room for the lists of a command.
use Rattle.std.specs.Prelude.{◌≤◌, Option, Some, None, vec_capacity}
use Rattle.pd_script.specs.declared.commands.Command.{Command}
use Rattle.pd_script.specs.declared.commands.Command.TheVariants as command
use Rattle.pd_script.specs.declared.commands.Script.{Script}
use Rattle.pd_script.specs.declared.commands.Script.TheVariants as script
use Rattle.pd_script.specs.declared.room.CommandRoom.{CommandRoom}

-- both lists are there, with all their room
abbrev pub IsWhole : CommandRoom → Type 0
IsWhole room = (65536 ≤ vec_capacity room.atoms) × (255 ≤ vec_capacity room.path)

-- the room has the lists that the command doesn't hold; those of the command have all their room
abbrev pub HasRest : Command → CommandRoom → Type 0
HasRest (command.Send s atoms) room = 255 ≤ vec_capacity room.path
HasRest (command.Edit place e) room = Unit {0}
HasRest (command.Save document) room = IsWhole room
HasRest (command.Show path) room = 65536 ≤ vec_capacity room.atoms
HasRest command.Undo room = IsWhole room
HasRest command.Redo room = IsWhole room

-- the room after reading: whole where there is no command, and where the record is the end
abbrev pub IsWholeAfter : Option Script → CommandRoom → Type 0
IsWholeAfter None room = IsWhole room
IsWholeAfter (Some script.End) room = IsWhole room
IsWholeAfter (Some (script.Run c)) room = HasRest c room
