-- Of which tokens a message of the script was read.
use Rattle.std.specs.Prelude.{◌≡◌, ℕ, List, Some}
use Rattle.pd_atom.specs.Names.{Names}
use Rattle.pd_script.specs.declared.commands.Command.{Command}
use Rattle.pd_script.specs.declared.commands.Command.TheVariants as command
use Rattle.pd_script.specs.declared.commands.Script.{Script}
use Rattle.pd_script.specs.declared.commands.Script.TheVariants as script
use Rattle.pd_script.specs.Scripts.{send_of}

-- a command that sends is what some tokens read as, in these names, with the names after them
abbrev pub CommandFrom : Names → Names → Command → Type 0
CommandFrom names after (command.Send s atoms) = (tokens : List (List ℕ)) × (send_of names tokens ≡ Some (command.Send s atoms, after))
CommandFrom names after c = Unit {0}

abbrev pub ScriptFrom : Names → Names → Script → Type 0
ScriptFrom names after (script.Run c) = CommandFrom names after c
ScriptFrom names after script.End = Unit {0}
