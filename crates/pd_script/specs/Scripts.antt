-- The command that a record of the script is, with the table after it.
use Rattle.std.specs.Prelude.{ℕ, ℤ, List, [], ◌∷◌, Option, Some, None, if◌then◌else◌, codes, bytes_eq}
use Rattle.std.specs.List.{list_all, list_any}
use Rattle.pd_atom.specs.Names.{Names}
use Rattle.pd_script.specs.declared.commands.Command.{Command}
use Rattle.pd_script.specs.declared.commands.Command.TheVariants as command
use Rattle.pd_script.specs.declared.commands.Script.{Script}
use Rattle.pd_script.specs.declared.commands.Script.TheVariants as script
use Rattle.pd_script.specs.declared.reading.Word.{Word}
use Rattle.pd_script.specs.declared.reading.Word.TheVariants as word
use Rattle.pd_script.specs.Options.{◌>>=◌}
use Rattle.pd_script.specs.Tokens.{is_long, only}
use Rattle.pd_script.specs.Fields.{milliseconds_of, path_of}
use Rattle.pd_script.specs.Atoms.{atoms_of, is_plain, symbol_of, document_of}
use Rattle.pd_script.specs.Changes.{verb_of, change_of}

unfoldable pub word_of : List ℕ → Option Word
word_of w =
    if bytes_eq w (codes "send") then Some word.Send else
    if bytes_eq w (codes "edit") then Some word.Edit else
    if bytes_eq w (codes "save") then Some word.Save else
    if bytes_eq w (codes "show") then Some word.Show else
    if bytes_eq w (codes "undo") then Some word.Undo else
    if bytes_eq w (codes "redo") then Some word.Redo else
    if bytes_eq w (codes "end") then Some word.End else None

-- NAME atoms, which are numbers and symbols
unfoldable pub send_of : Names → List (List ℕ) → Option (Command × Names)
send_of names [] = None
send_of names (name ∷ ts) =
    symbol_of names name >>= (λ s. atoms_of s.1 ts >>= (λ a. if list_all is_plain a.0 then Some (command.Send s.0 a.0, a.1) else None))

-- PATH VERB and the tokens of the verb, in the document
unfoldable pub edit_in : Option ℕ → Names → List (List ℕ) → Option (Command × Names)
edit_in document names [] = None
edit_in document names (path ∷ []) = None
edit_in document names (path ∷ verb ∷ ts) =
    path_of path >>= (λ p. verb_of verb >>= (λ v. change_of v names ts >>= (λ e.
    Some (command.Edit (record { document = document; path = p }) e.0, e.1))))

-- DOC PATH VERB and the tokens of the verb
unfoldable pub edit_of : Names → List (List ℕ) → Option (Command × Names)
edit_of names [] = None
edit_of names (doc ∷ ts) = document_of names doc >>= (λ d. edit_in d.0 d.1 ts)

-- DOC
unfoldable pub save_of : Names → List (List ℕ) → Option (Command × Names)
save_of names [] = None
save_of names (doc ∷ ts) = document_of names doc >>= (λ d. only ts (command.Save d.0, d.1))

-- PATH
unfoldable pub show_of : List (List ℕ) → Option Command
show_of [] = None
show_of (path ∷ ts) = path_of path >>= (λ p. only ts (command.Show p))

abbrev pub run_of : Option (Command × Names) → Option (Script × Names)
run_of c = c >>= (λ x. Some (script.Run x.0, x.1))

abbrev pub run_with : Names → Option Command → Option (Script × Names)
run_with names c = c >>= (λ x. Some (script.Run x, names))

-- what the tokens behind a word give
unfoldable pub script_of : Word → Names → List (List ℕ) → Option (Script × Names)
script_of word.Send names ts = run_of (send_of names ts)
script_of word.Edit names ts = run_of (edit_of names ts)
script_of word.Save names ts = run_of (save_of names ts)
script_of word.Show names ts = run_with names (show_of ts)
script_of word.Undo names ts = only ts (script.Run command.Undo, names)
script_of word.Redo names ts = only ts (script.Run command.Redo, names)
script_of word.End names ts = only ts (script.End, names)

-- MS and a command: the milliseconds, the command and the names after it
unfoldable pub timed_of : Names → List (List ℕ) → Option (ℤ × Script × Names)
timed_of names [] = None
timed_of names (ms ∷ []) = None
timed_of names (ms ∷ w ∷ ts) =
    milliseconds_of ms >>= (λ z. word_of w >>= (λ k. script_of k names ts >>= (λ s. Some (z, s.0, s.1))))

-- a record with a token that is too long is no command
unfoldable pub command_of : Names → List (List ℕ) → Option (ℤ × Script × Names)
command_of names tokens = if list_any is_long tokens then None else timed_of names tokens
