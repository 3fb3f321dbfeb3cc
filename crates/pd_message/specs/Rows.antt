-- What a message box does with a message.
use Rattle.std.specs.Prelude.{ℕ, ◌+◌, ◌≤◌, Bool, List, [], ◌∷◌, ◌++◌, length, map, nat_lt, if◌then◌else◌, codes, bytes_eq}
use Rattle.std.specs.List.{All}
use Rattle.pd_atom.specs.declared.Atom.{Atom}
use Rattle.pd_atom.specs.declared.Atom.TheVariants.{Comma, Semi}
use Rattle.pd_atom.specs.Atoms.{IsOf}
use Rattle.pd_atom.specs.Names.{Names, name_of}
use Rattle.pd_atom.specs.Tokens.{settled}
use Rattle.pd_kind.specs.declared.messages.Deed.TheVariants.{Nothing}
use Rattle.pd_kind.specs.declared.messages.Notice.TheVariants.{TextFull}
use Rattle.pd_kind.specs.declared.messages.Sort.{Sort}
use Rattle.pd_kind.specs.declared.messages.Sort.TheVariants as sort
use Rattle.pd_object.specs.declared.row_names.Row.TheVariants as row
use Rattle.pd_kind.specs.declared.states.State.{State}
use Rattle.pd_kind.specs.declared.states.State.TheVariants as state
use Rattle.pd_kind.specs.Messages.{sort_of}
use Rattle.pd_kind.specs.Said.{Said, silent, deaf}
use Rattle.pd_message.specs.Texts.{Run, text_run}

-- the selector's name is this word
abbrev pub is_called : Names → ℕ → List ℕ → Bool
is_called names selector word = bytes_eq (name_of names selector) word

-- a text after a message that edits it
pub record Edited : Type 0 where
  pub text : List Atom
  pub said : Said

abbrev pub text_full : Said
text_full = record { sends = []; deed = Nothing; notices = TextFull ∷ [] }

-- a text stays where it would have more than 1,024 atoms
abbrev pub grown : List Atom → List Atom → Edited
grown text more = if nat_lt 1024 (length text + length more) then record { text = text; said = text_full } else record { text = text ++ more; said = silent }

abbrev pub settled_atoms : Names → List Atom → List Atom
settled_atoms names atoms = map (settled names) atoms

-- `set` makes the atoms the text, `add2` puts them behind it, `add` puts a semicolon behind them too, `addcomma` and `addsemi` put a mark
abbrev pub edited : Names → List Atom → ℕ → List Atom → Edited
edited names text selector atoms =
    if is_called names selector (codes "set") then record { text = settled_atoms names atoms; said = silent } else
    if is_called names selector (codes "add") then grown text (settled_atoms names atoms ++ Semi ∷ []) else
    if is_called names selector (codes "add2") then grown text (settled_atoms names atoms) else
    if is_called names selector (codes "addcomma") then grown text (Comma ∷ []) else
    if is_called names selector (codes "addsemi") then grown text (Semi ∷ []) else
    record { text = text; said = deaf row.Message selector }

-- what a message leaves: the state, the names and what is said
pub record Left : Type 0 where
  pub state : State
  pub names : Names
  pub said : Said

abbrev pub left_by_edit : Names → Edited → Left
left_by_edit names e = record { state = state.Message e.text; names = names; said = e.said }

abbrev pub left_by_run : List Atom → Run → Left
left_by_run text run = record { state = state.Message text; names = run.names; said = run.said }

abbrev pub first_run : Names → Run
first_run names = record { names = names; said = silent }

-- `bang`, `float`, `symbol` and `list` run the text with the message's atoms as `$1` and on; any other message is to edit it.
abbrev pub heard_as : Names → List Atom → ℕ → List Atom → Sort → Left
heard_as names text selector atoms sort.Other = left_by_edit names (edited names text selector atoms)
heard_as names text selector atoms s = left_by_run text (text_run atoms (first_run names) text)

-- a text has at most 1,024 atoms, all of the table
pub record IsText (names : Names) (text : List Atom) : Type 0 where
  pub of_table : All (IsOf names) text
  pub small : length text ≤ 1024

-- so has the one that a message box keeps
abbrev pub KeepsText : Names → State → Type 0
KeepsText names (state.Message text) = IsText names text
KeepsText names s = Unit {0}

-- What a message box does with a message. A state of another kind hears nothing.
unfoldable pub message_row : Names → State → ℕ → List Atom → Left
message_row names (state.Message text) selector atoms = heard_as names text selector atoms (sort_of selector atoms)
message_row names s selector atoms = record { state = s; names = names; said = silent }
