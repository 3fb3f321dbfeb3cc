-- What a stack of pending sends stands for. The pendings of a pile are listed from its top down.
use Rattle.std.specs.Prelude.{◌≡◌, ℕ, ◌+◌, ◌*◌, ◌<◌, ◌≤◌, Bool, List, [], ◌∷◌, ◌++◌, length, drop, slice_get, slice_range, Option}
use Rattle.pd_atom.specs.declared.Atom.{Atom}
use Rattle.pd_name.specs.Rows.{owners_of}
use Rattle.pd_name.specs.declared.Class.TheVariants.{Receiver}
use Rattle.pd_kind.specs.declared.sends.SendRow.{SendRow}
use Rattle.pd_kind.specs.Rows.{Send, send_of}
use Rattle.pd_web.specs.declared.web.Hop.{Hop}
use Rattle.pd_web.specs.Hops.{fan_hops}
use Rattle.pd_stack.specs.declared.stack.Cursor.{Cursor}
use Rattle.pd_stack.specs.declared.stack.Cursor.TheVariants.{Wires, Owners, Again}
use Rattle.pd_stack.specs.declared.stack.Pending.{Pending}
use Rattle.pd_stack.specs.Pile.{Pile}
use Rattle.pd_hearing.specs.Worlds.{Net}
use Rattle.pd_stack.specs.Tasks.{Task, Resume, along, to_owners, unless_heard}

-- the wires from this one on along its outlet
pub record IsAlong (net : Net) (next : Option Hop) (hops : List Hop) : Type 0 where
  pub node : ℕ
  pub outlet : ℕ
  pub place : ℕ
  pub first : next ≡ slice_get (fan_hops net.web node outlet) place
  pub rest : hops ≡ drop place (fan_hops net.web node outlet)

-- the wires on which a send still goes, and the tasks that these are
pub record GoesAlong (net : Net) (depth selector : ℕ) (atoms : List Atom) (next : Option Hop) (tasks : List Task) : Type 0 where
  pub hops : List Hop
  pub along_them : IsAlong net next hops
  pub are : tasks ≡ along net.web depth selector atoms hops

abbrev pub owner_tasks : Net → ℕ → ℕ → List Atom → ℕ → ℕ → Bool → List Task
owner_tasks net depth selector atoms name next loud =
    let owners = drop next (owners_of net.owners Receiver name) in to_owners net depth selector atoms owners ++ unless_heard loud name owners

-- the tasks of a send, of which so much is done
abbrev pub CursorTasks : Net → ℕ → ℕ → List Atom → Cursor → List Task → Type 0
CursorTasks net depth selector atoms (Wires next) tasks = GoesAlong net depth selector atoms next tasks
CursorTasks net depth selector atoms (Owners name next loud) tasks = tasks ≡ owner_tasks net depth selector atoms name next loud
CursorTasks net depth selector atoms (Again node) tasks = tasks ≡ Resume depth node ∷ []

-- the message of a send
abbrev pub message_of : List Atom → Pending → List Atom
message_of atoms p = slice_range atoms p.first p.after

abbrev pub PendingTasks : Net → List Atom → Pending → List Task → Type 0
PendingTasks net atoms p tasks = CursorTasks net p.depth p.selector (message_of atoms p) p.cursor tasks

-- first these tasks, and then those
pub record Joins (P Q : List Task → Type 0) (tasks : List Task) : Type 0 where
  pub here : List Task
  pub later : List Task
  pub first : P here
  pub then : Q later
  pub is : tasks ≡ here ++ later

-- the tasks that are left, those of the top first
abbrev pub AreLeft : Net → List Atom → List Pending → List Task → Type 0
AreLeft net atoms [] tasks = tasks ≡ []
AreLeft net atoms (p ∷ ps) tasks = Joins (PendingTasks net atoms p) (AreLeft net atoms ps) tasks

-- how high it stands, with so many pendings below it: no box leaves more than 1,024 sends and itself at one depth, nor more than
-- 2,048 atoms
abbrev pub Fits : ℕ → ℕ → ℕ → Cursor → ℕ → Type 0
Fits count below depth (Again node) floor = (floor ≤ 2048 * depth) × (below ≤ 1025 * depth) × (depth < 1000)
Fits count below depth (Wires next) floor = (count ≤ 2048 * depth) × (below + 1 ≤ 1025 * depth) × (depth ≤ 1000)
Fits count below depth (Owners name next loud) floor = (count ≤ 2048 * depth) × (below + 1 ≤ 1025 * depth) × (depth ≤ 1000)

-- A send lies within so many atoms, and so many are left when it is done.
pub record Lies (count below : ℕ) (p : Pending) : Type 0 where
  pub order : p.first ≤ p.after
  pub within : p.after ≤ count
  pub floor : p.floor ≤ count
  pub fits : Fits count below p.depth p.cursor p.floor

-- each send lies within the atoms that are left when those above it are done
abbrev pub AllLie : ℕ → List Pending → Type 0
AllLie count [] = count ≡ 0
AllLie count (p ∷ ps) = Lies count (length ps) p × AllLie p.floor ps

-- a pile in which everything has its place
abbrev pub IsPiled : Pile → Type 0
IsPiled pile = AllLie (length pile.atoms) pile.pendings

-- a row whose atoms lie behind so many others
abbrev pub row_from : ℕ → SendRow → SendRow
row_from base row = record { target = row.target; selector = row.selector; first = base + row.first; after = base + row.after }

-- the send of a row whose atoms lie behind so many others
abbrev pub send_at : ℕ → List Atom → SendRow → Send
send_at base atoms row = send_of atoms (row_from base row)

-- what is left of a pile
abbrev pub LeftOn : Net → Pile → List Task → Type 0
LeftOn net pile tasks = AreLeft net pile.atoms pile.pendings tasks
