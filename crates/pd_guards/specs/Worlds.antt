-- When what a patch keeps, tasks and what begins deliveries are in order.
use Rattle.std.specs.Prelude.{ℕ, ◌≤◌, ◌^◌, List, Option, IfSome}
use Rattle.pd_atom.specs.Names.{Names, Extends}
use Rattle.pd_atom.specs.declared.Atom.{Atom}
use Rattle.pd_kind.specs.declared.states.State.{State}
use Rattle.pd_grove.specs.Telling.{kind_in}
use Rattle.pd_walk.specs.declared.walker.Start.{Start}
use Rattle.pd_walk.specs.declared.walker.Start.TheVariants as start
use Rattle.pd_hearing.specs.Worlds.{Net, Kept}
use Rattle.pd_hearing.specs.Hearing.{Reply}
use Rattle.pd_stack.specs.Tasks.{Task, Deliver, Ask, Resume, Nobody}
use Rattle.pd_guards.specs.Order.{HasFirst, IsName, AreAtoms, IsMessage, IsKept, IsKind, IsSaid}

abbrev pub AreKept : Names → ℕ → (ℕ → Option State) → Type 0
AreKept names now states = (k : ℕ) → IfSome (states k) (IsKept names now)

abbrev pub AreKinds : Net → Names → Type 0
AreKinds net names = (k : ℕ) → IfSome (kind_in (net.nodes k)) (IsKind names)

-- it is a time at which events come, the table of names has its first names, and every box is in order
pub record IsInOrder (net : Net) (now : ℕ) (kept : Kept) : Type 0 where
  pub time : now ≤ 2 ^ 101
  pub first : HasFirst kept.names
  pub kinds : AreKinds net kept.names
  pub states : AreKept kept.names now kept.states

abbrev pub IsTask : Names → Task → Type 0
IsTask names (Deliver depth node inlet selector atoms) = IsMessage names selector atoms
IsTask names (Ask depth canvas selector atoms) = IsMessage names selector atoms
IsTask names (Resume depth node) = Unit {0}
IsTask names (Nobody name) = IsName names name

-- what is left by a box that acts
pub record IsReply (names : Names) (now : ℕ) (r : Reply) : Type 0 where
  pub extends : Extends names r.names
  pub states : AreKept r.names now r.states
  pub said : IsSaid r.names r.said

-- a message to a name
pub record IsNamed (names : Names) (name selector : ℕ) (atoms : List Atom) : Type 0 where
  pub known : IsName names name
  pub message : IsMessage names selector atoms

abbrev pub IsStart : Names → Start → Type 0
IsStart names (start.Name name message) = IsNamed names name message.selector message.atoms.now
IsStart names (start.Clock owner) = Unit {0}
IsStart names (start.Loads boxes) = Unit {0}

-- the name and the atoms of a message that is read are of the table, which goes on
pub record IsSent (names after : Names) (name : ℕ) (atoms : List Atom) : Type 0 where
  pub extends : Extends names after
  pub known : IsName after name
  pub atoms_known : AreAtoms after atoms
