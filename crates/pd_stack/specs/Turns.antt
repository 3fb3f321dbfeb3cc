-- What the top of a stack gives next.
use Rattle.std.specs.Prelude.{◌≡◌, ℕ, ◌+◌, ◌*◌, ◌<◌, ◌≤◌, List, [], ◌∷◌, ◌++◌, length, map, slice_range, Option, Some, None}
use Rattle.std.specs.List.{flat_map}
use Rattle.pd_atom.specs.Names.{Names}
use Rattle.pd_atom.specs.declared.Atom.{Atom}
use Rattle.pd_say.specs.Gathering.{Says, Fails}
use Rattle.pd_stack.specs.declared.stack.Pending.{Pending}
use Rattle.pd_stack.specs.declared.steps.Place.{Place}
use Rattle.pd_stack.specs.declared.steps.Place.TheVariants as place
use Rattle.pd_stack.specs.declared.steps.Task.{Task as Due}
use Rattle.pd_stack.specs.declared.steps.Turn.{Turn}
use Rattle.pd_stack.specs.declared.steps.Turn.TheVariants as turn
use Rattle.pd_stack.specs.Pile.{Pile}
use Rattle.pd_hearing.specs.Worlds.{Net}
use Rattle.pd_stack.specs.Tasks.{Task, Deliver, Ask, Resume, Nobody, nobody_text}
use Rattle.pd_stack.specs.Piles.{CursorTasks, Fits, LeftOn}

-- a message comes to a place
abbrev pub doing : Place → ℕ → ℕ → List Atom → Task
doing (place.Inlet node inlet) depth selector atoms = Deliver depth node inlet selector atoms
doing (place.Canvas canvas) depth selector atoms = Ask depth canvas selector atoms
doing (place.Again node) depth selector atoms = Resume depth node

-- the task, with its message out of the stack's atoms
abbrev pub told : List Atom → Due → Task
told atoms t = doing t.place t.depth t.selector (slice_range atoms t.first t.after)

abbrev pub told_list : Pile → Option Due → List Task
told_list pile None = []
told_list pile (Some t) = told pile.atoms t ∷ []

-- the message of a send comes to a place
abbrev pub due_at : Place → Pending → Due
due_at p top = record { place = p; depth = top.depth; selector = top.selector; first = top.first; after = top.after }

-- a box is resumed
abbrev pub again_at : ℕ → Pending → Due
again_at node top = record { place = place.Again node; depth = top.depth; selector = top.selector; first = 0; after = 0 }

abbrev pub due_in : Pending → Turn → Option Due
due_in top (turn.Due p rest) = Some (due_at p top)
due_in top (turn.Resumed node) = Some (again_at node top)
due_in top (turn.Unheard name) = None
due_in top turn.Over = None

-- the first of these tasks is this one, and the others are so
pub record StartsWith (P : List Task → Type 0) (task : Task) (tasks : List Task) : Type 0 where
  pub later : List Task
  pub is : tasks ≡ task ∷ later
  pub then : P later

-- what a send gives next: a task and then the rest, that a box is resumed, that nobody hears, or nothing more
abbrev pub TurnTasks : Net → ℕ → ℕ → List Atom → Turn → List Task → Type 0
TurnTasks net depth selector atoms (turn.Due p rest) tasks = StartsWith (CursorTasks net depth selector atoms rest) (doing p depth selector atoms) tasks
TurnTasks net depth selector atoms (turn.Resumed node) tasks = tasks ≡ Resume depth node ∷ []
TurnTasks net depth selector atoms (turn.Unheard name) tasks = tasks ≡ Nobody name ∷ []
TurnTasks net depth selector atoms turn.Over tasks = tasks ≡ []

-- how high the stack stands at this turn
abbrev pub TurnFits : ℕ → ℕ → ℕ → ℕ → Turn → Type 0
TurnFits count below depth floor (turn.Due p rest) = Fits count below depth rest floor × ((count ≤ 2048 * depth) × (below + 1 ≤ 1025 * depth) × (depth ≤ 1000))
TurnFits count below depth floor (turn.Resumed node) = (floor ≤ 2048 * depth) × (below ≤ 1025 * depth) × (depth < 1000)
TurnFits count below depth floor (turn.Unheard name) = Unit {0}
TurnFits count below depth floor turn.Over = Unit {0}

-- what is left after a turn
abbrev pub AfterTurn : Net → Pile → Pending → Turn → List Task → Type 0
AfterTurn net pile top (turn.Due p rest) tasks = StartsWith (LeftOn net pile) (told pile.atoms (due_at p top)) tasks
AfterTurn net pile top (turn.Resumed node) tasks = StartsWith (LeftOn net pile) (Resume top.depth node) tasks
AfterTurn net pile top (turn.Unheard name) tasks = StartsWith (LeftOn net pile) (Nobody name) tasks
AfterTurn net pile top turn.Over tasks = LeftOn net pile tasks

-- There is room for what a task leads to, and its message stands on the stack.
pub record IsDue (pile : Pile) (t : Due) : Type 0 where
  pub order : t.first ≤ t.after
  pub within : t.after ≤ length pile.atoms
  pub depth : t.depth ≤ 1000
  pub room : length pile.pendings ≤ 1025 * t.depth
  pub atoms : length pile.atoms ≤ 2048 * t.depth

abbrev pub turn_text : Names → Turn → List ℕ
turn_text names (turn.Unheard name) = nobody_text names name
turn_text names t = []

abbrev pub nobodies : List ℕ → List Task
nobodies names = map (λ name. Nobody name) names

-- Of these tasks those come first of which it is only said that nobody hears. Then comes what is next, and then what is left.
pub record Yields (net : Net) (names : Names) (old : Option (List ℕ)) (held : List ℕ) (new : Option (List ℕ)) (held' : List ℕ) (pile : Pile) (next tasks : List Task) : Type 0 where
  pub unheard : List ℕ
  pub later : List Task
  pub is : tasks ≡ nobodies unheard ++ (next ++ later)
  pub left : LeftOn net pile later
  pub says : Says old held new held' (flat_map (nobody_text names) unheard)

-- it fails where it is said of the first of these tasks that nobody hears
pub record BreaksOff (names : Names) (old : Option (List ℕ)) (held : List ℕ) (new : Option (List ℕ)) (tasks : List Task) : Type 0 where
  pub unheard : List ℕ
  pub later : List Task
  pub is : tasks ≡ nobodies unheard ++ later
  pub fails : Fails old held new (flat_map (nobody_text names) unheard)
