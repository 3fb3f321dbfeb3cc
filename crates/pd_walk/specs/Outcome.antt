-- What becomes of an event's messages.
use Rattle.std.specs.Prelude.{◌≡◌, ℕ, true, List, [], ◌∷◌, Option, IsSome, if◌then◌else◌}
use Rattle.pd_atom.specs.declared.Atom.{Atom}
use Rattle.pd_kind.specs.Said.{Said}
use Rattle.pd_kind.specs.declared.states.State.{State}
use Rattle.pd_io.specs.Stream.{grown}
use Rattle.pd_turns.specs.Turns.{World, all_finished}
use Rattle.pd_walk.specs.declared.walker.Budget.{Budget}
use Rattle.pd_walk.specs.declared.walker.Start.{Start}
use Rattle.pd_walk.specs.declared.walker.Start.TheVariants as start
use Rattle.pd_hearing.specs.Worlds.{Net, Kept}
use Rattle.pd_hearing.specs.Guards.{is_few}
use Rattle.pd_hearing.specs.Hearing.{fired_at, loaded_at}
use Rattle.pd_hearing.specs.Deeds.{done}
use Rattle.pd_stack.specs.Tasks.{Task, to_name}
use Rattle.pd_walk.specs.Acts.{rules, asked_for}

-- a world with this budget
abbrev pub world : Kept → Budget → List ℕ → World Kept
world kept budget said = record { kept = kept; budget = budget.left; cut = budget.cut; said = said }

-- tasks, each with all that it causes, before the next
abbrev pub ran : Net → ℕ → World Kept → List Task → World Kept
ran net now w tasks = all_finished (rules net now) w tasks

-- what a box's deed leaves
abbrev pub after_deed : Net → ℕ → ℕ → Said → World Kept → World Kept
after_deed net now node said w = record { kept = done net now node said.deed w.kept; budget = w.budget; cut = w.cut; said = w.said }

-- a box says something by itself: its deed takes effect, and its sends are done with depth 1
abbrev pub told_by : Net → ℕ → ℕ → Said → World Kept → World Kept
told_by net now node said w = ran net now (after_deed net now node said w) (asked_for net 0 node said)

-- boxes are loaded, one after the other
abbrev pub all_loaded : Net → ℕ → World Kept → List ℕ → World Kept
all_loaded net now w [] = w
all_loaded net now w (node ∷ nodes) = all_loaded net now (told_by net now node (loaded_at net w.kept.states node) w) nodes

-- a message of more than 1,024 atoms is none
abbrev pub named_tasks : Net → ℕ → ℕ → List Atom → List Task
named_tasks net name selector atoms = if is_few atoms then to_name net 1 selector atoms name true else []

-- what becomes of what begins deliveries
unfoldable pub outcome : Net → ℕ → World Kept → Start → World Kept
outcome net now w (start.Name name message) = ran net now w (named_tasks net name message.selector message.atoms.now)
outcome net now w (start.Clock owner) = told_by net now owner (fired_at net w.kept.states owner) w
outcome net now w (start.Loads boxes) = all_loaded net now w boxes.now

-- all is left as this world is
pub record IsLeft (kept : Kept) (budget : Budget) (before now : Option (List ℕ)) (final : World Kept) : Type 0 where
  pub kept_is : kept ≡ final.kept
  pub left : budget.left ≡ final.budget
  pub cut : budget.cut ≡ final.cut
  pub said : now ≡ grown before final.said

-- each box that keeps something still does
pub record StatesStay (old new : ℕ → Option State) : Type 0 where
  pub stay : (k : ℕ) → IsSome (old k) → IsSome (new k)
