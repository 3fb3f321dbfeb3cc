-- Brief messages that go from box to box along single wires, past the stack.
use Rattle.std.specs.Prelude.{◌≡◌, ℕ, ◌+◌, ◌-◌, ◌%◌, ◌<◌, ◌≤◌, ◌^◌, false, List, [], ◌∷◌, ◌++◌, length, slice_get, Option, Some, None}
use Rattle.pd_atom.specs.Names.{Names}
use Rattle.pd_kind.specs.declared.states.State.{State}
use Rattle.pd_web.specs.declared.web.Hop.{Hop}
use Rattle.pd_web.specs.declared.web.Web.{Web}
use Rattle.pd_web.specs.Hops.{fan_hops}
use Rattle.pd_grove.specs.Telling.{kind_in}
use Rattle.pd_hearing.specs.declared.briefs.Brief.{Brief}
use Rattle.pd_hearing.specs.declared.briefs.Reaction.{Reaction}
use Rattle.pd_hearing.specs.declared.briefs.Reaction.TheVariants as reaction
use Rattle.pd_hearing.specs.Briefs.{selector_of, atoms_of, said_of}
use Rattle.pd_hearing.specs.Outlets.{is_outlet}
use Rattle.pd_hearing.specs.Worlds.{Net, Kept}
use Rattle.pd_hearing.specs.Hearing.{heard_at}
use Rattle.pd_walk.specs.declared.routes.Route.{Route}
use Rattle.pd_walk.specs.declared.relay.Saying.{Saying}
use Rattle.pd_walk.specs.declared.relay.Rest.{Rest}
use Rattle.pd_walk.specs.declared.walker.Budget.{Budget}
use Rattle.pd_stack.specs.Pile.{Pile}
use Rattle.pd_stack.specs.Piles.{GoesAlong, LeftOn}
use Rattle.pd_stack.specs.Tasks.{Task, Resume, along, end_of}
use Rattle.pd_walk.specs.Outcome.{world, ran}

-- a box's first outlet has one wire, which leads here
pub record IsRoute (web : Web) (node : ℕ) (r : Route) : Type 0 where
  pub hop : Hop
  pub only : fan_hops web node 0 ≡ hop ∷ []
  pub to : r.to ≡ (end_of web hop).0
  pub inlet : r.inlet ≡ (end_of web hop).1

-- the routes that are known are true: those under the key of a box, which is below 2^32
pub record AreRoutes (web : Web) (routes : List Route) : Type 0 where
  pub each : (k : ℕ) (r : Route) → slice_get routes k ≡ Some r → r.node < 2 ^ 32 → IsRoute web r.node r

-- a route of a box is at hand, and true
pub record IsAtHand (web : Web) (routes : List Route) (node : ℕ) : Type 0 where
  pub route : Route
  pub at : slice_get routes (node % 256) ≡ Some route
  pub is : IsRoute web node route

-- a box says a brief message, to be delivered at a depth
abbrev pub saying_at : ℕ → ℕ → Brief → Saying
saying_at depth node m = record { node = node; depth = depth; message = m }

-- the same deeper
abbrev pub deeper : ℕ → Saying → Saying
deeper n s = saying_at (s.depth + n) s.node s.message

-- so many deliveries less are left
abbrev pub spent : ℕ → Budget → Budget
spent n b = record { left = b.left - n; cut = b.cut }

-- the deliveries of a brief message that a box says to its first outlet
abbrev pub brief_tasks : Net → ℕ → ℕ → Brief → List Task
brief_tasks net depth node m = along net.web depth (selector_of m) (atoms_of m) (fan_hops net.web node 0)

abbrev pub saying_tasks : Net → Saying → List Task
saying_tasks net s = brief_tasks net s.depth s.node s.message

-- those of what comes of a brief message: none where the box says nothing
abbrev pub reaction_tasks : Net → Reaction → Saying → List Task
reaction_tasks net reaction.Silent s = []
reaction_tasks net r s = saying_tasks net s

-- a delivery less is left
abbrev pub one_less : Budget → Budget
one_less b = record { left = b.left - 1; cut = b.cut }

-- These tasks lead on to those: whatever was said before and whatever comes later, the same becomes of both.
abbrev pub Leads : Net → ℕ → Kept → Budget → List Task → Kept → Budget → List Task → Type 0
Leads net now kept budget tasks kept2 budget2 tasks2 =
    (said : List ℕ) (later : List Task) → ran net now (world kept budget said) (tasks ++ later) ≡ ran net now (world kept2 budget2 said) (tasks2 ++ later)

-- one box heard the message, at the end of the only wire; where it says something, that is what is said now
pub record IsHeard (net : Net) (old new : ℕ → Option State) (here here2 : Saying) (r : Reaction) : Type 0 where
  pub hop : Hop
  pub only : fan_hops net.web here.node 0 ≡ hop ∷ []
  pub inner : is_outlet (kind_in (net.nodes (end_of net.web hop).0)) ≡ false
  pub heard : (names : Names) (now : ℕ) → 2 ≤ length names
      → record { states = new; names = names; said = said_of r here2.message }
      ≡ heard_at net now old names (end_of net.web hop).0 (end_of net.web hop).1 (selector_of here.message) (atoms_of here.message)
  pub says : r ≡ reaction.Says → here2 ≡ record { node = (end_of net.web hop).0; depth = here.depth + 1; message = here2.message }

-- how a brief message goes on: not at all, or to one box
abbrev pub Stepped : Net → (ℕ → Option State) → (ℕ → Option State) → Saying → Saying → Reaction → Type 0
Stepped net old new here here2 reaction.Unheard = (here2.node ≡ here.node) × ((here2.message ≡ here.message) × (new ≡ old))
Stepped net old new here here2 r = IsHeard net old new here here2 r

-- the tasks of what is left of a send
abbrev pub RestTasks : Net → Option Rest → List Task → Type 0
RestTasks net None tasks = tasks ≡ []
RestTasks net (Some r) tasks = GoesAlong net r.depth (selector_of r.message) (atoms_of r.message) (Some r.hop) tasks

-- these tasks lead on to what is left of a send, and then to those
pub record Relayed (net : Net) (now : ℕ) (kept : Kept) (budget : Budget) (tasks : List Task) (kept2 : Kept) (budget2 : Budget) (o : Option Rest) (after : List Task) : Type 0 where
  pub rest : List Task
  pub is : RestTasks net o rest
  pub leads : Leads net now kept budget tasks kept2 budget2 (rest ++ after)

-- that a box is resumed
abbrev pub resumption : ℕ → ℕ → List Task
resumption depth node = Resume depth node ∷ []

-- these tasks lead on to what stands on a pile before those
pub record GoesFrom (net : Net) (now : ℕ) (kept : Kept) (budget : Budget) (from : List Task) (kept2 : Kept) (budget2 : Budget) (pile : Pile) (tasks : List Task) : Type 0 where
  pub rest : List Task
  pub left : LeftOn net pile (rest ++ tasks)
  pub leads : Leads net now kept budget from kept2 budget2 rest
