-- A walk that is under way: what is left to do, from the world as it is, gives the final world.
use Rattle.std.specs.Prelude.{◌≡◌, ℕ, List, ◌++◌, Option}
use Rattle.pd_say.specs.Gathering.{IsSaid}
use Rattle.pd_turns.specs.Turns.{World}
use Rattle.pd_walk.specs.declared.walker.Budget.{Budget}
use Rattle.pd_stack.specs.Pile.{Pile}
use Rattle.pd_hearing.specs.Worlds.{Net, Kept}
use Rattle.pd_stack.specs.Tasks.{Task}
use Rattle.pd_stack.specs.Piles.{LeftOn}
use Rattle.pd_walk.specs.Outcome.{world, ran}

-- these tasks come next, and then what is left of the pile
pub record IsUnderWay (net : Net) (now : ℕ) (kept : Kept) (budget : Budget) (pile : Pile) (next : List Task) (before taken : Option (List ℕ)) (held : List ℕ) (final : World Kept) : Type 0 where
  pub said : List ℕ
  pub tasks : List Task
  pub is_said : IsSaid before taken held said
  pub left : LeftOn net pile tasks
  pub same : ran net now (world kept budget said) (next ++ tasks) ≡ final

-- the end: all is as the final world has it
pub record IsDone (kept : Kept) (budget : Budget) (before taken : Option (List ℕ)) (held : List ℕ) (final : World Kept) : Type 0 where
  pub kept_is : kept ≡ final.kept
  pub left : budget.left ≡ final.budget
  pub cut : budget.cut ≡ final.cut
  pub is_said : IsSaid before taken held final.said
