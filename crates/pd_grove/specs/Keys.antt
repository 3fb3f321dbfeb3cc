-- The keys of the boxes of canvases, and labels that rise along them.
use Rattle.std.specs.Prelude.{◌≤◌, ℕ, List, [], length, Option, Some, None}
use Rattle.pd_label.specs.Labels.{Reach, Rise}
use Rattle.pd_grove.specs.declared.boards.Board.{Board}

abbrev pub keys_in : Option Board → List ℕ
keys_in None = []
keys_in (Some b) = b.nodes.items

-- labels rise along the boxes of each canvas
pub record AreLabelled (labels : List ℕ) (boards : ℕ → Option Board) : Type 0 where
  pub reach : (c : ℕ) → Reach labels (keys_in (boards c))
  pub rise : (c : ℕ) → Rise labels (keys_in (boards c))

-- and there is a label for each key below this end
pub record HaveLabels (end : ℕ) (labels : List ℕ) (boards : ℕ → Option Board) : Type 0 where
  pub long : end ≤ length labels
  pub are : AreLabelled labels boards
