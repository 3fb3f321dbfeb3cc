-- A box that holds a canvas without boxes comes under keys.
use Rattle.std.specs.Prelude.{ℕ, List, Option}
use Rattle.pd_grove.specs.declared.nodes.Node.{Node}
use Rattle.pd_grove.specs.declared.boards.Board.{Board}
use Rattle.pd_grove.specs.Grafts.{HasBoxMore, HasCanvasMore}

-- The second are the first with one box more, in the canvas c, with these before it and these behind, and with the canvas that it holds,
-- which has no boxes: the box comes, and then it gets its canvas.
pub record HasShellMore (nodes nodes' : ℕ → Option Node) (boards boards' : ℕ → Option Board) (c k j : ℕ) (n : Node) (b : Board) (before behind : List ℕ) : Type 0 where
  pub nodes_between : ℕ → Option Node
  pub boards_between : ℕ → Option Board
  pub box : HasBoxMore nodes nodes_between boards boards_between c k n before behind
  pub canvas : HasCanvasMore nodes_between nodes' boards_between boards' k j n b
