-- In which canvas a box lies.
use Rattle.std.specs.Prelude.{◌≡◌, ℕ, Option, Some, option_map, slice_get}
use Rattle.pd_grove.specs.declared.nodes.Node.{Node}
use Rattle.pd_grove.specs.declared.boards.Board.{Board}
use Rattle.pd_grove.specs.Telling.{keys_in}

-- the key of the canvas of a box
abbrev pub board_in : Option Node → Option ℕ
board_in o = option_map (λ (n : Node). n.board) o

-- Each box of a canvas lies in it, so that it stands in no other one, and stands there once.
pub record AreOwn (nodes : ℕ → Option Node) (boards : ℕ → Option Board) : Type 0 where
  pub home : (c i k : ℕ) → slice_get (keys_in (boards c)) i ≡ Some k → board_in (nodes k) ≡ Some c
  pub once : (c i j k : ℕ) → slice_get (keys_in (boards c)) i ≡ Some k → slice_get (keys_in (boards c)) j ≡ Some k → i ≡ j
