-- Boxes around boxes, and two boxes in one canvas.
use Rattle.std.specs.Prelude.{◌≡◌, ℕ, zero, suc, Bool, true, false, ◌&&◌, Option, Some, None, option_and_then, slice_get}
use Rattle.pd_canvas.specs.Views.{entry_of}
use Rattle.pd_grove.specs.declared.nodes.Node.{Node}
use Rattle.pd_grove.specs.declared.boards.Board.{Board}
use Rattle.pd_grove.specs.Standing.{depth_of}
use Rattle.pd_grove.specs.Telling.{keys_in}
use Rattle.pd_grove.specs.Owning.{board_in}
use Rattle.pd_grove.specs.Forest.{holder_in}
use Rattle.pd_grove.specs.TextOrder.{is_sub}

-- the box that holds the canvas of a box
abbrev pub holder_of : (ℕ → Option Node) → (ℕ → Option Board) → ℕ → Option ℕ
holder_of nodes boards k = option_and_then (λ c. holder_in (boards c)) (board_in (nodes k))

-- the box so many boxes further out
abbrev pub box_out : (ℕ → Option Node) → (ℕ → Option Board) → ℕ → ℕ → Option ℕ
box_out nodes boards zero k = Some k
box_out nodes boards (suc m) k = option_and_then (holder_of nodes boards) (box_out nodes boards m k)

-- in how many canvases the canvas of a box lies
abbrev pub level : (ℕ → Option Node) → (ℕ → Option Board) → ℕ → ℕ
level nodes boards k = depth_of (option_and_then boards (board_in (nodes k)))

-- the box m boxes out of a and that n boxes out of b stand in one canvas, at the numbers i and j
pub record StandBeside (nodes : ℕ → Option Node) (boards : ℕ → Option Board) (m n a b i j : ℕ) : Type 0 where
  pub canvas : ℕ
  pub first : ℕ
  pub second : ℕ
  pub out : box_out nodes boards m a ≡ Some first
  pub other_out : box_out nodes boards n b ≡ Some second
  pub at : slice_get (keys_in (boards canvas)) i ≡ Some first
  pub other_at : slice_get (keys_in (boards canvas)) j ≡ Some second

abbrev pub is_sub_box : Option Node → Bool
is_sub_box None = false
is_sub_box (Some n) = is_sub (entry_of n.element).head.form

-- a box around another, if there is one, is a subpatch, and so are the boxes around it
abbrev pub own_in : (ℕ → Option Node) → (ℕ → Bool) → Option ℕ → Bool
own_in nodes around None = true
own_in nodes around (Some h) = around h && is_sub_box (nodes h)

-- the boxes around a box are subpatches, so many of them
abbrev pub is_own : (ℕ → Option Node) → (ℕ → Option Board) → ℕ → ℕ → Bool
is_own nodes boards zero k = true
is_own nodes boards (suc m) k = own_in nodes (is_own nodes boards m) (holder_of nodes boards k)
