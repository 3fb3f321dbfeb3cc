-- Which boxes run in a block, and that each of them runs once.
use Rattle.std.specs.Prelude.{ℕ, zero, suc, ◌≤◌, List, [], ◌∷◌, Option, Some, None, flat_map}
use Rattle.pd_order.specs.Graph.{tally}
use Rattle.pd_block.specs.Nets.{Net, inner_at, chain_at}

-- a box, and then those of the canvas that it may hold
abbrev pub with_inside : (ℕ → List ℕ) → ℕ → Option ℕ → List ℕ
with_inside inside box None = box ∷ []
with_inside inside box (Some canvas) = box ∷ inside canvas

-- The boxes of a canvas that run in a block, in the order in which they run. The number bounds how deep canvases lie in one another.
unfoldable pub boxes_run : Net → ℕ → ℕ → List ℕ
boxes_run net zero canvas = []
boxes_run net (suc levels) canvas = flat_map (λ k. with_inside (boxes_run net levels) k (inner_at net k)) (chain_at net canvas)

-- no box runs twice in a block
pub record RunsOnce (levels : ℕ) (net : Net) : Type 0 where
  pub once : (k : ℕ) → tally k (boxes_run net levels net.root) ≤ 1
