-- The path of box numbers that leads from the root to a canvas.
use Rattle.std.specs.Prelude.{ℕ, zero, suc, List, [], ◌∷◌, ◌++◌, Option, Some, None, option_and_then, reverse}
use Rattle.slab.specs.Slab.{get}
use Rattle.slab.specs.Slab.{Slab}
use Rattle.pd_grove.specs.declared.nodes.Node.{Node}
use Rattle.pd_grove.specs.declared.boards.Board.{Board}
use Rattle.pd_patch.specs.Telling.{number_in}

-- the canvas in which a box lies, and the number of the box
abbrev pub spot_of : List ℕ → ℕ → Option Node → Option (ℕ × ℕ)
spot_of numbers k None = None
spot_of numbers k (Some n) = Some (n.board, number_in numbers k)

abbrev pub holder_in : Option Board → Option ℕ
holder_in o = option_and_then (λ b. b.holder) o

-- the canvas in which a canvas lies, and the number of the box that holds it
abbrev pub around : (ℕ → Option Node) → Slab Board → List ℕ → ℕ → Option (ℕ × ℕ)
around nodes boards numbers canvas = option_and_then (λ k. spot_of numbers k (nodes k)) (holder_in (get boards canvas))

-- the number of the box, where there is one
abbrev pub number_of : Option (ℕ × ℕ) → List ℕ
number_of None = []
number_of (Some here) = here.1 ∷ []

-- one step further out
abbrev pub out_of : (ℕ → Option Node) → Slab Board → List ℕ → Option (ℕ × ℕ) → Option (ℕ × ℕ)
out_of nodes boards numbers None = None
out_of nodes boards numbers (Some here) = around nodes boards numbers here.0

-- the numbers of boxes on the way out to the root, at most so many
unfoldable pub outward : (ℕ → Option Node) → Slab Board → List ℕ → ℕ → Option (ℕ × ℕ) → List ℕ
outward nodes boards numbers zero here = []
outward nodes boards numbers (suc n) here = number_of here ++ outward nodes boards numbers n (out_of nodes boards numbers here)

-- the path to a canvas
unfoldable pub path_told : (ℕ → Option Node) → Slab Board → List ℕ → ℕ → List ℕ
path_told nodes boards numbers canvas = reverse (outward nodes boards numbers 256 (around nodes boards numbers canvas))
