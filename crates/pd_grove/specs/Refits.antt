-- A box that becomes another under its key.
use Rattle.std.specs.Prelude.{◌≡◌, ◌≢◌, ℕ, ℤ, List, [], Option, None, option_map}
use Rattle.slab.specs.Slab.{get}
use Rattle.pd_atom.specs.declared.Atom.{Atom}
use Rattle.pd_grove.specs.declared.nodes.Node.{Node}
use Rattle.pd_grove.specs.declared.boards.Board.{Board}
use Rattle.pd_grove.specs.declared.grove.Grove.{Grove}
use Rattle.pd_grove.specs.declared.seeds.Seed.{Seed}
use Rattle.pd_grove.specs.Planting.{Uses}
use Rattle.pd_grove.specs.Grafts.{HasPartMore, TakesBox}

-- the box at another place
abbrev pub at_place : ℤ → ℤ → Node → Node
at_place x y n = record n { element = record n.element { x = x; y = y } }

-- the box with another text, as the document has it and with its dollars replaced; a new text has no width and no tail rows
abbrev pub with_text : List Atom → List Atom → Node → Node
with_text written text n = record n { element = record n.element { text = written; width = None; tail = [] }; text = text }

-- the box of a key has become this of what it was, and all else stays
pub record Alters (old new : Grove) (k : ℕ) (f : Node → Node) : Type 0 where
  pub box : get new.nodes k ≡ option_map f (get old.nodes k)
  pub others : (l : ℕ) → l ≢ k → get new.nodes l ≡ get old.nodes l
  pub boards : new.boards ≡ old.boards
  pub labels : new.labels ≡ old.labels
  pub root : new.root ≡ old.root

-- The box k is gone from the canvas c with all that lay in it, and then a box made of the first seed has come under the same key at
-- the same number, with all that lies in it.
pub record Refits (nodes nodes' : ℕ → Option Node) (boards boards' : ℕ → Option Board) (c k : ℕ) (n : Node) (before behind : List ℕ) (seeds seeds' : List Seed) : Type 0 where
  pub nodes_left : ℕ → Option Node
  pub boards_left : ℕ → Option Board
  pub taken : TakesBox nodes nodes_left boards boards_left c k n before behind
  pub put : HasPartMore nodes_left nodes' boards_left boards' c k before behind
  pub uses : Uses nodes_left nodes' seeds seeds'
