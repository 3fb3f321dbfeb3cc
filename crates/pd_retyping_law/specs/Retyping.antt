-- A running patch in which a box became another one, or a subpatch got another text.
use Rattle.std.specs.Prelude.{◌≡◌, ◌≢◌, ℕ, List, slice_get, Some, None}
use Rattle.slab.specs.Slab.{get}
use Rattle.pd_clock.specs.declared.times.Rate.{Rate}
use Rattle.pd_kind.specs.States.{start_of}
use Rattle.pd_kind.specs.Tables.{started}
use Rattle.pd_canvas.specs.Pages.{Sub}
use Rattle.pd_canvas.specs.Views.{entry_of}
use Rattle.pd_tree.specs.Trees.{Cell}
use Rattle.pd_grove.specs.declared.nodes.Node.{Node}
use Rattle.pd_grove.specs.declared.grove.Grove.{Grove}
use Rattle.pd_grove.specs.Forest.{IsForest}
use Rattle.pd_grove.specs.OwnPaths.{sub_reached}
use Rattle.pd_grove.specs.Standing.{node_seen}
use Rattle.pd_web.specs.Canvases.{keys_at}

-- In the canvas to which a path leads through subpatches the box of a number is another one now, under the same key. Neither holds a
-- canvas; all else stays.
pub record RetypesBoxAt (g h : Grove) (path : List ℕ) (canvas key number : ℕ) (n n' : Node) : Type 0 where
  pub forest : IsForest (get g.nodes) (get g.boards) g.root
  pub leads : sub_reached g (Some g.root) path ≡ Some canvas
  pub is : slice_get (keys_at g canvas) number ≡ Some key
  pub was : get g.nodes key ≡ Some n
  pub bare : n.inner ≡ None
  pub becomes : get h.nodes key ≡ Some n'
  pub leaf : n'.inner ≡ None
  pub board : n'.board ≡ n.board
  pub others : (k : ℕ) → k ≢ key → get h.nodes k ≡ get g.nodes k
  pub boards : h.boards ≡ g.boards
  pub root : h.root ≡ g.root

-- In the canvas to which a path leads through subpatches the box of a number, a subpatch, is this one now, with what it holds and what it keeps; all else
-- stays.
pub record RenamesBoxAt (g h : Grove) (path : List ℕ) (canvas key number : ℕ) (n n' : Node) : Type 0 where
  pub forest : IsForest (get g.nodes) (get g.boards) g.root
  pub leads : sub_reached g (Some g.root) path ≡ Some canvas
  pub is : slice_get (keys_at g canvas) number ≡ Some key
  pub was : get g.nodes key ≡ Some n
  pub sub : (entry_of n.element).head.form ≡ Sub
  pub becomes : get h.nodes key ≡ Some n'
  pub form : (entry_of n'.element).head.form ≡ Sub
  pub inner : n'.inner ≡ n.inner
  pub kind : n'.kind ≡ n.kind
  pub state : n'.state ≡ n.state
  pub board : n'.board ≡ n.board
  pub others : (k : ℕ) → k ≢ key → get h.nodes k ≡ get g.nodes k
  pub boards : h.boards ≡ g.boards
  pub root : h.root ≡ g.root

-- The same of a box, whatever it is: it holds the canvas that it held, and only a subpatch does, which is one still.
pub record ChangesBoxAt (g h : Grove) (path : List ℕ) (canvas key number : ℕ) (n n' : Node) : Type 0 where
  pub forest : IsForest (get g.nodes) (get g.boards) g.root
  pub leads : sub_reached g (Some g.root) path ≡ Some canvas
  pub is : slice_get (keys_at g canvas) number ≡ Some key
  pub was : get g.nodes key ≡ Some n
  pub becomes : get h.nodes key ≡ Some n'
  pub inner : n'.inner ≡ n.inner
  pub sub : (j : ℕ) → n.inner ≡ Some j → (entry_of n.element).head.form ≡ Sub
  pub form : (j : ℕ) → n.inner ≡ Some j → (entry_of n'.element).head.form ≡ Sub
  pub board : n'.board ≡ n.board
  pub others : (k : ℕ) → k ≢ key → get h.nodes k ≡ get g.nodes k
  pub boards : h.boards ≡ g.boards
  pub root : h.root ≡ g.root

-- the box, as it stands in a tree
abbrev pub cell_in : Node → Cell
cell_in n = (node_seen n).cell

-- the box keeps what its kind keeps at first
abbrev pub KeepsFirst : Rate → ℕ → Node → Type 0
KeepsFirst rate now n = n.state ≡ Some (started (start_of n.kind rate) now)
