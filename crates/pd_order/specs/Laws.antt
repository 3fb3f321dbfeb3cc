-- What holds of the orders of a graph, and of the graph with one wire more.
use Rattle.std.specs.Prelude.{◌≡◌, ℕ, ◌+◌, ◌<◌, ◌≤◌, ◌↔◌, Some, List, length, take, drop, slice_get}
use Rattle.pd_order.specs.Graph.{Graph, tally, IsOrder}
use Rattle.pd_order.specs.Window.{Agree}

-- a graph has one order of its nodes
abbrev pub HasOneOrder : Graph → List ℕ → Type 0
HasOneOrder g nodes = (chain stuck chain' stuck' : List ℕ) → IsOrder g nodes chain stuck → IsOrder g nodes chain' stuck' → (chain ≡ chain') × (stuck ≡ stuck')

-- the two chains have v at place i, or neither has
abbrev pub PickAlike : ℕ → List ℕ → List ℕ → ℕ → Type 0
PickAlike v xs ys i = (slice_get xs i ≡ Some v) ↔ (slice_get ys i ≡ Some v)

-- the first k nodes of both chains are the same set
abbrev pub HaveMet : List ℕ → List ℕ → ℕ → Type 0
HaveMet xs ys k = (x : ℕ) → tally x (take k xs) ≡ tally x (take k ys)

-- How the chain without a wire into v stands to the chain with it.
pub record FoldsMeet (v : ℕ) (without wired : List ℕ) : Type 0 where
  -- up to the first place at which one of them picks v and the other doesn't, they are the same
  pub front : (k : ℕ) → ((i : ℕ) → i < k → PickAlike v without wired i) → take k without ≡ take k wired
  -- from where both have listed the same set, v among it, they are the same again
  pub onward : (k : ℕ) → HaveMet without wired k → 0 < tally v (take k without) → drop k without ≡ drop k wired
  -- where they first have, they differ at the place before
  pub parted : (k : ℕ) → HaveMet without wired (k + 1) → Agree without wired k → HaveMet without wired k
  -- where they never have, the chain without the wire is the longer one
  pub longer : length wired ≤ length without
  pub never : length wired ≡ length without → (x : ℕ) → tally x without ≡ tally x wired

-- the nodes stand in the same order by rank in both graphs, and who feeds whom is the same
pub record OrdersAlike (g h : Graph) (nodes : List ℕ) : Type 0 where
  pub ranks : (x y : ℕ) → 0 < tally x nodes → 0 < tally y nodes → (g.rank x < g.rank y) ↔ (h.rank x < h.rank y)
  pub feeders : (x u : ℕ) → 0 < tally x nodes → tally u (g.feeders x) ≡ tally u (h.feeders x)
