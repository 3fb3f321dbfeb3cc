-- Graphs over lists of wires: wire i leads from the i-th source to the i-th sink.
use Rattle.std.specs.Prelude.{◌≡◌, ℕ, suc, zero, ◌≤◌, ◌==◌, cond, List, [], ◌∷◌, ◌++◌}
use Rattle.pd_order.specs.Graph.{Graph, tally, IsOrder}
use Rattle.pd_order.specs.Spots.{nodes_of}
use Rattle.pd_order.specs.Listing.{Listing}

-- the far ends of the wires whose near end is x
abbrev pub ends_at : List ℕ → List ℕ → ℕ → List ℕ
ends_at [] far x = []
ends_at (n ∷ near) [] x = []
ends_at (n ∷ near) (f ∷ far) x = cond (n == x) (f ∷ ends_at near far x) (ends_at near far x)

-- a node's number is its rank
abbrev pub wired : List ℕ → List ℕ → Graph
wired sources sinks = record {
  rank = λ x. x;
  feeders = λ x. ends_at sinks sources x;
  followers = λ x. ends_at sources sinks x;
}

abbrev pub numbers_below : ℕ → List ℕ
numbers_below zero = []
numbers_below (suc n) = numbers_below n ++ n ∷ []

-- an order of the nodes 0 to n - 1 in the graph of these wires, with room for at least 8
pub record OrdersWires (sources sinks : List ℕ) (n : ℕ) (listing : Listing) : Type 0 where
  pub order : IsOrder (wired sources sinks) (nodes_of listing.spots) listing.chain listing.stuck
  pub nodes : (x : ℕ) → tally x (nodes_of listing.spots) ≡ tally x (numbers_below n)
  pub room : 8 ≤ listing.room
