-- What an order keeps between its calls.
use Rattle.std.specs.Prelude.{◌≡◌, ℕ, ◌+◌, ◌<◌, ◌≤◌, List, [], length}
use Rattle.pd_order.specs.declared.spots.Spot.{Spot}
use Rattle.pd_order.specs.Graph.{tally}
use Rattle.pd_order.specs.Spots.{nodes_of, place_in, mark_in, AreByNode, nowhere}
use Rattle.pd_order.specs.Work.{IsSeated}

-- what contracts see: the five lists of an order, and for how many nodes it has room
pub record Listing : Type 0 where
  pub chain : List ℕ
  pub stuck : List ℕ
  pub spots : List Spot
  pub heap : List ℕ
  pub spare : List ℕ
  pub room : ℕ

-- each node has one spot, sorted by node, which knows its place in the chain and has no mark
pub record IsListed (chain stuck : List ℕ) (spots : List Spot) : Type 0 where
  pub by_node : AreByNode spots
  pub seated : IsSeated (nodes_of spots) chain (place_in spots)
  pub listed : (x : ℕ) → tally x stuck + tally x chain ≡ tally x (nodes_of spots)
  pub unmarked : (x : ℕ) → mark_in spots x ≡ 0
  pub few : length spots < nowhere

-- between calls nothing is kept of the work, and there is room for all that is listed
pub record IsKept (chain stuck heap spare : List ℕ) (spots : List Spot) (chain_room stuck_room spots_room heap_room room : ℕ) : Type 0 where
  pub listed : IsListed chain stuck spots
  pub no_heap : heap ≡ []
  pub no_spare : spare ≡ []
  pub within : length spots ≤ room
  pub in_chain : room ≤ chain_room
  pub in_stuck : room ≤ stuck_room
  pub in_spots : room ≤ spots_room
  pub in_heap : room ≤ heap_room
