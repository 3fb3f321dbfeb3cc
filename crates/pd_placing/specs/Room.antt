-- Room in orders for boxes that come, and what stays where it is set aside.
use Rattle.std.specs.Prelude.{◌≡◌, ◌<◌, ◌≤◌, ◌+◌, ℕ, [], length, Option, Some, None}
use Rattle.pd_order.specs.Spots.{nowhere}
use Rattle.pd_order.specs.Listing.{Listing}

-- so many boxes more join an order without memory, and can be counted
pub record TakesMore (o : Listing) (boxes : ℕ) : Type 0 where
  pub room : length o.spots + boxes ≤ o.room
  pub few : length o.spots + boxes < nowhere

abbrev pub HasPlaces : Option Listing → ℕ → Type 0
HasPlaces None boxes = ⊥
HasPlaces (Some o) boxes = TakesMore o boxes

-- the lists that an order tells are the same, and it may have more room
pub record SameLists (old new : Listing) : Type 0 where
  pub chain : new.chain ≡ old.chain
  pub stuck : new.stuck ≡ old.stuck
  pub spots : new.spots ≡ old.spots
  pub room : old.room ≤ new.room

abbrev pub IsSameButRoom : Option Listing → Option Listing → Type 0
IsSameButRoom None o = o ≡ None
IsSameButRoom (Some old) None = ⊥
IsSameButRoom (Some old) (Some new) = SameLists old new

-- an order of no boxes
abbrev pub IsEmptyOrder : Option Listing → Type 0
IsEmptyOrder None = ⊥
IsEmptyOrder (Some o) = (o.chain ≡ []) × (o.stuck ≡ []) × (o.spots ≡ [])
