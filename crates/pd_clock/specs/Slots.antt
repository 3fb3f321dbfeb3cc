-- Slots in the order in which they were set, some of them dead, and a heap of the places of the live ones.
use Rattle.std.specs.Prelude.{◌≡◌, ℕ, suc, true, ◌==◌, ◌&&◌, not, map, cond, List, [], ◌∷◌, Some, slice_get, Contains}
use Rattle.std.specs.declared.cmp.Ordering.{Ordering}
use Rattle.std.specs.Ordering.{ordering_then, nat_cmp}
use Rattle.std.specs.declared.cmp.Reverse.{Reverse}
use Rattle.std.specs.BinaryHeap.{IsUpperBound}
use Rattle.pd_clock.specs.Queue.{Clock}
use Rattle.pd_clock.specs.declared.slots.Slot.{Slot}

-- the clocks of the live slots
abbrev pub live_clocks : List Slot → List Clock
live_clocks [] = []
live_clocks (s ∷ ss) = cond s.live (record { time = s.time; owner = s.owner } ∷ live_clocks ss) (live_clocks ss)

-- a time and a place, the sooner the greater
abbrev pub Key : Type 0
Key = Reverse (ℕ × ℕ)

abbrev pub key : ℕ → ℕ → Key
key time place = record { 0 = (time, place) }

abbrev pub order : Key → Key → Ordering
order x y = ordering_then (nat_cmp y.0.0 x.0.0) (nat_cmp y.0.1 x.0.1)

-- each live slot, from the place on, has its key in the heap
abbrev pub AreTracked : List Key → ℕ → List Slot → Type 0
AreTracked keys i [] = Unit {0}
AreTracked keys i (s ∷ ss) = (s.live ≡ true → Contains keys (key s.time i)) × AreTracked keys (suc i) ss

-- each key is of a slot with its time
abbrev pub AreKeys : List Slot → List Key → Type 0
AreKeys slots keys = (k : Key) → Contains keys k → (s : Slot) × (slice_get slots k.0.1 ≡ Some s) × (s.time ≡ k.0.0)

-- a key at the heap's top, of a live slot
pub record IsLiveTop (slots : List Slot) (keys : List Key) (k : Key) : Type 0 where
  pub top : slice_get keys 0 ≡ Some k
  pub greatest : IsUpperBound order k keys
  pub slot : Slot
  pub at : slice_get slots k.0.1 ≡ Some slot
  pub time : slot.time ≡ k.0.0
  pub live : slot.live ≡ true

-- a slot when the owner's slots died
abbrev pub died : ℕ → Slot → Slot
died owner s = record { time = s.time; owner = s.owner; live = s.live && not (s.owner == owner) }

abbrev pub dead_of : ℕ → List Slot → List Slot
dead_of owner ss = map (died owner) ss
