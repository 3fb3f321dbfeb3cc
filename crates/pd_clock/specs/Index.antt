-- The index that leads from an owner to the place of its last slot.
use Rattle.std.specs.Prelude.{◌≡◌, ◌≢◌, ℕ, suc, true, List, [], ◌∷◌, Option, Some, nat_eq, slice_get}
use Rattle.indexmap.specs.IndexMap.{IndexMap, get}
use Rattle.pd_clock.specs.declared.slots.Slot.{Slot}

-- where a map says that an owner's slot is
abbrev pub place_of : {S : Type 0} → IndexMap ℕ ℕ S → ℕ → Option ℕ
place_of m owner = get nat_eq m owner

-- each live slot, from the place on, is where its owner leads to
abbrev pub AreNoted : (ℕ → Option ℕ) → ℕ → List Slot → Type 0
AreNoted at i [] = Unit {0}
AreNoted at i (s ∷ ss) = (s.live ≡ true → at s.owner ≡ Some i) × AreNoted at (suc i) ss

-- an owner leads to a slot of its own, live or dead
abbrev pub LeadHome : (ℕ → Option ℕ) → List Slot → Type 0
LeadHome at slots = (owner place : ℕ) → at owner ≡ Some place → (s : Slot) × (slice_get slots place ≡ Some s) × (s.owner ≡ owner)

pub record IsIndexOf (at : ℕ → Option ℕ) (slots : List Slot) : Type 0 where
  pub noted : AreNoted at 0 slots
  pub home : LeadHome at slots

-- the owner leads to the place now, and the others to where they led
pub record IsNoted (old new : ℕ → Option ℕ) (owner place : ℕ) : Type 0 where
  pub here : new owner ≡ Some place
  pub others : (o : ℕ) → o ≢ owner → new o ≡ old o
