-- A box that comes in at a place, a number of a canvas, and one that doesn't.
use Rattle.std.specs.Prelude.{◌≡◌, ◌⊎◌, ◌+◌, ◌<◌, ℕ, List, [], ◌∷◌, IsSome}
use Rattle.slab.specs.Slab.{get}
use Rattle.pd_atom.specs.Names.{Names}
use Rattle.pd_object.specs.declared.kinds.Kind.{Kind}
use Rattle.pd_object.specs.declared.kinds.Kind.TheVariants as kind
use Rattle.pd_tree.specs.Trees.{Trees, Done, Leaf, Holder, Stand}
use Rattle.pd_grove.specs.declared.ports.Side.{Side}
use Rattle.pd_grove.specs.declared.seeds.Seed.{Seed}
use Rattle.pd_grove.specs.Planting.{one, seed_stand, stands_ready}
use Rattle.pd_grove.specs.Standing.{depth_of}
use Rattle.pd_grove.specs.States.{AreFresh, SeedsSmall}
use Rattle.pd_grove.specs.TextOrder.{deep}
use Rattle.pd_patch.specs.declared.patch.Patch.{Patch}
use Rattle.pd_wiring.specs.declared.refusals.EditRefusal.{EditRefusal}
use Rattle.pd_wiring.specs.declared.refusals.EditRefusal.TheVariants.{NoMemory}
use Rattle.pd_boxes.specs.declared.room.Place.{Place}
use Rattle.pd_boxes.specs.Room.{SameButRoom}
use Rattle.pd_boxes.specs.Put.{IsLeaf, IsNoPort, IsPut}
use Rattle.pd_following.specs.Ports.{CanPutPort, IsPortAt, IsPortPut}
use Rattle.pd_instances.specs.Part.{looks_of, IsPartPut}
use Rattle.pd_subpatches.specs.Shell.{AddsShell, IsShallow, IsShell}
use Rattle.pd_adding.specs.declared.adding.Grown.{Grown}
use Rattle.pd_adding.specs.Growing.{Added}
use Rattle.pd_adding.specs.Adding.{IsAdded}
use Rattle.pd_adding.specs.Single.{IsSingle}
use Rattle.pd_putting.specs.Adds.{keys_within, CanCome, CanComeAt, IsSubAt}

-- room was set aside, and then a box of a seed came in at a place
pub record PutsAt (old new : Patch) (table : Names) (place : Place) (s : Seed) (key : ℕ) : Type 0 where
  pub ready : Patch
  pub room : SameButRoom old ready
  pub put : IsPut ready new table place s key

-- a box at a place is a port of the box around, where it is of this kind
abbrev pub IsPortIn : Patch → Place → Kind → Type 0
IsPortIn p place k = (holder : ℕ) × (side : Side) × IsPortAt p.grove place k holder side

-- the same of a port box, which gives the box around a port
pub record PutsPortAt (old new : Patch) (table : Names) (place : Place) (s : Seed) (key : ℕ) : Type 0 where
  pub holder : ℕ
  pub side : Side
  pub at : IsPortAt old.grove place s.row.kind holder side
  pub ready : Patch
  pub room : SameButRoom old ready
  pub could : CanPutPort ready place s holder side
  pub put : IsPortPut ready new table place s key holder side

-- a box without a canvas came in: one that is no port of a box around, or one that is
abbrev pub PutsLeafAt : Patch → Patch → Names → Place → Seed → ℕ → Type 0
PutsLeafAt old new table place s key = (IsNoPort old place s.row.kind × PutsAt old new table place s key) ⊎ PutsPortAt old new table place s key

-- the same of a box that holds a canvas without boxes
abbrev pub PutsSubAt : Patch → Patch → Names → Place → Seed → ℕ → Type 0
PutsSubAt old new table place s key = AddsShell old new table place s key

-- The same of a box with all that lies in it: these boxes in text order.
pub record PutsPartAt (old new : Patch) (table : Names) (place : Place) (now : ℕ) (ss : List Stand) (key steps steps' : ℕ) : Type 0 where
  pub ready : Patch
  pub room : SameButRoom old ready
  pub seed : Seed
  pub seeds : List Seed
  pub are_rows : one (seed_stand seed) (stands_ready seeds) ≡ ss
  pub small : SeedsSmall (seed ∷ seeds)
  pub fresh : AreFresh old.rate now (seed ∷ seeds)
  pub put : IsPartPut ready new table place seed seeds key steps steps'

-- The most looks at signal wires that it takes to put a box at any number: those for its place in the order of the canvas around, and those for the
-- orders of the canvases in it.
abbrev pub looks_anywhere : Patch → ℕ → ℕ
looks_anywhere p key = 8 + looks_of p.grove p.links (keys_within p key)

-- the first of these boxes holds a canvas, and is of the kind of boxes that do
abbrev pub HoldsCanvas : List Stand → Type 0
HoldsCanvas [] = ⊥
HoldsCanvas (s ∷ ss) = IsSome s.sheet × (s.cell.kind ≡ kind.Canvas)

-- a seed whose box can come in at a place
abbrev pub IsReady : Patch → Place → Seed → Type 0
IsReady p place s = IsLeaf s ⊎ (IsShell s × IsShallow p place)

-- what grew aside isn't too deep for its canvas
abbrev pub FitsIn : Patch → Grown → Type 0
FitsIn p g = (a : Added) → IsAdded g a → depth_of (get p.grove.boards g.canvas) + deep a.boxes < 257

-- what grew is one box in which no boxes lie
abbrev pub IsAloneAt : Patch → ℕ → Added → Type 0
IsAloneAt p number a = IsSingle a.boxes ⊎ IsSubAt p number a

-- the first of these boxes holds no canvas, or is of the kind of boxes that do
abbrev pub HoldsAsCanvas : Trees → Type 0
HoldsAsCanvas Done = Unit {0}
HoldsAsCanvas (Leaf c rest) = Unit {0}
HoldsAsCanvas (Holder c s inner rest) = c.kind ≡ kind.Canvas

-- what grew aside is this, with these names
pub record HasGrown (g : Grown) (names : Names) : Type 0 where
  pub added : Added
  pub is : IsAdded g added
  pub holds : HoldsAsCanvas added.boxes
  pub names_are : added.known.names ≡ names

-- What grew doesn't come in at a number: memory was wanting, and there may be more room.
abbrev pub StaysOut : Patch → Patch → ℕ → Added → EditRefusal → Type 0
StaysOut old new number a why = (why ≡ NoMemory) × (CanComeAt old number a × SameButRoom old new)

-- It doesn't come in last: the same, or the canvas has as many boxes as can be counted, and the patch stays.
abbrev pub IsNotLast : Patch → Patch → Added → EditRefusal → Type 0
IsNotLast old new a why = (why ≡ NoMemory) × ((new ≡ old) ⊎ (CanCome old a × SameButRoom old new))
