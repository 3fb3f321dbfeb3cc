-- Room for a box that comes with all that lies in it.
use Rattle.std.specs.Prelude.{◌≡◌, ◌≢◌, ◌<◌, ◌≤◌, ◌+◌, ◌*◌, ◌^◌, ℕ, true, List, [], ◌∷◌, map, filter, cond, length, Option, Some, vec_len, vec_capacity}
use Rattle.std.specs.List.{AllByRecursion, AllZip}
use Rattle.slab.specs.Slab.{get}
use Rattle.pd_atom.specs.Names.{Names}
use Rattle.pd_links.specs.Linked.{ReachesKeys}
use Rattle.pd_name.specs.declared.Class.{Class}
use Rattle.pd_tree.specs.Trees.{Trees, Stand, width, stands_of}
use Rattle.pd_grove.specs.Planting.{one, seed_stand, seeds_in, stands_ready, AreRoomy, IsRoomy}
use Rattle.pd_grove.specs.Room.{HasPlace}
use Rattle.pd_grove.specs.Standing.{depth_of}
use Rattle.pd_grove.specs.States.{SeedsSmall}
use Rattle.pd_grove.specs.TextOrder.{deep}
use Rattle.pd_bind.specs.Naming.{owned_by, Owned}
use Rattle.pd_bind.specs.Owning.{is_owned}
use Rattle.pd_owning.specs.Bound.{HasRoom as HasOwnerRoom}
use Rattle.pd_web.specs.Canvases.{keys_at}
use Rattle.pd_web.specs.Changes.{HasRoom as HasWebRoom}
use Rattle.pd_patch.specs.declared.patch.Patch.{Patch}
use Rattle.pd_patch.specs.Telling.{order_in}
use Rattle.pd_placing.specs.Room.{HasPlaces}
use Rattle.pd_boxes.specs.declared.room.Place.{Place}
use Rattle.pd_instances.specs.declared.room.PartRoom.{PartRoom}
use Rattle.pd_instances.specs.Needs.{insides_of, needs_of, wires_all, AreLinkRooms, AreRoomsFor, Inside, IsOrderRoom}

-- the boxes of the room, in text order
abbrev pub stands_for : PartRoom → List Stand
stands_for room = one (seed_stand room.seed) (stands_ready (seeds_in room.inside))

-- this list is one box with all that lies in it, and isn't too deep for the place
pub record IsOnePart (p : Patch) (place : Place) (ss : List Stand) : Type 0 where
  pub tree : Trees
  pub is_tree : ss ≡ stands_of tree
  pub single : width tree ≡ 1
  pub shallow : depth_of (get p.grove.boards place.canvas) + deep tree < 257

-- how many of these boxes own a name, where all of them are in the patch's own document
abbrev pub owning_among : Names → Class → ℕ → List Stand → ℕ
owning_among table class name ss = length (filter (λ (s : Stand). is_owned class name (owned_by table true s.cell)) ss)

abbrev pub owning_one : Class → ℕ → Option Owned → ℕ
owning_one class name o = cond (is_owned class name o) 1 0

-- every key that a box can have, and that of a canvas, is below these ends, and lists by key reach them
pub record ReachesAll (p : Patch) (end : ℕ) : Type 0 where
  pub boxes : p.grove.nodes.capacity ≤ end
  pub low : end < 2 ^ 32
  pub numbers : end ≤ length p.numbers.items
  pub values : end ≤ length p.values.items
  pub clocks : end ≤ p.timers.end
  pub links : ReachesKeys p.links end
  pub orders : p.grove.boards.capacity ≤ length p.orders.items

-- an empty list that takes so many without memory
pub record IsEmptyFor {X : Type 0} (n : ℕ) (items : List X) (len capacity : ℕ) : Type 0 where
  pub none : items ≡ []
  pub no_len : len ≡ 0
  pub fits : n ≤ capacity

-- The boxes of the room are one box with all that lies in it, not too deep, and come without taking memory.
pub record TakesPart (p : Patch) (room : PartRoom) (table : Names) : Type 0 where
  pub part : IsOnePart p room.place (stands_for room)
  pub small : SeedsSmall (room.seed ∷ seeds_in room.inside)
  pub roomy : AreRoomy (seeds_in room.inside)
  pub countable : length (seeds_in room.inside) + 300 < 2 ^ 32
  pub seed : IsRoomy room.seed
  pub end : ℕ
  pub keys : ReachesAll p end
  pub grove : HasPlace p.grove room.place.canvas (length (seeds_in room.inside) + 1)
  pub few : length (keys_at p.grove room.place.canvas) + 1 < 2 ^ 32
  pub web : HasWebRoom p.web end (2 * wires_all (insides_of (stands_for room))) (wires_all (insides_of (stands_for room)))
  pub boxes : AreRoomsFor (needs_of (stands_for room)) room.boxes.items
  pub links : AllZip AreLinkRooms (insides_of (stands_for room)) (map (λ v. v.items) room.links.items)
  pub orders : AllZip IsOrderRoom (insides_of (stands_for room)) room.orders.items
  pub outer : HasPlaces (order_in p.orders.items room.place.canvas) 1
  pub owners : (class : Class) (name : ℕ) → let n = owning_among table class name (stands_for room) in n ≢ 0 → HasOwnerRoom p.names (Some (class, name)) n
  pub spots : IsEmptyFor (length (stands_for room)) room.spots.items (vec_len room.spots) (vec_capacity room.spots)
  pub all : length (stands_for room) ≤ vec_capacity room.signal
  pub signal : AllByRecursion (λ (i : Inside). i.boxes ≤ vec_capacity room.signal) (insides_of (stands_for room))
