-- Room for a box that comes.
use Rattle.std.specs.Prelude.{◌≡◌, ◌<◌, ◌≤◌, ◌+◌, ◌^◌, ℕ, true, [], length, replicate, IsSome}
use Rattle.slab.specs.Slab.{get}
use Rattle.pd_atom.specs.Names.{Names}
use Rattle.pd_kind.specs.States.{silent_block}
use Rattle.pd_links.specs.Linked.{SameLinks}
use Rattle.pd_name.specs.Rows.{OwnersStay}
use Rattle.pd_tree.specs.Trees.{stand_of}
use Rattle.pd_grove.specs.declared.seeds.Seed.{Seed}
use Rattle.pd_grove.specs.declared.ports.Side.TheVariants.{Inlets, Outlets}
use Rattle.pd_grove.specs.Planting.{seeds_in}
use Rattle.pd_grove.specs.Room.{HasPlace, IsSameButRoom}
use Rattle.pd_bind.specs.Naming.{owned_by}
use Rattle.pd_owning.specs.Bound.{HasRoom as HasOwnerRoom}
use Rattle.pd_web.specs.Canvases.{keys_at}
use Rattle.pd_web.specs.Changes.{HasRoom as HasWebRoom, IsSame}
use Rattle.pd_web.specs.Jacks.{kind_jacks}
use Rattle.pd_ports.specs.Room.{HasLists}
use Rattle.pd_patch.specs.declared.patch.Patch.{Patch}
use Rattle.pd_patch.specs.Telling.{order_in}
use Rattle.pd_patch.specs.Values.{block_count, blocks_told}
use Rattle.pd_placing.specs.Room.{HasPlaces, IsSameButRoom as IsSameOrder}
use Rattle.pd_boxes.specs.declared.room.Room.{Room}
use Rattle.pd_boxes.specs.declared.room.Place.{Place}
use Rattle.pd_boxes.specs.Rows.{IsLonger}

-- All that a patch tells is as it was. There may be more room, and what stands behind in the lists by key stands under keys of no box.
pub record SameButRoom (old new : Patch) : Type 0 where
  pub grove : IsSameButRoom old.grove new.grove
  pub web : IsSame old.web new.web
  pub names : OwnersStay old.names new.names
  pub links : SameLinks old.links new.links
  pub orders : (c : ℕ) → IsSameOrder (order_in old.orders.items c) (order_in new.orders.items c)
  pub numbers : IsLonger 0 old.numbers.items new.numbers.items
  pub values : IsLonger [] (blocks_told old) (blocks_told new)
  pub clocks : new.timers.clocks.clocks ≡ old.timers.clocks.clocks
  pub end : old.timers.end ≤ new.timers.end
  pub rate : new.rate ≡ old.rate
  pub present : new.present ≡ old.present

-- every key of a box, and the next one, is below this end, and lists by key reach it
pub record ReachesKeys (p : Patch) (end : ℕ) : Type 0 where
  pub live : (k : ℕ) → IsSome (get p.grove.nodes k) → k < end
  pub next : p.grove.nodes.vacant_key < end
  pub low : end < 2 ^ 32
  pub web : HasWebRoom p.web end 0 0
  pub numbers : end ≤ length p.numbers.items
  pub values : end ≤ length p.values.items
  pub clocks : end ≤ p.timers.end

-- the box of the room comes into its canvas without taking memory
pub record TakesBox (p : Patch) (room : Room) (table : Names) : Type 0 where
  pub end : ℕ
  pub keys : ReachesKeys p end
  pub grove : HasPlace p.grove room.place.canvas 1
  pub few : length (keys_at p.grove room.place.canvas) + 1 < 2 ^ 32
  pub ports : HasLists room.ports (length (kind_jacks Inlets room.seed.row.kind)) (length (kind_jacks Outlets room.seed.row.kind))
  pub owner : HasOwnerRoom p.names (owned_by table true (stand_of room.seed.row).cell) 1
  pub orders : HasPlaces (order_in p.orders.items room.place.canvas) 1
  pub blocks : room.blocks.items ≡ replicate (block_count (kind_jacks Outlets room.seed.row.kind)) silent_block
  pub inside : seeds_in room.inside ≡ []

-- where the box of the room comes, and what it becomes
pub record IsFor (room : Room) (at : Place) (s : Seed) : Type 0 where
  pub place : room.place ≡ at
  pub seed : room.seed ≡ s
