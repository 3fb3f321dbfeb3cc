-- Room for what a box becomes.
use Rattle.std.specs.Prelude.{◌≡◌, ◌<◌, ◌+◌, ℕ, true, length, replicate, Some, IsSome}
use Rattle.slab.specs.Slab.{get}
use Rattle.pd_atom.specs.Names.{Names}
use Rattle.pd_kind.specs.States.{silent_block}
use Rattle.pd_tree.specs.Trees.{stand_of}
use Rattle.pd_grove.specs.declared.nodes.Node.{Node}
use Rattle.pd_grove.specs.declared.seeds.Seed.{Seed}
use Rattle.pd_grove.specs.declared.ports.Side.TheVariants.{Inlets, Outlets}
use Rattle.pd_bind.specs.Naming.{owned_by}
use Rattle.pd_owning.specs.Bound.{HasRoom as HasOwnerRoom}
use Rattle.pd_web.specs.Changes.{HasRoom as HasWebRoom}
use Rattle.pd_web.specs.Jacks.{kind_jacks}
use Rattle.pd_ports.specs.Room.{HasLists}
use Rattle.pd_patch.specs.declared.patch.Patch.{Patch}
use Rattle.pd_patch.specs.Telling.{order_in}
use Rattle.pd_patch.specs.Values.{block_count}
use Rattle.pd_placing.specs.Room.{HasPlaces}
use Rattle.pd_refitting.specs.declared.room.RefitRoom.{RefitRoom}

-- the box of the room's key becomes that of its seed without taking memory
pub record TakesRefit (p : Patch) (room : RefitRoom) (table : Names) : Type 0 where
  pub web : (k : ℕ) → IsSome (get p.grove.nodes k) → HasWebRoom p.web (k + 1) 0 0
  pub ports : HasLists room.ports (length (kind_jacks Inlets room.seed.row.kind)) (length (kind_jacks Outlets room.seed.row.kind))
  pub order : (n : Node) → get p.grove.nodes room.key ≡ Some n → HasPlaces (order_in p.orders.items n.board) 1
  pub owner : HasOwnerRoom p.names (owned_by table true (stand_of room.seed.row).cell) 1
  pub values : room.key < length p.values.items
  pub blocks : room.blocks.items ≡ replicate (block_count (kind_jacks Outlets room.seed.row.kind)) silent_block

-- which box becomes another one, and what it becomes
pub record IsFor (room : RefitRoom) (at : ℕ) (s : Seed) : Type 0 where
  pub key : room.key ≡ at
  pub seed : room.seed ≡ s
