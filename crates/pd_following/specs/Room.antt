-- Room for a port box that comes.
use Rattle.std.specs.Prelude.{◌≡◌, ◌+◌, ◌∷◌, length, replicate}
use Rattle.pd_atom.specs.Names.{Names}
use Rattle.pd_kind.specs.States.{silent_block}
use Rattle.pd_grove.specs.declared.ports.Side.TheVariants.{Inlets, Outlets}
use Rattle.pd_grove.specs.declared.seeds.Seed.{Seed}
use Rattle.pd_web.specs.Hops.{ports_told}
use Rattle.pd_web.specs.Jacks.{plain_jack}
use Rattle.pd_ports.specs.Room.{HasLists}
use Rattle.pd_patch.specs.declared.patch.Patch.{Patch}
use Rattle.pd_patch.specs.Values.{block_count}
use Rattle.pd_boxes.specs.declared.room.Place.{Place}
use Rattle.pd_boxes.specs.Room.{TakesBox, IsFor as IsBoxFor}
use Rattle.pd_following.specs.declared.room.PortBoxRoom.{PortBoxRoom}
use Rattle.pd_following.specs.Ports.{IsPortAt, carries}

-- the port box of the room comes into its canvas without taking memory, and the box around gets its port without taking any
pub record TakesPort (p : Patch) (room : PortBoxRoom) (table : Names) : Type 0 where
  pub box : TakesBox p room.own table
  pub ports : HasLists room.around (length (ports_told p.web Inlets room.holder) + 1) (length (ports_told p.web Outlets room.holder) + 1)
  pub blocks : room.blocks.items ≡ replicate (block_count (plain_jack (carries Outlets room.own.seed.row.kind) ∷ ports_told p.web Outlets room.holder)) silent_block

-- where the port box comes, what it becomes, and of which box and on which side it is a port
pub record IsFor (p : Patch) (room : PortBoxRoom) (at : Place) (s : Seed) : Type 0 where
  pub box : IsBoxFor room.own at s
  pub port : IsPortAt p.grove at s.row.kind room.holder room.side
