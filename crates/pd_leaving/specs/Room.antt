-- Room for the box around where a port of it goes.
use Rattle.std.specs.Prelude.{◌≡◌, ◌+◌, ℕ, zero, suc, List, [], ◌∷◌, length, replicate, IsSome}
use Rattle.slab.specs.Slab.{get}
use Rattle.pd_kind.specs.States.{silent_block}
use Rattle.pd_grove.specs.declared.ports.Side.TheVariants.{Inlets, Outlets}
use Rattle.pd_web.specs.Changes.{HasRoom}
use Rattle.pd_web.specs.Hops.{ports_told}
use Rattle.pd_ports.specs.Room.{HasLists}
use Rattle.pd_patch.specs.declared.patch.Patch.{Patch}
use Rattle.pd_patch.specs.Values.{block_count}
use Rattle.pd_misfits.specs.Shedding.{AreWiresAt}
use Rattle.pd_leaving.specs.declared.room.PortLoss.{PortLoss}
use Rattle.pd_leaving.specs.Wires.{port_wires}

-- a list without the one of a number
abbrev pub without_at : {X : Type 0} → List X → ℕ → List X
without_at [] i = []
without_at (x ∷ xs) zero = xs
without_at (x ∷ xs) (suc i) = x ∷ without_at xs i

-- the wires at the port of the box around are told, and the box around loses the port without taking memory
pub record TakesLoss (p : Patch) (loss : PortLoss) : Type 0 where
  pub wires : loss.wires.items ≡ port_wires p loss.port.node loss.port.side loss.port.port
  pub at : AreWiresAt p.web loss.port.node loss.wires.items
  pub near : (k : ℕ) → IsSome (get p.grove.nodes k) → HasRoom p.web (k + 1) 0 0
  pub lists : HasLists loss.around (length (ports_told p.web Inlets loss.port.node)) (length (ports_told p.web Outlets loss.port.node))
  pub blocks : loss.blocks.items ≡ replicate (block_count (without_at (ports_told p.web Outlets loss.port.node) loss.port.port)) silent_block
