-- Room for a port box that moves.
use Rattle.std.specs.Prelude.{◌≡◌, ◌+◌, ◌*◌, ◌≤◌, ℕ, [], length, vec_capacity, IsSome}
use Rattle.slab.specs.Slab.{get}
use Rattle.pd_grove.specs.declared.ports.Side.TheVariants.{Inlets, Outlets}
use Rattle.pd_web.specs.Changes.{HasRoom}
use Rattle.pd_web.specs.Hops.{ports_told, fan_hops}
use Rattle.pd_ports.specs.Room.{HasLists}
use Rattle.pd_patch.specs.declared.patch.Patch.{Patch}
use Rattle.pd_sliding.specs.declared.room.PortRoute.{PortRoute}

-- the box around gets the ports that its canvas has then without taking memory, and the wires of an outlet that goes are held meanwhile
pub record TakesRoute (p : Patch) (route : PortRoute) : Type 0 where
  pub near : (k : ℕ) → IsSome (get p.grove.nodes k) → HasRoom p.web (k + 1) 0 0
  pub lists : HasLists route.around (length (ports_told p.web Inlets route.port.node)) (length (ports_told p.web Outlets route.port.node))
  pub empty : route.lines.items ≡ []
  pub fits : route.port.side ≡ Outlets → length (fan_hops p.web route.port.node route.port.port) ≤ vec_capacity route.lines
  pub ends : route.port.side ≡ Outlets → HasRoom p.web 0 (2 * length (fan_hops p.web route.port.node route.port.port)) 0
