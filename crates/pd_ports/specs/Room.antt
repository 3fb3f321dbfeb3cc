-- Room for the ports of one box.
use Rattle.std.specs.Prelude.{◌≡◌, ◌<◌, ◌≤◌, ◌^◌, ℕ, [], vec_capacity}
use Rattle.pd_ports.specs.declared.room.PortRoom.{PortRoom}

-- so many inlets and outlets come in without taking memory, and there are none yet
pub record HasLists (room : PortRoom) (inlets outlets : ℕ) : Type 0 where
  pub no_inlets : room.inlets.items ≡ []
  pub no_outlets : room.outlets.items ≡ []
  pub no_jacks : room.jacks.items ≡ []
  pub inlets_fit : inlets ≤ vec_capacity room.inlets
  pub outlets_fit : outlets ≤ vec_capacity room.outlets
  pub inlet_jacks_fit : inlets ≤ vec_capacity room.jacks
  pub outlet_jacks_fit : outlets ≤ vec_capacity room.jacks
  pub inlet_spots_fit : inlets ≤ vec_capacity room.spots
  pub outlet_spots_fit : outlets ≤ vec_capacity room.spots
  pub few_inlets : inlets < 2 ^ 32
  pub few_outlets : outlets < 2 ^ 32
