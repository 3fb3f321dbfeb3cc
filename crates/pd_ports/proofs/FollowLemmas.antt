-- A side of a box follows the canvas in it.
use Rattle.std.proofs.Common.{◌≤◌, ◌<◌, ◌^◌, ℕ, length, vec_capacity, Option, Some, None, IsSome, true≢false, refl, sym}
use Rattle.pd_grove.specs.declared.grove.Grove.{Grove}
use Rattle.pd_grove.specs.declared.nodes.Node.{Node}
use Rattle.pd_grove.specs.declared.ports.Side.{Side}
use Rattle.pd_grove.specs.declared.ports.Side.TheVariants.{Inlets, Outlets}
use Rattle.pd_grove.specs.Telling.{inner_in as canvas_in}
use Rattle.pd_web.specs.declared.web.Web.{Web}
use Rattle.pd_web.specs.Hops.{ports_told}
use Rattle.pd_web.specs.Jacks.{jacks_at}
use Rattle.pd_ports.specs.declared.room.PortRoom.{PortRoom}
use Rattle.pd_ports.specs.Room.{HasLists}
use Rattle.pd_ports.specs.Moves.{AreOnce}
use Rattle.pd_ports.specs.Known.{KnowsHomes}
use Rattle.pd_ports.proofs.KnownLemmas.{pair_same}

-- a box that holds a canvas lives
pub holder_lives : (o : Option Node) → IsSome (canvas_in o) → IsSome o
holder_lives None h = absurd (true≢false (sym h))
holder_lives (Some n) h = refl

pub by_side : (P : Side → Type 0) → P Inlets → P Outlets → (side : Side) → P side
by_side P a b Inlets = a
by_side P a b Outlets = b

-- no box is two ports of which it is known which they are
pub known_once : (w : Web) (side : Side) (key : ℕ) → KnowsHomes w → AreOnce (ports_told w side key)
known_once w side key known = λ i m j p q. (pair_same key i key m _ (known.found side j key i p) (known.found side j key m q)).1

-- there is room for the ports of either side
pub side_few : (g : Grove) (key : ℕ) (room : PortRoom) (side : Side) → HasLists room (length (jacks_at Inlets g key)) (length (jacks_at Outlets g key)) → length (jacks_at side g key) < 2 ^ 32
side_few g key room side lists = by_side (λ s. length (jacks_at s g key) < 2 ^ 32) lists.few_inlets lists.few_outlets side

pub side_jacks : (g : Grove) (key : ℕ) (room : PortRoom) (side : Side) → HasLists room (length (jacks_at Inlets g key)) (length (jacks_at Outlets g key)) → length (jacks_at side g key) ≤ vec_capacity room.jacks
side_jacks g key room side lists = by_side (λ s. length (jacks_at s g key) ≤ vec_capacity room.jacks) lists.inlet_jacks_fit lists.outlet_jacks_fit side

pub side_spots : (g : Grove) (key : ℕ) (room : PortRoom) (side : Side) → HasLists room (length (jacks_at Inlets g key)) (length (jacks_at Outlets g key)) → length (jacks_at side g key) ≤ vec_capacity room.spots
side_spots g key room side lists = by_side (λ s. length (jacks_at s g key) ≤ vec_capacity room.spots) lists.inlet_spots_fit lists.outlet_spots_fit side
