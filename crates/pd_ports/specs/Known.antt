-- What a web knows of port boxes, and where a side of a box follows the canvas in it.
use Rattle.std.specs.Prelude.{◌≡◌, ◌⊎◌, ℕ, List, [], slice_get, Some, None}
use Rattle.slab.specs.Slab.{get}
use Rattle.pd_grove.specs.declared.grove.Grove.{Grove}
use Rattle.pd_grove.specs.declared.ports.Side.{Side}
use Rattle.pd_grove.specs.declared.ports.Side.TheVariants.{Inlets, Outlets}
use Rattle.pd_grove.specs.Telling.{inner_in as canvas_in}
use Rattle.pd_web.specs.declared.jacks.Jack.{Jack}
use Rattle.pd_web.specs.declared.web.Web.{Web}
use Rattle.pd_web.specs.Homes.{inner_in}
use Rattle.pd_web.specs.Hops.{ports_told, jack_told, port_told}
use Rattle.pd_ports.specs.Boxes.{IsTrueOf}
use Rattle.pd_ports.specs.Moves.{Goes, keys_at}

-- of each box that is a port it is known which one, what is known is so, and no box is a port on both sides
pub record KnowsHomes (w : Web) : Type 0 where
  pub told : (key : ℕ) → IsTrueOf w key
  pub found : (side : Side) (j key i : ℕ) → inner_in (jack_told w side key i) ≡ Some j → port_told w j ≡ Some (key, i)
  pub apart : (j key i m : ℕ) → inner_in (jack_told w Inlets key i) ≡ Some j → inner_in (jack_told w Outlets key m) ≡ Some j → ⊥

-- no two boxes hold one canvas
abbrev pub HoldAlone : Grove → Type 0
HoldAlone g = (k l c : ℕ) → canvas_in (get g.nodes k) ≡ Some c → canvas_in (get g.nodes l) ≡ Some c → k ≡ l

-- each of these ports is a box that is no port yet, or one on this side of this box already
abbrev pub AreFreeFor : Web → ℕ → Side → List Jack → Type 0
AreFreeFor w key side jacks =
    (m j : ℕ) → inner_in (slice_get jacks m) ≡ Some j → (port_told w j ≡ None) ⊎ ((i : ℕ) × (inner_in (jack_told w side key i) ≡ Some j))

-- a port on this side of the box whose box is none of these ports has no wires
abbrev pub AreBareWithout : Web → ℕ → Side → List Jack → Type 0
AreBareWithout w key side jacks = (i : ℕ) → ((m : ℕ) → Goes (ports_told w side key) jacks i m → ⊥) → keys_at w side key i ≡ []
