-- What a web tells where one box gets other ports.
use Rattle.std.specs.Prelude.{◌≡◌, ◌≢◌, ◌==◌, ℕ, Bool, cond, List, [], length, slice_get, Option, Some, None}
use Rattle.pd_grove.specs.declared.grove.Grove.{Grove}
use Rattle.pd_grove.specs.declared.ports.Side.{Side}
use Rattle.pd_web.specs.declared.jacks.Jack.{Jack}
use Rattle.pd_web.specs.declared.sockets.Sockets.{Sockets}
use Rattle.pd_web.specs.declared.web.Web.{Web}
use Rattle.pd_web.specs.Sockets.{made_at}
use Rattle.pd_web.specs.Homes.{IsPortOf, inner_in}
use Rattle.pd_web.specs.Hops.{ports_told, jack_told, fan_hops, feed_hops, port_told}
use Rattle.pd_web.specs.Changes.{line_told}

-- no wire comes from an outlet of the box, and none leads to an inlet of it
pub record HasNoWires (w : Web) (key : ℕ) : Type 0 where
  pub fans : (outlet : ℕ) → fan_hops w key outlet ≡ []
  pub feeds : (inlet : ℕ) → feed_hops w key inlet ≡ []

-- one box has these ports, and is made or not; the ports of every other box, every wire and every list of wires stay
pub record HasPorts (w w' : Web) (key : ℕ) (jacks : Side → List Jack) (is_made : Bool) : Type 0 where
  pub ports : (side : Side) → ports_told w' side key ≡ jacks side
  pub made : made_at w'.sockets.items key ≡ is_made
  pub other_ports : (side : Side) (k : ℕ) → k ≢ key → ports_told w' side k ≡ ports_told w side k
  pub others_made : (k : ℕ) → k ≢ key → made_at w'.sockets.items k ≡ made_at w.sockets.items k
  pub lines : (k : ℕ) → line_told w' k ≡ line_told w k
  pub fans : (node outlet : ℕ) → fan_hops w' node outlet ≡ fan_hops w node outlet
  pub feeds : (node inlet : ℕ) → feed_hops w' node inlet ≡ feed_hops w node inlet

-- of each box that is a port of the box of the key it is known that it is one, and what is known of every other box stays
pub record KnowsPorts (g : Grove) (w w' : Web) (key : ℕ) : Type 0 where
  pub found : (j i : ℕ) → IsPortOf g j key i → (m : ℕ) × (port_told w' j ≡ Some (key, m)) × IsPortOf g j key m
  pub others : (j : ℕ) → ((i : ℕ) → IsPortOf g j key i → ⊥) → port_told w' j ≡ port_told w j

-- what is known to be a port of the box is one
abbrev pub IsTrueOf : Web → ℕ → Type 0
IsTrueOf w key = (j i : ℕ) → port_told w j ≡ Some (key, i) → (side : Side) × (inner_in (jack_told w side key i) ≡ Some j)

-- the port that a box is known to be, but where it is one of the box of this key
abbrev pub but_of : ℕ → Option (ℕ × ℕ) → Option (ℕ × ℕ)
but_of key None = None
but_of key (Some p) = cond (p.0 == key) None (Some p)

-- the box of a key has these ports, and every other box its own
pub record Puts (all all' : List Sockets) (key : ℕ) (own : Sockets) : Type 0 where
  pub is : slice_get all' key ≡ Some own
  pub others : (k : ℕ) → k ≢ key → slice_get all' k ≡ slice_get all k
  pub len : length all' ≡ length all
