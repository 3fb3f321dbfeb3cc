-- One port of a side of a box at another number, and the wires at the ports.
use Rattle.std.specs.Prelude.{◌≡◌, ◌≢◌, ◌<◌, ◌≤◌, ℕ, ◌==◌, cond, List, map, length, slice_get, Some, IsSome}
use Rattle.std.specs.List.{insert}
use Rattle.pd_canvas.specs.Wiring.{lowered, raised}
use Rattle.pd_grove.specs.declared.ports.Side.{Side}
use Rattle.pd_grove.specs.declared.ports.Side.TheVariants.{Inlets, Outlets}
use Rattle.pd_web.specs.declared.jacks.Jack.{Jack}
use Rattle.pd_web.specs.declared.web.Hop.{Hop}
use Rattle.pd_web.specs.declared.web.Web.{Web}
use Rattle.pd_web.specs.Homes.{inner_in}
use Rattle.pd_web.specs.Hops.{ports_told, jack_told, fan_keys, fan_hops, feed_hops, places_of}
use Rattle.pd_web.specs.Sockets.{made_at}
use Rattle.pd_moving.specs.Outlets.{from_others}

-- the number of a port where the port of the first number has gone to the second, and those between have made way
abbrev pub slid : (from to : ℕ) → ℕ → ℕ
slid from to i = cond (i == from) to (raised to (lowered from i))

-- the number of an outlet then, and the place to which a wire leads, where the port is one of the box of the key
abbrev pub outlet_slid : Side → (key from to : ℕ) → (node outlet : ℕ) → ℕ
outlet_slid Inlets key from to node outlet = outlet
outlet_slid Outlets key from to node outlet = cond (node == key) (slid from to outlet) outlet

abbrev pub place_slid : Side → (key from to : ℕ) → ℕ × ℕ → ℕ × ℕ
place_slid Inlets key from to place = (place.0, cond (place.0 == key) (slid from to place.1) place.1)
place_slid Outlets key from to place = place

-- the number of an inlet then
abbrev pub inlet_slid : Side → (key from to : ℕ) → (node inlet : ℕ) → ℕ
inlet_slid Inlets key from to node inlet = cond (node == key) (slid from to inlet) inlet
inlet_slid Outlets key from to node inlet = inlet

-- a wire at an inlet, where it may come from an outlet of the box
abbrev pub hop_slid : (key from to : ℕ) → Hop → Hop
hop_slid key from to h = record { key = h.key; node = h.node; port = cond (h.node == key) (slid from to h.port) h.port }

-- The feeds of an inlet went with it. Those of the other outlets, where one went, stand among one another as they did.
abbrev pub FeedsFollow : Side → (w w' : Web) → (key from to : ℕ) → Type 0
FeedsFollow Inlets w w' key from to = (n i : ℕ) → feed_hops w' n (inlet_slid Inlets key from to n i) ≡ feed_hops w n i
FeedsFollow Outlets w w' key from to = (n i : ℕ) → from_others key to (feed_hops w' n i) ≡ map (hop_slid key from to) (from_others key from (feed_hops w n i))

-- The ports on a side of a box are boxes, and it shall have these, where the one that is the box `port` stands at the second number and not at the first among the others.
pub record IsOneElsewhere (w : Web) (jacks : List Jack) (key : ℕ) (side : Side) (port from to : ℕ) : Type 0 where
  pub rest : List Jack
  pub jack : Jack
  pub is_it : jack.inner ≡ Some port
  pub goes : from ≤ length rest
  pub comes : to ≤ length rest
  pub was : ports_told w side key ≡ insert rest from jack
  pub is : jacks ≡ insert rest to jack
  pub boxes : (i : ℕ) → i < length (ports_told w side key) → IsSome (inner_in (jack_told w side key i))

-- On a side of the box the port of the first number has the second now, and those between have made way. The wires of each port went with it, in
-- their order; each wire leads from the box and to the box that it did. But for the wires of an outlet that went, which were put in anew, each has
-- the key that it had. Every other port stays.
pub record Slides (w w' : Web) (key : ℕ) (side : Side) (from to : ℕ) : Type 0 where
  pub goes : from < length (ports_told w side key)
  pub comes : to < length (ports_told w side key)
  pub as_many : length (ports_told w' side key) ≡ length (ports_told w side key)
  pub ports : (i : ℕ) → i < length (ports_told w side key) → slice_get (ports_told w' side key) (slid from to i) ≡ slice_get (ports_told w side key) i
  pub other_ports : (s : Side) (k : ℕ) → (k ≡ key → s ≢ side) → ports_told w' s k ≡ ports_told w s k
  pub made : (k : ℕ) → made_at w'.sockets.items k ≡ made_at w.sockets.items k
  pub places : (n o : ℕ) → places_of (fan_hops w' n (outlet_slid side key from to n o)) ≡ map (place_slid side key from to) (places_of (fan_hops w n o))
  pub keys : (n o : ℕ) → (side ≡ Outlets → n ≡ key → o ≢ from) → fan_keys w' n (outlet_slid side key from to n o) ≡ fan_keys w n o
  pub feeds : FeedsFollow side w w' key from to
