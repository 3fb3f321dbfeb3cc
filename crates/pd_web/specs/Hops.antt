-- What a web tells.
use Rattle.std.specs.Prelude.{ℕ, Bool, true, false, List, [], map, slice_get, Option, Some, None, option_map}
use Rattle.pd_wire.specs.Book.{Book, fan_of, feeds_of}
use Rattle.pd_grove.specs.declared.ports.Side.{Side}
use Rattle.pd_grove.specs.declared.ports.Side.TheVariants.{Inlets, Outlets}
use Rattle.pd_web.specs.declared.jacks.Jack.{Jack}
use Rattle.pd_web.specs.declared.sockets.Spot.{Spot}
use Rattle.pd_web.specs.declared.web.Hop.{Hop}
use Rattle.pd_web.specs.declared.web.Web.{Web}
use Rattle.pd_tree.specs.Ports.{Sockets as Seen}
use Rattle.pd_web.specs.Sockets.{ports_at, end_under, jacks_of}
use Rattle.pd_web.specs.Lines.{laid_boxes}
use Rattle.pd_web.specs.Homes.{home_at}
use Rattle.pd_web.specs.Wiring.{source_at, sink_at}

-- the ports of the box of a key
abbrev pub ports_told : Web → Side → ℕ → List Jack
ports_told w side k = jacks_of (ports_at w.sockets.items side k)

-- a port of the box of a key
abbrev pub jack_told : Web → Side → ℕ → ℕ → Option Jack
jack_told w side k i = slice_get (ports_told w side k) i

-- whether a port is there and carries signals
abbrev pub signal_in : Option Jack → Bool
signal_in None = false
signal_in (Some j) = j.is_signal

abbrev pub side_named : Bool → Side
side_named true = Outlets
side_named false = Inlets

-- what is seen of the ports of the boxes of these keys
abbrev pub boxes_told : Web → List ℕ → List Seen
boxes_told w keys = laid_boxes w.sockets.items keys

-- a wire and a port
abbrev pub hop_by : ℕ → Option Spot → Hop
hop_by key None = record { key = key; node = 0; port = 0 }
hop_by key (Some s) = record { key = key; node = s.node; port = s.port }

-- a wire and the inlet to which it leads
abbrev pub hop_to : Web → ℕ → Hop
hop_to w key = hop_by key (slice_get w.spots.items (sink_at w.book key))

-- a wire and the outlet from which it comes
abbrev pub hop_from : Web → ℕ → Hop
hop_from w key = hop_by key (slice_get w.spots.items (source_at w.book key))

abbrev pub fan_under : Book → Option ℕ → List ℕ
fan_under b None = []
fan_under b (Some e) = fan_of b e

abbrev pub feeds_under : Book → Option ℕ → List ℕ
feeds_under b None = []
feeds_under b (Some e) = feeds_of b e

-- the wires from an outlet, in order
abbrev pub fan_keys : Web → ℕ → ℕ → List ℕ
fan_keys w node outlet = fan_under w.book (end_under w.sockets.items Outlets node outlet)

-- the wires to an inlet, in order
abbrev pub feed_keys : Web → ℕ → ℕ → List ℕ
feed_keys w node inlet = feeds_under w.book (end_under w.sockets.items Inlets node inlet)

abbrev pub fan_hops : Web → ℕ → ℕ → List Hop
fan_hops w node outlet = map (hop_to w) (fan_keys w node outlet)

abbrev pub feed_hops : Web → ℕ → ℕ → List Hop
feed_hops w node inlet = map (hop_from w) (feed_keys w node inlet)

-- the boxes and their ports at the other ends
abbrev pub places_of : List Hop → List (ℕ × ℕ)
places_of hops = map (λ h. (h.node, h.port)) hops

abbrev pub place_of : Spot → ℕ × ℕ
place_of s = (s.node, s.port)

-- the box of which the box of a key is a port, and the port's number
abbrev pub port_told : Web → ℕ → Option (ℕ × ℕ)
port_told w j = option_map place_of (home_at w.homes.items j)
