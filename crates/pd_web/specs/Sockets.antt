-- Ports and the ends of those that have one.
use Rattle.std.specs.Prelude.{◌≡◌, ◌≢◌, ◌<◌, ◌≤◌, ◌^◌, ℕ, Bool, false, List, [], ◌∷◌, zero, suc, map, slice_get, length, Option, Some, None, option_and_then}
use Rattle.pd_wire.specs.Book.{Book, IsEnd, wire_at, fan_of, feeds_of}
use Rattle.pd_grove.specs.declared.ports.Side.{Side}
use Rattle.pd_grove.specs.declared.ports.Side.TheVariants.{Inlets, Outlets}
use Rattle.pd_web.specs.declared.jacks.Jack.{Jack}
use Rattle.pd_web.specs.declared.sockets.Port.{Port}
use Rattle.pd_web.specs.declared.sockets.Sockets.{Sockets}
use Rattle.pd_web.specs.declared.sockets.Spot.{Spot}

abbrev pub side_ports : Side → Sockets → List Port
side_ports Inlets s = s.inlets.items
side_ports Outlets s = s.outlets.items

abbrev pub ports_in : Side → Option Sockets → List Port
ports_in side None = []
ports_in side (Some s) = side_ports side s

-- the ports of the box of a key on a side
abbrev pub ports_at : List Sockets → Side → ℕ → List Port
ports_at all side k = ports_in side (slice_get all k)

-- what these ports are, without their ends
abbrev pub jacks_of : List Port → List Jack
jacks_of ports = map (λ p. p.jack) ports

-- a port without an end
abbrev pub loose_port : Jack → Port
loose_port j = record { end = None; jack = j }

abbrev pub loose_ports : List Jack → List Port
loose_ports jacks = map loose_port jacks

-- a port of the box of a key
abbrev pub port_at : List Sockets → Side → ℕ → ℕ → Option Port
port_at all side k i = slice_get (ports_at all side k) i

-- the end of a port of the box of a key, where it has one
abbrev pub end_under : List Sockets → Side → ℕ → ℕ → Option ℕ
end_under all side k i = option_and_then (λ p. p.end) (port_at all side k i)

abbrev pub end_at : List Sockets → Spot → Option ℕ
end_at all s = end_under all s.side s.node s.port

-- there is such a port
abbrev pub IsThere : List Sockets → Spot → Type 0
IsThere all s = s.port < length (ports_at all s.side s.node)

abbrev pub made_of : Option Sockets → Bool
made_of None = false
made_of (Some s) = s.is_made

-- whether the box of a key is made
abbrev pub made_at : List Sockets → ℕ → Bool
made_at all k = made_of (slice_get all k)

-- the end is live, and is that of this port
pub record IsAt (spots : List Spot) (book : Book) (end : ℕ) (spot : Spot) : Type 0 where
  pub live : IsEnd book end
  pub told : slice_get spots end ≡ Some spot

-- each end that a port has is live, and that of no other port
abbrev pub ArePlaced : List Sockets → List Spot → Book → Type 0
ArePlaced all spots book = (s : Spot) (e : ℕ) → end_at all s ≡ Some e → IsAt spots book e s

-- a number of 32 bits counts the ports of a box
abbrev pub AreFew : List Sockets → Type 0
AreFew all = (side : Side) (k : ℕ) → length (ports_at all side k) < 2 ^ 32

-- of every live end it is known which port it is
abbrev pub AreSpotted : List Spot → Book → Type 0
AreSpotted spots book = (e : ℕ) → IsEnd book e → e < length spots

-- the ports' ends are live and known to be theirs, and of every live end it is known which port it is
pub record AreTied (all : List Sockets) (spots : List Spot) (book : Book) : Type 0 where
  pub placed : ArePlaced all spots book
  pub spotted : AreSpotted spots book

-- no wire is there
abbrev pub IsBare : Book → Type 0
IsBare b = (e : ℕ) → (fan_of b e ≡ []) × (feeds_of b e ≡ [])

-- there may be more ends, every end that was there is still that of its port, and the wires are the same
pub record Grows (spots spots' : List Spot) (book book' : Book) : Type 0 where
  pub ends : (e : ℕ) → IsEnd book e → IsEnd book' e
  pub told : (e : ℕ) (s : Spot) → IsEnd book e → slice_get spots e ≡ Some s → slice_get spots' e ≡ Some s
  pub spotted : AreSpotted spots book → AreSpotted spots' book'
  pub fans : (e : ℕ) → fan_of book' e ≡ fan_of book e
  pub feeds : (e : ℕ) → feeds_of book' e ≡ feeds_of book e
  pub wires : (k : ℕ) → wire_at book' k ≡ wire_at book k

-- the ports stay what they are, and each that has an end keeps it
pub record Keeps (all all' : List Sockets) : Type 0 where
  pub jacks : (side : Side) (k : ℕ) → jacks_of (ports_at all' side k) ≡ jacks_of (ports_at all side k)
  pub made : (k : ℕ) → made_at all' k ≡ made_at all k
  pub ends : (s : Spot) (e : ℕ) → end_at all s ≡ Some e → end_at all' s ≡ Some e

-- a port has this end, and nothing else changes
pub record Gives (all all' : List Sockets) (spot : Spot) (end : ℕ) : Type 0 where
  pub jacks : (side : Side) (k : ℕ) → jacks_of (ports_at all' side k) ≡ jacks_of (ports_at all side k)
  pub made : (k : ℕ) → made_at all' k ≡ made_at all k
  pub is : end_at all' spot ≡ Some end
  pub others : (s : Spot) → s ≢ spot → end_at all' s ≡ end_at all s

-- the ports of a side, where that at a place has this end
abbrev pub with_end : ℕ → List Port → ℕ → List Port
with_end e [] i = []
with_end e (p ∷ ps) zero = record { end = Some e; jack = p.jack } ∷ ps
with_end e (p ∷ ps) (suc i) = p ∷ with_end e ps i

-- the ports of some side, where on a side that at a place has this end
abbrev pub given : Side → ℕ → ℕ → Side → List Port → List Port
given Inlets i e Inlets ports = with_end e ports i
given Inlets i e Outlets ports = ports
given Outlets i e Inlets ports = ports
given Outlets i e Outlets ports = with_end e ports i

-- a port of a box has this end, and nothing else of the box changes
pub record GivesIn (own own' : Sockets) (side : Side) (port end : ℕ) : Type 0 where
  pub ports : (s : Side) → side_ports s own' ≡ given side port end s (side_ports s own)
  pub made : own'.is_made ≡ own.is_made

-- of an end it is written which port it is, and of every other stays what was known
pub record Writes (spots spots' : List Spot) (end : ℕ) (spot : Spot) : Type 0 where
  pub is : slice_get spots' end ≡ Some spot
  pub others : (e : ℕ) (s : Spot) → e ≢ end → slice_get spots e ≡ Some s → slice_get spots' e ≡ Some s
  pub longer : length spots ≤ length spots'
  pub far : end < length spots'
