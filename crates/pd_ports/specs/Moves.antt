-- Wires that go with the port boxes of a canvas.
use Rattle.std.specs.Prelude.{◌≡◌, ◌≢◌, ◌<◌, ◌==◌, ℕ, Bool, false, cond, List, [], ◌∷◌, map, slice_get, length, Option, Some, None}
use Rattle.pd_wire.specs.Book.{Book}
use Rattle.pd_grove.specs.declared.ports.Side.{Side}
use Rattle.pd_grove.specs.declared.ports.Side.TheVariants.{Inlets, Outlets}
use Rattle.pd_web.specs.declared.jacks.Jack.{Jack}
use Rattle.pd_web.specs.declared.sockets.Port.{Port}
use Rattle.pd_web.specs.declared.sockets.Spot.{Spot}
use Rattle.pd_web.specs.declared.web.Web.{Web}
use Rattle.pd_web.specs.declared.sockets.Sockets.{Sockets}
use Rattle.pd_web.specs.Sockets.{made_at, side_ports, ports_at, end_under}
use Rattle.pd_web.specs.declared.lines.Line.{Line}
use Rattle.pd_web.specs.Homes.{inner_in}
use Rattle.pd_web.specs.Hops.{ports_told, jack_told, port_told, fan_under, feeds_under}
use Rattle.pd_web.specs.Changes.{IsListed, line_told}
use Rattle.pd_ports.specs.Boxes.{but_of}
use Rattle.pd_ports.specs.Ends.{IsAmong, end_in}

-- the old port of this number and the new one of that number are the same box
abbrev pub Goes : List Jack → List Jack → ℕ → ℕ → Type 0
Goes old new i m = (j : ℕ) × (inner_in (slice_get old i) ≡ Some j) × (inner_in (slice_get new m) ≡ Some j)

-- no box is two of these ports
abbrev pub AreOnce : List Jack → Type 0
AreOnce jacks = (i m j : ℕ) → inner_in (slice_get jacks i) ≡ Some j → inner_in (slice_get jacks m) ≡ Some j → i ≡ m

-- the wires to an inlet's end, or from an outlet's
abbrev pub under : Side → Book → Option ℕ → List ℕ
under Inlets b o = feeds_under b o
under Outlets b o = fan_under b o

-- the wires at a port, in order
abbrev pub keys_at : Web → Side → ℕ → ℕ → List ℕ
keys_at w side k i = under side w.book (end_under w.sockets.items side k i)

-- the box and the port at one side of a wire
abbrev pub box_of : Side → Line → ℕ
box_of Inlets l = l.sink
box_of Outlets l = l.source

abbrev pub port_of : Side → Line → ℕ
port_of Inlets l = l.inlet
port_of Outlets l = l.outlet

-- the wire at another port of its box
abbrev pub with_port : Side → ℕ → Line → Line
with_port Inlets m l = record { source = l.source; outlet = l.outlet; sink = l.sink; inlet = m }
with_port Outlets m l = record { source = l.source; outlet = m; sink = l.sink; inlet = l.inlet }

-- the wire of this key stands among those at its port on this side
abbrev pub StandsOn : Web → Side → ℕ → Line → Type 0
StandsOn w side k l = IsListed (keys_at w side (box_of side l) (port_of side l)) k

-- the ports on a side of a box are these. The wires of a port go with its box to that box's new place, in their order and under their keys;
-- every other port and wire stays
pub record FollowsPorts (w w' : Web) (key : ℕ) (side : Side) (jacks : List Jack) : Type 0 where
  pub ports : ports_told w' side key ≡ jacks
  pub other_ports : (s : Side) (k : ℕ) → (k ≡ key → s ≢ side) → ports_told w' s k ≡ ports_told w s k
  pub made : (k : ℕ) → made_at w'.sockets.items k ≡ made_at w.sockets.items k
  pub went : (i m : ℕ) → Goes (ports_told w side key) jacks i m → keys_at w' side key m ≡ keys_at w side key i
  pub came : (m : ℕ) → ((i : ℕ) → Goes (ports_told w side key) jacks i m → ⊥) → keys_at w' side key m ≡ []
  pub other_keys : (s : Side) (k i : ℕ) → (k ≡ key → s ≢ side) → keys_at w' s k i ≡ keys_at w s k i
  pub lines : (k m : ℕ) (l : Line) (s : Side) → line_told w k ≡ Some l → StandsOn w s k l → box_of side l ≡ key → Goes (ports_told w side key) jacks (port_of side l) m →
      line_told w' k ≡ Some (with_port side m l)
  pub other_lines : (k : ℕ) (l : Line) (s : Side) → line_told w k ≡ Some l → StandsOn w s k l → box_of side l ≢ key → line_told w' k ≡ Some l
  pub no_lines : (k : ℕ) → line_told w k ≡ None → line_told w' k ≡ None

-- each box that is one of these ports is known to be that one; the others that were ports here are known as such no more; and what is known of
-- every other box stays
pub record KnowsSide (w w' : Web) (key : ℕ) (side : Side) (jacks : List Jack) : Type 0 where
  pub found : (m j : ℕ) → inner_in (slice_get jacks m) ≡ Some j → port_told w' j ≡ Some (key, m)
  pub gone : (i j : ℕ) → inner_in (jack_told w side key i) ≡ Some j → ((m : ℕ) → inner_in (slice_get jacks m) ≡ Some j → ⊥) → port_told w' j ≡ but_of key (port_told w j)
  pub others : (j : ℕ) → ((m : ℕ) → inner_in (slice_get jacks m) ≡ Some j → ⊥) → ((i : ℕ) → inner_in (jack_told w side key i) ≡ Some j → ⊥) → port_told w' j ≡ port_told w j

-- whether two are the same box
abbrev pub is_box : Option ℕ → Option ℕ → Bool
is_box None o = false
is_box (Some x) None = false
is_box (Some x) (Some y) = x == y

-- the end of the port that is this box
abbrev pub end_of : List Port → Option ℕ → Option ℕ
end_of [] o = None
end_of (p ∷ ports) o = cond (is_box p.jack.inner o) p.end (end_of ports o)

-- a port that has the end of the old port that is the same box
abbrev pub moved_port : List Port → Jack → Port
moved_port old j = record { end = end_of old j.inner; jack = j }

abbrev pub moved_ports : List Port → List Jack → List Port
moved_ports old jacks = map (moved_port old) jacks

-- each end of these ports is known to be that port's, and of every other end stays what was known
pub record Respots (spots spots' : List Spot) (ports : List Port) (side : Side) (key : ℕ) : Type 0 where
  pub told : (m e : ℕ) → end_in ports m ≡ Some e → slice_get spots' e ≡ Some (record { node = key; side = side; port = m })
  pub others : (e : ℕ) → (IsAmong ports e → ⊥) → slice_get spots' e ≡ slice_get spots e
  pub len : length spots' ≡ length spots

-- no end is that of two ports, and each is within the list of spots
pub record AreApart (spots : List Spot) (ports : List Port) : Type 0 where
  pub once : (i j e : ℕ) → end_in ports i ≡ Some e → end_in ports j ≡ Some e → i ≡ j
  pub within : (i e : ℕ) → end_in ports i ≡ Some e → e < length spots

-- the end is that of one of the old ports, and of none of the new ones
abbrev pub IsLeft : List Port → List Port → ℕ → Type 0
IsLeft old new e = IsAmong old e × (IsAmong new e → ⊥)

-- a side of a box has these ports, and every other side and box its own
pub record PutsSide (all all' : List Sockets) (key : ℕ) (side : Side) (ports : List Port) : Type 0 where
  pub is : ports_at all' side key ≡ ports
  pub others : (s : Side) (k : ℕ) → (k ≡ key → s ≢ side) → ports_at all' s k ≡ ports_at all s k
  pub made : (k : ℕ) → made_at all' k ≡ made_at all k
  pub len : length all' ≡ length all

-- a side of the box has these ports, and nothing else of it changes
pub record PutsIn (own own' : Sockets) (side : Side) (ports : List Port) : Type 0 where
  pub is : side_ports side own' ≡ ports
  pub other : (s : Side) → s ≢ side → side_ports s own' ≡ side_ports s own
  pub made : own'.is_made ≡ own.is_made
