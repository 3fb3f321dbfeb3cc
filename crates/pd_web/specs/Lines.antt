-- The wires of a running patch that fit, by the keys of boxes.
use Rattle.std.specs.Prelude.{◌≡◌, ℕ, zero, suc, Bool, false, ◌==◌, ◌&&◌, cond, List, [], ◌∷◌, ◌++◌, map, filter, slice_get, slice_index_or, length, Option, Some, None, option_map, option_and_then}
use Rattle.slab.specs.Slab.{get}
use Rattle.pd_canvas.specs.declared.wires.Wire.{Wire}
use Rattle.pd_tree.specs.Ports.{fits}
use Rattle.pd_tree.specs.Ports.{Sockets as Seen}
use Rattle.pd_wire.specs.Book.{Book}
use Rattle.pd_grove.specs.declared.boards.Board.{Board}
use Rattle.pd_grove.specs.declared.grove.Grove.{Grove}
use Rattle.pd_grove.specs.declared.ports.Side.{Side}
use Rattle.pd_grove.specs.declared.ports.Side.TheVariants.{Inlets, Outlets}
use Rattle.pd_grove.specs.Telling.{keys_in}
use Rattle.pd_web.specs.declared.jacks.Jack.{Jack}
use Rattle.pd_web.specs.declared.joints.Joint.{Joint}
use Rattle.pd_web.specs.declared.sockets.Port.{Port}
use Rattle.pd_web.specs.declared.sockets.Sockets.{Sockets}
use Rattle.pd_web.specs.declared.sockets.Spot.{Spot}
use Rattle.pd_web.specs.Sockets.{IsThere, ports_at, port_at, end_at, made_at, jacks_of}
use Rattle.pd_web.specs.Jacks.{jacks_at, made_in}
use Rattle.pd_web.specs.Wiring.{Holds}
-- a wire by the keys of its boxes
pub use Rattle.pd_web.specs.declared.lines.Line.{Line}

-- a wire of a canvas whose boxes have these keys
abbrev pub line_of : List ℕ → Wire → Line
line_of keys w =
    record { source = slice_index_or keys w.source 0; outlet = w.outlet; sink = slice_index_or keys w.sink 0; inlet = w.inlet }

-- the wires of a canvas that fit, where its boxes have these keys and ports
abbrev pub lines_by : List Seen → List ℕ → List Wire → List Line
lines_by boxes keys ws = map (line_of keys) (filter (fits boxes) ws)

abbrev pub signals_of : List Jack → List Bool
signals_of jacks = map (λ j. j.is_signal) jacks

-- what is seen of the ports of a box
abbrev pub seen_by : List Jack → List Jack → Bool → Seen
seen_by inlets outlets made = record { inlets = signals_of inlets; outlets = signals_of outlets; made = made }

-- the ports of the box of a key, as the running patch has them
abbrev pub seen_at : Grove → ℕ → Seen
seen_at g k = seen_by (jacks_at Inlets g k) (jacks_at Outlets g k) (made_in (get g.nodes k))

abbrev pub wires_in : Option Board → List Wire
wires_in None = []
wires_in (Some b) = b.sheet.wires

-- the ports of the boxes of a canvas
abbrev pub boxes_in : Grove → ℕ → List Seen
boxes_in g c = map (seen_at g) (keys_in (get g.boards c))

-- the wires of a canvas that fit
abbrev pub lines_at : Grove → ℕ → List Line
lines_at g c = lines_by (boxes_in g c) (keys_in (get g.boards c)) (wires_in (get g.boards c))

abbrev pub lines_below : Grove → ℕ → List Line
lines_below g zero = []
lines_below g (suc c) = lines_below g c ++ lines_at g c

-- the wires of all canvases that fit, canvas by canvas
abbrev pub all_lines : Grove → List Line
all_lines g = lines_below g (length g.boards.slots)

-- where the lines from an outlet lead, in order: the key of each box and the number of its inlet
abbrev pub fed_from : ℕ → ℕ → List Line → List (ℕ × ℕ)
fed_from k o ls = map (λ l. (l.sink, l.inlet)) (filter (λ l. l.source == k && l.outlet == o) ls)

-- from where the lines to an inlet come, in order: the key of each box and the number of its outlet
abbrev pub feeding : ℕ → ℕ → List Line → List (ℕ × ℕ)
feeding k i ls = map (λ l. (l.source, l.outlet)) (filter (λ l. l.sink == k && l.inlet == i) ls)

-- the ports of the box of a key, as they were laid
abbrev pub laid_at : List Sockets → ℕ → Seen
laid_at all k = seen_by (jacks_of (ports_at all Inlets k)) (jacks_of (ports_at all Outlets k)) (made_at all k)

abbrev pub laid_boxes : List Sockets → List ℕ → List Seen
laid_boxes all keys = map (laid_at all) keys

-- the wires that fit of a canvas whose boxes have these keys
abbrev pub laid_lines : List Sockets → List ℕ → List Wire → List Line
laid_lines all keys ws = lines_by (laid_boxes all keys) keys ws

-- a port of the box of a number, where the boxes have these keys
abbrev pub port_numbered : List Sockets → List ℕ → Side → ℕ → ℕ → Option Port
port_numbered all keys side n i = option_and_then (λ k. port_at all side k i) (slice_get keys n)

abbrev pub made_under : List Sockets → Option ℕ → Bool
made_under all None = false
made_under all (Some k) = made_at all k

-- whether a port that is there carries signals
abbrev pub signal_of : Option Port → Option Bool
signal_of o = option_map (λ p. p.jack.is_signal) o

-- the line of a wire, where it fits
abbrev pub line_in : List Sockets → List ℕ → Wire → Option Line
line_in all keys w = cond (fits (laid_boxes all keys) w) (Some (line_of keys w)) None

-- the two ports between which a line lies
abbrev pub line_from : Line → Spot
line_from l = record { node = l.source; side = Outlets; port = l.outlet }

abbrev pub line_to : Line → Spot
line_to l = record { node = l.sink; side = Inlets; port = l.inlet }

-- both ports of a line are there
pub record IsRoute (all : List Sockets) (l : Line) : Type 0 where
  pub from : IsThere all (line_from l)
  pub to : IsThere all (line_to l)

-- a joint is at the ends of a line
pub record IsJoint (all : List Sockets) (j : Joint) (l : Line) : Type 0 where
  pub from : end_at all (line_from l) ≡ Some j.source
  pub to : end_at all (line_to l) ≡ Some j.sink

-- each of these joints is at the ends of its line
abbrev pub AreJoints : List Sockets → List Joint → List Line → Type 0
AreJoints all [] [] = Unit {0}
AreJoints all [] (l ∷ ls) = ⊥
AreJoints all (j ∷ js) [] = ⊥
AreJoints all (j ∷ js) (l ∷ ls) = IsJoint all j l × AreJoints all js ls

-- the book has these lines, and no others
pub record IsLaid (all : List Sockets) (b : Book) (ls : List Line) : Type 0 where
  pub joints : List Joint
  pub held : Holds b joints
  pub lines : AreJoints all joints ls
