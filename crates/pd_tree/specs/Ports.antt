-- The ports of running boxes, and which wires fit.
use Rattle.std.specs.Prelude.{ℕ, ℤ, ◌+◌, ◌-◌, Bool, true, false, ◌&&◌, not, List, [], ◌∷◌, ◌++◌, map, filter, replicate, slice_get, Option, Some, None, int_lt, cond}
use Rattle.pd_object.specs.declared.kinds.Kind.{Kind}
use Rattle.pd_object.specs.declared.kinds.Kind.TheVariants as kind
use Rattle.pd_object.specs.declared.kinds.Glue.{Glue}
use Rattle.pd_object.specs.declared.kinds.Glue.TheVariants as glue
use Rattle.pd_object.specs.declared.kinds.Side.TheVariants as side
use Rattle.pd_object.specs.declared.kinds.Signal.{Signal}
use Rattle.pd_object.specs.declared.kinds.Signal.TheVariants as signal
use Rattle.pd_object.specs.Ports.{Ports, ports_of}
use Rattle.pd_canvas.specs.declared.wires.Wire.{Wire}
use Rattle.pd_tree.specs.declared.rows.Sheet.{Sheet}
use Rattle.pd_tree.specs.Trees.{Cell, Trees, Done, Leaf, Holder, Tree}

-- whether a box is a port of its canvas, and whether that port carries signals: `inlet` and `inlet~`
abbrev pub inlet_signal : Kind → Option Bool
inlet_signal (kind.Glue (glue.Port side.Inlet)) = Some false
inlet_signal (kind.Signal signal.Inlet) = Some true
inlet_signal _ = None

-- `outlet` and `outlet~`
abbrev pub outlet_signal : Kind → Option Bool
outlet_signal (kind.Glue (glue.Port side.Outlet)) = Some false
outlet_signal (kind.Signal signal.Outlet) = Some true
outlet_signal _ = None

-- a box that is a port of its canvas: its number, where it stands, and whether it carries signals
pub record PortBox : Type 0 where
  pub number : ℕ
  pub x : ℤ
  pub is_signal : Bool

abbrev pub with_port : Option Bool → ℕ → ℤ → List PortBox → List PortBox
with_port None n x ports = ports
with_port (Some b) n x ports = record { number = n; x = x; is_signal = b } ∷ ports

-- the port boxes among boxes whose numbers begin at n, by number
abbrev pub port_boxes : (Kind → Option Bool) → ℕ → Trees → List PortBox
port_boxes side n Done = []
port_boxes side n (Leaf c rest) = with_port (side c.kind) n c.head.x (port_boxes side (n + 1) rest)
port_boxes side n (Holder c s inner rest) = port_boxes side (n + 1) rest

-- a port box before those that stand as far to the right or farther
abbrev pub placed : PortBox → List PortBox → List PortBox
placed p [] = p ∷ []
placed p (q ∷ qs) = cond (int_lt q.x p.x) (q ∷ placed p qs) (p ∷ q ∷ qs)

-- from left to right, those of one x in their order
abbrev pub by_x : List PortBox → List PortBox
by_x [] = []
by_x (p ∷ ps) = placed p (by_x ps)

-- the inlets and the outlets of the box that holds a canvas with these boxes
abbrev pub inlet_boxes : Trees → List PortBox
inlet_boxes boxes = by_x (port_boxes inlet_signal 0 boxes)

abbrev pub outlet_boxes : Trees → List PortBox
outlet_boxes boxes = by_x (port_boxes outlet_signal 0 boxes)

-- for each inlet and each outlet of a box whether it carries signals, and whether the box is made
pub record Sockets : Type 0 where
  pub inlets : List Bool
  pub outlets : List Bool
  pub made : Bool

abbrev pub is_made : Kind → Bool
is_made kind.Unmade = false
is_made _ = true

-- the first so many of all carry signals
abbrev pub signals : ℕ → ℕ → List Bool
signals first all = replicate first true ++ replicate (all - first) false

abbrev pub sockets_by : Bool → Ports → Sockets
sockets_by made p =
    record { inlets = signals p.signal_inlets p.inlets; outlets = signals p.signal_outlets p.outlets; made = made }

-- the ports of a box that holds no canvas are those of its kind
abbrev pub sockets_of : Kind → Sockets
sockets_of k = sockets_by (is_made k) (ports_of k)

-- the ports of a box that holds a canvas with these boxes
abbrev pub sockets_around : Trees → Sockets
sockets_around inner = record {
  inlets = map (λ p. p.is_signal) (inlet_boxes inner);
  outlets = map (λ p. p.is_signal) (outlet_boxes inner);
  made = true;
}

-- the ports of each box of a canvas
abbrev pub sockets_in : Trees → List Sockets
sockets_in Done = []
sockets_in (Leaf c rest) = sockets_of c.kind ∷ sockets_in rest
sockets_in (Holder c s inner rest) = sockets_around inner ∷ sockets_in rest

-- a wire between two ports fits but where a signal outlet leads to a control inlet of a made box
abbrev pub joins : Bool → Option Bool → Option Bool → Bool
joins made (Some from) (Some to) = not (from && (not to && made))
joins made (Some from) None = false
joins made None to = false

abbrev pub fits_between : Option Sockets → Option Sockets → Wire → Bool
fits_between (Some s) (Some d) w = joins d.made (slice_get s.outlets w.outlet) (slice_get d.inlets w.inlet)
fits_between (Some s) None w = false
fits_between None d w = false

-- a wire fits where both its boxes and both its ports are there, and it may join them
abbrev pub fits : List Sockets → Wire → Bool
fits boxes w = fits_between (slice_get boxes w.source) (slice_get boxes w.sink) w

-- a sheet whose wires that don't fit are left out
abbrev pub trimmed_sheet : Trees → Sheet → Sheet
trimmed_sheet boxes s = record {
  zero = s.zero;
  arguments = s.arguments;
  header = s.header;
  kept = s.kept;
  wires = filter (fits (sockets_in boxes)) s.wires;
  coords = s.coords;
}

-- the boxes with the wires in them that fit
abbrev pub trimmed : Trees → Trees
trimmed Done = Done
trimmed (Leaf c rest) = Leaf c (trimmed rest)
trimmed (Holder c s inner rest) = Holder c (trimmed_sheet inner s) (trimmed inner) (trimmed rest)

-- a running canvas with the wires that fit
abbrev pub trimmed_tree : Tree → Tree
trimmed_tree t = record { sheet = trimmed_sheet t.boxes t.sheet; boxes = trimmed t.boxes }
