-- What wires see of boxes.
use Rattle.std.specs.Prelude.{ℕ, zero, suc, ◌+◌, ℤ, Bool, true, nat_lt, int_lt, cond, if◌then◌else◌, List, [], ◌∷◌, ◌++◌, map, Option, Some, None}
use Rattle.pd_canvas.specs.declared.wires.Wire.{Wire}
use Rattle.pd_tree.specs.Trees.{Cell, Trees, Done, Leaf, Holder}
use Rattle.pd_tree.specs.Ports.{Sockets, sockets_of, inlet_signal, outlet_signal, fits}
use Rattle.pd_fit.specs.declared.boxes.Seen.{Seen}
use Rattle.pd_fit.specs.declared.ports.Side.{Side}
use Rattle.pd_fit.specs.declared.ports.Side.TheVariants.{Inlets, Outlets}
use Rattle.pd_fit.specs.declared.ports.Place.{Place}

-- the ports of a box; where it stands; and whether it is itself a port of its canvas on a side, and carries signals there
pub record View : Type 0 where
  pub sockets : Sockets
  pub x : ℤ
  pub inlet : Option Bool
  pub outlet : Option Bool

abbrev pub sockets_of_box : Seen → Sockets
sockets_of_box s = record { inlets = s.inlets.items; outlets = s.outlets.items; made = s.is_made }

abbrev pub view_of : Seen → View
view_of s = record {
  sockets = sockets_of_box s;
  x = s.x;
  inlet = s.inlet;
  outlet = s.outlet;
}

abbrev pub views_of : List Seen → List View
views_of boxes = map view_of boxes

abbrev pub port_on : Side → View → Option Bool
port_on Inlets v = v.inlet
port_on Outlets v = v.outlet

-- a port before those that stand as far to the right or farther
abbrev pub put : Place → List Place → List Place
put p [] = p ∷ []
put p (q ∷ qs) = cond (int_lt q.x p.x) (q ∷ put p qs) (p ∷ q ∷ qs)

abbrev pub with_place : Option Bool → ℤ → List Place → List Place
with_place None x ps = ps
with_place (Some b) x ps = put (record { x = x; is_signal = b }) ps

-- the ports among boxes, from left to right, those of one x in the order of the boxes
abbrev pub places_among : Side → List View → List Place
places_among side [] = []
places_among side (v ∷ vs) = with_place (port_on side v) v.x (places_among side vs)

abbrev pub signals_of : List Place → List Bool
signals_of ps = map (λ (p : Place). p.is_signal) ps

-- of so many ports, whether each carries signals, where the first some do
abbrev pub marks : ℕ → ℕ → List Bool
marks first zero = []
marks first (suc n) = marks first n ++ nat_lt n first ∷ []

-- a box that holds no canvas
abbrev pub leaf_view : Cell → View
leaf_view c = record { sockets = sockets_of c.kind; x = c.head.x; inlet = inlet_signal c.kind; outlet = outlet_signal c.kind }

-- a box that holds a canvas with these boxes
abbrev pub holder_view : Cell → List View → View
holder_view c inner = record {
  sockets = record { inlets = signals_of (places_among Inlets inner); outlets = signals_of (places_among Outlets inner); made = true };
  x = c.head.x;
  inlet = None;
  outlet = None;
}

-- the boxes of a canvas
abbrev pub views_in : Trees → List View
views_in Done = []
views_in (Leaf c rest) = leaf_view c ∷ views_in rest
views_in (Holder c s inner rest) = holder_view c (views_in inner) ∷ views_in rest

abbrev pub sockets_seen : List View → List Sockets
sockets_seen vs = map (λ (v : View). v.sockets) vs

-- how many wires between these boxes fit
abbrev pub fitting : List View → List Wire → ℕ
fitting vs [] = 0
fitting vs (w ∷ ws) = if fits (sockets_seen vs) w then 1 + fitting vs ws else fitting vs ws
