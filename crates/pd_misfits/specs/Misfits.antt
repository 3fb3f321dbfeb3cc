-- The wires at a box that don't fit where it is of another kind.
use Rattle.std.specs.Prelude.{◌≡◌, ℕ, Bool, false, not, ◌==◌, ◌&&◌, ◌||◌, cond, List, [], ◌∷◌, length, slice_get, Option, Some, None}
use Rattle.std.specs.List.{flat_map, range_with_len}
use Rattle.pd_object.specs.declared.kinds.Kind.{Kind}
use Rattle.pd_grove.specs.declared.ports.Side.{Side}
use Rattle.pd_grove.specs.declared.ports.Side.TheVariants.{Inlets, Outlets}
use Rattle.pd_web.specs.declared.jacks.Jack.{Jack}
use Rattle.pd_web.specs.declared.lines.Line.{Line}
use Rattle.pd_web.specs.declared.web.Hop.{Hop}
use Rattle.pd_web.specs.declared.web.Web.{Web}
use Rattle.pd_web.specs.Canvases.{keys_at}
use Rattle.pd_web.specs.Hops.{ports_told, signal_in, fan_hops}
use Rattle.pd_present.specs.Presents.{number_in}
use Rattle.pd_patch.specs.declared.patch.Patch.{Patch}
use Rattle.pd_wiring.specs.Changes.{is_signal_line}
use Rattle.pd_taking.specs.Loosening.{hops_at, line_at}
use Rattle.pd_refitting.specs.Refits.{jack_with, made_with}
use Rattle.pd_misfits.specs.declared.wires.BoxWire.{BoxWire}
use Rattle.pd_misfits.specs.declared.wires.Fate.{Fate}
use Rattle.pd_misfits.specs.declared.wires.Fate.TheVariants.{Goes, Turns}

-- A wire between two ports fits where both are there, and it carries signals into no port without of a box that is made.
abbrev pub fits_between : Option Jack → Option Jack → Bool → Bool
fits_between None to made = false
fits_between (Some from) None made = false
fits_between (Some from) (Some to) made = not (from.is_signal && (not to.is_signal && made))

-- the wire along the line fits where the box of the key is of this kind
abbrev pub is_fit : Web → ℕ → Kind → Line → Bool
is_fit w key k l = fits_between (jack_with w key k Outlets l.source l.outlet) (jack_with w key k Inlets l.sink l.inlet) (made_with w key k l.sink)

-- it is a signal wire then
abbrev pub is_signal_with : Web → ℕ → Kind → Line → Bool
is_signal_with w key k l = signal_in (jack_with w key k Outlets l.source l.outlet) && signal_in (jack_with w key k Inlets l.sink l.inlet)

-- one of two is true
abbrev pub differ : Bool → Bool → Bool
differ a b = cond a (not b) b

-- it stays, but becomes a signal wire or ceases to be one
abbrev pub turns : Web → ℕ → Kind → Line → Bool
turns w key k l = is_fit w key k l && differ (is_signal_with w key k l) (is_signal_line w l)

-- no wire at the box that fits where that is of this kind becomes a signal wire or ceases to be one
abbrev pub NoneTurns : Web → ℕ → Kind → Type 0
NoneTurns w key k = (side : Side) (port i : ℕ) (h : Hop) → slice_get (hops_at w side key port) i ≡ Some h → turns w key k (line_at side key port h) ≡ false

-- the line leads from the box or to it
abbrev pub is_at : ℕ → Line → Bool
is_at key l = l.source == key || l.sink == key

-- it is one of those that are meant
abbrev pub wants : Fate → Web → ℕ → Kind → Line → Bool
wants Goes w key k l = not (is_fit w key k l)
wants Turns w key k l = turns w key k l

-- the wire is one at the box, and one of those that are meant
abbrev pub picks : Fate → Web → ℕ → Kind → Line → Bool
picks fate w key k l = is_at key l && wants fate w key k l

-- a wire by its key and its line, with the numbers of its boxes
abbrev pub wire_of : List ℕ → ℕ → Line → BoxWire
wire_of numbers key l = record {
  wire = record { source = number_in numbers l.source; outlet = l.outlet; sink = number_in numbers l.sink; inlet = l.inlet };
  line = l;
  key = key;
}

-- a wire, if it is one of those that are meant
abbrev pub wire_picked : Fate → Web → ℕ → Kind → BoxWire → List BoxWire
wire_picked fate w key k m = cond (picks fate w key k m.line) (m ∷ []) []

abbrev pub wire_from : Fate → Web → List ℕ → ℕ → Kind → ℕ → ℕ → Hop → List BoxWire
wire_from fate w numbers key k node outlet h = wire_picked fate w key k (wire_of numbers h.key (line_at Outlets node outlet h))

-- such wires from an outlet, in their order
abbrev pub outlet_wires : Fate → Web → List ℕ → ℕ → Kind → ℕ → ℕ → List BoxWire
outlet_wires fate w numbers key k node outlet = flat_map (wire_from fate w numbers key k node outlet) (fan_hops w node outlet)

-- those that leave a box, outlet by outlet
abbrev pub box_wires : Fate → Web → List ℕ → ℕ → Kind → ℕ → List BoxWire
box_wires fate w numbers key k node = flat_map (outlet_wires fate w numbers key k node) (range_with_len 0 (length (ports_told w Outlets node)))

-- those that leave boxes, box by box
abbrev pub wires_among : Fate → Web → List ℕ → ℕ → Kind → List ℕ → List BoxWire
wires_among fate w numbers key k keys = flat_map (box_wires fate w numbers key k) keys

abbrev pub picked : Fate → Patch → ℕ → ℕ → Kind → List BoxWire
picked fate p canvas key k = wires_among fate p.web p.numbers.items key k (keys_at p.grove canvas)

-- The wires of a canvas that go where the box of the key, which lies in it, is of this kind, in the order of the canvas's wires.
abbrev pub misfits : Patch → ℕ → ℕ → Kind → List BoxWire
misfits p canvas key k = picked Goes p canvas key k

-- those that stay, but become signal wires or cease to be such
abbrev pub turning : Patch → ℕ → ℕ → Kind → List BoxWire
turning p canvas key k = picked Turns p canvas key k
