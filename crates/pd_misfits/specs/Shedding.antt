-- The wires at a box that don't fit go.
use Rattle.std.specs.Prelude.{◌≡◌, ℕ, Bool, true, false, not, ◌==◌, ◌||◌, List, [], ◌∷◌, filter, map, slice_get, Some}
use Rattle.pd_canvas.specs.declared.wires.Wire.{Wire}
use Rattle.pd_canvas.specs.Wiring.{is_same}
use Rattle.pd_object.specs.declared.kinds.Kind.{Kind}
use Rattle.pd_grove.specs.declared.ports.Side.{Side}
use Rattle.pd_grove.specs.declared.ports.Side.TheVariants.{Inlets, Outlets}
use Rattle.pd_web.specs.declared.lines.Line.{Line}
use Rattle.pd_web.specs.declared.web.Hop.{Hop}
use Rattle.pd_web.specs.declared.web.Web.{Web}
use Rattle.pd_web.specs.Hops.{fan_hops, feed_hops}
use Rattle.pd_web.specs.Changes.{line_told, IsListed}
use Rattle.pd_present.specs.Presents.{number_in}
use Rattle.pd_wiring.specs.Changes.{LeadsAlong}
use Rattle.pd_taking.specs.Loosening.{hops_at, line_at, IsAt}
use Rattle.pd_misfits.specs.declared.wires.BoxWire.{BoxWire}
use Rattle.pd_misfits.specs.declared.wires.Fate.TheVariants.{Goes}
use Rattle.pd_misfits.specs.Misfits.{is_fit, picks}

-- one of these wires has the key
abbrev pub is_among : List BoxWire → ℕ → Bool
is_among [] key = false
is_among (m ∷ ms) key = key == m.key || is_among ms key

-- these are wires at the box, each once
pub record AreWiresAt (w : Web) (box : ℕ) (ms : List BoxWire) : Type 0 where
  pub along : (i : ℕ) (m : BoxWire) → slice_get ms i ≡ Some m → LeadsAlong w m.key m.line
  pub at : (i : ℕ) (m : BoxWire) → slice_get ms i ≡ Some m → IsAt box m.line
  pub once : (i j : ℕ) (m n : BoxWire) → slice_get ms i ≡ Some m → slice_get ms j ≡ Some n → m.key ≡ n.key → i ≡ j

-- the wire is none of these
abbrev pub is_left : List BoxWire → Hop → Bool
is_left ms h = not (is_among ms h.key)

-- these wires are gone, and each list has all others as it had them
pub record Sheds (w w' : Web) (ms : List BoxWire) : Type 0 where
  pub fans : (node outlet : ℕ) → fan_hops w' node outlet ≡ filter (is_left ms) (fan_hops w node outlet)
  pub feeds : (node inlet : ℕ) → feed_hops w' node inlet ≡ filter (is_left ms) (feed_hops w node inlet)

-- each wire in a list leads along its line
pub record IsWired (w : Web) : Type 0 where
  pub fans : (node outlet i : ℕ) (h : Hop) → slice_get (fan_hops w node outlet) i ≡ Some h → line_told w h.key ≡ Some (line_at Outlets node outlet h)
  pub feeds : (node inlet i : ℕ) (h : Hop) → slice_get (feed_hops w node inlet) i ≡ Some h → line_told w h.key ≡ Some (line_at Inlets node inlet h)

-- All wires at the box fit where that is of this kind.
abbrev pub AllFit : Web → ℕ → Kind → Type 0
AllFit w key k = (side : Side) (port i : ℕ) (h : Hop) → slice_get (hops_at w side key port) i ≡ Some h → is_fit w key k (line_at side key port h) ≡ true

-- The wires at the box that fit are there still, and no others.
pub record KeepsFit (w w' : Web) (key : ℕ) (k : Kind) : Type 0 where
  pub fit : AllFit w' key k
  pub stay : (side : Side) (port i : ℕ) (h : Hop) → slice_get (hops_at w side key port) i ≡ Some h → is_fit w key k (line_at side key port h) ≡ true → IsListed (hops_at w' side key port) h

-- the line of a wire, where the boxes have these keys
abbrev pub line_under : List ℕ → Wire → Line
line_under keys v = record { source = number_in keys v.source; outlet = v.outlet; sink = number_in keys v.sink; inlet = v.inlet }

-- the wire is none of those at the box that don't fit where that is of this kind
abbrev pub stays_among : Web → List ℕ → ℕ → Kind → Wire → Bool
stays_among w keys key k v = not (picks Goes w key k (line_under keys v))

-- one of these wires is this one
abbrev pub has_wire : List Wire → Wire → Bool
has_wire [] v = false
has_wire (w ∷ ws) v = is_same v w || has_wire ws v

-- the wires of a canvas that are none of these, in their order
abbrev pub without_wires : List Wire → List Wire → List Wire
without_wires gone ws = filter (λ v. not (has_wire gone v)) ws

-- wires at a box by the numbers of their boxes
abbrev pub numbered : List BoxWire → List Wire
numbered ms = map (λ m. m.wire) ms
