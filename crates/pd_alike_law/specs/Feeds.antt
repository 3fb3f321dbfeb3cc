-- The wires to an inlet.
use Rattle.std.specs.Prelude.{◌≡◌, ℕ, List, map, slice_get, Some}
use Rattle.pd_canvas.specs.declared.wires.Wire.{Wire}
use Rattle.pd_web.specs.declared.web.Hop.{Hop}
use Rattle.pd_web.specs.declared.web.Web.{Web}
use Rattle.pd_web.specs.Canvases.{keys_at}
use Rattle.pd_web.specs.Changes.{hop_at, line_by, line_told}
use Rattle.pd_web.specs.Hops.{feed_hops, feed_keys}
use Rattle.pd_present.specs.Presents.{number_in}
use Rattle.pd_seek.specs.Places.{AreInOrder}
use Rattle.pd_patch.specs.declared.patch.Patch.{Patch}

-- each wire stands once among the feeds of an inlet, the one to which it leads
pub record FedOnce (w : Web) : Type 0 where
  pub lines : (node inlet i : ℕ) (h : Hop) → slice_get (feed_hops w node inlet) i ≡ Some h
      → line_told w h.key ≡ Some (line_by h (hop_at h.key node inlet))
  pub once : (node inlet i j k : ℕ) → slice_get (feed_keys w node inlet) i ≡ Some k → slice_get (feed_keys w node inlet) j ≡ Some k → i ≡ j

-- the feeds of each inlet in a canvas are in the order of the numbers of their boxes, and of the outlets of a box
pub record FeedsInOrder (p : Patch) (c : ℕ) : Type 0 where
  pub all : (i k inlet : ℕ) → slice_get (keys_at p.grove c) i ≡ Some k → AreInOrder p.numbers.items (feed_hops p.web k inlet)

-- a wire to an inlet of the box of a key, by the numbers of both boxes
abbrev pub feed_wire : List ℕ → ℕ → ℕ → Hop → Wire
feed_wire numbers key inlet h =
    record { source = number_in numbers h.node; outlet = h.port; sink = number_in numbers key; inlet = inlet }

-- the wires to an inlet of the box of a key, in their order
abbrev pub feed_wires : Web → List ℕ → ℕ → ℕ → List Wire
feed_wires w numbers key inlet = map (feed_wire numbers key inlet) (feed_hops w key inlet)

-- Two canvases, of one patch and of another, in which to each inlet the same wires come, by the numbers of their boxes, in the same order.
pub record HaveSameFeeds (p : Patch) (c : ℕ) (q : Patch) (d : ℕ) : Type 0 where
  pub all : (i inlet k j : ℕ) → slice_get (keys_at p.grove c) i ≡ Some k → slice_get (keys_at q.grove d) i ≡ Some j
      → feed_wires q.web q.numbers.items j inlet ≡ feed_wires p.web p.numbers.items k inlet
