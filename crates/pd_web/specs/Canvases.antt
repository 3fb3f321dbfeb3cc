-- The wires of one canvas that fit, by the numbers of its boxes.
use Rattle.std.specs.Prelude.{◌≡◌, ℕ, ◌==◌, ◌&&◌, List, map, filter, slice_get, slice_index_or, Some, None}
use Rattle.slab.specs.Slab.{get}
use Rattle.pd_canvas.specs.declared.wires.Wire.{Wire}
use Rattle.pd_canvas.specs.Wiring.{fan_out}
use Rattle.pd_tree.specs.Trees.{Trees, Done, Leaf, Holder}
use Rattle.pd_tree.specs.Ports.{fits, inlet_signal, outlet_signal}
use Rattle.pd_grove.specs.declared.grove.Grove.{Grove}
use Rattle.pd_grove.specs.Telling.{keys_in}
use Rattle.pd_web.specs.Lines.{boxes_in, wires_in}

-- the keys of the boxes of a canvas
abbrev pub keys_at : Grove → ℕ → List ℕ
keys_at g c = keys_in (get g.boards c)

-- each of its boxes stands once in this canvas, and in no other
pub record IsOwn (g : Grove) (c : ℕ) : Type 0 where
  pub once : (i j k : ℕ) → slice_get (keys_at g c) i ≡ Some k → slice_get (keys_at g c) j ≡ Some k → i ≡ j
  pub alone : (d i j k : ℕ) → slice_get (keys_at g c) i ≡ Some k → slice_get (keys_at g d) j ≡ Some k → d ≡ c

-- the wires of a canvas that fit
abbrev pub fitting : Grove → ℕ → List Wire
fitting g c = filter (fits (boxes_in g c)) (wires_in (get g.boards c))

-- where a wire leads, and from where it comes: the key of the box and the number of the port
abbrev pub sink_place : List ℕ → Wire → ℕ × ℕ
sink_place keys w = (slice_index_or keys w.sink 0, w.inlet)

abbrev pub source_place : List ℕ → Wire → ℕ × ℕ
source_place keys w = (slice_index_or keys w.source 0, w.outlet)

-- the wires to an inlet of a box, in their order
abbrev pub fan_into : ℕ → ℕ → List Wire → List Wire
fan_into sink inlet ws = filter (λ w. w.sink == sink && w.inlet == inlet) ws

-- where the wires of an outlet that fit lead
abbrev pub fed_in : Grove → ℕ → ℕ → ℕ → List (ℕ × ℕ)
fed_in g c number outlet = map (sink_place (keys_at g c)) (fan_out number outlet (fitting g c))

-- from where the wires to an inlet that fit come
abbrev pub feeding_in : Grove → ℕ → ℕ → ℕ → List (ℕ × ℕ)
feeding_in g c number inlet = map (source_place (keys_at g c)) (fan_into number inlet (fitting g c))

-- no box that holds a canvas is itself a port of the canvas in which it lies
abbrev pub HoldersAreNoPorts : Trees → Type 0
HoldersAreNoPorts Done = Unit {0}
HoldersAreNoPorts (Leaf c rest) = HoldersAreNoPorts rest
HoldersAreNoPorts (Holder c s inner rest) =
    (inlet_signal c.kind ≡ None) × (outlet_signal c.kind ≡ None) × HoldersAreNoPorts inner × HoldersAreNoPorts rest
