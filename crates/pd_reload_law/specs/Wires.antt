-- The wires of a canvas that are saved.
use Rattle.std.specs.Prelude.{◌≡◌, ◌≢◌, ℕ, List, slice_get, Some, IsSome}
use Rattle.slab.specs.Slab.{get}
use Rattle.pd_canvas.specs.declared.wires.Wire.{Wire}
use Rattle.pd_grove.specs.declared.grove.Grove.{Grove}
use Rattle.pd_grove.specs.Telling.{reached}
use Rattle.pd_web.specs.declared.lines.Line.{Line}
use Rattle.pd_web.specs.declared.web.Hop.{Hop}
use Rattle.pd_web.specs.declared.web.Web.{Web}
use Rattle.pd_web.specs.Canvases.{keys_at}
use Rattle.pd_web.specs.Hops.{fan_hops, fan_keys}
use Rattle.pd_web.specs.Changes.{hop_at, line_by, line_told}
use Rattle.pd_present.specs.Presents.{number_in, wires_among}

-- under the key of each box of a canvas stands its number
abbrev pub AreNumbered : List ℕ → List ℕ → Type 0
AreNumbered numbers keys = (i k : ℕ) → slice_get keys i ≡ Some k → slice_get numbers k ≡ Some i

-- the key is one of these
abbrev pub IsAmong : List ℕ → ℕ → Type 0
IsAmong keys key = (i : ℕ) × (slice_get keys i ≡ Some key)

-- both boxes of a wire have one of these keys
pub record JoinsAmong (keys : List ℕ) (v : Wire) : Type 0 where
  pub from : ℕ
  pub to : ℕ
  pub source : slice_get keys v.source ≡ Some from
  pub sink : slice_get keys v.sink ≡ Some to

-- each wire of these boxes leads to one of them
abbrev pub StayAmong : Web → List ℕ → Type 0
StayAmong w keys = (k outlet i : ℕ) (h : Hop) → IsAmong keys k → slice_get (fan_hops w k outlet) i ≡ Some h → IsAmong keys h.node

-- each wire of a web stands once, in the fan-out of the outlet from which it comes
pub record StandOnce (w : Web) : Type 0 where
  pub lines : (node outlet i : ℕ) (h : Hop) → slice_get (fan_hops w node outlet) i ≡ Some h → line_told w h.key ≡ Some (line_by (hop_at h.key node outlet) h)
  pub once : (node outlet i j k : ℕ) → slice_get (fan_keys w node outlet) i ≡ Some k → slice_get (fan_keys w node outlet) j ≡ Some k → i ≡ j

-- a line by the numbers of its boxes
abbrev pub wire_by : List ℕ → Line → Wire
wire_by numbers l = record { source = number_in numbers l.source; outlet = l.outlet; sink = number_in numbers l.sink; inlet = l.inlet }

-- In the canvas of this key, to which this path leads and no other, the wires that are saved are changed so; those of all other canvases stay.
pub record RewiresAt (g : Grove) (w w' : Web) (numbers path : List ℕ) (canvas : ℕ) (change : List Wire → List Wire) : Type 0 where
  pub lives : IsSome (get g.boards canvas)
  pub once : (other : List ℕ) → reached g (Some g.root) other ≡ Some canvas → path ≡ other
  pub here : wires_among w' numbers (keys_at g canvas) ≡ change (wires_among w numbers (keys_at g canvas))
  pub others : (c : ℕ) → c ≢ canvas → wires_among w' numbers (keys_at g c) ≡ wires_among w numbers (keys_at g c)
