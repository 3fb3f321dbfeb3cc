-- The wires of a canvas where a port of a box of it went from one number to another.
use Rattle.std.specs.Prelude.{ℕ, ◌==◌, cond, List, [], ◌∷◌, map}
use Rattle.pd_canvas.specs.declared.wires.Wire.{Wire}
use Rattle.pd_canvas.specs.Edits.{with_wires}
use Rattle.pd_canvas.specs.Pages.{Page}
use Rattle.pd_canvas.specs.Wiring.{with_wire}
use Rattle.pd_grove.specs.declared.ports.Side.{Side}
use Rattle.pd_grove.specs.declared.ports.Side.TheVariants.{Inlets, Outlets}
use Rattle.pd_sliding.specs.Slides.{slid}

-- a wire, where on a side of the box of the first number the port of the second went to the third, and those between made way
abbrev pub slid_wire : Side → (n from to : ℕ) → Wire → Wire
slid_wire Inlets n from to v = record { source = v.source; outlet = v.outlet; sink = v.sink; inlet = cond (v.sink == n) (slid from to v.inlet) v.inlet }
slid_wire Outlets n from to v = record { source = v.source; outlet = cond (v.source == n) (slid from to v.outlet) v.outlet; sink = v.sink; inlet = v.inlet }

-- the first wires with the second ones put in, one after the other
abbrev pub with_all : List Wire → List Wire → List Wire
with_all vs [] = vs
with_all vs (w ∷ ws) = with_all (with_wire w vs) ws

-- wires by source, then outlet, and those of one outlet in the order that they have
abbrev pub by_outlet : List Wire → List Wire
by_outlet ws = with_all [] ws

-- the wires of a canvas with those of the box at its ports; where an outlet went, they are put in order again
abbrev pub slid_wires : Side → (n from to : ℕ) → List Wire → List Wire
slid_wires Inlets n from to ws = map (slid_wire Inlets n from to) ws
slid_wires Outlets n from to ws = by_outlet (map (slid_wire Outlets n from to) ws)

-- a page with its wires at the ports to which they lead then
abbrev pub with_slid : Side → (n from to : ℕ) → Page → Page
with_slid side n from to p = with_wires (slid_wires side n from to p.wires) p
