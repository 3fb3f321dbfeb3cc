-- The wires of a canvas where a box of it has a port more.
use Rattle.std.specs.Prelude.{◌≡◌, ℕ, ◌==◌, cond, List, map, slice_get, Some}
use Rattle.pd_canvas.specs.declared.wires.Wire.{Wire}
use Rattle.pd_canvas.specs.Edits.{with_wires}
use Rattle.pd_canvas.specs.Pages.{Page}
use Rattle.pd_grove.specs.declared.grove.Grove.{Grove}
use Rattle.pd_grove.specs.declared.ports.Side.{Side}
use Rattle.pd_grove.specs.declared.ports.Side.TheVariants.{Inlets, Outlets}
use Rattle.pd_grove.specs.OwnPaths.{sub_reached}
use Rattle.pd_web.specs.Canvases.{keys_at}
use Rattle.pd_following.specs.Raising.{up}

-- a wire, where on a side of the box of the first number a port more came at the second
abbrev pub raised_wire : Side → ℕ → ℕ → Wire → Wire
raised_wire Inlets n at v = record { source = v.source; outlet = v.outlet; sink = v.sink; inlet = cond (v.sink == n) (up at v.inlet) v.inlet }
raised_wire Outlets n at v = record { source = v.source; outlet = cond (v.source == n) (up at v.outlet) v.outlet; sink = v.sink; inlet = v.inlet }

-- a page with its wires at the ports to which they lead then
abbrev pub with_port : Side → ℕ → ℕ → Page → Page
with_port side n at p = with_wires (map (raised_wire side n at) p.wires) p

-- a box is that of a number in the canvas to which a path leads through subpatches
pub record StandsAt (g : Grove) (path : List ℕ) (n key : ℕ) : Type 0 where
  pub canvas : ℕ
  pub leads : sub_reached g (Some g.root) path ≡ Some canvas
  pub at : slice_get (keys_at g canvas) n ≡ Some key
