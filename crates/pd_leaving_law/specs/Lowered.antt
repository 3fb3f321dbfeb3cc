-- The wires of a canvas where a box of it has a port fewer.
use Rattle.std.specs.Prelude.{ℕ, ◌-◌, ◌==◌, ◌&&◌, nat_lt, Bool, not, cond, filter, map}
use Rattle.pd_canvas.specs.declared.wires.Wire.{Wire}
use Rattle.pd_canvas.specs.Edits.{with_wires}
use Rattle.pd_canvas.specs.Pages.{Page}
use Rattle.pd_grove.specs.declared.ports.Side.{Side}
use Rattle.pd_grove.specs.declared.ports.Side.TheVariants.{Inlets, Outlets}

-- the number of a port where the one of a number is gone: those behind it have the ones before
abbrev pub down : ℕ → ℕ → ℕ
down at i = cond (nat_lt i at) i (i - 1)

-- a wire, where on a side of the box of the first number the port of the second is gone
abbrev pub lowered_wire : Side → ℕ → ℕ → Wire → Wire
lowered_wire Inlets n at v = record { source = v.source; outlet = v.outlet; sink = v.sink; inlet = cond (v.sink == n) (down at v.inlet) v.inlet }
lowered_wire Outlets n at v = record { source = v.source; outlet = cond (v.source == n) (down at v.outlet) v.outlet; sink = v.sink; inlet = v.inlet }

-- the wire is none at this port
abbrev pub misses : Side → ℕ → ℕ → Wire → Bool
misses Inlets n at v = not (v.sink == n && v.inlet == at)
misses Outlets n at v = not (v.source == n && v.outlet == at)

-- a page less the wires at the port
abbrev pub port_cut : Side → ℕ → ℕ → Page → Page
port_cut side n at p = with_wires (filter (misses side n at) p.wires) p

-- a page with its wires at the ports to which they lead where the port is gone
abbrev pub less_port : Side → ℕ → ℕ → Page → Page
less_port side n at p = with_wires (map (lowered_wire side n at) p.wires) p
