-- Which line a wire of a canvas leads along, or why it can't be put in.
use Rattle.std.specs.Prelude.{ℕ, Bool, true, false, cond, nat_lt, length, slice_get, Option, Some, None, Result, Ok, Err}
use Rattle.pd_canvas.specs.declared.wires.Wire.{Wire}
use Rattle.pd_tree.specs.Ports.{fits}
use Rattle.pd_grove.specs.declared.grove.Grove.{Grove}
use Rattle.pd_grove.specs.declared.ports.Side.TheVariants.{Inlets, Outlets}
use Rattle.pd_web.specs.declared.lines.Line.{Line}
use Rattle.pd_web.specs.declared.web.Web.{Web}
use Rattle.pd_web.specs.Canvases.{keys_at}
use Rattle.pd_web.specs.Hops.{ports_told, boxes_told}
use Rattle.pd_wiring.specs.declared.asking.WireRefusal.{WireRefusal}
use Rattle.pd_wiring.specs.declared.asking.WireRefusal.TheVariants.{NoBox, NoPort, SignalIntoControl}

-- between two ports that are there, unless a signal would lead to a control inlet of a made box
abbrev pub line_fitting : Bool → Line → Result Line WireRefusal
line_fitting true l = Ok l
line_fitting false l = Err SignalIntoControl

-- between two boxes that are there: first the outlet, then the inlet
abbrev pub line_between : Web → Wire → Bool → ℕ → ℕ → Result Line WireRefusal
line_between w v fit source sink =
    cond (nat_lt v.outlet (length (ports_told w Outlets source)))
    (cond (nat_lt v.inlet (length (ports_told w Inlets sink)))
    (line_fitting fit (record { source = source; outlet = v.outlet; sink = sink; inlet = v.inlet }))
    (Err (NoPort v.sink v.inlet false)))
    (Err (NoPort v.source v.outlet true))

-- first the box from which the wire comes, then the one to which it leads
abbrev pub line_by_keys : Web → Wire → Bool → Option ℕ → Option ℕ → Result Line WireRefusal
line_by_keys w v fit None sink = Err (NoBox v.source)
line_by_keys w v fit (Some k) None = Err (NoBox v.sink)
line_by_keys w v fit (Some k) (Some j) = line_between w v fit k j

-- the line of a wire that is told by numbers of the boxes of a canvas, whether it fits or not
abbrev pub line_there : Grove → Web → ℕ → Wire → Result Line WireRefusal
line_there g w c v = line_by_keys w v true (slice_get (keys_at g c) v.source) (slice_get (keys_at g c) v.sink)

-- the same, or the first reason why it can't be put in
abbrev pub line_asked : Grove → Web → ℕ → Wire → Result Line WireRefusal
line_asked g w c v = line_by_keys w v (fits (boxes_told w (keys_at g c)) v) (slice_get (keys_at g c) v.source) (slice_get (keys_at g c) v.sink)
