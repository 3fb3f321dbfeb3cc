-- What an edit of wires comes to: which wire comes or goes, or why it is refused, and how the patch is after it.
use Rattle.std.specs.Prelude.{◌≡◌, ℕ, true, cond, nat_lt, List, length, slice_get, Option, Some, None, Result, Ok, Err}
use Rattle.pd_canvas.specs.declared.edits.Edit.{Edit}
use Rattle.pd_canvas.specs.declared.edits.Edit.TheVariants as edit
use Rattle.pd_canvas.specs.declared.wires.Wire.{Wire}
use Rattle.pd_order.specs.Graph.{add_wire}
use Rattle.pd_grove.specs.declared.grove.Grove.{Grove}
use Rattle.pd_grove.specs.OwnPaths.{sub_reached}
use Rattle.pd_web.specs.declared.web.Web.{Web}
use Rattle.pd_web.specs.declared.lines.Line.{Line}
use Rattle.pd_web.specs.Canvases.{keys_at}
use Rattle.pd_web.specs.Hops.{fan_hops, feed_hops, fan_keys}
use Rattle.pd_web.specs.Changes.{Joins, CutsWire, wires_told}
use Rattle.pd_seek.specs.Places.{IsPlace, key_to}
use Rattle.pd_patch.specs.declared.patch.Patch.{Patch}
use Rattle.pd_patch.specs.Telling.{order_in}
use Rattle.pd_wiring.specs.declared.asking.WireRefusal.{WireRefusal}
use Rattle.pd_wiring.specs.declared.asking.WireRefusal.TheVariants as wire
use Rattle.pd_wiring.specs.declared.refusals.EditRefusal.{EditRefusal}
use Rattle.pd_wiring.specs.declared.refusals.EditRefusal.TheVariants.{NoDocument, NoCanvas, NoBox, NoPort, NoWire, SignalIntoControl, TooManyWires}
use Rattle.pd_wiring.specs.Asking.{line_asked, line_there}
use Rattle.pd_wiring.specs.Changes.{graph_in, is_signal_line, most_mending, CanRewire, StaysButWire, StaysBuilt}

-- what becomes of the wires of a canvas: one comes along a line, or the one of a key goes, which leads along a line
pub data Plan : Type 0 where
  Attaches : (canvas : ℕ) → Line → Plan
  Detaches : (canvas key : ℕ) → Line → Plan

abbrev pub canvas_of : Plan → ℕ
canvas_of (Attaches c l) = c
canvas_of (Detaches c key l) = c

-- the same refusal of an edit
abbrev pub refusal_by : WireRefusal → EditRefusal
refusal_by (wire.NoBox number) = NoBox number
refusal_by (wire.NoPort number port outlet) = NoPort number port outlet
refusal_by wire.SignalIntoControl = SignalIntoControl

-- a wire comes, where there are fewer than 65,536
abbrev pub attaching : Web → ℕ → Result Line WireRefusal → Result Plan EditRefusal
attaching w c (Err why) = Err (refusal_by why)
attaching w c (Ok l) = cond (nat_lt (wires_told w) 65536) (Ok (Attaches c l)) (Err TooManyWires)

-- the first of the wires along the line goes, where there is one
abbrev pub wire_found : ℕ → Line → Option ℕ → Result Plan EditRefusal
wire_found c l None = Err NoWire
wire_found c l (Some key) = Ok (Detaches c key l)

abbrev pub detaching : Web → ℕ → Result Line WireRefusal → Result Plan EditRefusal
detaching w c (Err why) = Err (refusal_by why)
detaching w c (Ok l) = wire_found c l (key_to l (fan_hops w l.source l.outlet))

-- what a wire edit comes to in a canvas, where the path led to one
abbrev pub connecting : Patch → Wire → Option ℕ → Result Plan EditRefusal
connecting p v None = Err NoCanvas
connecting p v (Some c) = attaching p.web c (line_asked p.grove p.web c v)

abbrev pub disconnecting : Patch → Wire → Option ℕ → Result Plan EditRefusal
disconnecting p v None = Err NoCanvas
disconnecting p v (Some c) = detaching p.web c (line_there p.grove p.web c v)

-- what an edit of the patch's own document comes to in the canvas at a path; edits of boxes aren't made yet
abbrev pub planned : Patch → List ℕ → Edit → Result Plan EditRefusal
planned p path (edit.Connect v) = connecting p v (sub_reached p.grove (Some p.grove.root) path)
planned p path (edit.Disconnect v) = disconnecting p v (sub_reached p.grove (Some p.grove.root) path)
planned p path e = Err NoDocument

-- the wire stands last in its fan-out and at its place among the feeds; all else of the patch stays but links and the canvas's order
pub record Attached (p q : Patch) (l : Line) : Type 0 where
  pub key : ℕ
  pub place : ℕ
  pub is_place : IsPlace p.numbers.items l (feed_hops p.web l.sink l.inlet) place
  pub joins : Joins p.web q.web key l (length (fan_keys p.web l.source l.outlet)) place
  pub rest : StaysButWire p q l.source
  pub rewires : CanRewire q
  pub built : StaysBuilt p q

-- the wire is gone; all else stays but links and the canvas's order
pub record Detached (p q : Patch) (key : ℕ) (l : Line) : Type 0 where
  pub cuts : CutsWire p.web q.web key
  pub rest : StaysButWire p q l.source
  pub rewires : CanRewire q
  pub built : StaysBuilt p q

abbrev pub IsCarriedOut : Plan → Patch → Patch → Type 0
IsCarriedOut (Attaches c l) p q = Attached p q l
IsCarriedOut (Detaches c key l) p q = Detached p q key l

-- at so many signal wires it looks at the most; at none where the wire is no signal wire
abbrev pub most_looks : Plan → Patch → Patch → ℕ
most_looks (Attaches c l) p q = cond (is_signal_line p.web l) (most_mending (graph_in q c) l.sink (order_in p.orders.items c) (order_in q.orders.items c)) 0
most_looks (Detaches c key l) p q =
    cond (is_signal_line p.web l) (most_mending (add_wire (graph_in q c) l.source l.sink) l.sink (order_in p.orders.items c) (order_in q.orders.items c)) 0

-- an edit of wires was made in the canvas of a key
pub record IsRewired (p q : Patch) (path : List ℕ) (e : Edit) (canvas : ℕ) : Type 0 where
  pub plan : Plan
  pub is_planned : planned p path e ≡ Ok plan
  pub canvas_is : canvas ≡ canvas_of plan
  pub done : IsCarriedOut plan p q
