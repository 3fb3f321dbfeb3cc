-- The lines of edits and of growth: boxes that can't be made, and lines with the numbers of boxes.
use Rattle.std.specs.Prelude.{ℕ, List, [], ◌∷◌, ◌++◌, codes, cond, decimal, drop, filter, map, not, take, Option, Some, None, if◌then◌else◌}
use Rattle.std.specs.List.{concat, flat_map}
use Rattle.slab.specs.Slab.{get}
use Rattle.pd_atom.specs.Names.{Names}
use Rattle.pd_atom.specs.declared.Atom.{Atom}
use Rattle.pd_canvas.specs.declared.wires.Wire.{Wire}
use Rattle.pd_tree.specs.declared.rows.Fault.{Fault}
use Rattle.pd_tree.specs.declared.rows.Fault.TheVariants.{Unknown, InsideItself, BadFile, TooDeep}
use Rattle.pd_tree.specs.Ports.{fits}
use Rattle.pd_grove.specs.Forest.{holder_in}
use Rattle.pd_grove.specs.Owning.{board_in}
use Rattle.pd_web.specs.Canvases.{keys_at}
use Rattle.pd_web.specs.Hops.{boxes_told}
use Rattle.pd_web.specs.Lines.{wires_in}
use Rattle.pd_patch.specs.declared.patch.Patch.{Patch}
use Rattle.pd_patch.specs.Paths.{path_told}
use Rattle.pd_patch.specs.Report.{canvases_inside, loads_among}
use Rattle.pd_patch.specs.Telling.{order_in, number_in, is_looped, fault_in}
use Rattle.pd_patch.specs.Values.{stuck_in}
use Rattle.pd_putting.specs.Adds.{keys_within}
use Rattle.pd_retyping.specs.Retypes.{BoxWire}
use Rattle.pd_adding.specs.Standing.{is_port_in}
use Rattle.pd_say.specs.Lines.{named_error, file_error}
use Rattle.pd_say.specs.Paths.{path_text, marked}
use Rattle.pd_hearing.specs.Guards.{is_atom}
use Rattle.pd_hearing.specs.Worlds.{Net, net_of}

-- a line tells the numbers of 16,384 boxes at most; a patch has no more
abbrev pub most_boxes : ℕ
most_boxes = 16384

abbrev pub numbers_told : Net → List ℕ → List ℕ
numbers_told net boxes = map (number_in net.numbers.items) (take most_boxes boxes)

-- a line with the numbers of boxes of the canvas at a path
abbrev pub boxes_text : List ℕ → List ℕ → List ℕ → List ℕ
boxes_text word path numbers = concat (word ∷ path_text path ∷ codes ":" ∷ marked 32 numbers ∷ codes "\n" ∷ [])

-- the path to a canvas
abbrev pub path_in : Patch → ℕ → List ℕ
path_in p canvas = path_told (get p.grove.nodes) p.grove.boards p.numbers.items canvas

-- boxes of a canvas feed one another in a loop
abbrev pub loop_text : Patch → ℕ → List ℕ
loop_text p canvas = boxes_text (codes "error: signal loop at ") (path_in p canvas) (numbers_told (net_of p) (stuck_in p canvas))

-- the line of a canvas whose boxes do, and none of another one
abbrev pub loops_text : Patch → ℕ → List ℕ
loops_text p canvas = if is_looped (order_in p.orders.items canvas) then loop_text p canvas else []

-- why a box could not be made that its line names so
abbrev pub fault_text : Names → Atom → Fault → List ℕ
fault_text names name Unknown = named_error names name (codes ": couldn't create\n")
fault_text names name InsideItself = named_error names name (codes ": inside itself\n")
fault_text names name (BadFile number) = file_error names name number
fault_text names name TooDeep = named_error names name (codes ": too deep\n")

-- a name that isn't of the table isn't told
abbrev pub told_fault : Names → Fault → Atom → List ℕ
told_fault names fault name = if is_atom names name then fault_text names name fault else []

-- a box without text has no line
abbrev pub unmade_text : Names → Option (Fault × Atom) → List ℕ
unmade_text names None = []
unmade_text names (Some f) = told_fault names f.0 f.1

-- the canvas in which the box lies that holds a canvas, if one does
abbrev pub canvas_holding : Patch → Option ℕ → Option ℕ
canvas_holding p None = None
canvas_holding p (Some holder) = board_in (get p.grove.nodes holder)

abbrev pub canvas_around : Patch → ℕ → Option ℕ
canvas_around p canvas = canvas_holding p (holder_in (get p.grove.boards canvas))

-- the canvas around, where a box is a port of the box that holds its own canvas
abbrev pub canvas_of_port : Patch → (key canvas : ℕ) → Option ℕ
canvas_of_port p key canvas = cond (is_port_in (get p.grove.nodes key)) (canvas_around p canvas) None

-- the loop of a canvas, if there is one
abbrev pub loops_if : Patch → Option ℕ → List ℕ
loops_if p None = []
loops_if p (Some canvas) = loops_text p canvas

-- a wire of the canvas at a path doesn't fit
abbrev pub unfit_text : List ℕ → Wire → List ℕ
unfit_text path w =
    concat (codes "error: wire " ∷ decimal w.source ∷ codes " " ∷ decimal w.outlet ∷ codes " " ∷ decimal w.sink ∷ codes " " ∷ decimal w.inlet ∷
    codes " does not fit at " ∷ path_text path ∷ codes "\n" ∷ [])

-- the lines of wires of a canvas that went
abbrev pub gone_text : List ℕ → List BoxWire → List ℕ
gone_text path gone = flat_map (λ m. unfit_text path m.wire) gone

-- why boxes could not be made, in their order
abbrev pub unmades_text : Names → Patch → List ℕ → List ℕ
unmades_text names p boxes = flat_map (λ k. unmade_text names (fault_in (get p.grove.nodes k))) boxes

-- the wires that a canvas was given and that don't fit
abbrev pub unfit_wires : Patch → ℕ → List Wire
unfit_wires p canvas = filter (λ w. not (fits (boxes_told p.web (keys_at p.grove canvas)) w)) (wires_in (get p.grove.boards canvas))

-- the lines of those of canvases
abbrev pub unfits_text : Patch → List ℕ → List ℕ
unfits_text p canvases = flat_map (λ c. flat_map (unfit_text (path_in p c)) (unfit_wires p c)) canvases

-- the canvases that a box and those in it hold, in text order
abbrev pub canvases_within : Patch → ℕ → List ℕ
canvases_within p key = canvases_inside p.grove (keys_within p key)

-- the load boxes that lie in a box, in text order
abbrev pub loads_inside : Patch → ℕ → List ℕ
loads_inside p key = loads_among p.grove (drop 1 (keys_within p key))

-- The lines of an edit that put a box into a canvas: why it and those in it could not be made; the wires in it that don't fit; where it is a port of the box
-- around, the loop of the canvas in which that lies; and the loops of its canvas and of those in it.
abbrev pub put_text : Names → Patch → (key canvas : ℕ) → List ℕ
put_text names p key canvas =
    unmades_text names p (keys_within p key) ++ (unfits_text p (canvases_within p key) ++ (loops_if p (canvas_of_port p key canvas) ++ (loops_text p canvas ++
    flat_map (loops_text p) (canvases_within p key))))

-- the lines of an edit that gave a box another text: why it could not be made, the wires that didn't fit any more, and the loop of its canvas
abbrev pub retyped_text : Names → Patch → (key canvas : ℕ) → List BoxWire → List ℕ
retyped_text names p key canvas gone =
    unmade_text names (fault_in (get p.grove.nodes key)) ++ (gone_text (path_in p canvas) gone ++ loops_text p canvas)

-- the lines of wires that went in the canvas around, where one lies around
abbrev pub gone_around : Patch → Option ℕ → List BoxWire → List ℕ
gone_around p None gone = []
gone_around p (Some canvas) gone = gone_text (path_in p canvas) gone

-- the lines of an edit that took a box out: the wires of the canvas around that went, where it was a port of the box there; the loop of that canvas; and
-- that of its own
abbrev pub deleted_text : Patch → (canvas : ℕ) → Option ℕ → List BoxWire → List ℕ
deleted_text p canvas around gone = gone_around p around gone ++ (loops_if p around ++ loops_text p canvas)

-- the lines of an edit that moved a box: the loop of the canvas around, where ports of a box there changed places, and that of its own
abbrev pub moved_text : Patch → (canvas : ℕ) → Option ℕ → List ℕ
moved_text p canvas around = loops_if p around ++ loops_text p canvas
