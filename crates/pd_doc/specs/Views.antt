-- What contracts see of the canvases that are open.
use Rattle.std.specs.Prelude.{List, map, reverse}
use Rattle.pd_canvas.specs.Views.{entry_of}
use Rattle.pd_doc.specs.declared.levels.OpenCanvas.{OpenCanvas}
use Rattle.pd_doc.specs.declared.levels.Reader.{Reader}
use Rattle.pd_doc.specs.States.{Level, State}

abbrev pub level_of : OpenCanvas → Level
level_of c = record { number = c.number; header = c.header; kept = c.kept; boxes = map entry_of c.boxes.items; wires = c.wires.items; coords = c.coords }

-- the code has the innermost canvas last
abbrev pub levels_of : List OpenCanvas → List Level
levels_of cs = map level_of (reverse cs)

abbrev pub state_of : Reader → State
state_of r = record { levels = levels_of r.canvases.items; elements = r.elements; wires = r.wires }
