-- The wires at one port of a box.
use Rattle.std.specs.Prelude.{ℕ, List, map}
use Rattle.pd_grove.specs.declared.ports.Side.{Side}
use Rattle.pd_web.specs.declared.web.Hop.{Hop}
use Rattle.pd_patch.specs.declared.patch.Patch.{Patch}
use Rattle.pd_taking.specs.Loosening.{hops_at, line_at}
use Rattle.pd_misfits.specs.declared.wires.BoxWire.{BoxWire}
use Rattle.pd_misfits.specs.Misfits.{wire_of}

-- a wire at a port, with the numbers of its boxes
abbrev pub wire_at : List ℕ → Side → ℕ → ℕ → Hop → BoxWire
wire_at numbers side key port h = wire_of numbers h.key (line_at side key port h)

-- The wires at a port: those from an outlet in the order of its fan-out, those to an inlet in that of its feeds. As feeds stand in the order of
-- boxes, outlets and fan-outs, either is the order of the wires of the canvas.
abbrev pub port_wires : Patch → ℕ → Side → ℕ → List BoxWire
port_wires p key side port = map (wire_at p.numbers.items side key port) (hops_at p.web side key port)
