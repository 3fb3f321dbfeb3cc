-- A page that loses wires.
use Rattle.std.specs.Prelude.{List}
use Rattle.pd_canvas.specs.declared.wires.Wire.{Wire}
use Rattle.pd_canvas.specs.Edits.{with_wires}
use Rattle.pd_canvas.specs.Pages.{Page}
use Rattle.pd_misfits.specs.Shedding.{without_wires}

-- less all its wires that are one of these; the others stay in their order
abbrev pub less_wires : List Wire → Page → Page
less_wires gone p = with_wires (without_wires gone p.wires) p
