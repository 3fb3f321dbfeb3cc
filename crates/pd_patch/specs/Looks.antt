-- Looks at the wires of canvases.
use Rattle.std.specs.Prelude.{ℕ, ◌+◌, ◌*◌, List, length}
use Rattle.pd_grove.specs.declared.grove.Grove.{Grove}
use Rattle.pd_web.specs.declared.web.Web.{Web}
use Rattle.pd_patch.specs.Orders.{signal_among, signal_wires_among}

-- the most that it takes to make the order of a canvas whose boxes have these keys: four for each signal box and each end of a signal
-- wire, and eight
abbrev pub most_looks : Grove → Web → List ℕ → ℕ
most_looks g w keys = 4 * (length (signal_among g keys) + 2 * length (signal_wires_among w (signal_among g keys))) + 8
