use Rattle.std.proofs.Common.{◌≡◌, drop}
use Rattle.pd_canvas.specs.Paths.{along}
use Rattle.pd_canvas.proofs.tree.canvas_at.Given as goal

abbrev pub invariant-loop-number : goal.invariant-loop-number
invariant-loop-number l = along l.path l.canvas ≡ along (drop l.number-index l.path) l.here
