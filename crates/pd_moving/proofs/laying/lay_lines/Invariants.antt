use Rattle.std.proofs.Common.{take}
use Rattle.pd_moving.specs.Outlets.{Lays}
use Rattle.pd_moving.proofs.laying.lay_lines.Given as goal

abbrev pub invariant-loop-line : goal.invariant-loop-line
invariant-loop-line l = Lays l.fn.web l.web l.labels l.node l.outlet (take l.line-index l.lines)
