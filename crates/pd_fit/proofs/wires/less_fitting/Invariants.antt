use Rattle.std.proofs.Common.{◌≡◌, ◌-◌, drop}
use Rattle.pd_fit.specs.Seeing.{views_of, fitting}
use Rattle.pd_fit.proofs.wires.less_fitting.Given as goal

abbrev pub invariant-loop-wire : goal.invariant-loop-wire
invariant-loop-wire l = l.left - fitting (views_of l.boxes) (drop l.wire-index l.wires) ≡ l.most - fitting (views_of l.boxes) l.wires
