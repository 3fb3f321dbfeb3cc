use Rattle.std.proofs.Common.{ℕ, take, drop}
use Rattle.pd_web.specs.Canvases.{keys_at}
use Rattle.pd_web.specs.Lines.{boxes_in, lines_by}
use Rattle.pd_patch.specs.Numbers.{IsOut}
use Rattle.pd_wiring.specs.Graphs.{AreWired}
use Rattle.pd_instances.specs.Lay.{KeepsRow, LaysLines, TakesWires}
use Rattle.pd_instances.proofs.laying.lay_all.Given as goal

abbrev pub invariant-loop-wire : goal.invariant-loop-wire
invariant-loop-wire l = record {
  lays : LaysLines l.fn.web l.web (lines_by (boxes_in l.grove l.canvas) (keys_at l.grove l.canvas) (take l.wire-index l.wires));
  wired : AreWired l.grove l.web l.links;
  takes : TakesWires l.links (keys_at l.grove l.canvas) (drop l.wire-index l.wires);
  others : (k : ℕ) → IsOut (keys_at l.grove l.canvas) k → KeepsRow l.fn.links l.links k;
}
