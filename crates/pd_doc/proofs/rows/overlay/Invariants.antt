use Rattle.std.proofs.Common.{◌≡◌, ◌++◌, take, drop}
use Rattle.pd_doc.proofs.rows.overlay.Given as goal

abbrev pub invariant-loop-i : goal.invariant-loop-i
invariant-loop-i l = l.values ≡ take l.i l.row ++ drop l.i l.fn.values
