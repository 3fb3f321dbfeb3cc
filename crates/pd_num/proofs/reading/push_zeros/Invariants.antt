use Rattle.std.proofs.Common.{◌≡◌, ◌≤◌, ◌*◌, ◌^◌, min}
use Rattle.pd_num.specs.declared.reading.TheConstants.{CAP}
use Rattle.pd_num.proofs.reading.push_zeros.Given as goal

abbrev pub invariant-loop-i : goal.invariant-loop-i
invariant-loop-i l = (l.total ≤ CAP) × (l.total ≡ min (l.fn.total * 10 ^ l.i) CAP)
