use Rattle.std.proofs.Common.{◌≡◌, ◌++◌, take, drop}
use Rattle.pd_num.specs.Reading.{digits_at, after_digits}
use Rattle.pd_num.proofs.reading.digits.Given as goal

abbrev pub invariant-loop-i : goal.invariant-loop-i
invariant-loop-i l = (digits_at l.bytes ≡ take l.i l.bytes ++ digits_at (drop l.i l.bytes)) × (after_digits l.bytes ≡ after_digits (drop l.i l.bytes))
