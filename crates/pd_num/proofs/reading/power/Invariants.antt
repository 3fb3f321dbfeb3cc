use Rattle.std.proofs.Common.{◌≡◌, ◌≤◌, min, drop}
use Rattle.std.specs.Str.Parse.{digits_value_after, digits_value}
use Rattle.pd_num.specs.declared.reading.TheConstants.{FAR}
use Rattle.pd_num.specs.Numeral.{AreDigits}
use Rattle.pd_num.proofs.reading.power.Given as goal

abbrev pub invariant-loop-b : goal.invariant-loop-b
invariant-loop-b l = record {
  digits : AreDigits (drop l.b-index l.digits);
  bound : l.total ≤ FAR;
  total : min (digits_value_after 10 l.total (drop l.b-index l.digits)) FAR ≡ min (digits_value 10 l.digits) FAR;
}
