use Rattle.std.proofs.Common.{◌≡◌, ◌≤◌, ◌-◌, min, take, drop}
use Rattle.std.specs.Str.Parse.{digits_value_after}
use Rattle.pd_num.specs.declared.reading.TheConstants.{CAP}
use Rattle.pd_num.specs.Numeral.{AreDigits}
use Rattle.pd_num.proofs.reading.push_digits.Given as goal

abbrev pub invariant-loop-b : goal.invariant-loop-b
invariant-loop-b l = record {
  digits : AreDigits (drop l.b-index l.digits);
  small : l.total ≤ CAP;
  left : l.left ≡ l.fn.left - l.b-index;
  total : min (digits_value_after 10 l.total (take l.left (drop l.b-index l.digits))) CAP ≡ min (digits_value_after 10 l.fn.total (take l.fn.left l.digits)) CAP;
}
