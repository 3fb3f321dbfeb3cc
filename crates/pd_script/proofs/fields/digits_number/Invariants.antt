use Rattle.std.proofs.Common.{◌≡◌, ◌≤◌, min, drop, true}
use Rattle.std.specs.Char.{is_ascii_digit}
use Rattle.std.specs.List.{list_all}
use Rattle.std.specs.Str.Parse.{digits_value_after, digits_value}
use Rattle.pd_script.specs.declared.fields.TheConstants.{FAR}
use Rattle.pd_script.proofs.fields.digits_number.Given as goal

abbrev pub invariant-loop-b : goal.invariant-loop-b
invariant-loop-b l = record {
  digits : list_all is_ascii_digit (drop l.b-index l.digits) ≡ true;
  bound : l.total ≤ FAR;
  total : min (digits_value_after 10 l.total (drop l.b-index l.digits)) FAR ≡ min (digits_value 10 l.digits) FAR;
}
