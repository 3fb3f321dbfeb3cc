-- What the code keeps of an exponent.
use Rattle.std.specs.Prelude.{ℕ, min, Bool, false, Option, Some, None}
use Rattle.std.specs.Str.Parse.{digits_value}
use Rattle.pd_num.specs.declared.reading.TheConstants.{FAR}
use Rattle.pd_num.specs.Numeral.{Exponent, is_negative}

-- whether it is negative, and its digits' number, cut at a bound
abbrev pub exponent_cut : Option Exponent → Bool × ℕ
exponent_cut None = (false, 0)
exponent_cut (Some e) = (is_negative e.sign, min (digits_value 10 e.digits) FAR)
