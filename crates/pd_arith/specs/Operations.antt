-- What the arithmetic objects compute.
use Rattle.std.specs.Prelude.{ℕ, ℤ, pos, neg_ℤ, ◌*ℤ◌, ◌==◌, Bool, not, ◌&&◌, ◌||◌, max, unsigned_abs, int_lt, int_div, int_rem, cond, if◌then◌else◌}
use Rattle.std.specs.Int.{int_min, int_max, int_div_euclid, int_rem_euclid}
use Rattle.std.specs.Ordering.{int_eq}
use Rattle.pd_num.specs.Scale.{millionths, sum_of, difference_of, product_of, quotient_of, whole_of}
use Rattle.pd_object.specs.declared.kinds.Operation.{Operation}
use Rattle.pd_object.specs.declared.kinds.Operation.TheVariants as operation
use Rattle.pd_object.specs.declared.kinds.Comparison.{Comparison}
use Rattle.pd_object.specs.declared.kinds.Comparison.TheVariants as comparison
use Rattle.pd_object.specs.declared.kinds.Division.{Division}
use Rattle.pd_object.specs.declared.kinds.Division.TheVariants as division

abbrev pub operation_of : Operation → ℤ → ℤ → ℤ
operation_of operation.Add a b = sum_of millionths a b
operation_of operation.Subtract a b = difference_of millionths a b
operation_of operation.Multiply a b = product_of millionths a b
operation_of operation.Divide a b = quotient_of millionths a b
operation_of operation.Least a b = int_min a b
operation_of operation.Greatest a b = int_max a b

-- 1 for what is true, else 0
abbrev pub truth : Bool → ℤ
truth b = if b then pos 1000000 else pos 0

-- a number is true where its whole units aren't 0
abbrev pub is_true : ℤ → Bool
is_true a = not (unsigned_abs (whole_of a) == 0)

abbrev pub comparison_of : Comparison → ℤ → ℤ → ℤ
comparison_of comparison.Equal a b = truth (int_eq a b)
comparison_of comparison.Unequal a b = truth (not (int_eq a b))
comparison_of comparison.Above a b = truth (int_lt b a)
comparison_of comparison.Below a b = truth (int_lt a b)
comparison_of comparison.NotBelow a b = truth (not (int_lt a b))
comparison_of comparison.NotAbove a b = truth (not (int_lt b a))
comparison_of comparison.Both a b = truth (is_true a && is_true b)
comparison_of comparison.Either a b = truth (is_true a || is_true b)

-- whole units, toward zero
abbrev pub units_of : ℤ → ℤ
units_of a = int_div a (pos 1000000)

-- the magnitude of the whole units, and 1 for 0
abbrev pub divisor_of : ℤ → ℤ
divisor_of b = pos (max 1 (unsigned_abs (units_of b)))

-- a remainder with the sign of the left value, one that is at least 0, and the quotient rounded down, in whole units
abbrev pub division_units : Division → ℤ → ℤ → ℤ
division_units division.Remainder a d = int_rem a d
division_units division.Modulo a d = int_rem_euclid a d
division_units division.Quotient a d = int_div_euclid a d

abbrev pub division_of : Division → ℤ → ℤ → ℤ
division_of op a b = division_units op (units_of a) (divisor_of b) *ℤ pos 1000000
