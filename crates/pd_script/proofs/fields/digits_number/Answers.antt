use Rattle.std.proofs.Common.{◌≡◌, min, drop, [], get_or, arith, ◌∙◌}
use Rattle.std.proofs.Math.ListN.{drop_of_length-le}
use Rattle.std.specs.Str.Parse.{digits_value}
use Rattle.pd_script.specs.declared.fields.TheConstants.{FAR}
use Rattle.pd_script.proofs.DigitLemmas.{digit_is, digits_more, cut_more}
use Rattle.pd_script.proofs.fields.digits_number.Goals as goal

pub loop-b-preserved : goal.loop-b-preserved
loop-b-preserved c =
    let s = c.args.digits.now in
    let i = c.loop-b.b-index in
    let more = digits_more s i c.loop-b-test.true c.loop-b.invariant.digits in
    let d = digit_is (get_or s i 0) more.0 in
    let e = cut_more FAR c.loop-b.total c.min-total.result s i c.loop-b-test.true (omega arith) in
    record { digits = more.1; bound = omega arith; total = e ∙ c.loop-b.invariant.total }

pub returns : goal.returns
returns c =
    let e : drop c.loop-b.b-index c.args.digits.now ≡ [] = drop_of_length-le c.args.digits.now c.loop-b-test.false in
    let t : min c.loop-b.total FAR ≡ min (digits_value 10 c.args.digits.now) FAR = rw e at c.loop-b.invariant.total in
    omega arith
