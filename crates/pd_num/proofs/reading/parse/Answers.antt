use Rattle.std.proofs.Common.{◌∙◌, ap, Some}
use Rattle.pd_num.specs.Numeral.{signed}
use Rattle.pd_num.specs.Reading.{digits_at, after_digits, after_minus, after_fraction, fraction_at, exponent_at, numeral_at, number_at, minus_at}
use Rattle.pd_num.proofs.ReadLemmas.{digits_at_are, fraction_digits_are, parse_is, some_from_lengths}
use Rattle.pd_num.proofs.reading.parse.Goals as goal

pub magnitude-count-requires-clause-whole : goal.magnitude-count-requires-clause-whole
magnitude-count-requires-clause-whole c = rw c.digits.ensures.digits (digits_at_are c.minus-minus.result.1.now)

pub magnitude-count-requires-clause-fraction : goal.magnitude-count-requires-clause-fraction
magnitude-count-requires-clause-fraction c = rw c.fraction.ensures.digits (fraction_digits_are c.digits.result.1.now)

pub returns : goal.returns
unfolding numeral_at number_at
returns c =
    let m = c.minus-minus.ensures.minus in
    let r = c.minus-minus.ensures.rest in
    let w = c.digits.ensures.digits in
    let b = c.digits.ensures.rest in
    let f = c.fraction.ensures.digits in
    let t = c.fraction.ensures.rest in
    let same = rw (t, b, r) at c.in_ok-negative.ensures in
    let some = rw (w, f, b, r) at (some_from_lengths c.digits.result.0.now c.fraction.result.0.now c.if-whole-fraction-eq0.false) in
    let value = rw (w, f, b, r) at c.magnitude-count.ensures.value in
    let e =
    parse_is (exponent_at (after_fraction (after_digits (after_minus c.args.token.now)))) (minus_at c.args.token.now)
    (digits_at (after_minus c.args.token.now)) (fraction_at (after_digits (after_minus c.args.token.now))) c.in_ok-negative.negative c.in_ok-negative.power
    c.magnitude-count.result same some value in
    ap Some (c.of_magnitude.ensures ∙ ap (λ x. signed x c.magnitude-count.result) m) ∙ e
