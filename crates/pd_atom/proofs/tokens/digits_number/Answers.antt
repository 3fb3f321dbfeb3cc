use Rattle.std.proofs.Common.{◌<◌, rules, arith}
use Rattle.pd_atom.proofs.DigitLemmas.{value_taken}
use Rattle.pd_atom.proofs.tokens.digits_number.Goals as goal

pub overflow_mul-number : goal.overflow_mul-number
overflow_mul-number c =
    let below = value_taken c.args.digits.now c.loop-b.b-index 3 c.requires.digits (omega (arith, c.loop-b-test.true, c.requires.few)) in
    omega (arith, below, c.loop-b.invariant)

pub overflow_add-number : goal.overflow_add-number
overflow_add-number c =
    let below = value_taken c.args.digits.now c.loop-b.b-index 3 c.requires.digits (omega (arith, c.loop-b-test.true, c.requires.few)) in
    let byte : c.from.result < 256 = search rules in
    omega (arith, below, c.loop-b.invariant, byte)

pub returns-clause-small : goal.returns-clause-small
returns-clause-small c =
    let below = value_taken c.args.digits.now c.loop-b.b-index 4 c.requires.digits (omega (arith, c.loop-b.auto.b-index-end, c.requires.few)) in
    omega (arith, below, c.loop-b.invariant)
