use Rattle.std.proofs.Common.{◌≡◌, ◌+◌, ◌-◌, cond, length, arith, ◌∙◌}
use Rattle.pd_num.proofs.DigitLemmas.{magnitude_is}
use Rattle.pd_num.proofs.reading.magnitude.Goals as goal
use Rattle.pd_num.proofs.reading.magnitude.Goals.{then-negative, else-negative}

pub returns-clause-value : goal.returns-clause-value
returns-clause-value c = λ p h.
    let w = c.args.whole.now in
    let f = c.args.fraction.now in
    let left : c.if-negative.left ≡ cond c.args.negative (length w + 7 - c.args.power) (length w + 7 + c.args.power) =
    elim c.if-negative.branch [
      | then-negative w ↦ (let t = w.if-negative.true in rw t (w.left-is ∙ w.saturating_sub-left.ensures))
      | else-negative w ↦ (let t = w.if-negative.false in rw t w.left-is)
    ] in
    magnitude_is w f c.args.negative c.args.power p c.if-negative.left c.push_digits-total.result.0 c.push_digits-total-2.result.0 c.push_zeros-total.result
    c.push_digits-total.result.1 c.push_digits-total-2.result.1 c.requires.whole c.requires.fraction (omega arith) (omega arith) h left
    c.push_digits-total.ensures.total c.push_digits-total.ensures.left c.push_digits-total-2.ensures.total c.push_digits-total-2.ensures.left
    c.push_zeros-total.ensures
