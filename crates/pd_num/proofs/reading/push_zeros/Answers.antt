use Rattle.std.proofs.Common.{◌≡◌, arith, ◌∙◌}
use Rattle.pd_num.proofs.DigitLemmas.{zeros_more, zeros_enough}
use Rattle.pd_num.specs.declared.reading.TheConstants.{CAP}
use Rattle.pd_num.proofs.reading.push_zeros.Goals as goal
use Rattle.pd_num.proofs.reading.push_zeros.Goals.{then-zeros-lt17, else-zeros-lt17}

pub loop-i-preserved : goal.loop-i-preserved
loop-i-preserved c =
    (omega arith, zeros_more CAP c.args.total c.loop-i.total c.min-total.result c.loop-i.i c.loop-i.invariant.1 c.min-total.ensures)

pub returns : goal.returns
returns c =
    elim c.if-zeros-lt17.branch [
      | then-zeros-lt17 w ↦ (let e : c.loop-i.i ≡ c.args.zeros = omega arith in rw e at c.loop-i.invariant.1)
      | else-zeros-lt17 w ↦
          (let e : c.loop-i.i ≡ 17 = omega arith in
          let k = rw e at c.loop-i.invariant.1 in
          k ∙ zeros_enough c.args.total 17 c.args.zeros (omega arith) w.if-zeros-lt17.false)
    ]
