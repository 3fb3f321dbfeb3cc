use Rattle.std.proofs.Common.{◌≡◌, ◌+◌, ◌-◌, ◌*◌, min, drop, take, get_or, arith, ◌∙◌}
use Rattle.std.specs.Char.{digit_value}
use Rattle.std.specs.Str.Parse.{digits_value_after}
use Rattle.pd_num.proofs.DigitLemmas.{digit_is, digits_more, cut_wanted}
use Rattle.pd_num.specs.declared.reading.TheConstants.{CAP}
use Rattle.pd_num.proofs.reading.push_digits.Goals as goal
use Rattle.pd_num.proofs.reading.push_digits.Goals.{then-left-gt0, else-left-gt0}

pub loop-b-preserved : goal.loop-b-preserved
loop-b-preserved c =
    let s = c.args.digits.now in
    let i = c.loop-b.b-index in
    let more = digits_more s i c.loop-b-test.true c.loop-b.invariant.digits in
    let d = digit_is (get_or s i 0) more.0 in
    elim c.if-left-gt0.branch [
      | then-left-gt0 w ↦
          (let e : c.if-left-gt0.total ≡ min (c.loop-b.total * 10 + digit_value (get_or s i 0)) CAP = omega arith in
          let l : c.if-left-gt0.left ≡ c.loop-b.left - 1 = omega arith in
          let step : min (digits_value_after 10 c.if-left-gt0.total (take (c.loop-b.left - 1) (drop (i + 1) s))) CAP ≡ min (digits_value_after 10 c.loop-b.total (take c.loop-b.left (drop i s))) CAP =
          cut_wanted CAP c.loop-b.total c.if-left-gt0.total c.loop-b.left s i c.loop-b-test.true (omega arith) e in
          record { digits = more.1; small = omega arith; left = omega arith; total = rw l (step ∙ c.loop-b.invariant.total) })
      | else-left-gt0 w ↦
          (let l : c.if-left-gt0.left ≡ 0 = omega arith in
          let l0 : c.loop-b.left ≡ 0 = omega arith in
          let t : c.if-left-gt0.total ≡ c.loop-b.total = w.total-is in
          let inv = rw l0 at c.loop-b.invariant.total in
          record { digits = more.1; small = omega arith; left = omega arith; total = rw (l, t) inv })
    ]
