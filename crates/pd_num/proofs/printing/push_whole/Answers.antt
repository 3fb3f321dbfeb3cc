use Rattle.std.proofs.Common.{◌≤◌, arith, length, ap, length-append}
use Rattle.std.proofs.lemmas.List.{length-take}
use Rattle.std.proofs.lemmas.Fmt.{length-decimal-le}
use Rattle.std.specs.Prelude.{decimal}
use Rattle.pd_num.proofs.printing.push_whole.Goals as goal

pub returns-clause-room : goal.returns-clause-room
returns-clause-room c =
    let d : length (decimal c.args.n) ≤ 10 = length-decimal-le 10 c.args.n (omega arith) (omega arith) (omega arith) in
    let t = ap length c.format.ensures.text in
    let e = simp (length-append, length-take) at (ap length c.loop-b.invariant) in
    let v = ap length c.as_bytes-b-items.ensures.value in
    omega arith
