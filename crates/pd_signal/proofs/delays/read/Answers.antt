use Rattle.std.proofs.Common.{◌≡◌, ◌+◌, ◌-◌, arith, rules}
use Rattle.pd_signal.proofs.LoopLemmas.{read_parts}
use Rattle.pd_signal.proofs.delays.read.Goals as goal

pub returns : goal.returns
returns c =
    let n : c.args.from + c.min-first.result - c.args.from ≡ c.min-first.result = omega arith in
    rw (c.copy_from_slice.ensures.after, c.copy_from_slice-2.ensures.after, n) (read_parts c.args.ring.now c.args.from c.min-first.result (search rules))
