use Rattle.std.proofs.Common.{arith, ◌≤◌, length}
use Rattle.pd_patch.proofs.NumberLemmas.{numbered_more, all_numbered}
use Rattle.pd_patch.proofs.numbers.numbers_of.Goals as goal

pub loop-key-preserved : goal.loop-key-preserved
loop-key-preserved c =
    numbered_more c.args.grove.now c.loop-key.numbers.items c.put_numbers.new.numbers.items c.loop-key.key c.in_ok-put_numbers.ensures.under c.in_ok-put_numbers.ensures.others c.loop-key.invariant

pub returns : goal.returns
returns c =
    let end : length c.args.grove.now.boards.slots ≤ c.in_ok-end.end = c.in_ok-end.ensures in
    let past = c.loop-key-test.false in
    all_numbered c.args.grove.now c.loop-key.numbers.items c.loop-key.key (omega (arith, end, past)) c.loop-key.invariant
