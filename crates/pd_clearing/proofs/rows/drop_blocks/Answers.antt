use Rattle.std.proofs.Common.{arith}
use Rattle.pd_clearing.proofs.RowLemmas.{dropped, none_there}
use Rattle.pd_clearing.proofs.rows.drop_blocks.Goals as goal

pub returns-then-key-len : goal.returns-then-key-len
returns-then-key-len c =
    let within = c.if-key-len.true in
    dropped (λ b. b.items) c.args.values.now.items c.args.key c.new.result (omega (arith, within)) c.new.ensures.items

pub returns-else-key-len : goal.returns-else-key-len
returns-else-key-len c =
    let past = c.if-key-len.false in
    none_there (λ b. b.items) c.args.values.now.items c.args.key (omega (arith, past))
