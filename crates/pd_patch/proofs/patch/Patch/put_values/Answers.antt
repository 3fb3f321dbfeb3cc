use Rattle.std.proofs.Common.{arith}
use Rattle.std.specs.Prelude.{slice_set}
use Rattle.pd_patch.proofs.ValueLemmas.{own_set}
use Rattle.pd_patch.proofs.patch.Patch.put_values.Goals as goal

pub returns-then-node-len-clause-values : goal.returns-then-node-len-clause-values
returns-then-node-len-clause-values c =
    own_set (λ b. b.items) c.args.self.now.values.items c.args.node c.index_mut.result.now c.put_block.new.blocks (λ own. slice_set own c.args.outlet c.args.block.now)
    (omega (arith, c.args.self.now.values.ok.0)) c.index_mut.ensures.value c.put_block.ensures
