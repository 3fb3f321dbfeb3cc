use Rattle.std.proofs.Common.{arith, map}
use Rattle.pd_kind.specs.States.{silent_block}
use Rattle.pd_patch.proofs.ValueLemmas.{own_set}
use Rattle.pd_patch.proofs.patch.Patch.silence_values.Goals as goal

pub returns-then-node-len-clause-values : goal.returns-then-node-len-clause-values
returns-then-node-len-clause-values c =
    own_set (λ b. b.items) c.args.self.now.values.items c.args.node c.index_mut.result.now c.silence_all.new.blocks (λ own. map (λ _. silent_block) own)
    (omega (arith, c.args.self.now.values.ok.0)) c.index_mut.ensures.value c.silence_all.ensures
