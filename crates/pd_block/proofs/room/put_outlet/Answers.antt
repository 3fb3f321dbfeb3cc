use Rattle.std.proofs.Common.{ℤ, List, [], ap, ◌∙◌, arith}
use Rattle.std.proofs.lemmas.List.{get_or_default}
use Rattle.pd_kind.specs.States.{silent_block}
use Rattle.pd_patch.specs.Values.{blocks_told, with_block}
use Rattle.pd_block.proofs.room.put_outlet.Goals as goal

pub returns-clause-values : goal.returns-clause-values
returns-clause-values c =
    c.put_values.ensures.values
    ∙ ap (λ (b : List ℤ). with_block (blocks_told c.args.patch.now) c.args.node 0 b) (get_or_default c.args.outs.now 0 [] silent_block (omega arith))
