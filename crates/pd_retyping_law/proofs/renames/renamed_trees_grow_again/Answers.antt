use Rattle.std.proofs.Common.{refl}
use Rattle.pd_retyping_law.specs.Retyping.{cell_in}
use Rattle.pd_retyping_law.proofs.RenameLemmas.{bare_renamed}
use Rattle.pd_retyping_law.proofs.renames.renamed_trees_grow_again.Goals as goal

pub returns : goal.returns
returns c = λ lib file left g h path canvas key number n n' t e sheet w v s R B low o bare form lev grows.
    bare_renamed lib file left w.names g path canvas key number n t s R B.forest B.leads B.is B.was B.sub low e w v (cell_in n') sheet refl o bare lev form grows
