use Rattle.pd_guards.proofs.GrownLemmas.{sound_in, patch_in}
use Rattle.pd_guards.proofs.PatchLemmas.{begins_in, library_in}
use Rattle.pd_guards.proofs.laws.what_grows_is_in_order.Goals as goal

pub returns-clause-page : goal.returns-clause-page
returns-clause-page c = λ names p h. sound_in names p.boxes h.1

pub returns-clause-library : goal.returns-clause-library
returns-clause-library c = library_in

pub returns-clause-stock : goal.returns-clause-stock
returns-clause-stock c = begins_in

pub returns-clause-tree : goal.returns-clause-tree
returns-clause-tree c = patch_in
