use Rattle.std.proofs.Common.{inl, refl}
use Rattle.pd_stage.proofs.FolderLemmas.{folder_both, leaves_on, go_lawful}
use Rattle.pd_stage.proofs.laws.edits_join_by_folder.Goals as goal

pub returns-clause-together : goal.returns-clause-together
returns-clause-together c = folder_both

pub returns-clause-left : goal.returns-clause-left
returns-clause-left c = leaves_on

pub returns-clause-lawful : goal.returns-clause-lawful
returns-clause-lawful c = go_lawful

pub returns-clause-nothing : goal.returns-clause-nothing
returns-clause-nothing c = λ held. (tt, inl refl)
