use Rattle.pd_regrowth_law.proofs.TableLemmas.{one_of, several_of, page_of_table, patch_of_table}
use Rattle.pd_regrowth_law.proofs.laws.grown_texts_are_known.Goals as goal

pub returns-clause-one : goal.returns-clause-one
returns-clause-one c = one_of

pub returns-clause-several : goal.returns-clause-several
returns-clause-several c = several_of

pub returns-clause-page : goal.returns-clause-page
returns-clause-page c = page_of_table

pub returns-clause-patch : goal.returns-clause-patch
returns-clause-patch c = patch_of_table
