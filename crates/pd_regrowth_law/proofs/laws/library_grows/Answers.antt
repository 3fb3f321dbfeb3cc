use Rattle.pd_regrowth_law.proofs.ChangeLemmas.{alike_all}
use Rattle.pd_regrowth_law.proofs.SameLemmas.{one_same, several_same, page_same, patch_same}
use Rattle.pd_regrowth_law.proofs.laws.library_grows.Goals as goal

pub returns-clause-one : goal.returns-clause-one
returns-clause-one c = λ lib lib2 root left a e w v t like. one_same lib lib2 root left a e w v t (alike_all lib lib2 t like)

pub returns-clause-several : goal.returns-clause-several
returns-clause-several c = λ lib lib2 root left a es w v t like. several_same lib lib2 root left a es w v t (alike_all lib lib2 t like)

pub returns-clause-page : goal.returns-clause-page
returns-clause-page c = λ lib lib2 root left a p w v t like. page_same lib lib2 root left a p w v t (alike_all lib lib2 t like)

pub returns-clause-patch : goal.returns-clause-patch
returns-clause-patch c = λ lib lib2 file p w v t like. patch_same lib lib2 file p w v t (alike_all lib lib2 t.boxes like)
