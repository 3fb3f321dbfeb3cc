use Rattle.std.proofs.Common.{◌+◌, ◌++◌}
use Rattle.pd_regrowth_law.specs.Regrowth.{stock}
use Rattle.pd_regrowth_law.proofs.ChangeLemmas.{alike_but}
use Rattle.pd_regrowth_law.proofs.SameLemmas.{one_same, several_same, page_same, patch_same}
use Rattle.pd_regrowth_law.proofs.RenewalLemmas.{renewed_again}
use Rattle.pd_regrowth_law.proofs.laws.regrowth_outlives_changes.Goals as goal

pub returns-clause-one : goal.returns-clause-one
returns-clause-one c = λ lib lib2 name root left a e t names numbers boxes like none h names2 more room x.
    one_same lib lib2 root left a e (stock names2 (numbers ++ more) (boxes + room)) (stock names2 more room) t (alike_but name lib lib2 t like none) (h names2 more room x)

pub returns-clause-several : goal.returns-clause-several
returns-clause-several c = λ lib lib2 name root left a es t names numbers boxes like none h names2 more room x.
    several_same lib lib2 root left a es (stock names2 (numbers ++ more) (boxes + room)) (stock names2 more room) t (alike_but name lib lib2 t like none) (h names2 more room x)

pub returns-clause-page : goal.returns-clause-page
returns-clause-page c = λ lib lib2 name root left a p t names numbers boxes like none h names2 more room x.
    page_same lib lib2 root left a p (stock names2 (numbers ++ more) (boxes + room)) (stock names2 more room) t (alike_but name lib lib2 t like none) (h names2 more room x)

pub returns-clause-patch : goal.returns-clause-patch
returns-clause-patch c = λ lib lib2 name file p t names numbers boxes like none h names2 more room x.
    patch_same lib lib2 file p (stock names2 (numbers ++ more) (boxes + room)) (stock names2 more room) t (alike_but name lib lib2 t.boxes like none) (h names2 more room x)

pub returns-clause-renewed : goal.returns-clause-renewed
returns-clause-renewed c = renewed_again
