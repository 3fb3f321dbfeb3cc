use Rattle.pd_wiring.proofs.BuiltLemmas.{runs_rewire}
use Rattle.pd_alike_law.proofs.OpenLemmas.{has_opened, owners_alike}
use Rattle.pd_alike_law.proofs.laws.saved_patches_open_alike.Goals as goal

pub returns-clause-opened : goal.returns-clause-opened
returns-clause-opened c = λ files files2 name d page before names names2 names3 names4 n rate first p q proper found grew like runs on table own read tree built fit fresh.
    let a = c.saved_patches_open_again.ensures.opened files files2 name d page before names names2 names3 names4 n rate first p q proper found grew like runs on table own read tree in
    has_opened files name d before names names4 n rate first p q grew runs (runs_rewire p names name rate built) fit fresh a.0 a.1

pub returns-clause-owners : goal.returns-clause-owners
returns-clause-owners c = λ files files2 name d page before names names2 names3 names4 n rate first p q class symbol proper found grew like runs on table own read tree built fit fresh.
    let a = c.saved_patches_open_again.ensures.opened files files2 name d page before names names2 names3 names4 n rate first p q proper found grew like runs on table own read tree in
    owners_alike files name d before names names2 names4 n rate first p q class symbol proper found grew on a.2
    (has_opened files name d before names names4 n rate first p q grew runs (runs_rewire p names name rate built) fit fresh a.0 a.1) (built.owners class symbol) fresh
