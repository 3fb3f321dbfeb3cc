use Rattle.std.proofs.Common.{sym, ◌∙◌}
use Rattle.pd_patch.specs.Document.{present_document}
use Rattle.pd_saved_law.proofs.OpenLemmas.{grows_again, read_pair, opens_again}
use Rattle.pd_saved_law.proofs.laws.saved_patches_open_again.Goals as goal

pub returns-clause-grown : goal.returns-clause-grown
returns-clause-grown c = grows_again

pub returns-clause-opened : goal.returns-clause-opened
returns-clause-opened c = λ files files2 name d page before names names2 names3 names4 n rate first p q proper found grew like runs on table own read tree.
    let same = read_pair (present_document p) page names2 names3 (sym (c.written_read.ensures names2 (present_document p) table own) ∙ read) in
    opens_again files files2 name d page before names names2 names3 names4 n rate first p q proper found grew like runs on same.0 same.1 tree
