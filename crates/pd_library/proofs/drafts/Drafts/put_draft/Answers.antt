use Rattle.std.proofs.Common.{◌≡◌, None, ◌∙◌, ap, sym, rules}
use Rattle.pd_library.specs.Drafts.{draft_in, with_draft}
use Rattle.pd_library.proofs.DraftLemmas.{draft_found, drafted}
use Rattle.pd_library.proofs.drafts.Drafts.put_draft.Goals as goal

pub returns-clause-ok : goal.returns-clause-ok
returns-clause-ok c =
    c.in_ok-insert.ensures.entries ∙ drafted c.self.inside.drafts.entries c.args.name c.args.doc
    ∙ ap (λ es. with_draft c.args.name c.args.doc es) c.self.view_is

pub returns-in_err-insert-clause-absent : goal.returns-in_err-insert-clause-absent
returns-in_err-insert-clause-absent c =
    let unknown : draft_in c.args.self.now c.args.name ≡ None =
    ap (λ es. draft_in es c.args.name) (sym c.self.view_is) ∙ sym (draft_found c.self.inside.drafts.entries c.args.name) ∙ c.in_err-insert.ensures.absent in
    search rules
