use Rattle.std.proofs.Common.{◌≡◌, None, ◌∙◌, ap, sym, rules}
use Rattle.pd_library.specs.declared.answers.Answer.TheVariants.{Found}
use Rattle.pd_library.specs.Files.{answer_in, with_answer}
use Rattle.pd_library.proofs.FileLemmas.{answer_found, answered}
use Rattle.pd_library.proofs.files.Files.publish.Goals as goal

pub returns-clause-ok : goal.returns-clause-ok
returns-clause-ok c =
    c.in_ok-insert.ensures.entries ∙ answered c.self.inside.answers.entries c.args.name (Found c.args.doc)
    ∙ ap (λ es. with_answer c.args.name (Found c.args.doc) es) c.self.view_is

pub returns-in_err-insert-clause-absent : goal.returns-in_err-insert-clause-absent
returns-in_err-insert-clause-absent c =
    let unknown : answer_in c.args.self.now c.args.name ≡ None =
    ap (λ es. answer_in es c.args.name) (sym c.self.view_is) ∙ sym (answer_found c.self.inside.answers.entries c.args.name) ∙ c.in_err-insert.ensures.absent in
    search rules
