use Rattle.std.proofs.Common.{◌≡◌, ◌++◌, ◌∷◌, [], None, ◌∙◌, ap, sym, subst}
use Rattle.pd_library.specs.Files.{answer_in}
use Rattle.pd_library.proofs.FileLemmas.{learned}
use Rattle.pd_library.proofs.files.Files.learn.Goals as goal

pub returns-clause-ok : goal.returns-clause-ok
returns-clause-ok c =
    c.in_ok-insert.ensures.entries
    ∙ learned c.self.inside.answers.entries c.args.name c.args.answer (subst (λ es. answer_in es c.args.name ≡ None) (sym c.self.view_is) c.requires)
    ∙ ap (λ es. es ++ (c.args.name, c.args.answer) ∷ []) c.self.view_is
