use Rattle.std.proofs.Common.{◌∙◌, ap}
use Rattle.pd_library.specs.Files.{answer_in}
use Rattle.pd_library.proofs.FileLemmas.{answer_found}
use Rattle.pd_library.proofs.files.Files.answer.Goals as goal

pub returns : goal.returns
returns c = c.get.ensures.value ∙ answer_found c.self.inside.answers.entries c.args.name ∙ ap (λ es. answer_in es c.args.name) c.self.view_is
