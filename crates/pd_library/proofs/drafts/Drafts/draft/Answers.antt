use Rattle.std.proofs.Common.{◌∙◌, ap}
use Rattle.pd_library.specs.Drafts.{draft_in}
use Rattle.pd_library.proofs.DraftLemmas.{draft_found}
use Rattle.pd_library.proofs.drafts.Drafts.draft.Goals as goal

pub returns : goal.returns
returns c = c.get.ensures.value ∙ draft_found c.self.inside.drafts.entries c.args.name ∙ ap (λ es. draft_in es c.args.name) c.self.view_is
