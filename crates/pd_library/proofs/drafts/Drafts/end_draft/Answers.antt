use Rattle.std.proofs.Common.{◌∙◌, ap}
use Rattle.pd_library.specs.Drafts.{without_draft}
use Rattle.pd_library.proofs.DraftLemmas.{ended}
use Rattle.pd_library.proofs.drafts.Drafts.end_draft.Goals as goal

pub returns : goal.returns
returns c = c.shift_remove.ensures.entries ∙ ended c.self.inside.drafts.entries c.args.name ∙ ap (λ es. without_draft c.args.name es) c.self.view_is
