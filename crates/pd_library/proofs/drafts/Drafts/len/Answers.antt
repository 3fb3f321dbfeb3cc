use Rattle.std.proofs.Common.{subst}
use Rattle.pd_library.specs.Drafts.{HasDistinctDrafts}
use Rattle.pd_library.proofs.DraftLemmas.{distinct_drafts}
use Rattle.pd_library.proofs.drafts.Drafts.len.Goals as goal

pub returns-clause-distinct : goal.returns-clause-distinct
returns-clause-distinct c = subst HasDistinctDrafts c.self.view_is (distinct_drafts c.self.inside.drafts.entries c.len.ensures.unique)
