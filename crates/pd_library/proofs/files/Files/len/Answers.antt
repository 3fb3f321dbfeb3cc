use Rattle.std.proofs.Common.{subst}
use Rattle.pd_library.specs.Files.{HasDistinctNames}
use Rattle.pd_library.proofs.FileLemmas.{distinct}
use Rattle.pd_library.proofs.files.Files.len.Goals as goal

pub returns-clause-distinct : goal.returns-clause-distinct
returns-clause-distinct c = subst HasDistinctNames c.self.view_is (distinct c.self.inside.answers.entries c.len.ensures.unique)
