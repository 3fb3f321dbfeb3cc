use Rattle.pd_patch.proofs.WayLemmas.{path_short, path_whole}
use Rattle.pd_patch.proofs.laws.paths_are_short.Goals as goal

pub returns-clause-short : goal.returns-clause-short
returns-clause-short c = λ g s t G path k e. path_short g s t path k G e

pub returns-clause-whole : goal.returns-clause-whole
returns-clause-whole c = λ g numbers s t G own h l path k e. path_whole g numbers s t path k G (λ d. h d (own d)) l e
