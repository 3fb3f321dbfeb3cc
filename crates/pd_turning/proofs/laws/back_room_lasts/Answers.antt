use Rattle.pd_links.proofs.LinkLemmas.{room_stays}
use Rattle.pd_turning.proofs.LawLemmas.{back_lasts, back_loosened, back_refitted, refit_stays}
use Rattle.pd_turning.proofs.laws.back_room_lasts.Goals as goal

pub returns-clause-lasts : goal.returns-clause-lasts
returns-clause-lasts c = back_lasts

pub returns-clause-same : goal.returns-clause-same
returns-clause-same c = room_stays

pub returns-clause-loosened : goal.returns-clause-loosened
returns-clause-loosened c = back_loosened

pub returns-clause-refitted : goal.returns-clause-refitted
returns-clause-refitted c = back_refitted

pub returns-clause-refit : goal.returns-clause-refit
returns-clause-refit c = refit_stays
