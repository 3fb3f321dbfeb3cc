use Rattle.pd_regrowth_law.proofs.PartLemmas.{joined, parted, regrown_listed, listed_regrown, listed_page, page_regrown}
use Rattle.pd_regrowth_law.proofs.laws.boxes_regrow.Goals as goal
use Rattle.pd_canvas.specs.Pages.{elements_of}

pub returns-clause-whole : goal.returns-clause-whole
returns-clause-whole c = regrown_listed

pub returns-clause-each : goal.returns-clause-each
returns-clause-each c = listed_regrown

pub returns-clause-page : goal.returns-clause-page
returns-clause-page c = λ s left p t h. listed_page s left p t (regrown_listed s left (elements_of p) t h)

pub returns-clause-each_of_page : goal.returns-clause-each_of_page
returns-clause-each_of_page c = page_regrown

pub returns-clause-parts : goal.returns-clause-parts
returns-clause-parts c = joined

pub returns-clause-each_part : goal.returns-clause-each_part
returns-clause-each_part c = parted
