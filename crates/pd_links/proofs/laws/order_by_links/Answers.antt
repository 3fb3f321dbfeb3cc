use Rattle.pd_links.proofs.LinkLemmas.{of_canvas, of_links}
use Rattle.pd_links.proofs.laws.order_by_links.Goals as goal

pub returns-clause-of_canvas : goal.returns-clause-of_canvas
returns-clause-of_canvas c = of_canvas

pub returns-clause-of_links : goal.returns-clause-of_links
returns-clause-of_links c = of_links
