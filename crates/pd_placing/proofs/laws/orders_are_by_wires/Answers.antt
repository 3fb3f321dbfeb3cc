use Rattle.pd_wiring.proofs.GraphLemmas.{ordered_by_links, ordered_by_wires}
use Rattle.pd_placing.proofs.laws.orders_are_by_wires.Goals as goal

pub returns-clause-wires : goal.returns-clause-wires
returns-clause-wires c = λ g w l orders W h. ordered_by_wires g w l W orders h

pub returns-clause-links : goal.returns-clause-links
returns-clause-links c = λ g w l orders W h. ordered_by_links g w l W orders h
