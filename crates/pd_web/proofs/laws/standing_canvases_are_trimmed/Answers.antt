use Rattle.pd_web.proofs.TreeFits.{boxes_are, trimmed_is}
use Rattle.pd_web.proofs.laws.standing_canvases_are_trimmed.Goals as goal

pub returns-clause-ports : goal.returns-clause-ports
returns-clause-ports c = λ g canvas u C H. boxes_are g canvas u C H

pub returns-clause-wires : goal.returns-clause-wires
returns-clause-wires c = λ g canvas u C H. trimmed_is g canvas u C H
