use Rattle.pd_following.proofs.ComeLemmas.{hold_alone}
use Rattle.pd_following.proofs.RunLemmas.{port_can, port_runs_on}
use Rattle.pd_following.proofs.laws.patches_run_on_with_ports.Goals as goal

pub returns-clause-can : goal.returns-clause-can
returns-clause-can c = λ p q table place s key holder side P I.
    port_can p q table place s key holder side P I
    (c.port_boxes_are_known.ensures.known p.grove p.web P.can.runs.own (hold_alone p place s holder side P) P.can.runs.ports.ports P.can.runs.ports.homes P.can.runs.ports.homes_found)

pub returns-clause-built : goal.returns-clause-built
returns-clause-built c = λ p q table place s key holder side P I file rate b.
    port_runs_on p q table place s key holder side P I
    (c.port_boxes_are_known.ensures.known p.grove p.web P.can.runs.own (hold_alone p place s holder side P) P.can.runs.ports.ports P.can.runs.ports.homes P.can.runs.ports.homes_found) file rate b
