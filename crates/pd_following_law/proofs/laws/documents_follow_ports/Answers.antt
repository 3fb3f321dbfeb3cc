use Rattle.pd_following.proofs.ComeLemmas.{hold_alone}
use Rattle.pd_following_law.proofs.DocumentLemmas.{wires_document, put_document, port_at, port_document, port_last}
use Rattle.pd_following_law.proofs.laws.documents_follow_ports.Goals as goal

pub returns-clause-wires : goal.returns-clause-wires
returns-clause-wires c = λ p q table place s key holder side path n t P I G low A.
    wires_document p q table place s key holder side P I
    (c.port_boxes_are_known.ensures.known p.grove p.web P.can.runs.own (hold_alone p place s holder side P) P.can.runs.ports.ports P.can.runs.ports.homes P.can.runs.ports.homes_found) path n t G low A

pub returns-clause-put : goal.returns-clause-put
returns-clause-put c = λ p q table place s key holder side path inner n e t P I within G low A leads saved.
    put_document p q table place s key holder side P I
    (c.port_boxes_are_known.ensures.known p.grove p.web P.can.runs.own (hold_alone p place s holder side P) P.can.runs.ports.ports P.can.runs.ports.homes P.can.runs.ports.homes_found)
    inner leads within path n e t G low A saved

pub returns-clause-at : goal.returns-clause-at
returns-clause-at c = λ p q table place s key holder side inner P I within leads.
    port_at p q table place s key holder side P I
    (c.port_boxes_are_known.ensures.known p.grove p.web P.can.runs.own (hold_alone p place s holder side P) P.can.runs.ports.ports P.can.runs.ports.homes P.can.runs.ports.homes_found) inner leads within

pub returns-clause-appended : goal.returns-clause-appended
returns-clause-appended c = λ p q table place s key holder side path inner n e t P I last G low A leads saved.
    port_document p q table place s key holder side P I
    (c.port_boxes_are_known.ensures.known p.grove p.web P.can.runs.own (hold_alone p place s holder side P) P.can.runs.ports.ports P.can.runs.ports.homes P.can.runs.ports.homes_found)
    inner leads last path n e t G low A saved

pub returns-clause-last : goal.returns-clause-last
returns-clause-last c = λ p q table place s key holder side inner P I last leads.
    port_last p q table place s key holder side P I
    (c.port_boxes_are_known.ensures.known p.grove p.web P.can.runs.own (hold_alone p place s holder side P) P.can.runs.ports.ports P.can.runs.ports.homes P.can.runs.ports.homes_found) inner leads last
