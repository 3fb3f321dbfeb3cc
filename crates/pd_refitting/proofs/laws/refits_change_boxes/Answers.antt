use Rattle.pd_boxes.specs.Put.{node_of}
use Rattle.pd_refitting.proofs.BoxLemmas.{alike_as, changed_as, other_box}
use Rattle.pd_refitting.proofs.laws.refits_change_boxes.Goals as goal

pub returns-clause-alike : goal.returns-clause-alike
returns-clause-alike c = λ p q table key n s C R. alike_as p.grove q.grove key n (node_of n.board s) (other_box p q table key n s C R)

pub returns-clause-changed : goal.returns-clause-changed
returns-clause-changed c = λ p q table key n s C R. changed_as p.grove q.grove key n (node_of n.board s) (other_box p q table key n s C R)
