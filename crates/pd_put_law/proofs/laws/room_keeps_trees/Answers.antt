use Rattle.pd_put_law.proofs.RoomLemmas.{room_runs, room_holds, room_fits, room_wires}
use Rattle.pd_put_law.proofs.OwnerLemmas.{room_own}
use Rattle.pd_put_law.proofs.WrittenLemmas.{room_contents}
use Rattle.pd_put_law.proofs.laws.room_keeps_trees.Goals as goal

pub returns-clause-runs : goal.returns-clause-runs
returns-clause-runs c = λ p q t s r. room_runs p.grove q.grove s.grove t r

pub returns-clause-holds : goal.returns-clause-holds
returns-clause-holds c = λ p q t s h. room_holds p q s t h

pub returns-clause-fit : goal.returns-clause-fit
returns-clause-fit c = room_fits

pub returns-clause-wires : goal.returns-clause-wires
returns-clause-wires c = room_wires

pub returns-clause-owners : goal.returns-clause-owners
returns-clause-owners c = room_own

pub returns-clause-contents : goal.returns-clause-contents
returns-clause-contents c = room_contents
