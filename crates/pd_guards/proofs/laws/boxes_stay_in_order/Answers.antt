use Rattle.pd_guards.proofs.HearLemmas.{at_in, resumed_reply, clock_said, load_said}
use Rattle.pd_guards.proofs.laws.boxes_stay_in_order.Goals as goal

pub returns-clause-hearing : goal.returns-clause-hearing
returns-clause-hearing c = λ net now names states node inlet selector atoms time first kinds kept m. at_in net now time names first kinds states kept node inlet selector atoms m

pub returns-clause-again : goal.returns-clause-again
returns-clause-again c = λ net now names states node time first kinds kept. resumed_reply net now time names first kinds states kept node

pub returns-clause-clock : goal.returns-clause-clock
returns-clause-clock c = λ net now names states node time first kinds kept. clock_said net now time names first kinds states kept node

pub returns-clause-load : goal.returns-clause-load
returns-clause-load c = λ net now names states node time first kinds kept. load_said net now time names first kinds states kept node
