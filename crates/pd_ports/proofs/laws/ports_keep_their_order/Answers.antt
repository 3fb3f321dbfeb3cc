use Rattle.pd_ports.proofs.OrderLemmas.{ports_in_order}
use Rattle.pd_ports.proofs.laws.ports_keep_their_order.Goals as goal

pub returns : goal.returns
returns c = λ g g' side key canvas canvas' Is own held held' stay kept. ports_in_order g g' side key canvas canvas' Is own held held' stay kept
