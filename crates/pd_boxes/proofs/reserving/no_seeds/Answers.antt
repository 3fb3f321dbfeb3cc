use Rattle.pd_boxes.proofs.ReserveLemmas.{none_ready}
use Rattle.pd_boxes.proofs.reserving.no_seeds.Goals as goal

pub returns : goal.returns
returns c = none_ready c.in_ok-seeds.seeds.items.items c.new-rows.result.items c.new-rows.ensures.items c.in_ok-seeds.ensures.ready
