use Rattle.std.proofs.Common.{◌∙◌, ap}
use Rattle.pd_clock.specs.Slots.{live_clocks}
use Rattle.pd_clock.proofs.HeapLemmas.{live-dead_of}
use Rattle.pd_clock.proofs.slots.kill_owner.Goals as goal

pub returns-clause-clocks : goal.returns-clause-clocks
returns-clause-clocks c = ap live_clocks c.kill_at_place.ensures.items ∙ live-dead_of c.args.owner c.args.slots.now.items
