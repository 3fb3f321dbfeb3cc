use Rattle.slab.specs.Slab.{get}
use Rattle.pd_instances.proofs.NumberLemmas.{box_lives, numbers_reach}
use Rattle.pd_instances.proofs.numbering.number_inside.Goals as goal

pub number_boxes-requires-clause-reach : goal.number_boxes-requires-clause-reach
number_boxes-requires-clause-reach c = λ i k at. c.requires.reach k (box_lives (get c.args.grove.now.nodes k) c.in-Some.canvas (c.requires.own.home c.in-Some.canvas i k at))

pub returns-in-Some-clause-reach : goal.returns-in-Some-clause-reach
returns-in-Some-clause-reach c = λ k low. numbers_reach c.args.grove.now c.args.numbers.now.items c.number_boxes.new.numbers.items c.in-Some.canvas k c.number_boxes.ensures low
