use Rattle.pd_grove.specs.declared.ports.Side.TheVariants.{Inlets, Outlets}
use Rattle.pd_sliding.proofs.CallLemmas.{bare_then, free_then, inlets_ordered, inlets_slid, now_told, outlet_then, outlets_ordered, outlets_slid}
use Rattle.pd_sliding.proofs.sliding.follow.Goals as goal

pub follow_inlets-requires-clause-free : goal.follow_inlets-requires-clause-free
follow_inlets-requires-clause-free c = free_then c.args.web.now c.args.grove.now c.args.port.node c.args.port.side c.args.key c.args.port.port Inlets c.in-Inlets.is c.requires.elsewhere

pub follow_inlets-requires-clause-gone : goal.follow_inlets-requires-clause-gone
follow_inlets-requires-clause-gone c = bare_then c.args.web.now c.args.grove.now c.args.port.node c.args.port.side c.args.key c.args.port.port Inlets c.in-Inlets.is c.requires.elsewhere

pub move_outlet-requires-clause-free : goal.move_outlet-requires-clause-free
move_outlet-requires-clause-free c = free_then c.args.web.now c.args.grove.now c.args.port.node c.args.port.side c.args.key c.args.port.port Outlets c.in-Outlets.is c.requires.elsewhere

pub move_outlet-requires-clause-gone : goal.move_outlet-requires-clause-gone
move_outlet-requires-clause-gone c = bare_then c.args.web.now c.args.grove.now c.args.port.node c.args.port.side c.args.key c.args.port.port Outlets c.in-Outlets.is c.requires.elsewhere

pub move_outlet-requires-clause-is : goal.move_outlet-requires-clause-is
move_outlet-requires-clause-is c = outlet_then c.args.web.now c.args.grove.now c.args.port.node c.args.port.side c.args.key c.args.port.port c.in-Outlets.is c.requires.elsewhere

pub move_outlet-requires-clause-fits : goal.move_outlet-requires-clause-fits
move_outlet-requires-clause-fits c = c.requires.fits c.in-Outlets.is

pub move_outlet-requires-clause-ends : goal.move_outlet-requires-clause-ends
move_outlet-requires-clause-ends c = c.requires.ends c.in-Outlets.is

pub returns-in-Inlets-clause-slides : goal.returns-in-Inlets-clause-slides
returns-in-Inlets-clause-slides c = λ to O.
    inlets_slid c.args.web.now c.follow_inlets.new.web c.args.grove.now c.args.port.node c.args.port.side c.args.key c.args.port.port c.in-Inlets.is c.follow_inlets.ensures.follows c.requires.meet
    c.laws.ensures.fans c.laws.ensures.feeds to O

pub returns-in-Inlets-clause-now : goal.returns-in-Inlets-clause-now
returns-in-Inlets-clause-now c = now_told c.follow_inlets.new.web c.args.grove.now c.args.port.node c.args.port.side Inlets c.in-Inlets.is c.follow_inlets.ensures.follows.ports

pub returns-in-Inlets-clause-in_order : goal.returns-in-Inlets-clause-in_order
returns-in-Inlets-clause-in_order c = λ to O n i own order.
    inlets_ordered c.args.web.now c.follow_inlets.new.web c.args.grove.now c.args.port.node c.args.port.side c.args.key c.args.port.port c.in-Inlets.is c.follow_inlets.ensures.follows c.requires.meet
    c.laws.ensures.fans c.laws.ensures.feeds to O c.args.labels.now n i own order

pub returns-in-Outlets-clause-slides : goal.returns-in-Outlets-clause-slides
returns-in-Outlets-clause-slides c = λ to O.
    outlets_slid c.args.web.now c.move_outlet.new.web c.args.grove.now c.args.port.node c.args.port.side c.args.key c.args.port.port c.in-Outlets.is c.args.labels.now c.move_outlet.ensures.steps
    c.move_outlet.ensures.moves c.requires.known to O

pub returns-in-Outlets-clause-now : goal.returns-in-Outlets-clause-now
returns-in-Outlets-clause-now c = now_told c.move_outlet.new.web c.args.grove.now c.args.port.node c.args.port.side Outlets c.in-Outlets.is c.move_outlet.ensures.moves.ports

pub returns-in-Outlets-clause-in_order : goal.returns-in-Outlets-clause-in_order
returns-in-Outlets-clause-in_order c = λ to O n i own order.
    outlets_ordered c.args.web.now c.move_outlet.new.web c.args.grove.now c.args.port.node c.args.port.side c.args.key c.args.port.port c.in-Outlets.is c.args.labels.now c.move_outlet.ensures.steps
    c.move_outlet.ensures.moves c.requires.known to O n i own order
