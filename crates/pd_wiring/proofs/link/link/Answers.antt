use Rattle.std.proofs.Common.{sym, subst}
use Rattle.pd_links.specs.declared.links.Links.{Links}
use Rattle.pd_links.specs.Linked.{HasOneMore, UsesLinkRoom}
use Rattle.pd_links.proofs.LinkLemmas.{wire_there}
use Rattle.pd_wiring.proofs.MendLemmas.{all_came}
use Rattle.pd_wiring.proofs.link.link.Goals as goal

pub mend_canvas-requires-clause-wired : goal.mend_canvas-requires-clause-wired
mend_canvas-requires-clause-wired g c = c.requires.wired c.add.new.self c.add.ensures.wires

pub mend_canvas-requires-clause-wire : goal.mend_canvas-requires-clause-wire
mend_canvas-requires-clause-wire g c = λ _. wire_there c.args.patch.now.links c.add.new.self c.args.wire.source c.args.wire.sink c.add.ensures.wires

pub mend_canvas-requires-clause-orders : goal.mend_canvas-requires-clause-orders
mend_canvas-requires-clause-orders g c =
    let p = c.args.patch.now in
    all_came p.grove (c.requires.wired c.add.new.self c.add.ensures.wires).own p.links c.add.new.self c.args.wire p.orders.items c.add.ensures.wires c.requires.orders

pub returns-clause-links : goal.returns-clause-links
returns-clause-links g c =
    subst (λ (x : Links). HasOneMore c.args.patch.now.links x c.args.wire.source c.args.wire.sink) (sym c.mend_canvas.ensures.links) c.add.ensures.wires

pub returns-clause-room : goal.returns-clause-room
returns-clause-room g c = subst (λ (x : Links). UsesLinkRoom c.args.patch.now.links x c.args.wire.source c.args.wire.sink) (sym c.mend_canvas.ensures.links) c.add.ensures.room

pub returns-clause-rest : goal.returns-clause-rest
returns-clause-rest g c =
    let r = c.mend_canvas.ensures.rest in
    record { grove = r.grove; names = r.names; timers = r.timers; numbers = r.numbers; values = r.values; rate = r.rate; present = r.present; orders = r.orders; places = r.places }
