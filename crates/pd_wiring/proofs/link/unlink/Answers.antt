use Rattle.std.proofs.Common.{◌≡◌, sym, subst}
use Rattle.pd_links.specs.declared.links.Links.{Links}
use Rattle.pd_links.specs.Linked.{HasOneMore, KeepsLinkRoom}
use Rattle.pd_wiring.specs.declared.mend.Change.{Change}
use Rattle.pd_wiring.specs.declared.mend.Change.TheVariants.{Came, Went}
use Rattle.pd_wiring.proofs.MendLemmas.{all_went}
use Rattle.pd_wiring.proofs.link.unlink.Goals as goal

pub mend_canvas-requires-clause-wired : goal.mend_canvas-requires-clause-wired
mend_canvas-requires-clause-wired g c = c.requires.wired c.cut.new.self c.cut.ensures.wires

pub mend_canvas-requires-clause-wire : goal.mend_canvas-requires-clause-wire
mend_canvas-requires-clause-wire g c = λ (e : ◌≡◌ {A = Change} Went Came). absurd (cc)

pub mend_canvas-requires-clause-orders : goal.mend_canvas-requires-clause-orders
mend_canvas-requires-clause-orders g c =
    let p = c.args.patch.now in
    all_went p.grove (c.requires.wired c.cut.new.self c.cut.ensures.wires).own c.cut.new.self p.links c.args.wire p.orders.items c.cut.ensures.wires c.requires.orders

pub returns-clause-links : goal.returns-clause-links
returns-clause-links g c =
    subst (λ (x : Links). HasOneMore x c.args.patch.now.links c.args.wire.source c.args.wire.sink) (sym c.mend_canvas.ensures.links) c.cut.ensures.wires

pub returns-clause-room : goal.returns-clause-room
returns-clause-room g c = subst (λ (x : Links). KeepsLinkRoom c.args.patch.now.links x) (sym c.mend_canvas.ensures.links) c.cut.ensures.room

pub returns-clause-rest : goal.returns-clause-rest
returns-clause-rest g c =
    let r = c.mend_canvas.ensures.rest in
    record { grove = r.grove; names = r.names; timers = r.timers; numbers = r.numbers; values = r.values; rate = r.rate; present = r.present; orders = r.orders; places = r.places }
