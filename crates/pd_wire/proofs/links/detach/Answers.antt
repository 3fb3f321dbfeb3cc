use Rattle.std.proofs.Common.{◌<◌, sym, subst}
use Rattle.pd_wire.specs.Links.{link_at, Detaches}
use Rattle.pd_wire.specs.declared.links.Link.{Link}
use Rattle.pd_wire.proofs.Rings.{puts_detach}
use Rattle.pd_wire.proofs.links.detach.Goals as goal

pub returns-clause-detaches : goal.returns-clause-detaches
returns-clause-detaches c =
    let f = link_at c.args.side c.args.nodes.now in
    let P : Link → Type 0 = λ l. Detaches f (link_at c.args.side c.put-3.new.nodes) l.owner c.args.key l.before l.after in
    let C : Link → Type 0 = λ l. 0 < (f l.owner).count in
    subst P c.link_of-link.ensures (puts_detach _ _ _ _ _ _ _ _ _ _ _ c.link_of-last.ensures c.link_of-next.ensures c.link_of-head.ensures
    c.put.ensures.puts c.put-2.ensures.puts c.put-3.ensures.puts (subst C (sym c.link_of-link.ensures) c.requires.count))
