use Rattle.std.proofs.Common.{◌∙◌, ap, Some}
use Rattle.pd_wire.specs.Links.{link_at, is_end, is_wire}
use Rattle.pd_wire.specs.declared.links.Link.{Link}
use Rattle.pd_wire.proofs.Seen.{first_is}
use Rattle.pd_wire.proofs.links.first.Goals as goal

pub returns-else-head-eq0 : goal.returns-else-head-eq0
returns-else-head-eq0 c =
    let s = c.args.nodes.now in
    ap (λ (l : Link). Some l.after) c.link_of-head.ensures
    ∙ first_is (is_end s) (is_wire s) (link_at c.args.side s) c.args.end c.requires.sound c.requires.end (λ z. c.if-head-eq0.false (ap (λ (l : Link). l.count) c.link_of-head.ensures ∙ z))
