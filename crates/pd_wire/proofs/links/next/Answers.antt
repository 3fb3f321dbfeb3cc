use Rattle.std.proofs.Common.{◌∙◌, ap, sym, Some}
use Rattle.pd_wire.specs.Links.{link_at, is_end, is_wire}
use Rattle.pd_wire.specs.declared.links.Link.{Link}
use Rattle.pd_wire.proofs.Seen.{next_is}
use Rattle.pd_wire.proofs.links.next.Goals as goal

pub returns-then-link : goal.returns-then-link
returns-then-link c = λ i q.
    let s = c.args.nodes.now in
    let n = next_is (is_end s) (is_wire s) (link_at c.args.side s) c.args.key i c.requires.sound c.requires.wire q in
    n.none (ap (λ (l : Link). l.after) (sym c.link_of-link.ensures) ∙ c.if-link.true ∙ ap (λ (l : Link). l.owner) c.link_of-link.ensures)

pub returns-else-link : goal.returns-else-link
returns-else-link c = λ i q.
    let s = c.args.nodes.now in
    let n = next_is (is_end s) (is_wire s) (link_at c.args.side s) c.args.key i c.requires.sound c.requires.wire q in
    ap (λ (l : Link). Some l.after) c.link_of-link.ensures
    ∙ n.some (λ e. c.if-link.false (ap (λ (l : Link). l.after) c.link_of-link.ensures ∙ e ∙ ap (λ (l : Link). l.owner) (sym c.link_of-link.ensures)))
