use Rattle.std.proofs.Common.{◌∙◌, ap, sym, refl, Some}
use Rattle.pd_wire.specs.Links.{link_at, is_end, is_wire}
use Rattle.pd_wire.specs.declared.links.Link.{Link}
use Rattle.pd_wire.proofs.Seen.{previous_is}
use Rattle.pd_wire.proofs.links.previous.Goals as goal

pub returns-then-link : goal.returns-then-link
returns-then-link c =
    let s = c.args.nodes.now in
    let n = previous_is (is_end s) (is_wire s) (link_at c.args.side s) c.args.key c.requires.sound c.requires.wire in
    record {
      at_front = λ q. refl;
      behind = λ i q. absurd (n.apart i q (ap (λ (l : Link). l.before) (sym c.link_of-link.ensures) ∙ c.if-link.true ∙ ap (λ (l : Link). l.owner) c.link_of-link.ensures));
    }

pub returns-else-link : goal.returns-else-link
returns-else-link c =
    let s = c.args.nodes.now in
    let n = previous_is (is_end s) (is_wire s) (link_at c.args.side s) c.args.key c.requires.sound c.requires.wire in
    record {
      at_front = λ q. absurd (c.if-link.false (ap (λ (l : Link). l.before) c.link_of-link.ensures ∙ n.at_front q ∙ ap (λ (l : Link). l.owner) (sym c.link_of-link.ensures)));
      behind = λ i q. ap (λ (l : Link). Some l.before) c.link_of-link.ensures ∙ n.behind i q;
    }
