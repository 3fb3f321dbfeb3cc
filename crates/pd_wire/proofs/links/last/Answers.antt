use Rattle.std.proofs.Common.{◌≡◌, ◌-◌, ◌∙◌, length, ap, sym, Some, arith}
use Rattle.pd_wire.specs.Links.{link_at, is_end, is_wire, list_of}
use Rattle.pd_wire.specs.declared.links.Link.{Link}
use Rattle.pd_wire.proofs.Seen.{last_is}
use Rattle.std.proofs.lemmas.Option.{slice_get_past}
use Rattle.pd_wire.proofs.links.last.Goals as goal

pub returns-then-head-eq0 : goal.returns-then-head-eq0
returns-then-head-eq0 c =
    let s = c.args.nodes.now in
    let f = link_at c.args.side s in
    let z : (f c.args.end).count ≡ 0 = ap (λ (l : Link). l.count) (sym c.link_of-head.ensures) ∙ c.if-head-eq0.true in
    sym (slice_get_past (list_of f c.args.end) (length (list_of f c.args.end) - 1) (omega (arith, c.requires.sound.counted c.args.end c.requires.end)))

pub returns-else-head-eq0 : goal.returns-else-head-eq0
returns-else-head-eq0 c =
    let s = c.args.nodes.now in
    ap (λ (l : Link). Some l.before) c.link_of-head.ensures
    ∙ last_is (is_end s) (is_wire s) (link_at c.args.side s) c.args.end c.requires.sound c.requires.end (λ z. c.if-head-eq0.false (ap (λ (l : Link). l.count) c.link_of-head.ensures ∙ z))
