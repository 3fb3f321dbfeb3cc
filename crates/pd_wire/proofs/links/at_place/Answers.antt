use Rattle.std.proofs.Common.{◌<◌, ◌∙◌, ap, length, arith}
use Rattle.pd_wire.specs.Links.{link_at, is_end, is_wire, list_of}
use Rattle.pd_wire.proofs.Nodes.{next_place}
use Rattle.pd_wire.proofs.links.at_place.Goals as goal

pub loop-preserved : goal.loop-preserved
loop-preserved c =
    let s = c.args.nodes.now in
    let f = link_at c.args.side s in
    let within : c.loop.counter < length (list_of f c.args.end) = omega arith in
    ap (λ l. l.after) c.link_of-at.ensures ∙ ap (λ x. (f x).after) c.loop.invariant
    ∙ next_place (is_end s) (is_wire s) f (list_of f) c.args.end c.loop.counter c.requires.sound c.requires.end within
