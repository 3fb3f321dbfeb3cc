use Rattle.std.proofs.Common.{sym, ap, ◌∙◌, subst}
use Rattle.slab.specs.Slab.{get}
use Rattle.pd_patch.specs.Listing.{IsThere}
use Rattle.pd_web.specs.Canvases.{keys_at}
use Rattle.pd_misfits.specs.Misfits.{misfits, turning}
use Rattle.pd_retyping.proofs.BecomeLemmas.{lies_there, some_there}
use Rattle.pd_retyping.proofs.making.changed_wires.Goals as goal

pub misfits_at-requires-clause-here : goal.misfits_at-requires-clause-here
misfits_at-requires-clause-here c =
    let p = c.args.patch.now in
    let n = some_there (get p.grove.nodes c.args.key) c.requires.here in
    subst (λ d. IsThere (keys_at p.grove d) c.args.key) (sym (c.canvas_of-canvas.ensures n.0 n.1)) (lies_there p c.args.key n.0 c.requires.can n.1)

pub turning_at-requires-clause-here : goal.turning_at-requires-clause-here
turning_at-requires-clause-here c =
    let p = c.args.patch.now in
    let n = some_there (get p.grove.nodes c.args.key) c.requires.here in
    subst (λ d. IsThere (keys_at p.grove d) c.args.key) (sym (c.canvas_of-canvas.ensures n.0 n.1)) (lies_there p c.args.key n.0 c.requires.can n.1)

pub returns-clause-gone : goal.returns-clause-gone
returns-clause-gone c = λ n is. c.in_ok-gone.ensures.told ∙ ap (λ d. misfits c.args.patch.now d c.args.key c.args.kind.now) (c.canvas_of-canvas.ensures n is)

pub returns-clause-turned : goal.returns-clause-turned
returns-clause-turned c = λ n is. c.in_ok-turned.ensures.told ∙ ap (λ d. turning c.args.patch.now d c.args.key c.args.kind.now) (c.canvas_of-canvas.ensures n is)
