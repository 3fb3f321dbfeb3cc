use Rattle.std.proofs.Common.{refl, ◌∙◌, ap, arith}
use Rattle.pd_canvas.specs.Views.{entry_of}
use Rattle.pd_canvas.specs.Paths.{change_box}
use Rattle.pd_canvas.proofs.TreeLemmas.{within_seen, change_seen}
use Rattle.pd_canvas.proofs.turns.swap.Goals as goal

pub index_mut-requires : goal.index_mut-requires
index_mut-requires c = omega (arith, within_seen c.canvas.inside c.args.canvas.now c.canvas.view_is c.args.number c.requires, c.canvas.inside.boxes.items.ok)

pub returns : goal.returns
returns c =
    change_seen c.canvas.inside (λ _. entry_of c.args.element) c.args.number c.args.element c.args.element
    (within_seen c.canvas.inside c.args.canvas.now c.canvas.view_is c.args.number c.requires) refl
    ∙ ap (change_box c.args.number (λ _. entry_of c.args.element)) c.canvas.view_is
