use Rattle.std.proofs.Common.{◌∙◌, ap, arith}
use Rattle.pd_canvas.specs.Views.{entry_of}
use Rattle.pd_canvas.specs.Paths.{change_box}
use Rattle.pd_canvas.specs.Edits.{CanMove, moved}
use Rattle.pd_canvas.proofs.TreeLemmas.{below_seen, change_seen}
use Rattle.pd_canvas.proofs.changes.move_box.Goals as goal

pub index_mut-element-requires : goal.index_mut-element-requires
index_mut-element-requires c =
    omega (arith, below_seen CanMove c.canvas.inside c.args.canvas.now c.canvas.view_is c.args.number c.requires, c.canvas.inside.boxes.items.ok)

pub returns : goal.returns
returns c =
    let d = c.index_mut-element.result.now in
    change_seen c.canvas.inside (moved c.args.x c.args.y) c.args.number _ d
    (below_seen CanMove c.canvas.inside c.args.canvas.now c.canvas.view_is c.args.number c.requires)
    (ap (λ e. moved c.args.x c.args.y (entry_of e)) c.index_mut-element.ensures.value)
    ∙ ap (change_box c.args.number (moved c.args.x c.args.y)) c.canvas.view_is
