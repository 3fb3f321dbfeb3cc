use Rattle.std.proofs.Common.{◌∙◌, ap, sym, subst, arith}
use Rattle.std.proofs.lemmas.Result.{on_ok_weaker}
use Rattle.pd_canvas.specs.Views.{entry_of}
use Rattle.pd_canvas.specs.Paths.{change_box}
use Rattle.pd_canvas.specs.Edits.{CanRetype, retyped}
use Rattle.pd_canvas.proofs.TreeLemmas.{below_seen, at_seen, change_seen, same_seen, on_err}
use Rattle.pd_canvas.proofs.changes.retype_box.Goals as goal

pub index_mut-element-requires : goal.index_mut-element-requires
index_mut-element-requires c =
    omega (arith, below_seen CanRetype c.canvas.inside c.args.canvas.now c.canvas.view_is c.args.number c.requires, c.canvas.inside.boxes.items.ok)

pub retype-requires : goal.retype-requires
retype-requires c =
    let d = c.index_mut-element.result.now in
    subst (λ e. CanRetype (entry_of e)) (sym c.index_mut-element.ensures.value)
    (at_seen CanRetype c.canvas.inside c.args.canvas.now c.canvas.view_is c.args.number d c.requires)

pub returns-clause-ok : goal.returns-clause-ok
returns-clause-ok c =
    let d = c.index_mut-element.result.now in
    let f = retyped c.args.text.now in
    on_ok_weaker c.retype.result
    (λ k. change_seen c.canvas.inside f c.args.number c.retype.new.element d
    (below_seen CanRetype c.canvas.inside c.args.canvas.now c.canvas.view_is c.args.number c.requires)
    (k ∙ ap (λ e. f (entry_of e)) c.index_mut-element.ensures.value)
    ∙ ap (change_box c.args.number f) c.canvas.view_is)
    c.retype.ensures.ok

pub returns-clause-err : goal.returns-clause-err
returns-clause-err c =
    on_err c.retype.result
    (λ k. same_seen c.canvas.inside c.args.number c.retype.new.element c.index_mut-element.result.now (k ∙ ap entry_of c.index_mut-element.ensures.value)
    ∙ c.canvas.view_is)
    c.retype.ensures.err
