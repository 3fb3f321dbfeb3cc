use Rattle.std.proofs.Common.{◌∙◌, ap, sym, subst, arith}
use Rattle.std.proofs.lemmas.Result.{on_ok_weaker}
use Rattle.pd_canvas.specs.Views.{entry_of}
use Rattle.pd_canvas.specs.Paths.{change_box, inside, edit_at}
use Rattle.pd_canvas.specs.Turns.{CanTurn, turned}
use Rattle.pd_canvas.proofs.TreeLemmas.{path_below, path_seen, change_seen, same_seen, on_err, first_of, rest_of, length-rest_of, LeadsOn, edit_first}
use Rattle.pd_canvas.proofs.turns.+turn.Goals as goal

pub turn_canvas-index_mut-element-requires : goal.turn_canvas-index_mut-element-requires
turn_canvas-index_mut-element-requires t c =
    omega (arith, path_below (CanTurn c.args.change) c.canvas.inside c.args.canvas.now c.canvas.view_is c.args.path.now c.in-len1-up.len_at_least c.requires, c.canvas.inside.boxes.items.ok)

pub turn_canvas-turn_inside-requires : goal.turn_canvas-turn_inside-requires
turn_canvas-turn_inside-requires t c =
    let d = c.index_mut-element.result.now in (
      omega (arith, c.decreases, length-rest_of c.args.path.now),
      subst (λ e. LeadsOn (CanTurn c.args.change) (rest_of c.args.path.now) (entry_of e)) (sym c.index_mut-element.ensures.value)
          (path_seen (CanTurn c.args.change) c.canvas.inside c.args.canvas.now c.canvas.view_is c.args.path.now c.in-len1-up.len_at_least d c.requires),
    )

pub turn_canvas-returns-in-len1-up-clause-ok : goal.turn_canvas-returns-in-len1-up-clause-ok
turn_canvas-returns-in-len1-up-clause-ok t c =
    let d = c.index_mut-element.result.now in
    let f = turned c.args.change in
    let path = c.args.path.now in
    let g = inside (edit_at (rest_of path) f) in
    on_ok_weaker c.turn_inside.result
    (λ k. change_seen c.canvas.inside g (first_of path) c.turn_inside.new.element d
    (path_below (CanTurn c.args.change) c.canvas.inside c.args.canvas.now c.canvas.view_is path c.in-len1-up.len_at_least c.requires)
    (k ∙ ap (λ e. g (entry_of e)) c.index_mut-element.ensures.value)
    ∙ (ap (change_box (first_of path) g) c.canvas.view_is
    ∙ edit_first f path c.args.canvas.now c.in-len1-up.len_at_least))
    c.turn_inside.ensures.ok

pub turn_canvas-returns-in-len1-up-clause-err : goal.turn_canvas-returns-in-len1-up-clause-err
turn_canvas-returns-in-len1-up-clause-err t c =
    on_err c.turn_inside.result
    (λ k. same_seen c.canvas.inside (first_of c.args.path.now) c.turn_inside.new.element c.index_mut-element.result.now (k ∙ ap entry_of c.index_mut-element.ensures.value)
    ∙ c.canvas.view_is)
    c.turn_inside.ensures.err
