use Rattle.std.proofs.Common.{◌-◌, ap, ◌∙◌}
use Rattle.pd_tree.specs.Trees.{stand_of}
use Rattle.pd_fit.specs.Seeing.{views_of, fitting}
use Rattle.pd_fit.proofs.SeenLemmas.{views_taken, holder_stacked}
use Rattle.pd_fit.proofs.counting.stack_holder.Goals as goal

pub returns-clause-boxes : goal.returns-clause-boxes
returns-clause-boxes c =
    holder_stacked (stand_of c.args.row.now).cell c.args.row.now.boxes c.in_ok-seen.seen c.args.stack.now.items c.as_slice.result.now _ _ c.in_ok-seen.ensures
    (c.as_slice.ensures.value ∙ c.in_ok-inner.ensures.taken) c.in_ok-inner.ensures.rest c.in_ok-push_front.ensures.items

pub returns-clause-left : goal.returns-clause-left
returns-clause-left c =
    c.less_fitting.ensures ∙ ap (λ ws. c.args.left - fitting (views_of c.as_slice-2.result.now) ws) c.as_slice-3.ensures
    ∙ ap (λ vs. c.args.left - fitting vs c.args.sheet.now.wires)
    (views_taken c.args.row.now.boxes c.args.stack.now.items c.as_slice-2.result.now (c.as_slice-2.ensures.value ∙ c.in_ok-inner.ensures.taken))
