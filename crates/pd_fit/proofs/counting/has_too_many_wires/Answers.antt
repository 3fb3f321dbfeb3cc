use Rattle.std.proofs.Common.{◌-◌, ap, ◌∙◌}
use Rattle.pd_tree.specs.Trees.{stands_in}
use Rattle.pd_fit.specs.Seeing.{views_of, fitting}
use Rattle.pd_fit.proofs.StackLemmas.{counted_all}
use Rattle.pd_fit.proofs.counting.has_too_many_wires.Goals as goal

pub returns : goal.returns
returns c t h =
    counted_all c.args.sheet.now t (stands_in c.args.rows.now) (views_of c.as_slice.result.now) c.in_ok-left.left c.less_fitting.result h
    (ap views_of (c.as_slice.ensures.value ∙ c.in_ok-boxes.ensures) ∙ c.in_ok-left.ensures.boxes) c.in_ok-left.ensures.left
    (c.less_fitting.ensures ∙ ap (λ ws. c.in_ok-left.left - fitting (views_of c.as_slice.result.now) ws) c.as_slice-2.ensures)
