use Rattle.pd_tree.specs.Trees.{stands_in}
use Rattle.pd_fit.specs.Fitting.{wires_inside}
use Rattle.pd_fit.proofs.StackLemmas.{wires_all, capped}
use Rattle.pd_fit.proofs.counting.wires_in.Goals as goal

pub returns : goal.returns
returns c t h =
    capped (wires_inside t) _ _ (wires_all (stands_in c.args.rows.now) t h) c.in_ok-left.ensures.left
