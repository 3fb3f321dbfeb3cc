use Rattle.std.proofs.Common.{◌<◌, length, get_or, arith, ◌∙◌}
use Rattle.pd_order.specs.Spots.{mark_in}
use Rattle.pd_order.proofs.Basics.{tally_at}
use Rattle.pd_order.proofs.SettleLemmas.{put_listed, put_others}
use Rattle.pd_order.proofs.settle.forget.Goals as goal

pub set_mark-requires-clause-there : goal.set_mark-requires-clause-there
set_mark-requires-clause-there c = rw c.loop-node.invariant.nodes (c.requires.there (get_or c.args.spare.now c.loop-node.node-index 0) (tally_at c.args.spare.now c.loop-node.node-index (omega arith)))

pub loop-node-preserved : goal.loop-node-preserved
loop-node-preserved c =
    let l : c.loop-node.node-index < length c.args.spare.now = omega arith in
    record {
      by_node = c.set_mark.ensures.by_node;
      nodes = c.set_mark.ensures.nodes ∙ c.loop-node.invariant.nodes;
      places = λ x. c.set_mark.ensures.place x ∙ c.loop-node.invariant.places x;
      listed = put_listed (mark_in c.args.spots.now) (mark_in c.loop-node.spots) (mark_in c.set_mark.new.spots) (λ _. 0) c.args.spare.now c.loop-node.node-index l c.set_mark.ensures.mark c.loop-node.invariant.listed;
      others = put_others (mark_in c.args.spots.now) (mark_in c.loop-node.spots) (mark_in c.set_mark.new.spots) (λ _. 0) c.args.spare.now c.loop-node.node-index l c.set_mark.ensures.mark c.loop-node.invariant.others;
    }
