use Rattle.std.proofs.Common.{◌≡◌, ℕ, ◌<◌, length, get_or, arith, ◌∙◌, subst}
use Rattle.pd_order.specs.Spots.{put, place_in, mark_in, place_left}
use Rattle.pd_order.proofs.Basics.{tally_at}
use Rattle.pd_order.proofs.SettleLemmas.{put_listed, put_others, left_same}
use Rattle.pd_order.proofs.settle.unplace.Goals as goal

pub unplace_one-requires-clause-there : goal.unplace_one-requires-clause-there
unplace_one-requires-clause-there c = rw c.loop-node.invariant.nodes (c.requires.there (get_or c.args.spare.now c.loop-node.node-index 0) (tally_at c.args.spare.now c.loop-node.node-index (omega arith)))

pub loop-node-preserved : goal.loop-node-preserved
loop-node-preserved c =
    let l : c.loop-node.node-index < length c.args.spare.now = omega arith in
    let y : ℕ = get_or c.args.spare.now c.loop-node.node-index 0 in
    let e : (x : ℕ) → place_in c.unplace_one.new.spots x ≡ put (place_in c.loop-node.spots) y (place_left c.args.spots.now y) x = λ x.
    subst (λ (v : ℕ). place_in c.unplace_one.new.spots x ≡ put (place_in c.loop-node.spots) y v x)
    (left_same (mark_in c.args.spots.now) (mark_in c.loop-node.spots) (place_in c.args.spots.now) (place_in c.loop-node.spots) c.args.spare.now c.loop-node.node-index y c.loop-node.invariant.marks c.loop-node.invariant.listed c.loop-node.invariant.others)
    (c.unplace_one.ensures.places x) in
    record {
      by_node = c.unplace_one.ensures.by_node;
      nodes = c.unplace_one.ensures.nodes ∙ c.loop-node.invariant.nodes;
      marks = λ x. c.unplace_one.ensures.marks x ∙ c.loop-node.invariant.marks x;
      listed = put_listed (place_in c.args.spots.now) (place_in c.loop-node.spots) (place_in c.unplace_one.new.spots) (place_left c.args.spots.now) c.args.spare.now c.loop-node.node-index l e c.loop-node.invariant.listed;
      others = put_others (place_in c.args.spots.now) (place_in c.loop-node.spots) (place_in c.unplace_one.new.spots) (place_left c.args.spots.now) c.args.spare.now c.loop-node.node-index l e c.loop-node.invariant.others;
    }
