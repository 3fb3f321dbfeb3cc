use Rattle.std.proofs.Common.{◌≡◌, ◌+◌, ◌≤◌, [], ◌∷◌, get_or, take, arith, ◌∙◌}
use Rattle.std.specs.List.{filter}
use Rattle.pd_order.specs.Graph.{tally}
use Rattle.pd_order.specs.Spots.{is_displaced}
use Rattle.pd_order.proofs.Basics.{tally_at}
use Rattle.pd_order.proofs.SettleLemmas.{filtered_more, filtered_le}
use Rattle.pd_order.proofs.settle.gather.Goals as goal

pub gather_one-requires-clause-there : goal.gather_one-requires-clause-there
gather_one-requires-clause-there g c = c.requires.there (get_or c.args.spare.now c.loop-node.node-index 0) (tally_at c.args.spare.now c.loop-node.node-index (omega arith))

pub gather_one-requires-clause-fit : goal.gather_one-requires-clause-fit
gather_one-requires-clause-fit g c = λ x.
    let a : tally x c.loop-node.stuck.items ≡ tally x c.args.stuck.now.items + tally x (filter (is_displaced c.args.spots.now) (take c.loop-node.node-index c.args.spare.now)) = c.loop-node.invariant.more x in
    let b : tally x (filter (is_displaced c.args.spots.now) (take c.loop-node.node-index c.args.spare.now)) + tally x (filter (is_displaced c.args.spots.now) (get_or c.args.spare.now c.loop-node.node-index 0 ∷ [])) ≤ tally x (filter (is_displaced c.args.spots.now) c.args.spare.now) =
    filtered_le (is_displaced c.args.spots.now) c.args.spare.now c.loop-node.node-index x (omega arith) in
    let d = c.requires.fit x in omega arith

pub loop-node-preserved : goal.loop-node-preserved
loop-node-preserved g c = record {
  by_rank = c.gather_one.ensures.by_rank;
  more = λ x. (let a = c.loop-node.invariant.more x in let b = c.gather_one.ensures.more x in
      let d : tally x (filter (is_displaced c.args.spots.now) (take (c.loop-node.node-index + 1) c.args.spare.now)) ≡ tally x (filter (is_displaced c.args.spots.now) (take c.loop-node.node-index c.args.spare.now)) + tally x (filter (is_displaced c.args.spots.now) (get_or c.args.spare.now c.loop-node.node-index 0 ∷ [])) =
      filtered_more (is_displaced c.args.spots.now) c.args.spare.now c.loop-node.node-index x (omega arith) in omega arith);
  capacity = c.gather_one.ensures.capacity ∙ c.loop-node.invariant.capacity;
}
