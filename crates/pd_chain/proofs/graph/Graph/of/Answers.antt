use Rattle.std.proofs.Common.{◌≡◌, length, ◌∙◌, ap, arith}
use Rattle.pd_chain.proofs.PlaceLemmas.{length-numbered}
use Rattle.pd_chain.proofs.TableLemmas.{tables_draw}
use Rattle.pd_chain.proofs.graph.Graph.of.Goals as goal

pub of-requires : goal.of-requires
of-requires c =
    let l : length c.in_ok-places.places.items ≡ length c.args.nodes.now = ap length c.in_ok-places.ensures ∙ length-numbered 0 c.args.nodes.now in
    let o = c.in_ok-places.places.ok in
    let f = c.requires.few_nodes in omega arith

pub returns : goal.returns
returns c = tables_draw c.of.result c.of-2.result c.of-3.result c.in_ok-places.places.items c.in_ok-feeders.feeders.items c.in_ok-followers.followers.items
    c.args.nodes.now c.args.wires.now c.requires.once c.of.ensures c.in_ok-places.ensures c.of-2.ensures c.in_ok-feeders.ensures c.of-3.ensures c.in_ok-followers.ensures
