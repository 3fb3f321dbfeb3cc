use Rattle.std.proofs.Common.{◌≡◌, ◌+◌, ◌*◌, length, ap, sym, ◌∙◌, arith}
use Rattle.pd_order.specs.Graph.{tally}
use Rattle.pd_order.specs.Spots.{nodes_of}
use Rattle.pd_order.proofs.MendLemmas.{order_nodes}
use Rattle.pd_order.proofs.WiredLemmas.{length-below}
use Rattle.pd_bench_orders.specs.Voices.{voices}
use Rattle.pd_bench_orders.proofs.VoiceLemmas.{voices_lawful}
use Rattle.pd_bench_orders.proofs.mend.fold_once.Goals as goal

pub fold-requires-clause-lawful : goal.fold-requires-clause-lawful
fold-requires-clause-lawful g c = voices_lawful c.args.count 0 c.args.nodes.now (omega arith) c.requires.few (λ x. ap (tally x) c.requires.nodes)

pub fold-requires-clause-few : goal.fold-requires-clause-few
fold-requires-clause-few g c = let l : length c.args.nodes.now ≡ 2 * c.args.count + 1 = ap length c.requires.nodes ∙ length-below (2 * c.args.count + 1) in omega (arith, l, c.requires.few)

pub fold-requires-clause-room : goal.fold-requires-clause-room
fold-requires-clause-room g c = let l : length c.args.nodes.now ≡ 2 * c.args.count + 1 = ap length c.requires.nodes ∙ length-below (2 * c.args.count + 1) in omega (arith, l, c.requires.room)

pub returns-clause-order : goal.returns-clause-order
returns-clause-order g c = record {
  order = order_nodes (voices c.args.count 0) c.args.nodes.now (nodes_of c.fold.new.self.spots) c.fold.new.self.chain c.fold.new.self.stuck (λ x. sym (c.fold.ensures.nodes x)) c.fold.ensures.order;
  nodes = λ x. c.fold.ensures.nodes x ∙ ap (tally x) c.requires.nodes;
}
