use Rattle.std.proofs.Common.{ℕ, ◌+◌, ◌*◌, List, ap, sym, ◌∙◌, subst, arith}
use Rattle.pd_order.specs.Graph.{tally, IsOrder, cut_wire}
use Rattle.pd_order.specs.Spots.{nodes_of}
use Rattle.pd_order.proofs.WiredLemmas.{nodes_below}
use Rattle.pd_bench_orders.specs.Voices.{voices}
use Rattle.pd_bench_orders.proofs.VoiceLemmas.{voices_lawful, out_there, cut_order, add_order}
use Rattle.pd_bench_orders.proofs.mend.cut_and_add.Goals as goal

pub mend_cut-requires-clause-lawful : goal.mend_cut-requires-clause-lawful
mend_cut-requires-clause-lawful g c = voices_lawful c.args.count c.args.voice (nodes_of c.args.order.now.spots) c.requires.within c.requires.few c.requires.order.nodes

pub mend_cut-requires-clause-there : goal.mend_cut-requires-clause-there
mend_cut-requires-clause-there g c = nodes_below (2 * c.args.count + 1) (nodes_of c.args.order.now.spots) 0 c.requires.order.nodes (omega arith)

pub mend_cut-requires-clause-order : goal.mend_cut-requires-clause-order
mend_cut-requires-clause-order g c = cut_order c.args.count c.args.voice (nodes_of c.args.order.now.spots) c.args.order.now.chain c.args.order.now.stuck c.requires.voice c.requires.within c.requires.order.order

pub mend_add-requires-clause-lawful : goal.mend_add-requires-clause-lawful
mend_add-requires-clause-lawful g c = voices_lawful c.args.count 0 (nodes_of c.mend_cut.new.self.spots) (omega arith) c.requires.few (λ x. ap (tally x) c.mend_cut.ensures.nodes ∙ c.requires.order.nodes x)

pub mend_add-requires-clause-wire : goal.mend_add-requires-clause-wire
mend_add-requires-clause-wire g c = out_there c.args.count c.args.voice c.requires.voice c.requires.within

pub mend_add-requires-clause-order : goal.mend_add-requires-clause-order
mend_add-requires-clause-order g c =
    let mid = c.mend_cut.new.self in
    subst (λ (v : List ℕ). IsOrder (cut_wire (voices c.args.count 0) (2 * c.args.voice) 0) v mid.chain mid.stuck) (sym c.mend_cut.ensures.nodes)
    (add_order c.args.count c.args.voice (nodes_of c.args.order.now.spots) mid.chain mid.stuck c.requires.voice c.requires.within c.mend_cut.ensures.order)

pub returns : goal.returns
returns g c =
    let new = c.mend_add.new.self in
    record {
      order = subst (λ (v : List ℕ). IsOrder (voices c.args.count 0) v new.chain new.stuck) (sym c.mend_add.ensures.nodes) c.mend_add.ensures.order;
      nodes = λ x. ap (tally x) c.mend_add.ensures.nodes ∙ (ap (tally x) c.mend_cut.ensures.nodes ∙ c.requires.order.nodes x);
    }
