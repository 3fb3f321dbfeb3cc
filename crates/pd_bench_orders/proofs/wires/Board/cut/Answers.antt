use Rattle.std.proofs.Common.{ℕ, ◌<◌, List, sym, subst}
use Rattle.pd_order.specs.Graph.{tally}
use Rattle.pd_bench_orders.proofs.HeldLemmas.{pushed_there, live_cut}
use Rattle.pd_bench_orders.proofs.wires.Board.cut.Goals as goal

pub cut-requires : goal.cut-requires
cut-requires c =
    c.args.self.now.live.held c.in-Some.key (subst (λ (v : List ℕ). 0 < tally c.in-Some.key v) (sym c.in-Some.ensures.items) (pushed_there c.in-Some.key c.pop.new.self.items))

pub invariant_of-self : goal.invariant_of-self
invariant_of-self c =
    let board = c.args.self.now in
    record {
      live = live_cut board.book c.cut.new.self board.outlets.items board.inlet board.held.items c.pop.new.self.items c.in-Some.key _ _ _ _ c.in-Some.ensures.items c.cut.ensures.cuts.4 board.live;
    }
