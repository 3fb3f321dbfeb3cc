use Rattle.std.proofs.Common.{arith, sym, ◌∙◌}
use Rattle.pd_web.specs.Hops.{feed_hops}
use Rattle.pd_patch.specs.Values.{blocks_told}
use Rattle.pd_block.specs.Inlets.{wires_to}
use Rattle.pd_block.proofs.InletLemmas.{sum_step, sum_end, sum_full}
use Rattle.pd_block.proofs.inlets.sum_wires.Goals as goal

pub returns-in_default : goal.returns-in_default
unfolding wires_to
returns-in_default c =
    sum_end c.args.patch.now.web (blocks_told c.args.patch.now) (feed_hops c.args.patch.now.web c.args.node c.args.inlet) c.loop.counter _
    (sym c.loop.invariant.next ∙ c.in_default.is) (omega arith) c.loop.invariant.sum

pub loop-preserved : goal.loop-preserved
loop-preserved c = record {
  next = c.feed_next-next.ensures c.args.node c.args.inlet c.loop.counter (sym c.loop.invariant.next ∙ c.in-Some.is);
  sum = sum_step c.args.patch.now.web (blocks_told c.args.patch.now) (feed_hops c.args.patch.now.web c.args.node c.args.inlet) c.loop.counter c.in-Some.hop _ _
      (sym c.loop.invariant.next ∙ c.in-Some.is) c.take_wire-is_fed.ensures c.loop.invariant.sum;
}

pub returns : goal.returns
unfolding wires_to
returns c =
    sum_full c.args.patch.now.web (blocks_told c.args.patch.now) (feed_hops c.args.patch.now.web c.args.node c.args.inlet) c.loop.counter _ (omega arith) c.loop.invariant.sum
