use Rattle.std.proofs.Common.{◌<◌, refl, sym, ◌∙◌, subst, ℕ, [], arith}
use Rattle.std.proofs.lemmas.Result.{err_from_is_err_and}
use Rattle.pd_stage.specs.Leads.{sinks, Comes}
use Rattle.pd_engine.specs.Stages.{stage_at}
use Rattle.pd_stage.specs.Times.{advanced}
use Rattle.pd_engine.proofs.ClockLemmas.{timed}
use Rattle.pd_engine.proofs.TimeLemmas.{blocks_begin, block_goes_on, block_breaks, clocks_go_on, clocks_break, later_end}
use Rattle.pd_stage.specs.Stages.{with_ahead}
use Rattle.pd_engine.proofs.engine.Engine.advance_to.Goals as goal

pub loop-self-init : goal.loop-self-init
loop-self-init g c = record { way = blocks_begin c.args.to (stage_at c.args.self.now []) _; lines = omega arith; pcm = omega arith; folder = omega arith; kept = refl; stays = refl }

pub loop-self-smaller : goal.loop-self-smaller
loop-self-smaller g c =
    let e = c.loop-self.self in
    let more : e.block_end < c.run_next_block.new.self.block_end =
    later_end c.args.to (stage_at e []) (stage_at c.run_next_block.new.self) _ _ c.requires (omega arith) c.in_ok-run_next_block.ensures.ok in
    omega arith

pub loop-self-preserved : goal.loop-self-preserved
loop-self-preserved g c = record {
  way = block_goes_on c.args.to _ (stage_at c.loop-self.self []) (stage_at c.run_next_block.new.self []) _ _ _ c.requires (omega arith) c.loop-self.invariant.way
      c.in_ok-run_next_block.ensures.ok;
  lines = omega arith;
  pcm = omega arith;
  folder = omega arith;
  kept = c.run_next_block.ensures.kept ∙ c.loop-self.invariant.kept;
  stays = c.run_next_block.ensures.stays ∙ c.loop-self.invariant.stays;
}

pub returns-in_err-run_next_block-clause-err : goal.returns-in_err-run_next_block-clause-err
returns-in_err-run_next_block-clause-err g c =
    let p = err_from_is_err_and c.from_residual.result c.from_residual.ensures.1 in
    rw p.1 (block_breaks c.args.to _ (stage_at c.loop-self.self []) _ _ _ (omega arith) c.loop-self.invariant.way c.in_err-run_next_block.ensures.err)

pub returns-in_err-fire_below-clause-err : goal.returns-in_err-fire_below-clause-err
returns-in_err-fire_below-clause-err g c =
    let p = err_from_is_err_and c.from_residual-in_err-fire_below.result c.from_residual-in_err-fire_below.ensures.1 in
    rw p.1
    (clocks_break c.args.to _ (stage_at c.loop-self.self []) _ _ _ (omega arith) c.loop-self.invariant.way
    (c.in_err-fire_below.ensures.err (g.P.Sink.taken c.loop-self.pcm)))

pub returns-clause-ok : goal.returns-clause-ok
returns-clause-ok g c =
    let e = c.fire_below.new.self in
    subst
    (λ (t : ℕ). Comes (advanced c.args.to) (stage_at c.args.self.now) (with_ahead (timed (stage_at e []) t e.fired))
    (sinks (g.L.Sink.taken c.args.lines.now) (g.P.Sink.taken c.args.pcm.now) c.args.steps.now (g.H.Shelf.holds c.args.shelf.now) (g.H.Shelf.faults c.args.shelf.now))
    (sinks (g.L.Sink.taken c.fire_below.new.lines) (g.P.Sink.taken c.loop-self.pcm) c.fire_below.new.steps (g.H.Shelf.holds c.fire_below.new.shelf) (g.H.Shelf.faults c.fire_below.new.shelf)))
    (sym c.later-self.ensures)
    (clocks_go_on c.args.to _ (stage_at c.loop-self.self []) (stage_at e []) _ _ _ (omega arith) c.loop-self.invariant.way
    (c.in_ok-fire_below.ensures.ok (g.P.Sink.taken c.loop-self.pcm)))
