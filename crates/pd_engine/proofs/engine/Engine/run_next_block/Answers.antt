use Rattle.std.proofs.lemmas.Result.{err_from_is_err_and, on_ok_weaker, on_err_weaker}
use Rattle.pd_engine.specs.Stages.{stage_at}
use Rattle.pd_stage.specs.Times.{clocks_fire, block_sounds}
use Rattle.pd_stage.proofs.LeadLemmas.{comes_then, stops_first, stops_then}
use Rattle.pd_engine.proofs.engine.Engine.run_next_block.Goals as goal

pub returns-in_err-fire_below-clause-err : goal.returns-in_err-fire_below-clause-err
returns-in_err-fire_below-clause-err g c =
    let p = err_from_is_err_and c.from_residual.result c.from_residual.ensures.1 in
    rw p.1
    (stops_first (clocks_fire c.args.self.now.block_end) block_sounds (stage_at c.args.self.now) _ _
    (c.in_err-fire_below.ensures.err (g.P.Sink.taken c.args.pcm.now)))

pub returns-clause-ok : goal.returns-clause-ok
returns-clause-ok g c =
    on_ok_weaker c.sound_block.result
    (λ e. comes_then (clocks_fire c.args.self.now.block_end) block_sounds (stage_at c.args.self.now) (stage_at c.fire_below.new.self) (stage_at c.sound_block.new.self) _ _ _
    (c.in_ok-fire_below.ensures.ok (g.P.Sink.taken c.args.pcm.now)) (e (g.L.Sink.taken c.fire_below.new.lines) c.fire_below.new.steps (g.H.Shelf.holds c.fire_below.new.shelf) (g.H.Shelf.faults c.fire_below.new.shelf)))
    c.sound_block.ensures.ok

pub returns-clause-err : goal.returns-clause-err
returns-clause-err g c =
    on_err_weaker c.sound_block.result
    (λ e. stops_then (clocks_fire c.args.self.now.block_end) block_sounds (stage_at c.args.self.now) (stage_at c.fire_below.new.self) _ _ _
    (c.in_ok-fire_below.ensures.ok (g.P.Sink.taken c.args.pcm.now)) (e (g.L.Sink.taken c.fire_below.new.lines) c.fire_below.new.steps (g.H.Shelf.holds c.fire_below.new.shelf) (g.H.Shelf.faults c.fire_below.new.shelf)))
    c.sound_block.ensures.err
