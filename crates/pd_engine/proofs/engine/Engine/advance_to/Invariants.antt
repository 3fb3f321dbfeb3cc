use Rattle.std.proofs.Common.{◌≡◌, ◌≤◌, ◌+◌, ◌-◌, []}
use Rattle.pd_engine.specs.Stages.{stage_at}
use Rattle.pd_stage.specs.Leads.{sinks}
use Rattle.pd_stage.specs.Times.{advanced}
use Rattle.pd_engine.proofs.TimeLemmas.{HasBlocksLeft}
use Rattle.pd_engine.proofs.engine.Engine.advance_to.Given as goal

abbrev pub invariant-loop-self : goal.invariant-loop-self
invariant-loop-self g l = record {
  way : HasBlocksLeft l.to (λ m. advanced l.to (stage_at l.fn.self m)) (stage_at l.self [])
      (sinks (g.L.Sink.taken l.fn.lines) (g.P.Sink.taken l.fn.pcm) l.fn.steps (g.H.Shelf.holds l.fn.shelf) (g.H.Shelf.faults l.fn.shelf))
      (sinks (g.L.Sink.taken l.lines) (g.P.Sink.taken l.pcm) l.steps (g.H.Shelf.holds l.shelf) (g.H.Shelf.faults l.shelf));
  lines : g.L.Sink.faults l.fn.lines ≤ g.L.Sink.faults l.lines;
  pcm : g.P.Sink.faults l.fn.pcm ≤ g.P.Sink.faults l.pcm;
  folder : g.H.Shelf.faults l.fn.shelf ≤ g.H.Shelf.faults l.shelf;
  kept : g.H.Shelf.holds l.shelf ≡ g.H.Shelf.holds l.fn.shelf;
  stays : l.self.stopped ≡ l.fn.self.stopped;
}

abbrev pub decreases-loop-self : goal.decreases-loop-self
decreases-loop-self g l = l.to + 1 - l.self.block_end
