use Rattle.std.proofs.Common.{◌≡◌, ◌≤◌, ◌-◌, ℕ, List, Option}
use Rattle.pd_stage.specs.Leads.{sinks}
use Rattle.pd_engine.specs.Edits.{AreAskedFor, left_of}
use Rattle.pd_engine.specs.Stages.{stage_at}
use Rattle.pd_engine.proofs.FollowLemmas.{Way}
use Rattle.pd_engine.proofs.engine.Engine.take_queued.Given as goal

abbrev pub invariant-loop-i : goal.invariant-loop-i
invariant-loop-i g l = record {
  way : (samples : Option (List ℕ)) → Way (left_of l.fn.budget l.fn.self.queue) (256 - l.i) l.i (left_of l.budget l.self.queue) (stage_at l.fn.self) (stage_at l.self)
      (sinks (g.L.Sink.taken l.fn.lines) samples l.fn.steps (g.H.Shelf.holds l.fn.shelf) (g.H.Shelf.faults l.fn.shelf))
      (sinks (g.L.Sink.taken l.lines) samples l.steps (g.H.Shelf.holds l.shelf) (g.H.Shelf.faults l.shelf));
  asked : AreAskedFor l.self.queue;
  counted : g.L.Sink.faults l.fn.lines ≤ g.L.Sink.faults l.lines;
  folder : g.H.Shelf.faults l.fn.shelf ≤ g.H.Shelf.faults l.shelf;
  kept : g.H.Shelf.holds l.shelf ≡ g.H.Shelf.holds l.fn.shelf;
  stays : l.self.stopped ≡ l.fn.self.stopped;
}
