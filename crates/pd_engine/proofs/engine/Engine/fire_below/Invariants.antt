use Rattle.std.proofs.Common.{◌≡◌, ◌≤◌, ◌-◌, ℕ, List, Option}
use Rattle.pd_engine.specs.Stages.{stage_at}
use Rattle.pd_stage.specs.Times.{fires_below, clocks_fire}
use Rattle.pd_stage.specs.Leads.{sinks, Leads}
use Rattle.pd_engine.proofs.engine.Engine.fire_below.Given as goal

abbrev pub invariant-loop-self : goal.invariant-loop-self
invariant-loop-self g l = record {
  way : (samples : Option (List ℕ)) → Leads (λ m. clocks_fire l.limit (stage_at l.fn.self m)) (λ m. fires_below (10000 - l.self.fired) l.limit (stage_at l.self m))
      (sinks (g.L.Sink.taken l.fn.lines) samples l.fn.steps (g.H.Shelf.holds l.fn.shelf) (g.H.Shelf.faults l.fn.shelf))
      (sinks (g.L.Sink.taken l.lines) samples l.steps (g.H.Shelf.holds l.shelf) (g.H.Shelf.faults l.shelf));
  counted : g.L.Sink.faults l.fn.lines ≤ g.L.Sink.faults l.lines;
  folder : g.H.Shelf.faults l.fn.shelf ≤ g.H.Shelf.faults l.shelf;
  kept : g.H.Shelf.holds l.shelf ≡ g.H.Shelf.holds l.fn.shelf;
  stays : l.self.stopped ≡ l.fn.self.stopped;
}

abbrev pub decreases-loop-self : goal.decreases-loop-self
decreases-loop-self g l = 10000 - l.self.fired
