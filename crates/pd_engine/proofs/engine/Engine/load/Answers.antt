use Rattle.std.proofs.lemmas.Result.{on_ok_weaker, on_err_weaker}
use Rattle.pd_stage.specs.Stages.{Stage, Passage}
use Rattle.pd_stage.specs.Events.{event, Loading}
use Rattle.pd_engine.specs.Stages.{stage_at}
use Rattle.pd_engine.proofs.OpeningLemmas.{comes_unlooked, stops_unlooked}
use Rattle.pd_engine.proofs.engine.Engine.load.Goals as goal

pub returns-clause-ok : goal.returns-clause-ok
returns-clause-ok g c =
    let loads : Stage → Passage = λ s. event s (Loading c.args.boxes.now) in
    on_ok_weaker c.run_event.result
    (λ h looks samples. comes_unlooked (g.L.Sink.taken c.args.lines.now) (g.L.Sink.taken c.run_event.new.lines) samples _ _ looks (g.H.Shelf.holds c.args.shelf.now) (g.H.Shelf.holds c.run_event.new.shelf)
    (g.H.Shelf.faults c.args.shelf.now) (g.H.Shelf.faults c.run_event.new.shelf) loads (stage_at c.args.self.now) (stage_at c.run_event.new.self) (h samples))
    c.run_event.ensures.ok

pub returns-clause-err : goal.returns-clause-err
returns-clause-err g c =
    let loads : Stage → Passage = λ s. event s (Loading c.args.boxes.now) in
    on_err_weaker c.run_event.result
    (λ h looks samples. stops_unlooked (g.L.Sink.taken c.args.lines.now) (g.L.Sink.taken c.run_event.new.lines) samples _ _ looks (g.H.Shelf.holds c.args.shelf.now) (g.H.Shelf.holds c.run_event.new.shelf)
    (g.H.Shelf.faults c.args.shelf.now) (g.H.Shelf.faults c.run_event.new.shelf) loads (stage_at c.args.self.now) (h samples))
    c.run_event.ensures.err
