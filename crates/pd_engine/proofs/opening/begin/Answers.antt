use Rattle.std.proofs.Common.{rules, ℕ, List, Option, subst}
use Rattle.pd_stage.specs.Choices.{Choice, base_of}
use Rattle.pd_stage.specs.Stages.{Stage, Passage}
use Rattle.pd_stage.specs.Leads.{sinks, Comes, Stops}
use Rattle.pd_engine.specs.Opening.{loaded}
use Rattle.pd_engine.specs.Remarks.{remarks_text}
use Rattle.pd_engine.specs.Stages.{stage_at}
use Rattle.pd_engine.proofs.OpeningLemmas.{begins_at}
use Rattle.pd_engine.proofs.opening.begin.Goals as goal

pub returns-clause-causes : goal.returns-clause-causes
returns-clause-causes g c = record {
  shelf = search rules;
  write = λ h. c.in-Err.ensures.cause.failed;
  folder_counted = c.load_whole.ensures.counted;
  lines_counted = c.load_whole.ensures.cause.counted;
}

pub returns-in-Ok-clause-ok : goal.returns-in-Ok-clause-ok
returns-in-Ok-clause-ok g c =
    let part : Stage → Passage = λ s. loaded s (remarks_text c.args.symbols c.args.patch c.args.report.notices.items) c.args.report.fresh.items in
    let t : Option (List ℕ) = g.L.Sink.taken c.args.lines.now in
    let t' : Option (List ℕ) = g.L.Sink.taken c.load_whole.new.lines in
    subst (λ (from : List Choice → Stage). (looks : ℕ) (samples : Option (List ℕ)) → Comes part from (stage_at c.load_whole.new.self) (sinks t samples looks (g.H.Shelf.holds c.args.shelf.now) (g.H.Shelf.faults c.args.shelf.now)) (sinks t' samples looks (g.H.Shelf.holds c.load_whole.new.shelf) (g.H.Shelf.faults c.load_whole.new.shelf)))
    (begins_at c.args.room.file.items c.args.patch c.args.symbols (base_of c.args.library c.args.counts) c.of_units.result c.of_units-2.result c.new-tally.result c.of_units.ensures c.of_units-2.ensures c.new-tally.ensures) c.in-Ok.ensures.ok

pub returns-clause-err : goal.returns-clause-err
returns-clause-err g c =
    let part : Stage → Passage = λ s. loaded s (remarks_text c.args.symbols c.args.patch c.args.report.notices.items) c.args.report.fresh.items in
    let t : Option (List ℕ) = g.L.Sink.taken c.args.lines.now in
    let t' : Option (List ℕ) = g.L.Sink.taken c.load_whole.new.lines in
    subst (λ (from : List Choice → Stage). (looks : ℕ) (samples : Option (List ℕ)) → Stops part from (sinks t samples looks (g.H.Shelf.holds c.args.shelf.now) (g.H.Shelf.faults c.args.shelf.now)) (sinks t' samples looks (g.H.Shelf.holds c.load_whole.new.shelf) (g.H.Shelf.faults c.load_whole.new.shelf)))
    (begins_at c.args.room.file.items c.args.patch c.args.symbols (base_of c.args.library c.args.counts) c.of_units.result c.of_units-2.result c.new-tally.result c.of_units.ensures c.of_units-2.ensures c.new-tally.ensures) c.in-Err.ensures.err

pub invariant_of-engine-clause-puts : goal.invariant_of-engine-clause-puts
invariant_of-engine-clause-puts g c = ∣ c.requires.can ∣₁

pub invariant_of-engine-clause-meet : goal.invariant_of-engine-clause-meet
invariant_of-engine-clause-meet g c = ∣ c.requires.meet ∣₁

pub invariant_of-engine-clause-within : goal.invariant_of-engine-clause-within
invariant_of-engine-clause-within g c = ∣ c.requires.within ∣₁

pub invariant_of-engine-clause-found : goal.invariant_of-engine-clause-found
invariant_of-engine-clause-found g c = ∣ c.requires.found ∣₁
