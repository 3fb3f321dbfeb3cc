use Rattle.pd_stage.specs.Choices.{base_of}
use Rattle.std.proofs.Common.{refl, sym, [], subst, ℕ, List, Option}
use Rattle.std.proofs.lemmas.Result.{err_from_is_err_and, on_ok_weaker, on_err_weaker}
use Rattle.pd_hearing.specs.Worlds.{net_of, kept_of}
use Rattle.pd_walk.specs.Outcome.{world}
use Rattle.pd_stage.specs.Stages.{Stage, with_ahead}
use Rattle.pd_stage.specs.Leads.{sinks, Comes, Stops}
use Rattle.pd_stage.specs.Events.{event, beginning_of}
use Rattle.pd_queue.specs.Queue.{Waiting}
use Rattle.pd_engine.specs.Edits.{AreAskedFor}
use Rattle.pd_engine.specs.Stages.{stage_at}
use Rattle.pd_engine.proofs.ClockLemmas.{now_set, stage_with}
use Rattle.pd_engine.proofs.EventLemmas.{event_comes, event_breaks, event_breaks_late}
use Rattle.pd_engine.proofs.AskedLemmas.{left_asked}
use Rattle.pd_engine.proofs.RewireLemmas.{IsKept, now_kept, net_kept, found_more}
use Rattle.pd_engine.proofs.engine.Engine.run_event.Goals as goal

pub invariant_of-self : goal.invariant_of-self
invariant_of-self g c =
    let e = c.args.self.now in
    let k : IsKept c.set_now.new.self e.counts = now_kept e.patch c.set_now.new.self e.counts c.set_now.ensures.rest (record { puts = e.puts; meet = e.meet; counted = e.counted; zero = e.zero }) in
    let l : IsKept c.deliver-delivered.new.patch e.counts = net_kept c.set_now.new.self c.deliver-delivered.new.patch e.counts c.deliver-delivered.ensures.net k in
    record { puts = l.puts; meet = l.meet; counted = l.counted; within = e.within; zero = l.zero; found = found_more c.args.self.now.symbols c.deliver-delivered.new.symbols e.library c.deliver-delivered.ensures.extends c.len-before.ensures.table c.len-after.ensures.table e.found }

pub take_queued-requires : goal.take_queued-requires
take_queued-requires g c =
    let e = c.args.self.now in
    left_asked (net_of c.set_now.new.self) e.time (world (kept_of c.set_now.new.self e.symbols c.clear.new.self) c.new-budget.result []) c.args.start.now
    (kept_of c.deliver-delivered.new.patch c.deliver-delivered.new.symbols c.deliver-delivered.new.queue) (subst (λ (q : Waiting). AreAskedFor q) (sym c.clear.ensures) tt) c.in_ok-delivered.ensures.ok.kept_is

pub returns-in_err-delivered-clause-err : goal.returns-in_err-delivered-clause-err
returns-in_err-delivered-clause-err g c =
    let e = c.args.self.now in
    let p = err_from_is_err_and c.from_residual.result c.from_residual.ensures.1 in
    let t : Option (List ℕ) = g.L.Sink.taken c.args.lines.now in
    let t' : Option (List ℕ) = g.L.Sink.taken c.deliver-delivered.new.lines in
    let s : Stage = stage_with e.file.items c.set_now.new.self e.symbols (base_of e.library e.counts) e.time e.block_end e.fired e.tally [] in
    rw p.1
    (λ samples. subst (λ (r : Stage). Stops (λ x. event x (beginning_of c.args.start.now)) (with_ahead r) (sinks t samples c.args.steps.now (g.H.Shelf.holds c.args.shelf.now) (g.H.Shelf.faults c.args.shelf.now)) (sinks t' samples c.args.steps.now (g.H.Shelf.holds c.args.shelf.now) (g.H.Shelf.faults c.args.shelf.now)))
    (now_set e.patch c.set_now.new.self e.file.items e.symbols (base_of e.library e.counts) e.time e.block_end e.fired e.tally [] c.set_now.ensures.rest)
    (event_breaks s s c.args.start.now _ [] _ c.new-budget.result t t' samples c.args.steps.now (g.H.Shelf.holds c.args.shelf.now) (g.H.Shelf.faults c.args.shelf.now) c.clear.ensures c.new-budget.ensures c.in_err-delivered.ensures.err))

pub returns-clause-ok : goal.returns-clause-ok
returns-clause-ok g c =
    let e = c.args.self.now in
    let t : Option (List ℕ) = g.L.Sink.taken c.args.lines.now in
    let t' : Option (List ℕ) = g.L.Sink.taken c.take_queued.new.lines in
    let s : Stage = stage_with e.file.items c.set_now.new.self e.symbols (base_of e.library e.counts) e.time e.block_end e.fired e.tally [] in
    let s' : Stage = stage_with e.file.items c.deliver-delivered.new.patch c.deliver-delivered.new.symbols (base_of e.library e.counts) e.time e.block_end e.fired e.tally [] in
    on_ok_weaker c.take_queued.result
    (λ h samples. subst (λ (r : Stage). Comes (λ x. event x (beginning_of c.args.start.now)) (with_ahead r) (stage_at c.take_queued.new.self) (sinks t samples c.args.steps.now (g.H.Shelf.holds c.args.shelf.now) (g.H.Shelf.faults c.args.shelf.now)) (sinks t' samples c.take_queued.new.steps (g.H.Shelf.holds c.take_queued.new.shelf) (g.H.Shelf.faults c.take_queued.new.shelf)))
    (now_set e.patch c.set_now.new.self e.file.items e.symbols (base_of e.library e.counts) e.time e.block_end e.fired e.tally [] c.set_now.ensures.rest)
    (event_comes s s' c.args.start.now _ _ _ _ t _ samples c.args.steps.now (g.H.Shelf.holds c.args.shelf.now) (g.H.Shelf.faults c.args.shelf.now) c.clear.ensures c.new-budget.ensures c.in_ok-delivered.ensures.ok
    refl c.in_ok-delivered.ensures.net refl refl refl refl refl (stage_at c.take_queued.new.self) (sinks t' samples c.take_queued.new.steps (g.H.Shelf.holds c.take_queued.new.shelf) (g.H.Shelf.faults c.take_queued.new.shelf)) (h samples)))
    c.take_queued.ensures.ok

pub returns-clause-err : goal.returns-clause-err
returns-clause-err g c =
    let e = c.args.self.now in
    let t : Option (List ℕ) = g.L.Sink.taken c.args.lines.now in
    let t' : Option (List ℕ) = g.L.Sink.taken c.take_queued.new.lines in
    let s : Stage = stage_with e.file.items c.set_now.new.self e.symbols (base_of e.library e.counts) e.time e.block_end e.fired e.tally [] in
    let s' : Stage = stage_with e.file.items c.deliver-delivered.new.patch c.deliver-delivered.new.symbols (base_of e.library e.counts) e.time e.block_end e.fired e.tally [] in
    on_err_weaker c.take_queued.result
    (λ h samples. subst (λ (r : Stage). Stops (λ x. event x (beginning_of c.args.start.now)) (with_ahead r) (sinks t samples c.args.steps.now (g.H.Shelf.holds c.args.shelf.now) (g.H.Shelf.faults c.args.shelf.now)) (sinks t' samples c.take_queued.new.steps (g.H.Shelf.holds c.take_queued.new.shelf) (g.H.Shelf.faults c.take_queued.new.shelf)))
    (now_set e.patch c.set_now.new.self e.file.items e.symbols (base_of e.library e.counts) e.time e.block_end e.fired e.tally [] c.set_now.ensures.rest)
    (event_breaks_late s s' c.args.start.now _ _ _ _ t _ samples c.args.steps.now (g.H.Shelf.holds c.args.shelf.now) (g.H.Shelf.faults c.args.shelf.now) c.clear.ensures c.new-budget.ensures c.in_ok-delivered.ensures.ok
    refl c.in_ok-delivered.ensures.net refl refl refl refl refl (sinks t' samples c.take_queued.new.steps (g.H.Shelf.holds c.take_queued.new.shelf) (g.H.Shelf.faults c.take_queued.new.shelf)) (h samples)))
    c.take_queued.ensures.err
