use Rattle.pd_stage.specs.Choices.{base_of}
use Rattle.std.proofs.Common.{refl, ap, [], subst, ℕ, List, Option}
use Rattle.std.proofs.lemmas.Result.{on_ok_weaker, on_err_weaker}
use Rattle.pd_hearing.specs.Worlds.{net_of, kept_of}
use Rattle.pd_walk.specs.Outcome.{world}
use Rattle.pd_stage.specs.Stages.{Stage, with_ahead}
use Rattle.pd_stage.specs.Events.{Loading}
use Rattle.pd_stage.specs.Leads.{sinks}
use Rattle.pd_engine.specs.Edits.{left_of, IsLoadedSo, IsLoadedPart}
use Rattle.pd_engine.proofs.ClockLemmas.{now_set, stage_with}
use Rattle.pd_engine.proofs.EventLemmas.{loads_lead, loads_break}
use Rattle.pd_engine.proofs.AskedLemmas.{left_asked}
use Rattle.pd_engine.proofs.RewireLemmas.{IsKept, now_kept, net_kept, found_more}
use Rattle.pd_engine.proofs.engine.Engine.load_made.Goals as goal

pub invariant_of-self : goal.invariant_of-self
invariant_of-self g c =
    let e = c.args.self.now in
    let k : IsKept c.set_now.new.self e.counts = now_kept e.patch c.set_now.new.self e.counts c.set_now.ensures.rest (record { puts = e.puts; meet = e.meet; counted = e.counted; zero = e.zero }) in
    let l : IsKept c.deliver-loaded.new.patch e.counts = net_kept c.set_now.new.self c.deliver-loaded.new.patch e.counts c.deliver-loaded.ensures.net k in
    record { puts = l.puts; meet = l.meet; counted = l.counted; within = e.within; zero = l.zero; found = found_more c.args.self.now.symbols c.deliver-loaded.new.symbols e.library c.deliver-loaded.ensures.extends c.len-before.ensures.table c.len-after.ensures.table e.found }

pub returns-clause-ok : goal.returns-clause-ok
returns-clause-ok g c =
    let e = c.args.self.now in
    let t : Option (List ℕ) = g.L.Sink.taken c.args.lines.now in
    let t' : Option (List ℕ) = g.L.Sink.taken c.deliver-loaded.new.lines in
    let l = left_of c.args.budget.now e.queue in
    let l' = left_of c.deliver-loaded.new.budget c.deliver-loaded.new.queue in
    let s : Stage = stage_with e.file.items c.set_now.new.self e.symbols (base_of e.library e.counts) e.time e.block_end e.fired e.tally [] in
    let s' : Stage = stage_with e.file.items c.deliver-loaded.new.patch c.deliver-loaded.new.symbols (base_of e.library e.counts) e.time e.block_end e.fired e.tally [] in
    on_ok_weaker c.deliver-loaded.result
    (λ h samples looks held faults. subst (λ (r : Stage). IsLoadedSo e.loads.items l l' (with_ahead r) (with_ahead s') (sinks t samples looks held faults) (sinks t' samples looks held faults))
    (now_set e.patch c.set_now.new.self e.file.items e.symbols (base_of e.library e.counts) e.time e.block_end e.fired e.tally [] c.set_now.ensures.rest)
    (loads_lead s s' _ e.loads.items (ap (λ (b : List ℕ). Loading b) c.as_slice-boxes.ensures.value) _ _ _ _ t t' samples looks held faults h refl c.deliver-loaded.ensures.net refl refl refl refl refl))
    c.deliver-loaded.ensures.ok

pub returns-clause-err : goal.returns-clause-err
returns-clause-err g c =
    let e = c.args.self.now in
    let t : Option (List ℕ) = g.L.Sink.taken c.args.lines.now in
    let t' : Option (List ℕ) = g.L.Sink.taken c.deliver-loaded.new.lines in
    let l = left_of c.args.budget.now e.queue in
    let s : Stage = stage_with e.file.items c.set_now.new.self e.symbols (base_of e.library e.counts) e.time e.block_end e.fired e.tally [] in
    on_err_weaker c.deliver-loaded.result
    (λ h samples looks held faults. subst (λ (r : Stage). IsLoadedPart e.loads.items l (with_ahead r) (sinks t samples looks held faults) (sinks t' samples looks held faults))
    (now_set e.patch c.set_now.new.self e.file.items e.symbols (base_of e.library e.counts) e.time e.block_end e.fired e.tally [] c.set_now.ensures.rest)
    (loads_break s s _ e.loads.items (ap (λ (b : List ℕ). Loading b) c.as_slice-boxes.ensures.value) _ [] _ c.args.budget.now t t' samples looks held faults h))
    c.deliver-loaded.ensures.err

pub returns-clause-asked : goal.returns-clause-asked
returns-clause-asked g c =
    let e = c.args.self.now in
    on_ok_weaker c.deliver-loaded.result
    (λ h. left_asked (net_of c.set_now.new.self) e.time (world (kept_of c.set_now.new.self e.symbols e.queue) c.args.budget.now []) _
    (kept_of c.deliver-loaded.new.patch c.deliver-loaded.new.symbols c.deliver-loaded.new.queue) c.requires h.kept_is)
    c.deliver-loaded.ensures.ok
