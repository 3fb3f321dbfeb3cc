use Rattle.std.proofs.Common.{◌≡◌, ◌≤◌, ◌+◌, ◌-◌, refl, ◌∙◌, subst, ℕ, zero, suc, length, arith}
use Rattle.std.proofs.lemmas.Option.{slice_get_past}
use Rattle.std.proofs.lemmas.Result.{err_from_is_err_and}
use Rattle.pd_walk.specs.Outcome.{all_loaded}
use Rattle.pd_stage.specs.Events.{Left, edits_of_by}
use Rattle.pd_stage.specs.Leads.{Sinks, sinks}
use Rattle.pd_stage.proofs.LeadLemmas.{leads_begin}
use Rattle.pd_engine.specs.Edits.{left_of}
use Rattle.pd_engine.specs.Stages.{stage_at}
use Rattle.pd_engine.proofs.FollowLemmas.{Way, way_on, way_broke, way_over, way_full}
use Rattle.pd_engine.proofs.engine.Engine.take_queued.Goals as goal

pub loop-i-init : goal.loop-i-init
loop-i-init g c =
    let first : Left = left_of c.args.budget.now c.args.self.now.queue in
    record {
      way = λ samples. leads_begin (λ m. edits_of_by all_loaded first (stage_at c.args.self.now m)) (sinks (g.L.Sink.taken c.args.lines.now) samples c.args.steps.now (g.H.Shelf.holds c.args.shelf.now) (g.H.Shelf.faults c.args.shelf.now));
      asked = c.requires;
      counted = omega arith;
      folder = omega arith;
      kept = refl;
      stays = refl;
    }

pub take_asked-requires-clause-asked : goal.take_asked-requires-clause-asked
take_asked-requires-clause-asked g c = c.loop-i.invariant.asked

pub returns-then-len-i-clause-ok : goal.returns-then-len-i-clause-ok
returns-then-len-i-clause-ok g c =
    let first : Left = left_of c.args.budget.now c.args.self.now.queue in
    let i : ℕ = c.loop-i.i in
    let over : length c.loop-i.self.queue ≤ i = omega arith in
    λ samples.
    let x : Sinks = sinks (g.L.Sink.taken c.args.lines.now) samples c.args.steps.now (g.H.Shelf.holds c.args.shelf.now) (g.H.Shelf.faults c.args.shelf.now) in
    let y : Sinks = sinks (g.L.Sink.taken c.loop-i.lines) samples c.loop-i.steps (g.H.Shelf.holds c.loop-i.shelf) (g.H.Shelf.faults c.loop-i.shelf) in
    way_over first (256 - i) i (left_of c.loop-i.budget c.loop-i.self.queue) (stage_at c.args.self.now) (stage_at c.loop-i.self) x y y (c.loop-i.invariant.way samples)
    (slice_get_past c.loop-i.self.queue i over)

pub returns-in_err-take_asked-clause-err : goal.returns-in_err-take_asked-clause-err
returns-in_err-take_asked-clause-err g c =
    let p = err_from_is_err_and c.from_residual.result c.from_residual.ensures.1 in
    let first : Left = left_of c.args.budget.now c.args.self.now.queue in
    let l : Left = left_of c.loop-i.budget c.loop-i.self.queue in
    let i : ℕ = c.loop-i.i in
    let e : 256 - i ≡ suc (256 - (i + 1)) = omega arith in
    rw p.1
    (λ samples.
    let x : Sinks = sinks (g.L.Sink.taken c.args.lines.now) samples c.args.steps.now (g.H.Shelf.holds c.args.shelf.now) (g.H.Shelf.faults c.args.shelf.now) in
    let y : Sinks = sinks (g.L.Sink.taken c.loop-i.lines) samples c.loop-i.steps (g.H.Shelf.holds c.loop-i.shelf) (g.H.Shelf.faults c.loop-i.shelf) in
    let z : Sinks = sinks (g.L.Sink.taken c.take_asked.new.lines) samples c.take_asked.new.steps (g.H.Shelf.holds c.take_asked.new.shelf) (g.H.Shelf.faults c.take_asked.new.shelf) in
    way_broke first (256 - (i + 1)) i l (stage_at c.args.self.now) (stage_at c.loop-i.self) x y z
    (subst (λ (n : ℕ). Way first n i l (stage_at c.args.self.now) (stage_at c.loop-i.self) x y) e (c.loop-i.invariant.way samples)) (c.in_err-take_asked.ensures.err samples))

pub loop-i-preserved : goal.loop-i-preserved
loop-i-preserved g c =
    let first : Left = left_of c.args.budget.now c.args.self.now.queue in
    let l : Left = left_of c.loop-i.budget c.loop-i.self.queue in
    let i : ℕ = c.loop-i.i in
    let e : 256 - i ≡ suc (256 - (i + 1)) = omega arith in
    record {
      way = λ samples.
          let x : Sinks = sinks (g.L.Sink.taken c.args.lines.now) samples c.args.steps.now (g.H.Shelf.holds c.args.shelf.now) (g.H.Shelf.faults c.args.shelf.now) in
          let y : Sinks = sinks (g.L.Sink.taken c.loop-i.lines) samples c.loop-i.steps (g.H.Shelf.holds c.loop-i.shelf) (g.H.Shelf.faults c.loop-i.shelf) in
          let z : Sinks = sinks (g.L.Sink.taken c.take_asked.new.lines) samples c.take_asked.new.steps (g.H.Shelf.holds c.take_asked.new.shelf) (g.H.Shelf.faults c.take_asked.new.shelf) in
          way_on first (256 - (i + 1)) i l (stage_at c.args.self.now) (stage_at c.loop-i.self) x y z (left_of c.take_asked.new.budget c.take_asked.new.self.queue) (stage_at c.take_asked.new.self)
          (subst (λ (n : ℕ). Way first n i l (stage_at c.args.self.now) (stage_at c.loop-i.self) x y) e (c.loop-i.invariant.way samples)) (c.in_ok-take_asked.ensures.ok samples);
      asked = c.in_ok-take_asked.ensures.asked;
      counted = omega arith;
      folder = omega arith;
      kept = c.take_asked.ensures.kept ∙ c.loop-i.invariant.kept;
      stays = c.take_asked.ensures.stays ∙ c.loop-i.invariant.stays;
    }

pub returns-clause-ok : goal.returns-clause-ok
returns-clause-ok g c =
    let first : Left = left_of c.args.budget.now c.args.self.now.queue in
    let l : Left = left_of c.loop-i.budget c.loop-i.self.queue in
    let i : ℕ = c.loop-i.i in
    let e : 256 - i ≡ zero = omega arith in
    λ samples.
    let x : Sinks = sinks (g.L.Sink.taken c.args.lines.now) samples c.args.steps.now (g.H.Shelf.holds c.args.shelf.now) (g.H.Shelf.faults c.args.shelf.now) in
    let y : Sinks = sinks (g.L.Sink.taken c.loop-i.lines) samples c.loop-i.steps (g.H.Shelf.holds c.loop-i.shelf) (g.H.Shelf.faults c.loop-i.shelf) in
    way_full first i l (stage_at c.args.self.now) (stage_at c.loop-i.self) x y (subst (λ (n : ℕ). Way first n i l (stage_at c.args.self.now) (stage_at c.loop-i.self) x y) e (c.loop-i.invariant.way samples))
