use Rattle.pd_stage.specs.Choices.{base_of}
use Rattle.std.proofs.Common.{◌≡◌, ◌+◌, refl, ◌∙◌, ap, [], arith}
use Rattle.std.specs.Prelude.{None}
use Rattle.std.proofs.lemmas.Result.{err_from_is_err_and}
use Rattle.pd_clock.specs.Queue.{ClockList}
use Rattle.pd_engine.specs.Stages.{stage_at}
use Rattle.pd_stage.specs.Times.{clocks_fire}
use Rattle.pd_stage.proofs.LeadLemmas.{leads_begin}
use Rattle.pd_engine.proofs.ClockLemmas.{next_is, left_is, none_is, fires_none, fires_no_more, clocks_taken, clock_goes_on, clock_breaks, clocks_end, fired_more}
use Rattle.pd_engine.proofs.RewireLemmas.{IsKept, clock_kept}
use Rattle.pd_engine.proofs.engine.Engine.fire_below.Goals as goal

pub invariant_of-self : goal.invariant_of-self
invariant_of-self g c =
    let e = c.loop-self.self in
    let k : IsKept c.next_clock.new.self e.counts =
    clock_kept e.patch c.next_clock.new.self e.counts c.next_clock.ensures.tree c.next_clock.ensures.rest (record { puts = e.puts; meet = e.meet; counted = e.counted; zero = e.zero }) in
    record { puts = k.puts; meet = k.meet; counted = k.counted; within = e.within; zero = k.zero; found = e.found }

pub loop-self-init : goal.loop-self-init
loop-self-init g c = record {
  way = λ samples. leads_begin (λ m. clocks_fire c.args.limit (stage_at c.args.self.now m)) _;
  counted = omega arith;
  folder = omega arith;
  kept = refl;
  stays = refl;
}

pub returns-in_default-clause-ok : goal.returns-in_default-clause-ok
returns-in_default-clause-ok g c = λ samples.
    let e = c.loop-self.self in
    clocks_end c.args.limit _ _ (stage_at e) _ _ _
    (λ m. clocks_taken e.patch c.next_clock.new.self e.file.items e.symbols (base_of e.library e.counts) e.time e.block_end e.fired e.tally m e.patch.timers.clocks.clocks c.next_clock.ensures.tree c.next_clock.ensures.rest c.next_clock.ensures.end
    (ap (λ (q : ClockList). q.clocks) c.in_default.ensures.none.0))
    (λ m. fires_none _ c.args.limit (stage_at e m) (none_is c.args.limit e.patch.timers.clocks.clocks c.in_default.ensures.none.1))
    (c.loop-self.invariant.way samples)

pub loop-self-smaller : goal.loop-self-smaller
loop-self-smaller g c =
    let e = c.loop-self.self in
    let more : c.fire.new.self.fired ≡ e.fired + 1 = fired_more (stage_at e []) _ (record { time = _; owner = _ }) (stage_at c.fire.new.self) _ _
    (clocks_taken e.patch c.next_clock.new.self e.file.items e.symbols (base_of e.library e.counts) e.time e.block_end e.fired e.tally [] _ c.next_clock.ensures.tree c.next_clock.ensures.rest c.next_clock.ensures.end
    (left_is e.patch.timers.clocks.clocks _ (record { time = _; owner = _ }) c.in-Some.ensures.some.1)) (c.in_ok-fire.ensures.ok None) in
    omega arith

pub loop-self-preserved : goal.loop-self-preserved
loop-self-preserved g c =
    let e = c.loop-self.self in
    let more : c.fire.new.self.fired ≡ e.fired + 1 = fired_more (stage_at e []) _ (record { time = _; owner = _ }) (stage_at c.fire.new.self) _ _
    (clocks_taken e.patch c.next_clock.new.self e.file.items e.symbols (base_of e.library e.counts) e.time e.block_end e.fired e.tally [] _ c.next_clock.ensures.tree c.next_clock.ensures.rest c.next_clock.ensures.end
    (left_is e.patch.timers.clocks.clocks _ (record { time = _; owner = _ }) c.in-Some.ensures.some.1)) (c.in_ok-fire.ensures.ok None) in
    record {
      way = λ samples. clock_goes_on c.args.limit _ (stage_at e []) _ (record { time = _; owner = _ }) _ _ _ (omega arith)
          (next_is c.args.limit e.patch.timers.clocks.clocks _ (record { time = _; owner = _ }) c.in-Some.ensures.some.0 c.in-Some.ensures.some.1)
          (clocks_taken e.patch c.next_clock.new.self e.file.items e.symbols (base_of e.library e.counts) e.time e.block_end e.fired e.tally [] _ c.next_clock.ensures.tree c.next_clock.ensures.rest c.next_clock.ensures.end
          (left_is e.patch.timers.clocks.clocks _ (record { time = _; owner = _ }) c.in-Some.ensures.some.1))
          (c.loop-self.invariant.way samples) (stage_at c.fire.new.self) c.fire.new.self.fired more (c.in_ok-fire.ensures.ok samples);
      counted = omega arith;
      folder = omega arith;
      kept = c.fire.ensures.kept ∙ c.loop-self.invariant.kept;
      stays = c.fire.ensures.stays ∙ c.loop-self.invariant.stays;
    }

pub returns-in_err-fire-clause-err : goal.returns-in_err-fire-clause-err
returns-in_err-fire-clause-err g c =
    let e = c.loop-self.self in
    let p = err_from_is_err_and c.from_residual.result c.from_residual.ensures.1 in
    rw p.1
    (λ samples. clock_breaks c.args.limit _ (stage_at e []) _ (record { time = _; owner = _ }) _ _ _ (omega arith)
    (next_is c.args.limit e.patch.timers.clocks.clocks _ (record { time = _; owner = _ }) c.in-Some.ensures.some.0 c.in-Some.ensures.some.1)
    (clocks_taken e.patch c.next_clock.new.self e.file.items e.symbols (base_of e.library e.counts) e.time e.block_end e.fired e.tally [] _ c.next_clock.ensures.tree c.next_clock.ensures.rest c.next_clock.ensures.end
    (left_is e.patch.timers.clocks.clocks _ (record { time = _; owner = _ }) c.in-Some.ensures.some.1))
    (c.loop-self.invariant.way samples) (c.in_err-fire.ensures.err samples))

pub returns-clause-ok : goal.returns-clause-ok
returns-clause-ok g c = λ samples.
    clocks_end c.args.limit _ _ (stage_at c.loop-self.self) _ _ _ (λ m. refl) (λ m. fires_no_more _ c.args.limit (stage_at c.loop-self.self m) (omega arith))
    (c.loop-self.invariant.way samples)
