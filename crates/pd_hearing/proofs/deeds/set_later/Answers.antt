use Rattle.std.proofs.Common.{ℕ, ap, ◌∙◌}
use Rattle.pd_clock.specs.declared.times.Rate.{Rate}
use Rattle.pd_hearing.specs.Worlds.{kept_of}
use Rattle.pd_hearing.specs.Deeds.{with_clocks, with_clock, later}
use Rattle.pd_hearing.proofs.WorldLemmas.{clocks-kept, clock-set, clocks-net}
use Rattle.pd_hearing.proofs.deeds.set_later.Goals as goal

pub returns-clause-kept : goal.returns-clause-kept
returns-clause-kept c = λ names queue.
    clocks-kept c.args.patch.now c.set_clock.new.self names queue _ c.set_clock.ensures.tree
    (clock-set _ _ _ _ _ c.set_clock.ensures.set (λ le. ap (λ k. k.clocks) (c.set_clock.ensures.other le)))
    ∙ ap (λ (t : ℕ). with_clocks (kept_of c.args.patch.now names queue) (with_clock c.args.patch.now.timers.end c.args.node t c.args.patch.now.timers.clocks.clocks))
    (c.later-time.ensures ∙ ap (λ (r : Rate). later c.args.now c.args.milliseconds r) c.rate.ensures)

pub returns-clause-net : goal.returns-clause-net
returns-clause-net c = clocks-net c.args.patch.now c.set_clock.new.self c.set_clock.ensures.tree c.set_clock.ensures.rest c.set_clock.ensures.end
