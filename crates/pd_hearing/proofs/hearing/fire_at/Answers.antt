use Rattle.std.proofs.Common.{subst, Some}
use Rattle.pd_grove.specs.Telling.{Keeps}
use Rattle.pd_hearing.proofs.WorldLemmas.{fired-said, states-back, net-twice, not-fired, not-some}
use Rattle.pd_hearing.proofs.hearing.fire_at.Goals as goal

pub returns-then-not-has_state-clause-said : goal.returns-then-not-has_state-clause-said
returns-then-not-has_state-clause-said c =
    not-fired c.args.patch.now c.args.node _ (not-some _ _ c.has_state.ensures c.if-not-has_state.true) c.say_nothing.ensures

pub returns-clause-said : goal.returns-clause-said
returns-clause-said c =
    fired-said c.args.patch.now c.take_state-state.new.self c.args.node c.take_state-state.result _ c.take_state-state.ensures.state c.take_state-state.ensures.keeps
    c.fire_with.ensures.said

pub returns-clause-states : goal.returns-clause-states
returns-clause-states c =
    states-back c.args.patch.now c.take_state-state.new.self c.put_state.new.self c.args.node c.take_state-state.result c.take_state-state.ensures.state c.take_state-state.ensures.keeps
    (subst (λ s. Keeps c.take_state-state.new.self.grove c.put_state.new.self.grove c.args.node (Some s)) c.fire_with.ensures.state c.put_state.ensures.keeps)

pub returns-clause-net : goal.returns-clause-net
returns-clause-net c =
    net-twice c.args.patch.now c.take_state-state.new.self c.put_state.new.self c.args.node _ _ c.take_state-state.ensures.keeps c.take_state-state.ensures.rest c.take_state-state.ensures.clocks
    c.put_state.ensures.keeps c.put_state.ensures.rest c.put_state.ensures.clocks
