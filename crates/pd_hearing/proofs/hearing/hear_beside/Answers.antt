use Rattle.pd_hearing.proofs.WorldLemmas.{heard-reply, net-twice, not-heard, not-some}
use Rattle.pd_hearing.proofs.hearing.hear_beside.Goals as goal

pub returns-then-not-has_state-clause-reply : goal.returns-then-not-has_state-clause-reply
returns-then-not-has_state-clause-reply c =
    not-heard c.args.patch.now c.args.now c.args.node c.args.inlet c.args.selector c.args.symbols.now c.args.atoms.now _
    (not-some _ _ c.has_state.ensures c.if-not-has_state.true) c.say_nothing.ensures

pub returns-clause-reply : goal.returns-clause-reply
returns-clause-reply c =
    heard-reply c.args.patch.now c.take_state-state.new.self c.put_state.new.self c.args.now c.args.node c.args.inlet c.args.selector c.args.symbols.now c.hear_with.new.symbols c.take_state-state.result c.hear_with.new.state c.args.atoms.now _
    c.take_state-state.ensures.state c.take_state-state.ensures.keeps c.take_state-state.ensures.rest c.hear_with.ensures.heard c.put_state.ensures.keeps

pub returns-clause-net : goal.returns-clause-net
returns-clause-net c =
    net-twice c.args.patch.now c.take_state-state.new.self c.put_state.new.self c.args.node _ _ c.take_state-state.ensures.keeps c.take_state-state.ensures.rest c.take_state-state.ensures.clocks
    c.put_state.ensures.keeps c.put_state.ensures.rest c.put_state.ensures.clocks
