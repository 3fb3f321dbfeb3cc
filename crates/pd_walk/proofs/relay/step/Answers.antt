use Rattle.std.proofs.Common.{◌+◌, ℕ, ◌∙◌, ap}
use Rattle.pd_hearing.specs.declared.briefs.Brief.{Brief}
use Rattle.pd_hearing.specs.Worlds.{net_of, states_of}
use Rattle.pd_walk.specs.Relays.{saying_at}
use Rattle.pd_walk.proofs.RelayLemmas.{stepped-on}
use Rattle.pd_walk.proofs.relay.step.Goals as goal

pub returns-in-Unheard-clause-stepped : goal.returns-in-Unheard-clause-stepped
returns-in-Unheard-clause-stepped c = λ depth.
    let before = c.in-Unheard.ensures.stepped depth in
    stepped-on (net_of c.args.patch.now) (net_of c.step_at_hand.new.patch) (states_of c.args.patch.now) (states_of c.step_at_hand.new.patch) (states_of c.step_apart.new.patch)
    (saying_at depth c.args.node.now c.args.message.now) (saying_at depth c.step_at_hand.new.node c.step_at_hand.new.message)
    (saying_at (depth + 1) c.step_apart.new.node c.step_apart.new.message) c.step_apart.result
    c.step_at_hand.ensures.net before.1.1
    (ap (λ (k : ℕ). saying_at depth k c.step_at_hand.new.message) before.0 ∙ ap (λ (m : Brief). saying_at depth c.args.node.now m) before.1.0)
    (c.step_apart.ensures.stepped depth)
