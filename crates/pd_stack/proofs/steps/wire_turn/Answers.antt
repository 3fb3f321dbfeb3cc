use Rattle.std.proofs.Common.{Option, subst}
use Rattle.pd_web.specs.declared.web.Hop.{Hop}
use Rattle.pd_hearing.specs.Worlds.{net_of}
use Rattle.pd_stack.specs.Piles.{GoesAlong}
use Rattle.pd_stack.proofs.TurnLemmas.{wire-goes, wire-ends}
use Rattle.pd_stack.proofs.steps.wire_turn.Goals as goal

pub returns-in-Some-clause-tasks : goal.returns-in-Some-clause-tasks
returns-in-Some-clause-tasks c = λ depth selector atoms tasks goes.
    wire-goes (net_of c.args.patch.now) depth selector atoms c.in-Some.hop tasks c.fed_by-place.result c.fan_next-next.result (c.fed_by-place.ensures depth selector atoms) c.fan_next-next.ensures
    (subst (λ (o : Option Hop). GoesAlong (net_of c.args.patch.now) depth selector atoms o tasks) c.in-Some.is goes)

pub returns-in-None-clause-tasks : goal.returns-in-None-clause-tasks
returns-in-None-clause-tasks c = λ depth selector atoms tasks goes.
    wire-ends (net_of c.args.patch.now) depth selector atoms tasks
    (subst (λ (o : Option Hop). GoesAlong (net_of c.args.patch.now) depth selector atoms o tasks) c.in-None.is goes)
