use Rattle.std.proofs.Common.{arith}
use Rattle.pd_taking.proofs.LoosenLemmas.{loosens_none, loosens_on, none_at_all, none_more}
use Rattle.pd_taking.proofs.loosening.loosen_side.Goals as goal

pub loop-port-init : goal.loop-port-init
loop-port-init g c = record { loosens = loosens_none c.args.patch.now c.args.key c.args.steps.now c.requires.runs c.requires.meet; counted = c.requires.counted; none = λ i l. absurd (omega (arith, l)) }

pub loop-port-preserved : goal.loop-port-preserved
loop-port-preserved g c =
    let p = c.args.patch.now in
    let q = c.loop-port.patch in
    let r = c.loosen_port-left.new.patch in
    let none = none_more q r c.args.side c.args.key c.loop-port.steps c.loosen_port-left.new.steps c.loop-port.port c.loosen_port-left.ensures.loosens c.loop-port.invariant.none c.loosen_port-left.ensures.none in
    record {
      loosens = loosens_on p q r c.args.key c.args.steps.now c.loop-port.steps c.loosen_port-left.new.steps c.loop-port.invariant.loosens c.loosen_port-left.ensures.loosens;
      counted = c.loosen_port-left.ensures.counted;
      none = λ i l. none i (omega (arith, l));
    }

pub returns-clause-none : goal.returns-clause-none
returns-clause-none g c =
    let past = c.loop-port-test.false in
    none_at_all c.args.patch.now c.loop-port.patch c.args.side c.args.key c.args.steps.now c.loop-port.steps c.ports_at-port-end.result c.loop-port.port c.loop-port.invariant.loosens c.ports_at-port-end.ensures (omega (arith, past)) c.loop-port.invariant.none
