use Rattle.pd_hearing.proofs.TableLemmas.{extends-same}
use Rattle.pd_hearing.proofs.HearLemmas.{not-message, some-message, arith-heard, panel-heard, line-heard, other-heard}
use Rattle.pd_hearing.proofs.hearing.hear_kind.Goals as goal

pub returns-then-not-is_message-clause-heard : goal.returns-then-not-is_message-clause-heard
returns-then-not-is_message-clause-heard c =
    not-message c.args.symbols.now c.args.kind.now c.args.state.now c.args.inlet c.args.selector c.args.atoms.now _ _ _ _ c.is_message.ensures.value c.if-not-is_message.true c.say_nothing.ensures

pub returns-in-Arith-clause-heard : goal.returns-in-Arith-clause-heard
returns-in-Arith-clause-heard c =
    some-message c.args.symbols.now c.args.kind.now c.args.state.now c.args.inlet c.args.selector c.args.atoms.now _ _ _ _ c.is_message.ensures.value c.if-not-is_message.false
    (arith-heard c.args.symbols.now c.args.kind.now c.args.state.now c.args.inlet c.args.selector c.args.atoms.now _ _ c.in-Arith.field-0 _ _ _ c.in-Arith.is c.hear.ensures.names c.hear.ensures.heard)

pub returns-in-Panel-clause-heard : goal.returns-in-Panel-clause-heard
returns-in-Panel-clause-heard c =
    some-message c.args.symbols.now c.args.kind.now c.args.state.now c.args.inlet c.args.selector c.args.atoms.now _ _ _ _ c.is_message.ensures.value c.if-not-is_message.false
    (panel-heard c.args.symbols.now c.args.kind.now c.args.state.now c.args.inlet c.args.selector c.args.atoms.now _ _ c.in-Panel.field-0 _ _ _ c.in-Panel.is c.hear-in-Panel.ensures.names c.hear-in-Panel.ensures.heard)

pub returns-in-Vline-clause-heard : goal.returns-in-Vline-clause-heard
returns-in-Vline-clause-heard c =
    some-message c.args.symbols.now c.args.kind.now c.args.state.now c.args.inlet c.args.selector c.args.atoms.now _ _ _ _ c.is_message.ensures.value c.if-not-is_message.false
    (line-heard c.args.symbols.now c.args.kind.now c.args.state.now c.args.inlet c.args.selector c.args.atoms.now _ _ _ c.in-Vline.is c.hear_vline.ensures.heard)

pub returns-in_default-clause-heard : goal.returns-in_default-clause-heard
returns-in_default-clause-heard c =
    some-message c.args.symbols.now c.args.kind.now c.args.state.now c.args.inlet c.args.selector c.args.atoms.now _ _ _ _ c.is_message.ensures.value c.if-not-is_message.false
    (other-heard c.args.symbols.now c.args.kind.now c.args.state.now c.args.inlet c.args.selector c.args.atoms.now _ _ _ c.in_default.not-Arith c.in_default.not-Panel c.in_default.not-Vline c.hear_other.ensures.heard)

pub returns-in-Arith-clause-extends : goal.returns-in-Arith-clause-extends
returns-in-Arith-clause-extends c = extends-same c.args.symbols.now _ c.hear.ensures.names

pub returns-in-Panel-clause-extends : goal.returns-in-Panel-clause-extends
returns-in-Panel-clause-extends c = extends-same c.args.symbols.now _ c.hear-in-Panel.ensures.names
