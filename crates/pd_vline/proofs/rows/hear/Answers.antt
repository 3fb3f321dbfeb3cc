use Rattle.std.proofs.Common.{sym, ap, subst}
use Rattle.pd_kind.specs.declared.states.State.{State}
use Rattle.pd_kind.specs.Hearing.{Heard}
use Rattle.pd_vline.specs.Ramps.{IsStanding}
use Rattle.pd_vline.specs.Rows.{heard_list}
use Rattle.pd_vline.proofs.RowLemmas.{heard_stands}
use Rattle.pd_vline.proofs.rows.hear.Goals as goal

pub returns-clause-stands : goal.returns-clause-stands
returns-clause-stands c = λ l h.
    subst (λ (s : State). IsStanding s (heard_list c.args.symbols.now c.args.around.now.now c.args.kind.now c.args.state.now c.args.inlet c.args.message.selector c.args.message.atoms.now l))
    (sym (ap (λ (x : Heard). x.state) c.hear_state.ensures))
    (heard_stands c.args.symbols.now c.args.around.now.now c.args.kind.now c.args.state.now c.args.inlet c.args.message.selector c.args.message.atoms.now l c.requires.open h)
