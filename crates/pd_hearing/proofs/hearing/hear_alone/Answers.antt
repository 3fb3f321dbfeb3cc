use Rattle.std.proofs.Common.{◌∙◌, sym, ap}
use Rattle.std.specs.Option.{option_copied_mut}
use Rattle.pd_grove.specs.Telling.{state_in}
use Rattle.pd_hearing.proofs.WorldLemmas.{heard-lent, not-heard}
use Rattle.pd_hearing.proofs.hearing.hear_alone.Goals as goal

pub returns-in-Some-clause-reply : goal.returns-in-Some-clause-reply
returns-in-Some-clause-reply c =
    heard-lent c.args.patch.now c.args.now c.args.node c.args.inlet c.args.selector c.args.symbols.now c.hear_box.new.symbols c.in-Some.found.now c.hear_box.new.found c.args.atoms.now _
    (sym c.node_mut.ensures.value ∙ ap option_copied_mut c.in-Some.is) c.requires c.hear_box.ensures.heard

pub returns-in-None-clause-reply : goal.returns-in-None-clause-reply
returns-in-None-clause-reply c =
    not-heard c.args.patch.now c.args.now c.args.node c.args.inlet c.args.selector c.args.symbols.now c.args.atoms.now _
    (ap state_in (sym c.node_mut.ensures.value ∙ ap option_copied_mut c.in-None.is)) c.say_nothing.ensures
