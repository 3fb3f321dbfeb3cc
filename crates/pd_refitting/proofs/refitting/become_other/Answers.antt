use Rattle.std.proofs.Common.{sym, ap, ◌∙◌}
use Rattle.std.proofs.lemmas.Option.{none-some}
use Rattle.std.specs.Option.{option_copied_mut}
use Rattle.pd_refitting.proofs.WriteLemmas.{written}
use Rattle.pd_refitting.proofs.refitting.become_other.Goals as goal

pub returns-in-Some : goal.returns-in-Some
returns-in-Some c =
    written c.args.grove.now c.args.key c.in-Some.found.now c.make_other.new.found c.args.seed (sym c.node_mut.ensures.value ∙ ap option_copied_mut c.in-Some.is) c.make_other.ensures

pub returns-in-None : goal.returns-in-None
returns-in-None c = λ n at bare. absurd (none-some n (sym (sym c.node_mut.ensures.value ∙ ap option_copied_mut c.in-None.is) ∙ at))
