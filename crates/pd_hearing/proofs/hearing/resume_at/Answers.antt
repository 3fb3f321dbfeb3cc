use Rattle.std.proofs.Common.{◌∙◌, sym, ap, []}
use Rattle.std.specs.Option.{option_copied_mut}
use Rattle.pd_grove.specs.Telling.{state_in}
use Rattle.pd_hearing.proofs.WorldLemmas.{resumed-lent, replied-net, not-resumed}
use Rattle.pd_hearing.proofs.hearing.resume_at.Goals as goal

pub returns-in-Some-clause-reply : goal.returns-in-Some-clause-reply
returns-in-Some-clause-reply c = λ names.
    resumed-lent c.args.patch.now c.args.node names c.in-Some.found.now c.resume_box.new.found _
    (sym c.node_mut.ensures.value ∙ ap option_copied_mut c.in-Some.is) (c.resume_box.ensures names)

pub returns-in-None-clause-reply : goal.returns-in-None-clause-reply
returns-in-None-clause-reply c = λ names.
    not-resumed c.args.patch.now c.args.node names _
    (ap state_in (sym c.node_mut.ensures.value ∙ ap option_copied_mut c.in-None.is)) c.say_nothing.ensures

pub returns-in-Some-clause-net : goal.returns-in-Some-clause-net
returns-in-Some-clause-net c =
    replied-net c.args.patch.now c.args.node c.in-Some.found.now c.resume_box.new.found [] [] _ _
    (sym c.node_mut.ensures.value ∙ ap option_copied_mut c.in-Some.is) (c.resume_box.ensures [])
