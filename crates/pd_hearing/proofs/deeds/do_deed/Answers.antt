use Rattle.std.proofs.Common.{sym, ap, ◌∙◌}
use Rattle.pd_kind.specs.declared.messages.Deed.{Deed}
use Rattle.pd_hearing.specs.Worlds.{net_of, kept_of}
use Rattle.pd_hearing.specs.Deeds.{done}
use Rattle.pd_hearing.proofs.deeds.do_deed.Goals as goal

pub returns-in-SetClock-clause-kept : goal.returns-in-SetClock-clause-kept
unfolding done
returns-in-SetClock-clause-kept c = λ names queue.
    c.set_later.ensures.kept names queue ∙ sym (ap (λ (d : Deed). done (net_of c.args.patch.now) c.args.now c.args.node d (kept_of c.args.patch.now names queue)) c.in-SetClock.is)
