use Rattle.std.proofs.Common.{refl, sym, subst, Option, ℕ}
use Rattle.pd_say.specs.declared.refusals.Why.TheVariants.{NoDocument}
use Rattle.pd_stage.specs.Choices.{Saves}
use Rattle.pd_engine.specs.Edits.{IsAlwaysRefused}
use Rattle.pd_engine.proofs.CommandLemmas.{if_ok_weaker}
use Rattle.pd_engine.proofs.engine.Engine.save_at.Goals as goal

pub returns-in-Some-clause-ok : goal.returns-in-Some-clause-ok
returns-in-Some-clause-ok g c =
    let always : IsAlwaysRefused (Saves c.args.document) NoDocument = subst (λ (d : Option ℕ). IsAlwaysRefused (Saves d) NoDocument) (sym c.in-Some.is) refl in
    if_ok_weaker c.refuse.result (λ o so samples looks. so (Saves c.args.document) refl always samples looks (g.H.Shelf.holds c.args.shelf.now) (g.H.Shelf.faults c.args.shelf.now)) c.refuse.ensures.ok
