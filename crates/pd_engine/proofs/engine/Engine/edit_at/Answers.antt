use Rattle.std.proofs.Common.{refl, sym, subst, Option, ℕ}
use Rattle.std.proofs.lemmas.Result.{on_err_weaker}
use Rattle.pd_say.specs.declared.refusals.Why.TheVariants.{NoDocument}
use Rattle.pd_stage.specs.Choices.{Edits}
use Rattle.pd_stage.specs.Leads.{Sinks, sinks}
use Rattle.pd_engine.specs.Edits.{IsAlwaysRefused}
use Rattle.pd_engine.specs.Stages.{stage_at}
use Rattle.pd_engine.proofs.CommandLemmas.{if_ok_weaker}
use Rattle.pd_engine.proofs.FollowLemmas.{alone_so, event_broke_first}
use Rattle.pd_engine.proofs.engine.Engine.edit_at.Goals as goal

pub returns-in-Some-clause-ok : goal.returns-in-Some-clause-ok
returns-in-Some-clause-ok g c =
    let place = c.args.place.now in
    let always : IsAlwaysRefused (Edits place.document place.path c.args.edit.now) NoDocument =
    subst (λ (d : Option ℕ). IsAlwaysRefused (Edits d place.path c.args.edit.now) NoDocument) (sym c.in-Some.is) refl in
    if_ok_weaker c.refuse.result
    (λ o so samples.
    let x : Sinks = sinks (g.L.Sink.taken c.args.lines.now) samples c.args.steps.now (g.H.Shelf.holds c.args.shelf.now) (g.H.Shelf.faults c.args.shelf.now) in
    let y : Sinks = sinks (g.L.Sink.taken c.refuse.new.lines) samples c.args.steps.now (g.H.Shelf.holds c.args.shelf.now) (g.H.Shelf.faults c.args.shelf.now) in
    alone_so (Edits place.document place.path c.args.edit.now) o (stage_at c.args.self.now) (stage_at c.refuse.new.self) x y
    (so (Edits place.document place.path c.args.edit.now) refl always samples c.args.steps.now (g.H.Shelf.holds c.args.shelf.now) (g.H.Shelf.faults c.args.shelf.now))) c.refuse.ensures.ok

pub returns-in-Some-clause-err : goal.returns-in-Some-clause-err
returns-in-Some-clause-err g c =
    let place = c.args.place.now in
    let always : IsAlwaysRefused (Edits place.document place.path c.args.edit.now) NoDocument =
    subst (λ (d : Option ℕ). IsAlwaysRefused (Edits d place.path c.args.edit.now) NoDocument) (sym c.in-Some.is) refl in
    on_err_weaker c.refuse.result
    (λ so samples.
    let x : Sinks = sinks (g.L.Sink.taken c.args.lines.now) samples c.args.steps.now (g.H.Shelf.holds c.args.shelf.now) (g.H.Shelf.faults c.args.shelf.now) in
    let y : Sinks = sinks (g.L.Sink.taken c.refuse.new.lines) samples c.args.steps.now (g.H.Shelf.holds c.args.shelf.now) (g.H.Shelf.faults c.args.shelf.now) in
    event_broke_first (Edits place.document place.path c.args.edit.now) (stage_at c.args.self.now) x y
    (so (Edits place.document place.path c.args.edit.now) refl always c.args.steps.now samples (g.H.Shelf.holds c.args.shelf.now) (g.H.Shelf.faults c.args.shelf.now))) c.refuse.ensures.err
