use Rattle.std.proofs.Common.{ℕ, List, ◌∙◌, subst, OnOk, OnErr}
use Rattle.pd_say.specs.Gathering.{Says, Fails}
use Rattle.pd_say.specs.Lines.{text_of}
use Rattle.pd_stage.specs.Lines.{unfit_text}
use Rattle.pd_engine.proofs.remarks.say_unfit.Goals as goal

pub returns-clause-ok : goal.returns-clause-ok
unfolding text_of
returns-clause-ok g c =
    subst
    (λ (path : List ℕ). OnOk c.say.result (Says (g.L.Sink.taken c.args.lines.now) c.args.held.now.items (g.L.Sink.taken c.say.new.sink) c.say.new.held.items (unfit_text path c.args.wire)))
    (c.as_slice.ensures.value ∙ c.path_of-path.ensures) c.say.ensures.ok

pub returns-clause-err : goal.returns-clause-err
unfolding text_of
returns-clause-err g c =
    subst (λ (path : List ℕ). OnErr c.say.result (Fails (g.L.Sink.taken c.args.lines.now) c.args.held.now.items (g.L.Sink.taken c.say.new.sink) (unfit_text path c.args.wire)))
    (c.as_slice.ensures.value ∙ c.path_of-path.ensures) c.say.ensures.err
