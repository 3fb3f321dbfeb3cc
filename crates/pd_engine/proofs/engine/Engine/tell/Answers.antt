use Rattle.std.proofs.Common.{ℕ, Result, sym, ap, ◌∙◌}
use Rattle.pd_io.specs.Stream.{grown}
use Rattle.pd_say.specs.Lines.{refusal_text}
use Rattle.pd_say.specs.declared.refusals.Request.TheVariants as request
use Rattle.pd_say.specs.declared.refusals.Why.{Why}
use Rattle.pd_wiring.specs.declared.refusals.EditRefusal.{EditRefusal}
use Rattle.pd_engine.specs.Edits.{edit_text}
use Rattle.pd_engine.proofs.engine.Engine.tell.Goals as goal

pub returns-in_ok-print_refusal-in-Err-clause-ok : goal.returns-in_ok-print_refusal-in-Err-clause-ok
returns-in_ok-print_refusal-in-Err-clause-ok g c =
    c.in_ok-print_refusal-in-Err.ensures.ok ∙ ap (λ (w : Why). grown (g.L.Sink.taken c.args.lines.now) (refusal_text request.Edit w)) c.why_of.ensures
    ∙ ap (λ (d : Result ℕ EditRefusal). grown (g.L.Sink.taken c.args.lines.now) (edit_text c.args.self.now.patch d)) (sym c.in-Err.is)
