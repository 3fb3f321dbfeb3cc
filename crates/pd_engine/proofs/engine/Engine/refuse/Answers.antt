use Rattle.std.proofs.Common.{[], subst, ap, ◌∙◌}
use Rattle.std.proofs.lemmas.Result.{err_from_is_err_and}
use Rattle.pd_io.specs.Stream.{grown, TookPart}
use Rattle.pd_say.specs.Lines.{refusal_text}
use Rattle.pd_say.specs.declared.refusals.Request.{Request}
use Rattle.pd_engine.specs.Stages.{stage_at}
use Rattle.pd_engine.proofs.MakingLemmas.{always_told, told_so, told_part}
use Rattle.pd_engine.proofs.engine.Engine.refuse.Goals as goal

pub returns-in_err-print_refusal-clause-err : goal.returns-in_err-print_refusal-clause-err
returns-in_err-print_refusal-clause-err g c =
    let p = err_from_is_err_and c.from_residual.result c.from_residual.ensures.1 in
    rw p.1
    (λ wanted of always looks samples held faults.
    told_part wanted (stage_at c.args.self.now []) (stage_at c.args.self.now) _ c.args.outcome (g.L.Sink.taken c.args.lines.now) (g.L.Sink.taken c.print_refusal.new.lines) samples looks looks held faults
    (always_told wanted c.args.why (stage_at c.args.self.now []) c.args.outcome looks always c.requires held)
    (subst (λ (r : Request). TookPart (g.L.Sink.taken c.args.lines.now) (g.L.Sink.taken c.print_refusal.new.lines) (refusal_text r c.args.why)) of c.in_err-print_refusal.ensures.err))

pub returns-clause-ok : goal.returns-clause-ok
returns-clause-ok g c = λ wanted of always samples looks held faults.
    told_so wanted (stage_at c.args.self.now []) (stage_at c.args.self.now) _ c.args.outcome (g.L.Sink.taken c.args.lines.now) (g.L.Sink.taken c.print_refusal.new.lines) samples looks looks held faults
    (always_told wanted c.args.why (stage_at c.args.self.now []) c.args.outcome looks always c.requires held)
    (c.in_ok-print_refusal.ensures.ok ∙ ap (λ (r : Request). grown (g.L.Sink.taken c.args.lines.now) (refusal_text r c.args.why)) of)
