use Rattle.std.proofs.Common.{sym, arith, ap, ◌∙◌, ◌++◌, ◌-◌, ◌+◌, ◌/◌, append_assoc, take, drop, length}
use Rattle.pd_doc.specs.Lines.{run_text, runs_text}
use Rattle.pd_doc.proofs.LineLemmas.{run_step}
use Rattle.pd_doc.proofs.lines.push_values.Goals as goal

pub loop-from-preserved : goal.loop-from-preserved
loop-from-preserved c =
    let from = c.loop-from.from in
    let vs = c.args.values.now in
    let e = c.min-end.result in
    let names = c.args.symbols.now in
    let step = run_step names from e vs (omega arith) (omega arith) in
    record {
      within = omega arith;
      text =
          rw c.in_ok-push_run.ensures
          (append_assoc c.loop-from.out.items (run_text names from (take (e - from) (drop from vs))) (runs_text names ((length vs - e + 999) / 1000) e (drop e vs))
          ∙ ap (λ l. c.loop-from.out.items ++ l) (sym step) ∙ c.loop-from.invariant.text);
    }
