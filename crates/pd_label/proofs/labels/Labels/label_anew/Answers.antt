use Rattle.std.proofs.Common.{◌+◌, ℕ, List, get_or, sym, subst, arith}
use Rattle.std.proofs.lemmas.Option.{slice_get-get_or}
use Rattle.pd_label.proofs.LabelLemmas.{Labelled, labelled_next, labelled_all, some_step}
use Rattle.pd_label.proofs.labels.Labels.label_anew.Goals as goal

pub loop-number-preserved : goal.loop-number-preserved
loop-number-preserved c =
    let ks = c.args.keys.now in
    let n = c.loop-number.number in
    subst (λ (y : List ℕ). Labelled c.args.self.now y ks c.min-step.result (n + 1)) (sym c.set.ensures)
    (labelled_next c.args.self.now c.loop-number.self ks c.min-step.result n (get_or ks n 0) (slice_get-get_or ks n 0 c.loop-number-test.true) c.loop-number.invariant)

pub returns-clause-rise : goal.returns-clause-rise
returns-clause-rise c =
    labelled_all c.args.self.now c.loop-number.self c.args.keys.now c.min-step.result c.loop-number.number
    (some_step c.args.keys.now c.min-step.result (omega arith) c.min-step.ensures) c.loop-number-test.false c.loop-number.invariant

pub returns-clause-others : goal.returns-clause-others
returns-clause-others c = c.loop-number.invariant.away

pub returns-clause-length : goal.returns-clause-length
returns-clause-length c = c.loop-number.invariant.long
