use Rattle.pd_label.proofs.LabelLemmas.{Labelled}
use Rattle.pd_label.proofs.labels.Labels.label_anew.Given as goal

abbrev pub invariant-loop-number : goal.invariant-loop-number
invariant-loop-number l = Labelled l.fn.self l.self l.keys l.step l.number
