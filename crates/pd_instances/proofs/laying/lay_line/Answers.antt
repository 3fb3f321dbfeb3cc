use Rattle.std.proofs.Common.{length, sym, ◌∙◌}
use Rattle.std.proofs.lemmas.Bool.{false≢true}
use Rattle.pd_web.specs.Hops.{feed_keys}
use Rattle.pd_web.proofs.ChangeLemmas.{stands_last}
use Rattle.pd_instances.proofs.laying.lay_line.Goals as goal

pub join-requires-clause-next : goal.join-requires-clause-next
join-requires-clause-next c =
    let keys = feed_keys c.args.web.now c.args.line.sink c.args.line.inlet in
    (length keys, stands_last keys)

pub returns-then-not-signal-clause-joins : goal.returns-then-not-signal-clause-joins
returns-then-not-signal-clause-joins c =
    let keys = feed_keys c.args.web.now c.args.line.sink c.args.line.inlet in
    (c.join.result, c.join.ensures (length keys) (stands_last keys))

pub returns-then-not-signal-clause-signal : goal.returns-then-not-signal-clause-signal
returns-then-not-signal-clause-signal c = λ t. absurd (false≢true (sym c.if-not-signal.true ∙ c.is_signal_line-signal.ensures ∙ t))

pub returns-clause-joins : goal.returns-clause-joins
returns-clause-joins c =
    let keys = feed_keys c.args.web.now c.args.line.sink c.args.line.inlet in
    (c.join.result, c.join.ensures (length keys) (stands_last keys))

pub returns-clause-signal : goal.returns-clause-signal
returns-clause-signal c = λ t. record {
  more = c.add.ensures.wires;
  from = c.add.ensures.spare_from;
  into = c.add.ensures.spare_into;
  others_from = c.add.ensures.others_from;
  others_into = c.add.ensures.others_into;
}

pub returns-clause-control : goal.returns-clause-control
returns-clause-control c = λ f. absurd (false≢true (sym f ∙ sym c.is_signal_line-signal.ensures ∙ c.if-not-signal.false))
