use Rattle.pd_hearing.proofs.BriefLemmas.{heard-map, brief-box}
use Rattle.pd_hearing.proofs.briefs.box_hears.Goals as goal

pub returns-in-Some-clause-heard : goal.returns-in-Some-clause-heard
returns-in-Some-clause-heard c = λ names now le.
    heard-map c.kind_hears.result (λ e. brief-box names c.args.found.now c.in-Some.state c.kind_hears.new.state c.args.inlet _ _ now _ c.in-Some.is e) (c.kind_hears.ensures.heard names now le)
