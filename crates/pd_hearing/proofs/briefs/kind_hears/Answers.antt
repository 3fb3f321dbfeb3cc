use Rattle.pd_hearing.proofs.BriefLemmas.{heard-map, heard-both, brief-arith, brief-glue}
use Rattle.pd_hearing.proofs.briefs.kind_hears.Goals as goal

pub returns-in-Arith-clause-heard : goal.returns-in-Arith-clause-heard
returns-in-Arith-clause-heard c = λ names now le.
    heard-map c.asked_arith_hears.result (λ e. brief-arith names c.args.kind.now c.in-Arith.arith c.args.state.now c.asked_arith_hears.new.state c.args.inlet c.args.message.now _ now le c.in-Arith.is e) c.asked_arith_hears.ensures.heard

pub returns-in-Glue-clause-heard : goal.returns-in-Glue-clause-heard
returns-in-Glue-clause-heard c = λ names now le.
    heard-both c.asked_glue_hears.result (λ small e. brief-glue names c.args.kind.now c.in-Glue.glue c.args.state.now c.asked_glue_hears.new.state c.args.inlet c.args.message.now _ now le c.in-Glue.is small e)
    (c.asked_glue_hears.ensures.small names) (c.asked_glue_hears.ensures.heard names now)
