use Rattle.pd_taking.proofs.LoseLemmas.{all_lost}
use Rattle.pd_taking.proofs.LoosenLemmas.{bare_then, loosens_on}
use Rattle.pd_taking.proofs.loosening.loosen.Goals as goal

pub returns-clause-loosens : goal.returns-clause-loosens
returns-clause-loosens g c = loosens_on c.args.patch.now c.loosen_side-left.new.patch c.loosen_side.new.patch c.args.key c.args.steps.now c.loosen_side-left.new.steps c.loosen_side.new.steps
    c.loosen_side-left.ensures.loosens c.loosen_side.ensures.loosens

pub returns-clause-wires : goal.returns-clause-wires
returns-clause-wires g c =
    let p = c.args.patch.now in
    let q = c.loosen_side-left.new.patch in
    let r = c.loosen_side.new.patch in
    let all = loosens_on p q r c.args.key c.args.steps.now c.loosen_side-left.new.steps c.loosen_side.new.steps c.loosen_side-left.ensures.loosens c.loosen_side.ensures.loosens in
    all_lost p.web r.web c.args.key c.requires.meet all.web
    (bare_then q r c.args.key c.loosen_side-left.new.steps c.loosen_side.new.steps c.loosen_side.ensures.loosens c.loosen_side-left.ensures.none c.loosen_side.ensures.none)
