use Rattle.std.proofs.Common.{sym, ◌∙◌}
use Rattle.pd_retyping.proofs.AlikeLemmas.{none_of, not_none}
use Rattle.pd_retyping.proofs.renaming.is_whole.Goals as goal

pub returns-then-is_some-clause-no : goal.returns-then-is_some-clause-no
returns-then-is_some-clause-no c = λ f canvas none. absurd (not_none c.args.fault (sym c.is_some.ensures ∙ c.if-is_some.true) none)

pub returns-clause-canvas : goal.returns-clause-canvas
returns-clause-canvas c = λ t. c.is_canvas.ensures.yes t

pub returns-clause-whole : goal.returns-clause-whole
returns-clause-whole c = λ t. none_of c.args.fault (sym c.is_some.ensures ∙ c.if-is_some.false)

pub returns-clause-no : goal.returns-clause-no
returns-clause-no c = λ f canvas none. c.is_canvas.ensures.no f canvas
