use Rattle.std.proofs.Common.{sym, ◌∙◌}
use Rattle.pd_play.proofs.MadeLemmas.{done_told, undone_told}
use Rattle.pd_play.proofs.made.tell_made.Goals as goal

pub returns-then-is_done-clause-answer : goal.returns-then-is_done-clause-answer
returns-then-is_done-clause-answer g c =
    done_told _ _ _ _ _ _ _ _ _ _ (sym c.is_done.ensures ∙ c.if-is_done.true) c.summary.ensures c.tell_summary.ensures.answer

pub returns-clause-answer : goal.returns-clause-answer
returns-clause-answer g c = undone_told _ _ _ _ _ _ _ _ _ (sym c.is_done.ensures ∙ c.if-is_done.false) c.tell.ensures.answer
