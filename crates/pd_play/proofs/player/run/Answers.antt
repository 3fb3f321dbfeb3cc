use Rattle.pd_play.proofs.PatchLemmas.{patch_told, told_short}
use Rattle.pd_play.proofs.player.run.Goals as goal

pub returns-clause-plays : goal.returns-clause-plays
returns-clause-plays g c = patch_told _ _ _ _ _ _ _ _ _ _ _ _ _ _ c.play_whole-status.ensures.lines_counted c.play_whole-status.ensures.runs c.tell.ensures.answer

pub returns-clause-short : goal.returns-clause-short
returns-clause-short g c = λ e. c.play_whole-status.ensures.short (told_short _ _ _ _ _ _ c.tell.ensures.answer e)
