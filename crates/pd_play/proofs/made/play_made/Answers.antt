use Rattle.std.proofs.Common.{ap, Some, refl}
use Rattle.pd_play.specs.Playing.{point_at}
use Rattle.pd_play.specs.declared.status.Status.{Status}
use Rattle.pd_play.proofs.MadeLemmas.{run_causes}
use Rattle.pd_play.proofs.OpenedLemmas.{ends_opened}
use Rattle.pd_play.proofs.PatchLemmas.{script_told, told_short}
use Rattle.pd_play.proofs.made.play_made.Goals as goal

pub returns-clause-causes : goal.returns-clause-causes
returns-clause-causes g c = run_causes _ _ _ _ _ _ _ _ _ _ _ _ c.play_script-status.ensures.causes refl c.tell_made.ensures.counted c.tell_made.ensures.answer

pub returns-clause-lasts : goal.returns-clause-lasts
returns-clause-lasts g c = λ e.
    c.play_script-status.ensures.causes.memory (ap (λ (s : Status). Some s) (told_short _ _ _ _ _ _ c.tell_made.ensures.answer e))

pub returns-clause-plays : goal.returns-clause-plays
returns-clause-plays g c =
    let starts = c.requires.starts in (
      _,
      script_told _ _ _ (point_at c.play_script-status.new.session) _ _ _ _ _ _ _ _ _ _ _
          (ends_opened _ _ _ _ _ _ _ _ _ _ _ _ _ _ starts.rate_is starts.number_is starts.time_is starts.feed_is c.play_script-status.ensures.plays) c.tell_made.ensures.answer,
    )
