use Rattle.std.proofs.Common.{inr, ap, Some}
use Rattle.pd_engine.specs.Stages.{stage_at}
use Rattle.pd_play.specs.Playing.{point_at}
use Rattle.pd_play.specs.declared.status.Status.{Status}
use Rattle.pd_play.proofs.MadeLemmas.{played_causes}
use Rattle.pd_play.proofs.OpenedLemmas.{ends_opened}
use Rattle.pd_play.proofs.player.play_whole.Goals as goal

pub returns-in-Ok-clause-runs : goal.returns-in-Ok-clause-runs
returns-in-Ok-clause-runs g c =
    let begins = c.in-Ok.ensures.begins in
    inr (
      point_at c.play_script.new.session,
      record {
        stage = stage_at c.in-Ok.session.engine;
        printed = g.L.Sink.taken c.open.new.lines;
        faults = g.H.Shelf.faults c.open.new.shelf;
        counted = c.open.ensures.causes.folder_counted;
        opens = c.in-Ok.ensures.opens;
        ends = ends_opened _ _ _ _ _ _ _ _ _ _ _ _ _ _ begins.rate_is begins.number_is begins.time_is begins.feed_is (rw c.open.ensures.kept at c.play_script.ensures.plays);
      },
    )

pub returns-in-Ok-clause-short : goal.returns-in-Ok-clause-short
returns-in-Ok-clause-short g c = λ e. absurd (c.play_script.ensures.causes.memory (ap (λ (s : Status). Some s) e))

pub returns-in-Ok-clause-causes : goal.returns-in-Ok-clause-causes
returns-in-Ok-clause-causes g c = played_causes _ _ _ _ _ _ _ _ _ _ c.open.ensures.causes.lines_counted c.play_script.ensures.causes
