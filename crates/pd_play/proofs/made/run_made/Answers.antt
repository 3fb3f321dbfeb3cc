use Rattle.std.proofs.Common.{inl, inr, refl}
use Rattle.pd_engine.specs.Stages.{stage_at}
use Rattle.pd_play.proofs.MadeLemmas.{open_causes, later_causes, short_causes, made_plays}
use Rattle.pd_play.proofs.PatchLemmas.{answers_on, no_made_memory}
use Rattle.pd_play.proofs.made.run_made.Goals as goal

pub returns-in_default-clause-causes : goal.returns-in_default-clause-causes
returns-in_default-clause-causes g c = short_causes _ _ _ _ _ _ _ _ refl c.tell.ensures.answer

pub returns-in_default-clause-plays : goal.returns-in_default-clause-plays
returns-in_default-clause-plays g c =
    inl (record {
      why = _;
      printed = g.L.Sink.taken c.args.lines.now;
      refused = no_made_memory c.args.voices (g.H.Shelf.holds c.args.shelf.now) c.args.name.now c.args.rate (g.L.Sink.taken c.args.lines.now) (g.H.Shelf.faults c.args.shelf.now) (g.H.Shelf.faults c.args.shelf.now);
      tells = c.tell.ensures.answer;
      unread = refl;
      silent = refl;
      held = refl;
    })

pub returns-in-Ok-open_made-clause-plays : goal.returns-in-Ok-open_made-clause-plays
returns-in-Ok-open_made-clause-plays g c =
    let begins = c.in-Ok-open_made.ensures.begins in
    inr (
      c.play_made.ensures.plays.0,
      record {
        stage = stage_at c.in-Ok-open_made.session.engine;
        printed = g.L.Sink.taken c.open_made.new.lines;
        faults = g.H.Shelf.faults c.open_made.new.shelf;
        counted = c.open_made.ensures.causes.folder_counted;
        opens = c.in-Ok-open_made.ensures.opens;
        plays = made_plays c.args.voices c.args.name.now (stage_at c.in-Ok-open_made.session.engine) _ c.args.rate _ _ _ _ _ _ begins.rate_is c.new.ensures c.in-Ok.ensures (rw c.open_made.ensures.kept at c.play_made.ensures.plays.1);
      },
    )

pub returns-in-Ok-open_made-clause-causes : goal.returns-in-Ok-open_made-clause-causes
returns-in-Ok-open_made-clause-causes g c =
    later_causes _ _ _ _ _ _ _ _ _ c.open_made.ensures.causes.folder_counted c.open_made.ensures.causes.lines_counted c.play_made.ensures.causes

pub returns-in-Ok-open_made-clause-short : goal.returns-in-Ok-open_made-clause-short
returns-in-Ok-open_made-clause-short g c = λ e. absurd (c.play_made.ensures.lasts e)

pub returns-in-Err-clause-causes : goal.returns-in-Err-clause-causes
returns-in-Err-clause-causes g c = open_causes c.open_made.result _ _ _ _ _ _ _ _ _ _ _ c.in-Err.is c.open_made.ensures.causes refl c.tell-in-Err.ensures.counted c.tell-in-Err.ensures.answer

pub returns-in-Err-clause-short : goal.returns-in-Err-clause-short
returns-in-Err-clause-short g c = λ e. (c.open_made.ensures.kept, refl)

pub returns-in-Err-clause-plays : goal.returns-in-Err-clause-plays
returns-in-Err-clause-plays g c =
    inl (record {
      why = c.in-Err.status;
      printed = g.L.Sink.taken c.open_made.new.lines;
      refused = c.in-Err.ensures.refused;
      tells = answers_on _ _ _ _ _ _ _ c.open_made.ensures.causes.lines_counted c.tell-in-Err.ensures.answer;
      unread = refl;
      silent = refl;
      held = c.open_made.ensures.kept;
    })
