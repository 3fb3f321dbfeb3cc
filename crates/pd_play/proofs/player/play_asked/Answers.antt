use Rattle.pd_play.proofs.PatchLemmas.{patch_as, made_as}
use Rattle.pd_play.proofs.player.play_asked.Goals as goal

pub returns-in-None-clause-plays : goal.returns-in-None-clause-plays
returns-in-None-clause-plays g c =
    rw c.in-None.is (patch_as c.as_bytes-name.result.now c.args.asked.now.patch.now c.args.asked.now.rate _ _ _ _ _ _ _ _ _ c.as_bytes-name.ensures.value c.run.ensures.plays)

pub returns-in-Some-clause-causes : goal.returns-in-Some-clause-causes
returns-in-Some-clause-causes g c =
    let h = c.run_made.ensures.causes in
    record { shelf = h.shelf; read = λ e. absurd (h.read e); write = h.write }

pub returns-in-Some-clause-usage : goal.returns-in-Some-clause-usage
returns-in-Some-clause-usage g c = c.run_made.ensures.causes.usage

pub returns-in-Some-clause-plays : goal.returns-in-Some-clause-plays
returns-in-Some-clause-plays g c =
    rw c.in-Some.is (made_as c.in-Some.voices c.as_bytes-name.result.now c.args.asked.now.patch.now c.args.asked.now.rate _ _ _ _ _ c.as_bytes-name.ensures.value c.run_made.ensures.plays)
