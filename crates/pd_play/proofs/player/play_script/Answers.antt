use Rattle.std.proofs.Common.{arith}
use Rattle.pd_play.proofs.CauseLemmas.{whole_causes}
use Rattle.pd_play.proofs.RunLemmas.{moves_nothing, moves_on, moves_end, moves_without, ends_without}
use Rattle.pd_play.proofs.player.play_script.Goals as goal

pub records-init : goal.records-init
records-init g c = record {
  running = c.requires.running;
  counted = c.requires.counted;
  whole = c.requires.whole;
  moves = moves_nothing _ _ _ _;
  folder = omega arith;
  script = omega arith;
  lines = omega arith;
  pcm = omega arith;
}

pub returns-in-Some-clause-plays : goal.returns-in-Some-clause-plays
returns-in-Some-clause-plays g c =
    moves_end _ _ _ _ _ _ _ _ _ _ _ _ _ _ _ c.records.invariant.script c.records.invariant.moves (ends_without _ _ _ _ _ _ _ _ _ _ c.in-Some.ensures.steps)

pub records-preserved : goal.records-preserved
records-preserved g c =
    let causes = c.step.ensures.causes in
    record {
      running = c.step.ensures.running c.in_default.is;
      counted = c.step.ensures.counted c.in_default.is;
      whole = c.step.ensures.whole c.in_default.is;
      moves = moves_on _ _ _ _ _ _ _ _ _ _ _ _ c.records.invariant.moves (moves_without _ _ _ _ _ _ _ _ c.in_default.ensures.steps);
      folder = omega (arith, c.records.invariant.folder, c.step.ensures.shelf_counted);
      script = omega (arith, c.records.invariant.script, causes.script_counted);
      lines = omega (arith, c.records.invariant.lines, causes.lines_counted);
      pcm = omega (arith, c.records.invariant.pcm, causes.pcm_counted);
    }

pub returns-in-Some-clause-causes : goal.returns-in-Some-clause-causes
returns-in-Some-clause-causes g c =
    whole_causes _ _ _ _ _ _ _ _ _ _ c.records.invariant.script c.records.invariant.lines c.records.invariant.pcm c.in-Some.ensures.causes
