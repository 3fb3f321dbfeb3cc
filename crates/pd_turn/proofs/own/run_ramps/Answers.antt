use Rattle.pd_vline.specs.Taken.{state_at}
use Rattle.pd_turn.proofs.SampleLemmas.{samples_are}
use Rattle.pd_turn.proofs.own.run_ramps.Goals as goal

pub returns-clause-samples : goal.returns-clause-samples
returns-clause-samples c = samples_are c.run.new.out (state_at c.args.state.now) c.args.start c.is_whole.ensures c.run.ensures.samples
