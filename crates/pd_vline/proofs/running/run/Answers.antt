use Rattle.pd_vline.proofs.RowLemmas.{run_stands}
use Rattle.pd_vline.proofs.running.run.Goals as goal

pub returns-clause-stands : goal.returns-clause-stands
returns-clause-stands c = λ l h. run_stands c.args.start c.args.state.now c.run_state.new.state c.run_state.new.out l c.run_state.ensures.state c.requires.vline c.run_state.ensures.samples h
