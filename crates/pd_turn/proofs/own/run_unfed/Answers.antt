use Rattle.pd_turn.proofs.OwnLemmas.{osc_held}
use Rattle.pd_turn.proofs.own.run_unfed.Goals as goal

pub returns : goal.returns
returns c =
    λ start. osc_held start c.args.kind.now c.args.state.now c.run_steady.new.state c.args.outs.now c.run_steady.new.outs c.held_in.result c.of_num-step.result
    c.requires.osc c.requires.silent c.held_in.ensures c.of_num-step.ensures c.run_steady.ensures
