use Rattle.pd_turn.specs.Rows.{ran}
use Rattle.pd_block.proofs.BoxLemmas.{pair_done}
use Rattle.pd_block.proofs.beside.run_owned.Goals as goal

pub returns-clause-aside : goal.returns-clause-aside
returns-clause-aside c =
    pair_done c.args.patch.now c.take_state-other.new.self c.put_state.new.self c.args.node c.args.owner c.args.state.now c.take_state-other.result c.run_pair.new.other
    (ran c.run_pair.new.state c.run_pair.new.outs) c.take_state-other.ensures.state c.take_state-other.ensures.keeps c.take_state-other.ensures.rest c.take_state-other.ensures.clocks
    c.run_pair.ensures c.put_state.ensures.keeps c.put_state.ensures.rest
