use Rattle.std.proofs.Common.{refl}
use Rattle.pd_block.proofs.BoxLemmas.{table_done}
use Rattle.pd_block.proofs.own.run_table.Goals as goal

pub returns-clause-sound : goal.returns-clause-sound
returns-clause-sound c =
    table_done c.args.patch.now c.take_state-state.new.self c.put_state.new.self c.put_outlet.new.patch c.args.node
    c.take_state-state.result c.read_table.new.state c.read_table.new.outs _ c.take_state-state.ensures.state c.take_state-state.ensures.keeps c.take_state-state.ensures.rest
    c.read_table.ensures c.put_state.ensures.keeps c.put_state.ensures.rest c.put_outlet.ensures.tree c.put_outlet.ensures.values refl
