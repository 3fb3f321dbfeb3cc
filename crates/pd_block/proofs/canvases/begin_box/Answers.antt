use Rattle.std.proofs.Common.{◌∙◌}
use Rattle.std.specs.Prelude.{Some, None}
use Rattle.pd_block.proofs.NetLemmas.{keeps_net}
use Rattle.pd_block.proofs.BeginLemmas.{begin_done, begin_none}
use Rattle.pd_block.proofs.canvases.begin_box.Goals as goal

pub returns-then-has_line-clause-net : goal.returns-then-has_line-clause-net
returns-then-has_line-clause-net c =
    keeps_net c.take_state-state.new.self c.put_state.new.self c.args.node (Some c.begin_block.new.self) c.put_state.ensures.keeps c.put_state.ensures.rest c.put_state.ensures.clocks
    ∙ keeps_net c.args.patch.now c.take_state-state.new.self c.args.node None c.take_state-state.ensures.keeps c.take_state-state.ensures.rest c.take_state-state.ensures.clocks

pub returns-then-has_line-clause-sound : goal.returns-then-has_line-clause-sound
returns-then-has_line-clause-sound c =
    begin_done c.args.patch.now c.take_state-state.new.self c.put_state.new.self c.args.node c.take_state-state.result c.begin_block.new.self
    c.take_state-state.ensures.state c.take_state-state.ensures.keeps c.take_state-state.ensures.rest c.begin_block.ensures c.put_state.ensures.keeps c.put_state.ensures.rest

pub returns-else-has_line-clause-sound : goal.returns-else-has_line-clause-sound
returns-else-has_line-clause-sound c = begin_none c.args.patch.now c.args.node (c.has_line.ensures.none c.if-has_line.false)
