use Rattle.std.proofs.Common.{refl, ◌∙◌}
use Rattle.std.specs.Prelude.{None, Some}
use Rattle.pd_block.proofs.BoxLemmas.{beside_done, live_before, live_kept}
use Rattle.pd_block.proofs.NetLemmas.{keeps_net, blocks_net}
use Rattle.pd_block.proofs.beside.run_beside.Goals as goal

pub put_state-requires : goal.put_state-requires
put_state-requires c =
    live_kept c.take_state-state.new.self c.run_taken.new.patch c.args.node c.run_taken.ensures.net
    (live_before c.args.patch.now c.take_state-state.new.self c.args.node c.take_state-state.result c.take_state-state.ensures.state c.take_state-state.ensures.keeps)

pub returns-clause-net : goal.returns-clause-net
returns-clause-net c =
    blocks_net c.put_state.new.self c.put_outlet.new.patch c.put_outlet.ensures.tree c.put_outlet.ensures.rest
    ∙ keeps_net c.run_taken.new.patch c.put_state.new.self c.args.node (Some c.run_taken.new.state) c.put_state.ensures.keeps c.put_state.ensures.rest c.put_state.ensures.clocks
    ∙ c.run_taken.ensures.net
    ∙ keeps_net c.args.patch.now c.take_state-state.new.self c.args.node None c.take_state-state.ensures.keeps c.take_state-state.ensures.rest c.take_state-state.ensures.clocks

pub returns-clause-sound : goal.returns-clause-sound
returns-clause-sound c =
    beside_done c.args.patch.now c.take_state-state.new.self c.run_taken.new.patch c.put_state.new.self c.put_outlet.new.patch c.args.node
    c.take_state-state.result c.run_taken.new.state c.run_taken.new.outs _ c.take_state-state.ensures.state c.take_state-state.ensures.keeps c.take_state-state.ensures.rest c.take_state-state.ensures.clocks
    c.run_taken.ensures.net c.run_taken.ensures.aside c.put_state.ensures.keeps c.put_state.ensures.rest c.put_outlet.ensures.tree c.put_outlet.ensures.values refl
    (live_kept c.take_state-state.new.self c.run_taken.new.patch c.args.node c.run_taken.ensures.net
    (live_before c.args.patch.now c.take_state-state.new.self c.args.node c.take_state-state.result c.take_state-state.ensures.state c.take_state-state.ensures.keeps))
