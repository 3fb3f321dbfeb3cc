use Rattle.std.proofs.Common.{◌∙◌, sym, ap}
use Rattle.std.specs.Option.{option_copied_mut}
use Rattle.pd_block.specs.Given.{held_blocks}
use Rattle.pd_block.specs.Nets.{states_of}
use Rattle.pd_block.proofs.LentLemmas.{given_net, given_none}
use Rattle.pd_block.proofs.UnfedLemmas.{held_states}
use Rattle.pd_block.proofs.own.run_unfed.Goals as goal

pub returns-in-Some-clause-net : goal.returns-in-Some-clause-net
returns-in-Some-clause-net c =
    given_net c.args.patch.now c.args.node 0 c.in-Some.found.now c.run_unfed_box.new.found (held_blocks c.in-Some.found.now.state) _
    (sym c.node_mut.ensures.value ∙ ap option_copied_mut c.in-Some.is) (c.run_unfed_box.ensures 0)

pub returns-in-Some-clause-ran : goal.returns-in-Some-clause-ran
returns-in-Some-clause-ran c =
    λ start. held_states c.args.patch.now c.args.node start c.in-Some.found.now c.run_unfed_box.new.found _
    (sym c.node_mut.ensures.value ∙ ap option_copied_mut c.in-Some.is) (c.run_unfed_box.ensures start)

pub returns-in-None-clause-ran : goal.returns-in-None-clause-ran
returns-in-None-clause-ran c =
    λ start. given_none c.args.patch.now c.args.node start (held_blocks (states_of c.args.patch.now c.args.node)) c.args.outs.now c.requires.silent
    (sym c.node_mut.ensures.value ∙ ap option_copied_mut c.in-None.is)
