use Rattle.std.proofs.Common.{◌∙◌, sym, ap}
use Rattle.std.specs.Option.{option_copied_mut}
use Rattle.pd_block.proofs.LentLemmas.{given_net, given_states, given_none}
use Rattle.pd_block.proofs.own.run_lent.Goals as goal

pub returns-in-Some-clause-net : goal.returns-in-Some-clause-net
returns-in-Some-clause-net c =
    given_net c.args.patch.now c.args.node c.args.start c.in-Some.found.now c.run_box.new.found c.args.ins.now _
    (sym c.node_mut.ensures.value ∙ ap option_copied_mut c.in-Some.is) c.run_box.ensures

pub returns-in-Some-clause-ran : goal.returns-in-Some-clause-ran
returns-in-Some-clause-ran c =
    given_states c.args.patch.now c.args.node c.args.start c.in-Some.found.now c.run_box.new.found c.args.ins.now _
    (sym c.node_mut.ensures.value ∙ ap option_copied_mut c.in-Some.is) c.run_box.ensures

pub returns-in-None-clause-ran : goal.returns-in-None-clause-ran
returns-in-None-clause-ran c =
    given_none c.args.patch.now c.args.node c.args.start c.args.ins.now c.args.outs.now c.requires.silent
    (sym c.node_mut.ensures.value ∙ ap option_copied_mut c.in-None.is)
