use Rattle.std.proofs.Common.{refl, ◌∙◌}
use Rattle.slab.specs.Slab.{get}
use Rattle.pd_patch.specs.Values.{blocks_told}
use Rattle.pd_block.specs.Given.{held_blocks}
use Rattle.pd_block.specs.Nets.{states_of}
use Rattle.pd_block.proofs.LentLemmas.{own_lent}
use Rattle.pd_block.proofs.NetLemmas.{blocks_net}
use Rattle.pd_block.proofs.UnfedLemmas.{held_brought}
use Rattle.pd_block.proofs.own.run_own.Goals as goal

pub returns-then-is_unfed-clause-net : goal.returns-then-is_unfed-clause-net
returns-then-is_unfed-clause-net c = blocks_net c.run_unfed.new.patch c.put_outlet.new.patch c.put_outlet.ensures.tree c.put_outlet.ensures.rest ∙ c.run_unfed.ensures.net

pub returns-then-is_unfed-clause-sound : goal.returns-then-is_unfed-clause-sound
returns-then-is_unfed-clause-sound c =
    let unfed = c.is_unfed.ensures c.if-is_unfed.true in
    own_lent c.args.patch.now c.run_unfed.new.patch c.put_outlet.new.patch c.args.node c.args.start (held_blocks (states_of c.args.patch.now c.args.node)) _ _
    unfed.there (held_brought c.args.patch.now.web (blocks_told c.args.patch.now) c.args.node (get c.args.patch.now.grove.nodes c.args.node) unfed)
    (c.run_unfed.ensures.ran c.args.start) c.run_unfed.ensures.values c.put_outlet.ensures.tree c.put_outlet.ensures.values refl

pub returns-then-bring-clause-net : goal.returns-then-bring-clause-net
returns-then-bring-clause-net c =
    blocks_net c.run_lent.new.patch c.put_outlet-then-bring.new.patch c.put_outlet-then-bring.ensures.tree c.put_outlet-then-bring.ensures.rest ∙ c.run_lent.ensures.net

pub returns-then-bring-clause-sound : goal.returns-then-bring-clause-sound
returns-then-bring-clause-sound c =
    own_lent c.args.patch.now c.run_lent.new.patch c.put_outlet-then-bring.new.patch c.args.node c.args.start c.bring.new.ins _ _
    (c.bring.ensures.there.0 c.if-bring.true) c.bring.ensures.brought c.run_lent.ensures.ran c.run_lent.ensures.values
    c.put_outlet-then-bring.ensures.tree c.put_outlet-then-bring.ensures.values refl
