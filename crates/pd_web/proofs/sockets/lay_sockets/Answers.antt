use Rattle.std.proofs.Common.{◌+◌, length, ap, ◌∙◌, arith}
use Rattle.std.proofs.lemmas.List.{length_push}
use Rattle.slab.specs.Slab.{get}
use Rattle.pd_web.specs.Jacks.{jacks_at as jacks_of_box, made_in}
use Rattle.pd_web.specs.Sockets.{loose_ports}
use Rattle.pd_web.proofs.SocketLemmas.{told_boxes, made_boxes, few_boxes, told_all, made_all}
use Rattle.pd_web.proofs.sockets.lay_sockets.Goals as goal

pub loop-key-preserved : goal.loop-key-preserved
loop-key-preserved c =
    let inv = c.loop-key.invariant in
    let step = c.in_ok-made.ensures in
    let all = c.loop-key.sockets.items in
    let items = c.in_ok-push.ensures.items in
    record {
      far = ap length items ∙ length_push all _ ∙ ap (λ n. n + 1) inv.far;
      told = told_boxes all _ c.in_ok-made.made c.loop-key.key (λ side k. loose_ports (jacks_of_box side c.args.grove.now k)) items inv.far inv.told step.told;
      made = made_boxes all _ c.in_ok-made.made c.loop-key.key (λ k. made_in (get c.args.grove.now.nodes k)) items inv.far inv.made step.made;
      few = few_boxes all _ c.in_ok-made.made items inv.few step.few;
    }

pub returns-clause-told : goal.returns-clause-told
returns-clause-told c =
    let same = c.in_ok-end.ensures.same in
    let above = c.nodes_end.ensures.slots in
    told_all c.loop-key.sockets.items c.args.grove.now c.loop-key.key c.in_ok-end.end c.loop-key.invariant.far c.loop-key-test.false (omega (arith, same, above)) c.loop-key.invariant.told

pub returns-clause-made : goal.returns-clause-made
returns-clause-made c =
    let same = c.in_ok-end.ensures.same in
    let above = c.nodes_end.ensures.slots in
    made_all c.loop-key.sockets.items c.args.grove.now c.loop-key.key c.in_ok-end.end c.loop-key.invariant.far c.loop-key-test.false (omega (arith, same, above)) c.loop-key.invariant.made
