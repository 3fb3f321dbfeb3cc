use Rattle.std.proofs.Common.{[], refl, ap, ◌∙◌, arith}
use Rattle.std.proofs.lemmas.List.{take_all}
use Rattle.slab.specs.Slab.{get}
use Rattle.pd_patch.specs.Orders.{is_signal_node, signal_among}
use Rattle.pd_patch.proofs.PushLemmas.{filter_parts, push_more}
use Rattle.pd_instances.proofs.ordering.push_signal_boxes.Goals as goal

pub push_signal_box-requires : goal.push_signal_box-requires
push_signal_box-requires c =
    let len = c.loop-key.invariant.len in
    let low = c.loop-key-test.true in
    let room = c.loop-key.invariant.room in
    let fits = c.requires.room in
    omega (arith, len, low, room, fits)

pub loop-key-init : goal.loop-key-init
loop-key-init c = record { boxes = c.requires.none; len = (let e = c.requires.empty in omega (arith, e)); room = refl }

pub loop-key-preserved : goal.loop-key-preserved
loop-key-preserved c =
    let E = c.push_signal_box.ensures in
    record {
      boxes = push_more (signal_among c.args.grove.now) (filter_parts (λ k. is_signal_node (get c.args.grove.now.nodes k))) [] _ _ c.args.keys.now c.loop-key.key-index 0 c.loop-key-test.true
          E.boxes c.loop-key.invariant.boxes;
      len = (let a = E.len in let b = c.loop-key.invariant.len in omega (arith, a, b));
      room = E.room ∙ c.loop-key.invariant.room;
    }

pub returns-clause-boxes : goal.returns-clause-boxes
returns-clause-boxes c = c.loop-key.invariant.boxes ∙ ap (signal_among c.args.grove.now) (take_all c.loop-key.key-index c.args.keys.now c.loop-key-test.false)
