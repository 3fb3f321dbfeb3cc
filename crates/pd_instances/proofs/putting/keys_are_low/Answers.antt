use Rattle.std.proofs.Common.{length, ◌≤◌, arith}
use Rattle.pd_instances.proofs.ReadyLemmas.{key_low}
use Rattle.pd_instances.proofs.putting.keys_are_low.Goals as goal

pub returns-clause-boxes : goal.returns-clause-boxes
returns-clause-boxes c = λ k live.
    let s = c.nodes_end-boxes.ensures.slots in
    let v = c.nodes_end-boxes.ensures.value in
    key_low c.args.grove.now.nodes c.args.grove.now.nodes.capacity k (omega (arith, s, v)) live

pub returns-clause-canvases : goal.returns-clause-canvases
returns-clause-canvases c = λ k live.
    let s = c.boards_end-canvases.ensures.slots in
    let v = c.boards_end-canvases.ensures.value in
    key_low c.args.grove.now.boards c.args.grove.now.boards.capacity k (omega (arith, s, v)) live
