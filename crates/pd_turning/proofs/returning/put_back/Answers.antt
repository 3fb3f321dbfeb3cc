use Rattle.pd_turning.proofs.ReturnLemmas.{next_before, next_room, next_route, next_together, noted_item, returned, returning_begun, returning_more}
use Rattle.pd_turning.proofs.returning.put_back.Goals as goal

pub loop-note-init : goal.loop-note-init
loop-note-init g c = λ w ms C. returning_begun w c.args.patch.now c.args.key ms c.args.notes.now C c.args.steps.now

pub attach_before-requires-clause-runs : goal.attach_before-requires-clause-runs
attach_before-requires-clause-runs g c = let r = c.requires in (c.loop-note.invariant r.0 r.1 r.2).tight.rewires

pub attach_before-requires-clause-together : goal.attach_before-requires-clause-together
attach_before-requires-clause-together g c =
    let r = c.requires in
    let i = c.loop-note.note-index in
    let note = c.note-item.result in
    let N = noted_item r.0 c.args.patch.now c.args.key r.1 c.args.notes.now r.2 i note c.loop-note-test.true c.note-item.is in
    next_together r.0 c.args.patch.now c.args.key r.1 c.args.notes.now r.2 c.loop-note.patch i note N c.args.steps.now c.loop-note.steps (c.loop-note.invariant r.0 r.1 r.2)

pub attach_before-requires-clause-route : goal.attach_before-requires-clause-route
attach_before-requires-clause-route g c =
    let r = c.requires in
    let i = c.loop-note.note-index in
    let note = c.note-item.result in
    let N = noted_item r.0 c.args.patch.now c.args.key r.1 c.args.notes.now r.2 i note c.loop-note-test.true c.note-item.is in
    next_route r.0 c.args.patch.now c.args.key r.1 c.args.notes.now r.2 c.loop-note.patch i note N c.args.steps.now c.loop-note.steps (c.loop-note.invariant r.0 r.1 r.2)

pub attach_before-requires-clause-room : goal.attach_before-requires-clause-room
attach_before-requires-clause-room g c =
    let r = c.requires in
    let i = c.loop-note.note-index in
    let note = c.note-item.result in
    let N = noted_item r.0 c.args.patch.now c.args.key r.1 c.args.notes.now r.2 i note c.loop-note-test.true c.note-item.is in
    next_room r.0 c.args.patch.now c.args.key r.1 c.args.notes.now r.2 c.loop-note.patch i note N c.args.steps.now c.loop-note.steps (c.loop-note.invariant r.0 r.1 r.2)

pub attach_before-requires-clause-before : goal.attach_before-requires-clause-before
attach_before-requires-clause-before g c =
    let r = c.requires in
    let i = c.loop-note.note-index in
    let note = c.note-item.result in
    let N = noted_item r.0 c.args.patch.now c.args.key r.1 c.args.notes.now r.2 i note c.loop-note-test.true c.note-item.is in
    next_before r.0 c.args.patch.now c.args.key r.1 c.args.notes.now r.2 c.loop-note.patch i note N c.args.steps.now c.loop-note.steps (c.loop-note.invariant r.0 r.1 r.2)

pub loop-note-preserved : goal.loop-note-preserved
loop-note-preserved g c = λ w ms C.
    let i = c.loop-note.note-index in
    let note = c.note-item.result in
    let e = c.attach_before.ensures in
    let N = noted_item w c.args.patch.now c.args.key ms c.args.notes.now C i note c.loop-note-test.true c.note-item.is in
    returning_more w c.args.patch.now c.args.key ms c.args.notes.now C c.loop-note.patch i note N c.args.steps.now c.loop-note.steps (c.loop-note.invariant w ms C) c.attach_before.new.patch c.attach_before.result
    c.attach_before.new.steps (record { joins = e.joins; rest = e.rest; rewires = e.rewires; built = e.built; left = e.left; control = e.control; looks = e.looks })

pub returns : goal.returns
returns g c = λ w ms C.
    returned w c.args.patch.now c.args.key ms c.args.notes.now C c.loop-note.patch c.loop-note.note-index c.args.steps.now c.loop-note.steps c.loop-note-test.false (c.loop-note.invariant w ms C)
