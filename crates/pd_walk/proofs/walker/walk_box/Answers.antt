use Rattle.std.proofs.Common.{refl, []}
use Rattle.pd_kind.specs.Said.{said_by}
use Rattle.std.proofs.lemmas.Result.{err_from_is_err_and}
use Rattle.pd_walk.proofs.WayLemmas.{box-begins, box-breaks}
use Rattle.pd_hearing.specs.Worlds.{kept_of}
use Rattle.pd_walk.proofs.StayLemmas.{done-stay, stay-then}
use Rattle.pd_walk.proofs.walker.walk_box.Goals as goal

pub returns-clause-ok : goal.returns-clause-ok
returns-clause-ok g c = λ before said is_said.
    c.walk.ensures.ok before _
    (box-begins _ _ c.args.now c.args.node _ _ c.args.budget.now c.push_sends.new.stack (said_by c.args.sends.now) before _ _ _ _ said c.do_deed.ensures.net (c.do_deed.ensures.kept c.args.symbols.now c.args.queue.now) is_said
    c.in_ok-push_sends.ensures.ok (c.in_ok-push_sends.ensures.left [] (rw c.clear.ensures refl)))

pub returns-clause-err : goal.returns-clause-err
returns-clause-err g c = λ before said is_said.
    c.walk.ensures.err before _
    (box-begins _ _ c.args.now c.args.node _ _ c.args.budget.now c.push_sends.new.stack (said_by c.args.sends.now) before _ _ _ _ said c.do_deed.ensures.net (c.do_deed.ensures.kept c.args.symbols.now c.args.queue.now) is_said
    c.in_ok-push_sends.ensures.ok (c.in_ok-push_sends.ensures.left [] (rw c.clear.ensures refl)))

pub returns-in_err-push_sends-clause-err : goal.returns-in_err-push_sends-clause-err
returns-in_err-push_sends-clause-err g c = λ before said is_said.
    let p = err_from_is_err_and c.from_residual.result c.from_residual.ensures.1 in
    rw p.1 (box-breaks _ c.args.now c.args.node _ c.args.budget.now (said_by c.args.sends.now) before _ _ _ said is_said c.in_err-push_sends.ensures.err)

pub returns-clause-states : goal.returns-clause-states
returns-clause-states g c =
    stay-then _ _ _ (done-stay _ _ _ _ (kept_of c.args.patch.now [] []) _ (c.do_deed.ensures.kept [] [])) c.walk.ensures.states

pub returns-in_err-push_sends-clause-states : goal.returns-in_err-push_sends-clause-states
returns-in_err-push_sends-clause-states g c = done-stay _ _ _ _ (kept_of c.args.patch.now [] []) _ (c.do_deed.ensures.kept [] [])
