use Rattle.std.proofs.Common.{◌≡◌, ◌++◌, List, [], refl, sym, ◌∙◌, subst, OnOk, OnErr}
use Rattle.std.proofs.lemmas.Result.{err_from_is_err_and}
use Rattle.pd_atom.specs.declared.Atom.{Atom}
use Rattle.pd_kind.specs.declared.messages.Notice.{Notice}
use Rattle.pd_say.specs.Gathering.{Says, Fails}
use Rattle.pd_hearing.specs.Worlds.{Net, net_of, kept_of, states_of}
use Rattle.pd_hearing.specs.Hearing.{heard_at}
use Rattle.pd_walk.specs.Acts.{kept_by, said_by_box, asked_for, notices_text}
use Rattle.pd_stack.specs.Piles.{LeftOn}
use Rattle.pd_hearing.proofs.ResultLemmas.{on_ok_map, on_err_map}
use Rattle.pd_walk.proofs.ActLemmas.{box-says, box-fails, print-fails, notices-fail, asked-left, acts-kept}
use Rattle.pd_walk.proofs.StayLemmas.{heard-stay, done-stay, stay-then}
use Rattle.pd_walk.proofs.acting.deliver_at.Goals as goal

pub returns-clause-ok : goal.returns-clause-ok
returns-clause-ok g c =
    let a = c.args in
    let m0 = c.atoms-atoms.result.now in
    let net : Net = net_of a.patch.now in
    let notices : Says (g.L.Sink.taken a.lines.now) a.held.now.items (g.L.Sink.taken c.print_notices.new.lines) c.print_notices.new.held.items (notices_text c.hear_at.new.symbols c.hear_at.new.out.notices)
    = subst (λ (l : List Notice). Says (g.L.Sink.taken a.lines.now) a.held.now.items (g.L.Sink.taken c.print_notices.new.lines) c.print_notices.new.held.items (notices_text c.hear_at.new.symbols l)) c.as_slice.ensures c.in_ok-print_notices.ensures.ok in
    subst (λ (m : List Atom). OnOk c.push_sends.result (Says (g.L.Sink.taken a.lines.now) a.held.now.items (g.L.Sink.taken c.push_sends.new.lines) c.push_sends.new.held.items (said_by_box net a.task.now.depth a.node a.task.now.selector m (heard_at net a.now (states_of a.patch.now) a.symbols.now a.node a.inlet a.task.now.selector m)))) c.atoms-atoms.ensures
    (on_ok_map c.push_sends.result
    (box-says net (net_of c.hear_at.new.patch) (net_of c.do_deed.new.patch) c.hear_at.ensures.net c.do_deed.ensures.net a.task.now.depth a.node a.task.now.selector m0 _ _ c.hear_at.ensures.reply (g.L.Sink.taken a.lines.now) (g.L.Sink.taken c.print_notices.new.lines) (g.L.Sink.taken c.print_at.new.lines) (g.L.Sink.taken c.push_sends.new.lines) a.held.now.items c.print_notices.new.held.items c.print_at.new.held.items c.push_sends.new.held.items notices c.in_ok-print_at.ensures.ok)
    c.push_sends.ensures.ok)

pub returns-clause-err : goal.returns-clause-err
returns-clause-err g c =
    let a = c.args in
    let m0 = c.atoms-atoms.result.now in
    let net : Net = net_of a.patch.now in
    let notices : Says (g.L.Sink.taken a.lines.now) a.held.now.items (g.L.Sink.taken c.print_notices.new.lines) c.print_notices.new.held.items (notices_text c.hear_at.new.symbols c.hear_at.new.out.notices)
    = subst (λ (l : List Notice). Says (g.L.Sink.taken a.lines.now) a.held.now.items (g.L.Sink.taken c.print_notices.new.lines) c.print_notices.new.held.items (notices_text c.hear_at.new.symbols l)) c.as_slice.ensures c.in_ok-print_notices.ensures.ok in
    subst (λ (m : List Atom). OnErr c.push_sends.result (Fails (g.L.Sink.taken a.lines.now) a.held.now.items (g.L.Sink.taken c.push_sends.new.lines) (said_by_box net a.task.now.depth a.node a.task.now.selector m (heard_at net a.now (states_of a.patch.now) a.symbols.now a.node a.inlet a.task.now.selector m)))) c.atoms-atoms.ensures
    (on_err_map c.push_sends.result
    (box-fails net (net_of c.hear_at.new.patch) (net_of c.do_deed.new.patch) c.hear_at.ensures.net c.do_deed.ensures.net a.task.now.depth a.node a.task.now.selector m0 _ _ c.hear_at.ensures.reply (g.L.Sink.taken a.lines.now) (g.L.Sink.taken c.print_notices.new.lines) (g.L.Sink.taken c.print_at.new.lines) (g.L.Sink.taken c.push_sends.new.lines) a.held.now.items c.print_notices.new.held.items c.print_at.new.held.items [] notices c.in_ok-print_at.ensures.ok)
    c.push_sends.ensures.err)

pub returns-in_err-print_at-clause-err : goal.returns-in_err-print_at-clause-err
returns-in_err-print_at-clause-err g c =
    let a = c.args in
    let m0 = c.atoms-atoms.result.now in
    let net : Net = net_of a.patch.now in
    let notices : Says (g.L.Sink.taken a.lines.now) a.held.now.items (g.L.Sink.taken c.print_notices.new.lines) c.print_notices.new.held.items (notices_text c.hear_at.new.symbols c.hear_at.new.out.notices)
    = subst (λ (l : List Notice). Says (g.L.Sink.taken a.lines.now) a.held.now.items (g.L.Sink.taken c.print_notices.new.lines) c.print_notices.new.held.items (notices_text c.hear_at.new.symbols l)) c.as_slice.ensures c.in_ok-print_notices.ensures.ok in
    let p = err_from_is_err_and c.from_residual-in_err-print_at.result c.from_residual-in_err-print_at.ensures.1 in
    rw p.1
    (subst (λ (m : List Atom). Fails (g.L.Sink.taken a.lines.now) a.held.now.items (g.L.Sink.taken c.print_at.new.lines) (said_by_box net a.task.now.depth a.node a.task.now.selector m (heard_at net a.now (states_of a.patch.now) a.symbols.now a.node a.inlet a.task.now.selector m))) c.atoms-atoms.ensures
    (print-fails net (net_of c.hear_at.new.patch) (net_of c.hear_at.new.patch) c.hear_at.ensures.net refl a.task.now.depth a.node a.task.now.selector m0 _ _ c.hear_at.ensures.reply (g.L.Sink.taken a.lines.now) (g.L.Sink.taken c.print_notices.new.lines) (g.L.Sink.taken c.print_at.new.lines) (g.L.Sink.taken c.print_at.new.lines) a.held.now.items c.print_notices.new.held.items [] [] notices c.in_err-print_at.ensures.err))

pub returns-in_err-print_notices-clause-err : goal.returns-in_err-print_notices-clause-err
returns-in_err-print_notices-clause-err g c =
    let a = c.args in
    let m0 = c.atoms-atoms.result.now in
    let net : Net = net_of a.patch.now in
    let failed : Fails (g.L.Sink.taken a.lines.now) a.held.now.items (g.L.Sink.taken c.print_notices.new.lines) (notices_text c.hear_at.new.symbols c.hear_at.new.out.notices)
    = subst (λ (l : List Notice). Fails (g.L.Sink.taken a.lines.now) a.held.now.items (g.L.Sink.taken c.print_notices.new.lines) (notices_text c.hear_at.new.symbols l)) c.as_slice.ensures c.in_err-print_notices.ensures.err in
    let p = err_from_is_err_and c.from_residual.result c.from_residual.ensures.1 in
    rw p.1
    (subst (λ (m : List Atom). Fails (g.L.Sink.taken a.lines.now) a.held.now.items (g.L.Sink.taken c.print_notices.new.lines) (said_by_box net a.task.now.depth a.node a.task.now.selector m (heard_at net a.now (states_of a.patch.now) a.symbols.now a.node a.inlet a.task.now.selector m))) c.atoms-atoms.ensures
    (notices-fail net (net_of c.hear_at.new.patch) (net_of c.hear_at.new.patch) c.hear_at.ensures.net refl a.task.now.depth a.node a.task.now.selector m0 _ _ c.hear_at.ensures.reply (g.L.Sink.taken a.lines.now) (g.L.Sink.taken c.print_notices.new.lines) (g.L.Sink.taken c.print_notices.new.lines) (g.L.Sink.taken c.print_notices.new.lines) a.held.now.items [] [] [] failed))

pub returns-clause-kept : goal.returns-clause-kept
returns-clause-kept g c = λ queue.
    let a = c.args in
    let m0 = c.atoms-atoms.result.now in
    let net : Net = net_of a.patch.now in
    subst (λ (m : List Atom). OnOk c.push_sends.result (kept_of c.do_deed.new.patch c.hear_at.new.symbols queue ≡ kept_by net a.now a.node (kept_of a.patch.now a.symbols.now queue) (heard_at net a.now (states_of a.patch.now) a.symbols.now a.node a.inlet a.task.now.selector m))) c.atoms-atoms.ensures
    (on_ok_map c.push_sends.result
    (λ _. acts-kept a.patch.now c.hear_at.new.patch c.do_deed.new.patch a.now a.node a.symbols.now c.hear_at.new.symbols queue _ _ c.hear_at.ensures.reply c.hear_at.ensures.net c.hear_at.ensures.clocks
    (c.do_deed.ensures.kept c.hear_at.new.symbols queue))
    c.push_sends.ensures.piled)

pub returns-clause-left : goal.returns-clause-left
returns-clause-left g c = λ tasks left.
    let a = c.args in
    let m0 = c.atoms-atoms.result.now in
    let net : Net = net_of a.patch.now in
    let same : net_of c.do_deed.new.patch ≡ net = c.do_deed.ensures.net ∙ c.hear_at.ensures.net in
    let left2 : LeftOn (net_of c.do_deed.new.patch) a.stack.now tasks = subst (λ (n : Net). LeftOn n a.stack.now tasks) (sym same) left in
    subst (λ (m : List Atom). OnOk c.push_sends.result (LeftOn net c.push_sends.new.stack (asked_for net a.task.now.depth a.node (heard_at net a.now (states_of a.patch.now) a.symbols.now a.node a.inlet a.task.now.selector m).said ++ tasks))) c.atoms-atoms.ensures
    (on_ok_map c.push_sends.result
    (asked-left _ _ a.task.now.depth a.node _ _ _ tasks same c.hear_at.ensures.reply)
    (c.push_sends.ensures.left tasks left2))

pub returns-in_err-print_notices-clause-states : goal.returns-in_err-print_notices-clause-states
returns-in_err-print_notices-clause-states g c = heard-stay _ _ _ _ _ _ _ _ _ c.hear_at.ensures.reply

pub returns-in_err-print_at-clause-states : goal.returns-in_err-print_at-clause-states
returns-in_err-print_at-clause-states g c = heard-stay _ _ _ _ _ _ _ _ _ c.hear_at.ensures.reply

pub returns-clause-states : goal.returns-clause-states
returns-clause-states g c =
    stay-then _ _ _ (heard-stay _ _ _ _ _ _ _ _ _ c.hear_at.ensures.reply)
    (done-stay _ _ _ _ (kept_of c.hear_at.new.patch [] []) _ (c.do_deed.ensures.kept [] []))
