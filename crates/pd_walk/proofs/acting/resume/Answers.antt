use Rattle.std.proofs.Common.{[], ◌∙◌}
use Rattle.pd_hearing.proofs.ResultLemmas.{on_ok_map, on_err_map}
use Rattle.pd_walk.proofs.ActLemmas.{again-says, again-fails, asked-left, acts-kept}
use Rattle.pd_hearing.specs.Worlds.{kept_of}
use Rattle.pd_walk.proofs.StayLemmas.{resumed-stay, done-stay, stay-then}
use Rattle.pd_walk.proofs.acting.resume.Goals as goal

pub returns-clause-ok : goal.returns-clause-ok
returns-clause-ok g c =
    on_ok_map c.push_sends.result
    (again-says _ _ (c.do_deed.ensures.net ∙ c.resume_at.ensures.net) c.args.depth c.args.node _ _ (c.resume_at.ensures.reply c.args.symbols.now) _ _ _ _)
    c.push_sends.ensures.ok

pub returns-clause-err : goal.returns-clause-err
returns-clause-err g c =
    on_err_map c.push_sends.result
    (again-fails _ _ (c.do_deed.ensures.net ∙ c.resume_at.ensures.net) c.args.depth c.args.node _ _ (c.resume_at.ensures.reply c.args.symbols.now) _ _ _)
    c.push_sends.ensures.err

pub returns-clause-kept : goal.returns-clause-kept
returns-clause-kept g c = λ queue.
    on_ok_map c.push_sends.result
    (λ _. acts-kept c.args.patch.now c.resume_at.new.patch c.do_deed.new.patch c.args.now c.args.node c.args.symbols.now c.args.symbols.now queue _ _
    (c.resume_at.ensures.reply c.args.symbols.now) c.resume_at.ensures.net c.resume_at.ensures.clocks (c.do_deed.ensures.kept c.args.symbols.now queue))
    c.push_sends.ensures.piled

pub returns-clause-left : goal.returns-clause-left
returns-clause-left g c = λ tasks left.
    let net = c.do_deed.ensures.net ∙ c.resume_at.ensures.net in
    on_ok_map c.push_sends.result
    (asked-left _ _ c.args.depth c.args.node _ _ _ tasks net (c.resume_at.ensures.reply c.args.symbols.now))
    (c.push_sends.ensures.left tasks (rw net left))

pub returns-clause-states : goal.returns-clause-states
returns-clause-states g c =
    stay-then _ _ _ (resumed-stay _ _ _ _ _ (c.resume_at.ensures.reply []))
    (done-stay _ _ _ _ (kept_of c.resume_at.new.patch [] []) _ (c.do_deed.ensures.kept [] []))
