use Rattle.std.proofs.Common.{codes, subst, OnOk, OnErr}
use Rattle.pd_say.specs.Gathering.{Says, Fails}
use Rattle.pd_say.specs.Lines.{selector_error}
use Rattle.pd_say.proofs.lines.put_no_method.Goals as goal

pub returns-clause-ok : goal.returns-clause-ok
returns-clause-ok g c =
    subst
    (λ k. OnOk c.put_selector_error.result (Says (g.L.Sink.taken c.args.sink.now) c.args.held.now.items (g.L.Sink.taken c.put_selector_error.new.sink)
    c.put_selector_error.new.held.items (selector_error c.args.symbols.now k (codes ": no method for '") c.args.selector)))
    c.name.ensures c.put_selector_error.ensures.ok

pub returns-clause-err : goal.returns-clause-err
returns-clause-err g c =
    subst
    (λ k. OnErr c.put_selector_error.result (Fails (g.L.Sink.taken c.args.sink.now) c.args.held.now.items (g.L.Sink.taken c.put_selector_error.new.sink)
    (selector_error c.args.symbols.now k (codes ": no method for '") c.args.selector)))
    c.name.ensures c.put_selector_error.ensures.err
