use Rattle.std.proofs.Common.{◌∙◌, ap}
use Rattle.std.proofs.lemmas.Result.{on_ok_weaker}
use Rattle.pd_canvas.specs.Views.{entry_of}
use Rattle.pd_canvas.specs.Edits.{appended}
use Rattle.pd_canvas.proofs.TreeLemmas.{append_seen}
use Rattle.pd_canvas.proofs.changes.append.Goals as goal

pub returns-clause-ok : goal.returns-clause-ok
returns-clause-ok c =
    on_ok_weaker c.push.result
    (λ e. append_seen c.canvas.inside c.push.new.self.items.items c.args.new e ∙ ap (appended (entry_of c.args.new)) c.canvas.view_is)
    c.push.ensures.ok
