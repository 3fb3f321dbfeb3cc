use Rattle.std.proofs.Common.{◌↔◌, IsTrue, map, sym, ap, ◌∙◌, subst}
use Rattle.std.specs.Prelude.{slice_get, IsSomeAnd}
use Rattle.pd_canvas.specs.Views.{entry_of}
use Rattle.pd_canvas.specs.Edits.{CanRetype}
use Rattle.pd_canvas.proofs.TreeLemmas.{entries_seen}
use Rattle.pd_canvas.proofs.edits.can_retype.Goals as goal

pub returns : goal.returns
returns c =
    subst (λ l. IsTrue c.can_retype_in.result ↔ IsSomeAnd (slice_get l c.args.number) CanRetype)
    (ap (map entry_of) c.as_slice.ensures ∙ sym (entries_seen c.canvas.inside c.args.canvas.now c.canvas.view_is))
    c.can_retype_in.ensures
