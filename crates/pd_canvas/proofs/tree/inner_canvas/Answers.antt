use Rattle.std.proofs.Common.{map, sym, ap, ◌∙◌}
use Rattle.std.specs.Prelude.{slice_get, option_and_then}
use Rattle.pd_canvas.specs.Views.{entry_of}
use Rattle.pd_canvas.specs.Paths.{sub_page}
use Rattle.pd_canvas.proofs.TreeLemmas.{entries_seen}
use Rattle.pd_canvas.proofs.tree.inner_canvas.Goals as goal

pub returns : goal.returns
returns c =
    c.inner_of.ensures
    ∙ (ap (λ l. option_and_then sub_page (slice_get (map entry_of l) c.args.number)) c.as_slice.ensures
    ∙ sym (ap (λ l. option_and_then sub_page (slice_get l c.args.number)) (entries_seen c.canvas.inside c.args.canvas.now c.canvas.view_is)))
