use Rattle.std.proofs.Common.{◌≡◌, ◌≤◌, sym, subst}
use Rattle.pd_canvas.specs.Pages.{Page}
use Rattle.pd_canvas.specs.Proper.{IsProper, count_wires}
use Rattle.pd_tree.specs.Trees.{document_in}
use Rattle.pd_patch.specs.Document.{present_document}
use Rattle.pd_reload_law.specs.Saving.{tree_now}
use Rattle.pd_proper_law.proofs.LawLemmas.{tree_proper}
use Rattle.pd_proper_law.proofs.laws.saved_documents_are_proper_now.Goals as goal

pub returns : goal.returns
returns c = λ names p t proper runs made few small saves r fit wires.
    let same : document_in (tree_now p.grove p.web p.numbers.items t) ≡ present_document p =
    c.documents_tell_trees.ensures.document p.grove p.web p.numbers.items t runs made in
    subst (IsProper names) same
    (tree_proper names p t proper runs made few small saves r fit (subst (λ (x : Page). count_wires x ≤ 65536) (sym same) wires))
