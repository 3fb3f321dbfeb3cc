use Rattle.std.proofs.Common.{sym, subst}
use Rattle.pd_canvas.specs.Proper.{IsProper, IsWithinLimits}
use Rattle.pd_patch.specs.Document.{present_document}
use Rattle.pd_saved_law.proofs.EditLemmas.{edits_document}
use Rattle.pd_saved_law.proofs.ProperLemmas.{edit_fits}
use Rattle.pd_saved_law.proofs.laws.saved_documents_stay_proper.Goals as goal

pub returns : goal.returns
returns c = λ names p q t path e canvas once r G low x proper brings limits.
    let same = edits_document p q t path e canvas once r G low x in
    subst (IsProper names) (sym same)
    (c.edits_keep_proper.ensures names e path (present_document p) proper (edit_fits p q t path e canvas G low x) brings (subst IsWithinLimits same limits))
