use Rattle.std.proofs.Common.{ap, ◌∙◌}
use Rattle.pd_canvas.specs.Pages.{Page}
use Rattle.pd_canvas.specs.Paths.{edit_at}
use Rattle.pd_sliding_law.specs.Slid.{with_slid}
use Rattle.pd_sliding_law.proofs.DocumentLemmas.{kept_document, moved_document, wires_document}
use Rattle.pd_sliding_law.proofs.laws.documents_follow_slides.Goals as goal

pub returns-clause-wires : goal.returns-clause-wires
returns-clause-wires c = λ p q key holder side x y from to path n C I A. wires_document p q key holder side x y from to C I path n A

pub returns-clause-stays : goal.returns-clause-stays
returns-clause-stays c = λ p q key holder side x y from to I e. kept_document p q key holder side x y from to I e

pub returns-clause-moved : goal.returns-clause-moved
returns-clause-moved c = λ p q key holder side x y from to inner canvas number C I on is.
    moved_document p q key holder side x y from to C I inner canvas number on is

pub returns-clause-both : goal.returns-clause-both
returns-clause-both c = λ p q key holder side x y from to path inner n canvas number C I A on is.
    wires_document p q key holder side x y from to C I path n A
    ∙ ap (λ (z : Page). edit_at path (with_slid side n from to) z) (moved_document p q key holder side x y from to C I inner canvas number on is)
