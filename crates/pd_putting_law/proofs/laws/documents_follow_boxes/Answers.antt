use Rattle.std.proofs.Common.{◌∙◌}
use Rattle.pd_present.specs.Presents.{present_page}
use Rattle.pd_putting_law.proofs.PageLemmas.{document_put, document_put_in, edit_put}
use Rattle.pd_putting_law.proofs.PlaceLemmas.{last_at}
use Rattle.pd_putting_law.proofs.laws.documents_follow_boxes.Goals as goal

pub returns-clause-put : goal.returns-clause-put
returns-clause-put c = document_put_in

pub returns-clause-last : goal.returns-clause-last
returns-clause-last c = last_at

pub returns-clause-appended : goal.returns-clause-appended
returns-clause-appended c = document_put

pub returns-clause-edited : goal.returns-clause-edited
returns-clause-edited c = λ g h w w' numbers numbers' path canvas key e x B W S put.
    document_put g h w w' numbers numbers' path canvas key e B W S ∙ edit_put x e path (present_page g w numbers) put
