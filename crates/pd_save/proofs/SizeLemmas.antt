-- The sizes by which a recursion over the boxes of a canvas is seen to end.
use Rattle.std.proofs.Common.{◌+◌, ◌*◌, ◌≤◌, List, [], ◌∷◌, arith}
use denote.Param.Weighed.{most}
use Rattle.pd_canvas.specs.declared.tree.Element.{Element}
use Rattle.pd_canvas.specs.declared.tree.Canvas.TheDeep.{size-Element}
use Rattle.pd_canvas.specs.Pages.{weight, boxed}
use Rattle.pd_canvas.specs.Views.{entries_of}
use Rattle.pd_canvas.specs.Falls.{form_falls}

pub sizes_fall : (es : List Element) → most (λ e. size-Element e) es ≤ 4 * weight (boxed (entries_of es)) + 2
sizes_fall [] = omega arith
sizes_fall (e ∷ es) = omega (arith, form_falls e.form, sizes_fall es)
