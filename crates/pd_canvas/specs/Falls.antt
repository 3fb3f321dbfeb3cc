-- A page that a box holds weighs less than the page around.
use Rattle.std.specs.Prelude.{◌+◌, ◌≤◌, max, List, [], ◌∷◌, map}
use Rattle.std.proofs.Common.{arith}
use denote.Param.Weighed.{most}
use Rattle.pd_canvas.specs.declared.tree.Form.{Form}
use Rattle.pd_canvas.specs.declared.tree.Form.TheVariants as form
use Rattle.pd_canvas.specs.declared.tree.Element.{Element}
use Rattle.pd_canvas.specs.declared.tree.Canvas.TheDeep.{deep-Element, deep-Form}
use Rattle.pd_canvas.specs.Pages.{weight, boxed}
use Rattle.pd_canvas.specs.Views.{held, entry_of}

pub form_falls : (f : Form) → deep-Form f ≤ weight (held f).boxes + 1
form_falls form.Obj = omega arith
form_falls form.Msg = omega arith
form_falls form.Comment = omega arith
form_falls form.FloatBox = omega arith
form_falls form.SymbolBox = omega arith
form_falls (form.Sub c) = omega arith
form_falls (form.Array vs) = omega arith
form_falls (form.Other s) = omega arith

pub boxes_fall : (es : List Element) → max (max (most deep-Element es) 0) 0 ≤ weight (boxed (map entry_of es))
boxes_fall [] = omega arith
boxes_fall (e ∷ es) = omega (arith, form_falls e.form, boxes_fall es)
