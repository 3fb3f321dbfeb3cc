-- What contracts see of a canvas, of its elements and of their forms.
use Rattle.std.specs.Prelude.{List, map}
use Rattle.pd_canvas.specs.declared.tree.Form.{Form}
use Rattle.pd_canvas.specs.declared.tree.Form.TheVariants as form
use Rattle.pd_canvas.specs.declared.tree.Element.{Element}
use Rattle.pd_canvas.specs.declared.tree.Elements.{Elements}
use Rattle.pd_canvas.specs.declared.tree.Canvas.TheInside.{Inside}
use Rattle.pd_canvas.specs.Pages.{Shape, Obj, Msg, Comment, FloatBox, SymbolBox, Sub, Array, Other, Page, Entry, boxed, empty_page}

abbrev pub shape_of : Form → Shape
shape_of form.Obj = Obj
shape_of form.Msg = Msg
shape_of form.Comment = Comment
shape_of form.FloatBox = FloatBox
shape_of form.SymbolBox = SymbolBox
shape_of (form.Sub c) = Sub
shape_of (form.Array vs) = Array vs
shape_of (form.Other s) = Other s

-- the page that a form holds, which is empty where it holds none
abbrev pub held : Form → Page
held (form.Sub c) = c.value
held f = empty_page

abbrev pub entry_of : Element → Entry
entry_of e = record {
  head = record { x = e.x; y = e.y; form = shape_of e.form; text = e.text; width = e.width; tail = e.tail };
  page = held e.form;
}

-- the boxes that a canvas holds, as the program has them
abbrev pub boxes_in : Elements → List Element
boxes_in es = es.items.items

abbrev pub entries_of : List Element → List Entry
entries_of es = map entry_of es

abbrev pub page_seen : Inside → Page
page_seen a = record { header = a.header; kept = a.kept; boxes = boxed (entries_of (boxes_in a.boxes)); wires = a.wires; coords = a.coords }
