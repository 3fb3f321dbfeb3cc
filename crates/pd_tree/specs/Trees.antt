-- Running canvases as a tree, and as the list of their boxes in text order.
use Rattle.std.specs.Prelude.{ℕ, ◌+◌, List, [], ◌∷◌, ◌++◌, map, Option, Some, None}
use Rattle.pd_atom.specs.declared.Atom.{Atom}
use Rattle.pd_object.specs.declared.kinds.Kind.{Kind}
use Rattle.pd_canvas.specs.Pages.{Shape, Obj, Msg, Comment, FloatBox, SymbolBox, Sub, Array, Other, Head, Frame, Boxes, End, Box, Page, page_of, frame_of, empty_page}
use Rattle.pd_canvas.specs.Views.{entry_of}
use Rattle.pd_tree.specs.declared.rows.Fault.{Fault}
use Rattle.pd_tree.specs.declared.rows.Sheet.{Sheet}
use Rattle.pd_tree.specs.declared.rows.Row.{Row}

-- a running box but for the canvas that it holds: what the document has, its text with the dollars replaced, its kind, and why
-- it isn't made
pub record Cell : Type 0 where
  pub head : Head
  pub text : List Atom
  pub kind : Kind
  pub fault : Option Fault

-- the boxes of a running canvas: of the first, what it is, and the sheet and the boxes of the canvas that it holds, then the others
pub data Trees : Type 0 where
  Done : Trees
  Leaf : Cell → Trees → Trees
  Holder : Cell → Sheet → Trees → Trees → Trees

-- a running canvas
pub record Tree : Type 0 where
  pub sheet : Sheet
  pub boxes : Trees

-- boxes and then further boxes of the same canvas
abbrev pub join : Trees → Trees → Trees
join Done more = more
join (Leaf c rest) more = Leaf c (join rest more)
join (Holder c s inner rest) more = Holder c s inner (join rest more)

-- how many boxes a canvas has
abbrev pub width : Trees → ℕ
width Done = 0
width (Leaf c rest) = width rest + 1
width (Holder c s inner rest) = width rest + 1

-- how many boxes there are, with those inside them
abbrev pub weight : Trees → ℕ
weight Done = 0
weight (Leaf c rest) = weight rest + 1
weight (Holder c s inner rest) = weight inner + weight rest + 1

-- a box in a list in text order: of the canvas that it holds the sheet, and how many boxes it has
pub record Stand : Type 0 where
  pub cell : Cell
  pub sheet : Option Sheet
  pub boxes : ℕ

-- the boxes in text order: each one before those inside it
abbrev pub stands_of : Trees → List Stand
stands_of Done = []
stands_of (Leaf c rest) = record { cell = c; sheet = None; boxes = 0 } ∷ stands_of rest
stands_of (Holder c s inner rest) = record { cell = c; sheet = Some s; boxes = width inner } ∷ (stands_of inner ++ stands_of rest)

-- what contracts see of a row
abbrev pub stand_of : Row → Stand
stand_of r = record {
  cell = record { head = (entry_of r.element).head; text = r.text; kind = r.kind; fault = r.fault };
  sheet = r.sheet;
  boxes = r.boxes;
}

abbrev pub stands_in : List Row → List Stand
stands_in rows = map stand_of rows

-- the records of a sheet, as a document has them
abbrev pub frame_in : Sheet → Frame
frame_in s = record { header = s.header; kept = s.kept; wires = s.wires; coords = s.coords }

-- the sheet of a page, with a `$0` and arguments
abbrev pub sheet_of : ℕ → List Atom → Page → Sheet
sheet_of own arguments p =
    record { zero = own; arguments = arguments; header = p.header; kept = p.kept; wires = p.wires; coords = p.coords }

-- what a document has of a box that holds a canvas: the canvas where the box is a subpatch, and nothing of an abstraction's
abbrev pub box_with : Shape → Head → Sheet → Boxes → Boxes → Boxes
box_with Sub h s inner rest = Box h (frame_in s) inner rest
box_with form h s inner rest = Box h (frame_of empty_page) End rest

-- the document from which these boxes grew
abbrev pub document_boxes : Trees → Boxes
document_boxes Done = End
document_boxes (Leaf c rest) = Box c.head (frame_of empty_page) End (document_boxes rest)
document_boxes (Holder c s inner rest) = box_with c.head.form c.head s (document_boxes inner) (document_boxes rest)

abbrev pub document_in : Tree → Page
document_in t = page_of (frame_in t.sheet) (document_boxes t.boxes)

-- the `$0` of a box that holds a canvas: a subpatch has that of the canvas around, and an abstraction one of its own
abbrev pub own_zeros : Shape → Sheet → List ℕ
own_zeros Sub s = []
own_zeros form s = s.zero ∷ []

-- the `$0` numbers of abstractions in text order
abbrev pub zeros_in : Trees → List ℕ
zeros_in Done = []
zeros_in (Leaf c rest) = zeros_in rest
zeros_in (Holder c s inner rest) = own_zeros c.head.form s ++ (zeros_in inner ++ zeros_in rest)

-- the `$0` numbers of a patch: the root's, and those of abstractions in text order
abbrev pub zeros_of : Tree → List ℕ
zeros_of t = t.sheet.zero ∷ zeros_in t.boxes
