-- A canvas as contracts see it: a page, whose boxes are a list.
use Rattle.std.specs.Prelude.{ℕ, ℤ, ◌+◌, List, [], ◌∷◌, Option}
use Rattle.pd_atom.specs.declared.Atom.{Atom}
use Rattle.pd_canvas.specs.declared.wires.Wire.{Wire}

-- what an element is; the page that a Sub holds stands beside it
pub data Shape : Type 0 where
  Obj : Shape
  Msg : Shape
  Comment : Shape
  FloatBox : Shape
  SymbolBox : Shape
  Sub : Shape
  Array : List ℤ → Shape
  Other : ℕ → Shape

-- an element but for the page that it holds
pub record Head : Type 0 where
  pub x : ℤ
  pub y : ℤ
  pub form : Shape
  pub text : List Atom
  pub width : Option ℤ
  pub tail : List (List Atom)

-- a page but for its boxes
pub record Frame : Type 0 where
  pub header : List Atom
  pub kept : List (List Atom)
  pub wires : List Wire
  pub coords : List (List Atom)

-- the boxes of a page: of the first its head, the frame and the boxes of the page that it holds, then the other boxes
pub data Boxes : Type 0 where
  End : Boxes
  Box : Head → Frame → Boxes → Boxes → Boxes

pub record Page : Type 0 where
  pub header : List Atom
  pub kept : List (List Atom)
  pub boxes : Boxes
  pub wires : List Wire
  pub coords : List (List Atom)

-- an element and the page that it holds, which is the empty page where it holds none
pub record Entry : Type 0 where
  pub head : Head
  pub page : Page

abbrev pub frame_of : Page → Frame
frame_of p = record { header = p.header; kept = p.kept; wires = p.wires; coords = p.coords }

abbrev pub page_of : Frame → Boxes → Page
page_of f b = record { header = f.header; kept = f.kept; boxes = b; wires = f.wires; coords = f.coords }

-- the boxes as a list, and back
abbrev pub listed : Boxes → List Entry
listed End = []
listed (Box h f inner rest) = record { head = h; page = page_of f inner } ∷ listed rest

abbrev pub boxed : List Entry → Boxes
boxed [] = End
boxed (e ∷ es) = Box e.head (frame_of e.page) e.page.boxes (boxed es)

abbrev pub elements_of : Page → List Entry
elements_of p = listed p.boxes

abbrev pub with_elements : List Entry → Page → Page
with_elements es p = record { header = p.header; kept = p.kept; boxes = boxed es; wires = p.wires; coords = p.coords }

-- a page with nothing but a header
abbrev pub page_with_header : List Atom → Page
page_with_header header = record { header = header; kept = []; boxes = End; wires = []; coords = [] }

abbrev pub empty_page : Page
empty_page = page_with_header []

-- how many boxes there are, with those inside them
abbrev pub weight : Boxes → ℕ
weight End = 0
weight (Box h f inner rest) = weight inner + weight rest + 1

abbrev pub page_weight : Page → ℕ
page_weight p = weight p.boxes
