-- Boxes that grow again from their document.
use Rattle.std.specs.Prelude.{◌≡◌, ℕ, zero, suc, ◌+◌, List, [], ◌∷◌, Option, Some, None, option_and_then}
use Rattle.pd_atom.specs.Names.{Names}
use Rattle.pd_canvas.specs.Pages.{Shape, Sub, Head, Page, Entry, listed}
use Rattle.pd_library.specs.declared.answers.Answer.{Answer}
use Rattle.pd_tree.specs.declared.rows.Sheet.{Sheet}
use Rattle.pd_tree.specs.Trees.{Cell, Trees, Done, Leaf, Holder, Tree, join, weight, zeros_in, zeros_of, document_boxes, document_in}
use Rattle.pd_growth.specs.Making.{Around}
use Rattle.pd_growth.specs.Steps.{Stock, Step}
use Rattle.pd_growth.specs.Growth.{box_grown, boxes_grown, page_grown, without_ending, around_root, grown}
use Rattle.pd_regrowth_law.specs.Regrowth.{GivesAgain, inner_of}
use Rattle.pd_regrowth_law.specs.Suits.{IsLibraryOf, IsAroundOf}

-- what growth looks at in all canvases of a document: the library, the patch's own name, what is around, and the names so far
pub record Site : Type 0 where
  pub lib : ℕ → Option Answer
  pub root : List ℕ
  pub around : Around
  pub names : Names

-- what it looks up there is of the table
pub record IsSite (s : Site) : Type 0 where
  pub library : IsLibraryOf s.names s.lib
  pub around : IsAroundOf s.names s.around

-- the step gives these boxes again from their own `$0` numbers and room, whatever is behind those, in each table that goes on
abbrev pub GivesBoxes : (Stock → Step Trees) → Names → Trees → Type 0
GivesBoxes f names t = GivesAgain f t names (zeros_in t) (weight t)

-- a box, and boxes one after the other, where so many canvases may lie in one another inside their own
abbrev pub BoxRegrows : Site → ℕ → Entry → Trees → Type 0
BoxRegrows s left e t = GivesBoxes (box_grown s.lib s.root left (inner_of s.lib s.root left) s.around e) s.names t

abbrev pub ListRegrows : Site → ℕ → List Entry → Trees → Type 0
ListRegrows s left es t = GivesBoxes (boxes_grown s.lib s.root left (inner_of s.lib s.root left) s.around es) s.names t

abbrev pub PageRegrows : Site → ℕ → Page → Trees → Type 0
PageRegrows s left p t = GivesBoxes (page_grown s.lib s.root left s.around p) s.names t

-- each of these elements grows again by itself, with its own numbers and room, and what they give in their order are the boxes
abbrev pub AreRegrown : Site → ℕ → List Entry → Trees → Type 0
AreRegrown s left [] t = t ≡ Done
AreRegrown s left (e ∷ es) t = (box : Trees) × (rest : Trees) × (t ≡ join box rest) × BoxRegrows s left e box × AreRegrown s left es rest

-- the boxes are a first part that grows again from the first elements, and a rest that does from the others
pub record PartsRegrow (s : Site) (left : ℕ) (es fs : List Entry) (t : Trees) : Type 0 where
  pub first : Trees
  pub rest : Trees
  pub all : t ≡ join first rest
  pub before : ListRegrows s left es first
  pub behind : ListRegrows s left fs rest

-- boxes of a canvas grow again from their own document
abbrev pub Regrows : Site → ℕ → Trees → Type 0
Regrows s left t = ListRegrows s left (listed (document_boxes t)) t

-- each box of a canvas does, by itself
abbrev pub EachRegrows : Site → ℕ → Trees → Type 0
EachRegrows s left Done = Unit {0}
EachRegrows s left (Leaf c rest) = Regrows s left (Leaf c Done) × EachRegrows s left rest
EachRegrows s left (Holder c sheet inner rest) = Regrows s left (Holder c sheet inner Done) × EachRegrows s left rest

-- the same place with a table of more names
abbrev pub with_table : Names → Site → Site
with_table names s = record { lib = s.lib; root = s.root; around = s.around; names = names }

-- a patch grows again from its own document
abbrev pub PatchRegrows : (ℕ → Option Answer) → List ℕ → Names → Tree → Type 0
PatchRegrows lib file names t = GivesAgain (grown lib file (document_in t)) t names (zeros_of t) (weight t.boxes)

-- a canvas grows again: it has the `$0` and the arguments that are around, and its boxes grow again
pub record CanvasRegrows (s : Site) (left : ℕ) (t : Tree) : Type 0 where
  pub zero : t.sheet.zero ≡ s.around.zero
  pub arguments : t.sheet.arguments ≡ s.around.arguments
  pub boxes : Regrows s left t.boxes

abbrev pub canvas_with : Sheet → Trees → Tree
canvas_with sheet boxes = record { sheet = sheet; boxes = boxes }

-- what lies around a canvas, from the outside in: of each canvas around its sheet, and the box that holds the next one, between
-- those before and those behind it
pub data Nest : Type 0 where
  Alone : Nest
  Inside : Sheet → Trees → Cell → Nest → Trees → Nest

-- a canvas with all that lies around it
abbrev pub nested : Nest → Tree → Tree
nested Alone t = t
nested (Inside sheet before c nest behind) t =
    record { sheet = sheet; boxes = join before (Holder c (nested nest t).sheet (nested nest t).boxes behind) }

-- no abstraction lies around
abbrev pub AreSubpatches : Nest → Type 0
AreSubpatches Alone = Unit {0}
AreSubpatches (Inside sheet before c nest behind) = (c.head.form ≡ Sub) × AreSubpatches nest

-- how many canvases may lie in one another inside the outermost canvas, where so many may inside the innermost
abbrev pub left_outside : Nest → ℕ → ℕ
left_outside Alone n = n
left_outside (Inside sheet before c nest behind) n = suc (left_outside nest n)

-- the canvases of a patch's own document
abbrev pub own_site : (ℕ → Option Answer) → List ℕ → Names → ℕ → Site
own_site lib file names own = record { lib = lib; root = without_ending file; around = around_root own; names = names }

-- a running box that stands elsewhere: with another head of the same form and text
abbrev pub with_head : Head → Cell → Cell
with_head h c = record { head = h; text = c.text; kind = c.kind; fault = c.fault }

pub record IsMoved (h k : Head) : Type 0 where
  pub form : k.form ≡ h.form
  pub text : k.text ≡ h.text

-- the canvas of a subpatch; that of an abstraction is no canvas of the document
abbrev pub sub_canvas : Shape → Sheet → Trees → Option Tree
sub_canvas Sub sheet inner = Some (canvas_with sheet inner)
sub_canvas form sheet inner = None

-- the canvas in the subpatch of a number
abbrev pub own_in_box : ℕ → Trees → Option Tree
own_in_box n Done = None
own_in_box zero (Leaf c rest) = None
own_in_box zero (Holder c sheet inner rest) = sub_canvas c.head.form sheet inner
own_in_box (suc n) (Leaf c rest) = own_in_box n rest
own_in_box (suc n) (Holder c sheet inner rest) = own_in_box n rest

-- the canvas of the document to which a path of box numbers leads
abbrev pub own_along : List ℕ → Tree → Option Tree
own_along [] t = Some t
own_along (n ∷ path) t = option_and_then (own_along path) (own_in_box n t.boxes)

-- a canvas with what lies around it, so deep
pub record LiesWithin (depth : ℕ) (t u : Tree) : Type 0 where
  pub nest : Nest
  pub whole : t ≡ nested nest u
  pub subpatches : AreSubpatches nest
  pub levels : (left : ℕ) → left_outside nest left ≡ depth + left
