-- Proper documents: those that can be written and read again.
use Rattle.std.specs.Prelude.{◌≡◌, ℕ, ◌+◌, ◌<◌, ◌≤◌, max, ℤ, pos, Bool, false, List, [], ◌∷◌, length, Option, Some, None, codes, bytes_eq}
use Rattle.std.specs.List.{AllByRecursion, list_all, list_any}
use Rattle.pd_num.specs.Scale.{millionths, IsInRange}
use Rattle.pd_atom.specs.declared.Atom.{Atom}
use Rattle.pd_atom.specs.declared.Atom.TheVariants.{Symbol}
use Rattle.pd_atom.specs.Names.{Names, name_of}
use Rattle.pd_atom.specs.Atoms.{IsOf, spelled}
use Rattle.pd_atom.specs.Tokens.{IsSettled}
use Rattle.pd_canvas.specs.declared.wires.Wire.{Wire}
use Rattle.pd_canvas.specs.Pages.{Shape, Obj, Msg, Comment, FloatBox, SymbolBox, Sub, Array, Other, Head, Frame, Boxes, End, Box, Page, frame_of, page_of, empty_page, weight}
use Rattle.pd_canvas.specs.Wiring.{AreSorted}
use Rattle.pd_canvas.specs.declared.edits.Edit.{Edit}
use Rattle.pd_canvas.specs.declared.edits.Edit.TheVariants as edit
use Rattle.pd_canvas.specs.Edits.{begins_with_pd, pd, new_header}
use Rattle.pd_canvas.specs.Arrays.{is_number, IsArray}

-- the atom is of the table, and what its spelling reads as
abbrev pub IsReady : Names → Atom → Type 0
IsReady names a = IsOf names a × IsSettled names a

abbrev pub AreReady : Names → List Atom → Type 0
AreReady names atoms = AllByRecursion (IsReady names) atoms

-- atoms of which a record has no more than 1,024
abbrev pub IsText : Names → List Atom → Type 0
IsText names atoms = AreReady names atoms × (length atoms ≤ 1024)

-- the words by which a record of `#X` is another one than a kept one
abbrev pub record_words : List (List ℕ)
record_words =
    codes "restore" ∷ codes "obj" ∷ codes "msg" ∷ codes "text" ∷ codes "floatatom" ∷ codes "symbolatom" ∷ codes "listbox" ∷ codes "array" ∷
    codes "connect" ∷ codes "coords" ∷ codes "scalar" ∷ []

abbrev pub is_record_word : List ℕ → Bool
is_record_word word = list_any (bytes_eq word) record_words

-- a kept record is not empty, and does not begin with a word that is read otherwise
abbrev pub IsKept : Names → List Atom → Type 0
IsKept names [] = ⊥
IsKept names (a ∷ atoms) = IsText names (a ∷ atoms) × (is_record_word (spelled names a) ≡ false)

-- a row of one or more numbers and nothing else
abbrev pub is_number_row : List Atom → Bool
is_number_row [] = false
is_number_row (a ∷ row) = list_all is_number (a ∷ row)

abbrev pub IsWidth : Option ℤ → Type 0
IsWidth None = Unit {0}
IsWidth (Some z) = IsInRange millionths z

-- an array is at 0 0 without a width, and no row after it would be read as values
pub record IsArrayHead (h : Head) (values : List ℤ) : Type 0 where
  pub text : IsArray h.text values
  pub numbers : AllByRecursion (IsInRange millionths) values
  pub x : h.x ≡ pos 0
  pub y : h.y ≡ pos 0
  pub width : h.width ≡ None
  pub tail : AllByRecursion (λ row. is_number_row row ≡ false) h.tail

-- what an element of this form keeps to
abbrev pub FitsForm : Names → Shape → Head → Type 0
FitsForm names Obj h = begins_with_pd h.text ≡ false
FitsForm names Msg h = Unit {0}
FitsForm names Comment h = Unit {0}
FitsForm names FloatBox h = Unit {0}
FitsForm names SymbolBox h = Unit {0}
FitsForm names Sub h = Unit {0}
FitsForm names (Array values) h = IsArrayHead h values
FitsForm names (Other s) h = (s < length names) × (name_of names s ≡ codes "listbox")

pub record IsHead (names : Names) (h : Head) : Type 0 where
  pub x : IsInRange millionths h.x
  pub y : IsInRange millionths h.y
  pub text : IsText names h.text
  pub width : IsWidth h.width
  pub tail : AllByRecursion (AreReady names) h.tail
  pub form : FitsForm names h.form h

-- a wire's numbers are from 0 to 65,535
pub record IsSmall (w : Wire) : Type 0 where
  pub source : w.source ≤ 65535
  pub outlet : w.outlet ≤ 65535
  pub sink : w.sink ≤ 65535
  pub inlet : w.inlet ≤ 65535

pub record IsFrame (names : Names) (f : Frame) : Type 0 where
  pub header : IsText names f.header
  pub kept : AllByRecursion (IsKept names) f.kept
  pub small : AllByRecursion IsSmall f.wires
  pub sorted : AreSorted f.wires
  pub coords : AllByRecursion (IsText names) f.coords

-- the page beside an element that holds none
abbrev pub HoldsNone : Shape → Page → Type 0
HoldsNone Sub p = Unit {0}
HoldsNone _ p = p ≡ empty_page

abbrev pub AreBoxes : Names → Boxes → Type 0
AreBoxes names End = Unit {0}
AreBoxes names (Box h f inner rest) =
    IsHead names h × HoldsNone h.form (page_of f inner) × IsFrame names f × AreBoxes names inner × AreBoxes names rest

-- each canvas of the document is well formed
abbrev pub IsSound : Names → Page → Type 0
IsSound names p = IsFrame names (frame_of p) × AreBoxes names p.boxes

-- how many canvases lie in one another, below the one that has these boxes
abbrev pub levels_of : Shape → ℕ → ℕ
levels_of Sub n = n + 1
levels_of _ n = 0

abbrev pub levels : Boxes → ℕ
levels End = 0
levels (Box h f inner rest) = max (levels_of h.form (levels inner)) (levels rest)

-- how many wires there are in these boxes
abbrev pub inner_wires : Boxes → ℕ
inner_wires End = 0
inner_wires (Box h f inner rest) = length f.wires + inner_wires inner + inner_wires rest

abbrev pub count_boxes : Page → ℕ
count_boxes p = weight p.boxes

abbrev pub count_wires : Page → ℕ
count_wires p = length p.wires + inner_wires p.boxes

-- the limits of a document: 16,384 elements, 65,536 wires, and 256 canvases in one another
pub record IsWithinLimits (p : Page) : Type 0 where
  pub boxes : count_boxes p ≤ 16384
  pub wires : count_wires p ≤ 65536
  pub levels : levels p.boxes + 1 ≤ 256

pub record IsProper (names : Names) (p : Page) : Type 0 where
  pub sound : IsSound names p
  pub limits : IsWithinLimits p

-- the place and the text of a box, as a verb brings them
pub record BringsBox (names : Names) (a b : ℤ) (atoms : List Atom) : Type 0 where
  pub x : IsInRange millionths a
  pub y : IsInRange millionths b
  pub text : IsText names atoms

-- What an edit brings is ready: places, texts, the headers of new subpatches, and wires.
abbrev pub Brings : Names → Edit → Type 0
Brings names (edit.Obj x y text) = BringsBox names x y text × IsText names (new_header text)
Brings names (edit.Msg x y text) = BringsBox names x y text
Brings names (edit.Comment x y text) = BringsBox names x y text
Brings names (edit.FloatBox x y text) = BringsBox names x y text
Brings names (edit.SymbolBox x y text) = BringsBox names x y text
Brings names (edit.Sub x y name) = BringsBox names x y (Symbol pd ∷ name) × IsText names (new_header (Symbol pd ∷ name))
Brings names (edit.Connect wire) = IsSmall wire
Brings names (edit.Disconnect wire) = Unit {0}
Brings names (edit.Delete number) = Unit {0}
Brings names (edit.Retype number text) = IsText names text × IsText names (new_header text)
Brings names (edit.Move number x y) = IsInRange millionths x × IsInRange millionths y
