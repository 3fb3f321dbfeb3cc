-- What the edits make of a page.
use Rattle.std.specs.Prelude.{◌≡◌, ℕ, ℤ, pos, ◌<◌, Bool, true, false, ◌==◌, if◌then◌else◌, IsTrue, List, [], ◌∷◌, ◌++◌, length, slice_get, remove, None, IsSomeAnd}
use Rattle.pd_atom.specs.declared.Atom.{Atom}
use Rattle.pd_atom.specs.declared.Atom.TheVariants.{Number, Symbol}
use Rattle.pd_canvas.specs.declared.wires.Wire.{Wire}
use Rattle.pd_canvas.specs.declared.edits.Edit.{Edit}
use Rattle.pd_canvas.specs.declared.edits.Edit.TheVariants as edit
use Rattle.pd_canvas.specs.Pages.{Shape, Obj, Msg, Comment, FloatBox, SymbolBox, Sub, Array, Page, Entry, elements_of, with_elements, page_with_header, empty_page}
use Rattle.pd_canvas.specs.Paths.{change_box}
use Rattle.pd_canvas.specs.Wiring.{with_wire, without_wire, without_box}

-- every table has the symbols `pd` and `subpatch` at these numbers
abbrev pub pd : ℕ
pd = 4

abbrev pub subpatch : ℕ
subpatch = 5

abbrev pub is_pd : Atom → Bool
is_pd (Symbol s) = s == pd
is_pd _ = false

-- the text of a subpatch begins with the symbol `pd`
abbrev pub begins_with_pd : List Atom → Bool
begins_with_pd [] = false
begins_with_pd (a ∷ text) = is_pd a

abbrev pub first_or : Atom → List Atom → Atom
first_or d [] = d
first_or d (a ∷ text) = a

-- the name of a new subpatch: the second atom of its text, or `subpatch`
abbrev pub new_name : List Atom → Atom
new_name [] = Symbol subpatch
new_name (a ∷ text) = first_or (Symbol subpatch) text

-- the header of a new subpatch: the place and the size of its window, its name, and 0
abbrev pub new_header : List Atom → List Atom
new_header text =
    Number (pos 0) ∷ Number (pos 0) ∷ Number (pos 450000000) ∷ Number (pos 300000000) ∷ new_name text ∷ Number (pos 0) ∷ []

-- an element without width and tail rows
abbrev pub element : Shape → Page → ℤ → ℤ → List Atom → Entry
element form page x y text = record { head = record { x = x; y = y; form = form; text = text; width = None; tail = [] }; page = page }

-- what an object's text makes: a subpatch where it begins with `pd`
abbrev pub object : ℤ → ℤ → List Atom → Entry
object x y text =
    if begins_with_pd text then element Sub (page_with_header (new_header text)) x y text else element Obj empty_page x y text

-- a subpatch keeps what it holds where its new text begins with `pd`
abbrev pub retyped_subpatch : List Atom → Entry → Entry
retyped_subpatch text e =
    if begins_with_pd text then element Sub e.page e.head.x e.head.y text else object e.head.x e.head.y text

abbrev pub retyped_as : Shape → List Atom → Entry → Entry
retyped_as Obj text e = object e.head.x e.head.y text
retyped_as Msg text e = element Msg empty_page e.head.x e.head.y text
retyped_as Comment text e = element Comment empty_page e.head.x e.head.y text
retyped_as Sub text e = retyped_subpatch text e
retyped_as _ text e = e

-- an element with another text
abbrev pub retyped : List Atom → Entry → Entry
retyped text e = retyped_as e.head.form text e

abbrev pub moved : ℤ → ℤ → Entry → Entry
moved x y e = record { head = record { x = x; y = y; form = e.head.form; text = e.head.text; width = e.head.width; tail = e.head.tail }; page = e.page }

abbrev pub appended : Entry → Page → Page
appended e p = with_elements (elements_of p ++ e ∷ []) p

abbrev pub with_wires : List Wire → Page → Page
with_wires ws p = record { header = p.header; kept = p.kept; boxes = p.boxes; wires = ws; coords = p.coords }

-- less box n and its wires
abbrev pub without : ℕ → Page → Page
without n p = with_wires (without_box n p.wires) (with_elements (remove (elements_of p) n) p)

-- the page after an edit
abbrev pub edited : Edit → Page → Page
edited (edit.Obj x y text) p = appended (object x y text) p
edited (edit.Msg x y text) p = appended (element Msg empty_page x y text) p
edited (edit.Comment x y text) p = appended (element Comment empty_page x y text) p
edited (edit.FloatBox x y text) p = appended (element FloatBox empty_page x y text) p
edited (edit.SymbolBox x y text) p = appended (element SymbolBox empty_page x y text) p
edited (edit.Sub x y name) p = appended (object x y (Symbol pd ∷ name)) p
edited (edit.Connect wire) p = with_wires (with_wire wire p.wires) p
edited (edit.Disconnect wire) p = with_wires (without_wire wire p.wires) p
edited (edit.Delete number) p = without number p
edited (edit.Retype number text) p = change_box number (retyped text) p
edited (edit.Move number x y) p = change_box number (moved x y) p

-- a message, a comment, an object or a subpatch
abbrev pub takes_text : Shape → List Atom → Bool
takes_text Obj text = true
takes_text Msg text = true
takes_text Comment text = true
takes_text Sub text = begins_with_pd text
takes_text _ text = false

abbrev pub is_array : Shape → Bool
is_array (Array vs) = true
is_array _ = false

abbrev pub CanRetype : Entry → Type 0
CanRetype e = IsTrue (takes_text e.head.form e.head.text)

abbrev pub CanMove : Entry → Type 0
CanMove e = is_array e.head.form ≡ false

-- the box that an edit names is there, and the verb is for it
abbrev pub Fits : Edit → Page → Type 0
Fits (edit.Delete number) p = number < length (elements_of p)
Fits (edit.Retype number text) p = IsSomeAnd (slice_get (elements_of p) number) CanRetype
Fits (edit.Move number x y) p = IsSomeAnd (slice_get (elements_of p) number) CanMove
Fits _ p = Unit {0}
