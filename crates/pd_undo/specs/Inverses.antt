-- The turns that take an edit or other turns back.
use Rattle.std.specs.Prelude.{◌≡◌, ℕ, ◌-◌, ◌≤◌, pos, List, [], ◌∷◌, ◌++◌, length, map, take, get_or, unwrap_or}
use Rattle.pd_canvas.specs.declared.wires.Wire.{Wire}
use Rattle.pd_canvas.specs.declared.edits.Edit.{Edit}
use Rattle.pd_canvas.specs.declared.edits.Edit.TheVariants as edit
use Rattle.pd_canvas.specs.Pages.{Obj, Page, Entry, elements_of, empty_page}
use Rattle.pd_canvas.specs.Paths.{along, edit_at}
use Rattle.pd_canvas.specs.Edits.{element, with_wires}
use Rattle.pd_undo.specs.Acts.{Act, Put, Take, Swap, Wires, Placed, done}

-- the page that a path leads to; an empty one stands where there is none
abbrev pub page_at : List ℕ → Page → Page
page_at path d = unwrap_or (along path d) empty_page

-- the path to the page around the one that a path leads to
abbrev pub around : List ℕ → List ℕ
around path = take (length path - 1) path

-- box n of a page; an empty object stands where there is none
abbrev pub box_at : ℕ → Page → Entry
box_at n p = get_or (elements_of p) n (element Obj empty_page (pos 0) (pos 0) [])

-- acts in the page that a path leads to
abbrev pub at : List ℕ → List Act → List Placed
at path acts = map (λ a. record { path = path; act = a }) acts

-- the wires of the page around the one that a path leads to, where there is one
abbrev pub wires_around : List ℕ → List Wire → List Placed
wires_around [] ws = []
wires_around (i ∷ path) ws = at (around (i ∷ path)) (Wires ws ∷ [])

-- acts in the page that a path leads to, and then the wires of the page around it
abbrev pub with_around : List ℕ → List Act → List Wire → List Placed
with_around path acts ws = at path acts ++ wires_around path ws

-- the act for the box of an edit that takes it back, where the edit has a box
abbrev pub box_back : Edit → Page → List Act
box_back (edit.Obj x y text) p = Take (length (elements_of p)) ∷ []
box_back (edit.Msg x y text) p = Take (length (elements_of p)) ∷ []
box_back (edit.Comment x y text) p = Take (length (elements_of p)) ∷ []
box_back (edit.FloatBox x y text) p = Take (length (elements_of p)) ∷ []
box_back (edit.SymbolBox x y text) p = Take (length (elements_of p)) ∷ []
box_back (edit.Sub x y name) p = Take (length (elements_of p)) ∷ []
box_back (edit.Connect wire) p = []
box_back (edit.Disconnect wire) p = []
box_back (edit.Delete number) p = Put number (box_at number p) ∷ []
box_back (edit.Retype number text) p = Swap number (box_at number p) ∷ []
box_back (edit.Move number x y) p = Swap number (box_at number p) ∷ []

-- the turns that take an edit back: its box, then the wires of its page, then those of the page around, all as before it
abbrev pub turns_back : List ℕ → Edit → Page → List Placed
turns_back path e d =
    let p = page_at path d in with_around path (box_back e p ++ Wires p.wires ∷ []) (page_at (around path) d).wires

-- the opposite of an act, with the element as it was
abbrev pub opposite : Act → Page → List Act
opposite (Put n e) p = Take n ∷ []
opposite (Take n) p = Put n (box_at n p) ∷ []
opposite (Swap n e) p = Swap n (box_at n p) ∷ []
opposite (Wires ws) p = []

-- the opposites of turns, the last one first, each with the element as it was before its turn
abbrev pub opposites : List Placed → Page → List Placed
opposites [] d = []
opposites (t ∷ ts) d = opposites ts (done t d) ++ at t.path (opposite t.act (page_at t.path d))

-- an act that gives a page its wires gives it these
abbrev pub wires_for : Act → List Wire → List Act
wires_for (Put n e) ws = []
wires_for (Take n) ws = []
wires_for (Swap n e) ws = []
wires_for (Wires vs) ws = Wires ws ∷ []

-- of each page whose wires the turns give, its wires in this document
abbrev pub wires_of : List Placed → Page → List Placed
wires_of [] d = []
wires_of (t ∷ ts) d = at t.path (wires_for t.act (page_at t.path d).wires) ++ wires_of ts d

-- the turns that take turns back
abbrev pub inverse : List Placed → Page → List Placed
inverse ts d = opposites ts d ++ wires_of ts d

-- one of the acts gives the page its wires
abbrev pub GivesWires : List Act → Type 0
GivesWires [] = ⊥
GivesWires (Put n e ∷ acts) = GivesWires acts
GivesWires (Take n ∷ acts) = GivesWires acts
GivesWires (Swap n e ∷ acts) = GivesWires acts
GivesWires (Wires ws ∷ acts) = Unit {0}

-- other wires of a page
abbrev pub rewired : (List Wire → List Wire) → Page → Page
rewired f p = with_wires (f p.wires) p

-- other wires of the page that a path leads to, and of the page around it; the outermost page stands for the one around itself
abbrev pub rewired_at : List ℕ → (inner outer : List Wire → List Wire) → Page → Page
rewired_at path inner outer d = edit_at (around path) (rewired outer) (edit_at path (rewired inner) d)

-- The turns of one edit, or those that take it back: at most one box, then the wires of its page, then those of the page around.
pub record IsEntry (ts : List Placed) : Type 0 where
  pub path : List ℕ
  pub box : List Act
  pub inner : List Wire
  pub outer : List Wire
  pub one : length box ≤ 1
  pub form : ts ≡ with_around path (box ++ Wires inner ∷ []) outer
