-- The canvases that are open while records are read, and what a record changes in them.
use Rattle.std.specs.Prelude.{ℕ, ◌+◌, ◌/◌, ℤ, pos, negsuc, suc, Bool, true, false, List, [], ◌∷◌, ◌++◌, length, take, drop, Option, Some, None, if◌then◌else◌}
use Rattle.pd_atom.specs.declared.Atom.{Atom}
use Rattle.pd_canvas.specs.declared.wires.Wire.{Wire}
use Rattle.pd_canvas.specs.Pages.{Shape, Array, Sub, Obj, Msg, Comment, FloatBox, SymbolBox, Other, Head, Page, Entry, boxed, empty_page}
use Rattle.pd_canvas.specs.Arrays.{is_saved}
use Rattle.pd_canvas.specs.Wiring.{with_wire}

-- the wires put in one by one, each last in its outlet's fan-out, behind those that are there
abbrev pub wired : List Wire → List Wire → List Wire
wired done [] = done
wired done (w ∷ ws) = wired (with_wire w done) ws

-- the wires by source, and then by outlet, in their order otherwise
abbrev pub sorted_wires : List Wire → List Wire
sorted_wires ws = wired [] ws

-- a canvas of which more may come: the number of the record that opened it, and what has come
pub record Level : Type 0 where
  pub number : ℕ
  pub header : List Atom
  pub kept : List (List Atom)
  pub boxes : List Entry
  pub wires : List Wire
  pub coords : List (List Atom)

abbrev pub new_level : ℕ → List Atom → Level
new_level n header = record { number = n; header = header; kept = []; boxes = []; wires = []; coords = [] }

-- the canvas, when no more comes
abbrev pub page_of_level : Level → Page
page_of_level l = record { header = l.header; kept = l.kept; boxes = boxed l.boxes; wires = sorted_wires l.wires; coords = l.coords }

-- the open canvases, the innermost first, and how many elements and wires the document has so far
pub record State : Type 0 where
  pub levels : List Level
  pub elements : ℕ
  pub wires : ℕ

abbrev pub start : State
start = record { levels = []; elements = 0; wires = 0 }

abbrev pub with_levels : List Level → State → State
with_levels ls s = record { levels = ls; elements = s.elements; wires = s.wires }

abbrev pub opened : Level → State → State
opened l s = with_levels (l ∷ s.levels) s

abbrev pub closed : State → State
closed s = with_levels (drop 1 s.levels) s

abbrev pub in_first : (Level → Level) → List Level → List Level
in_first f [] = []
in_first f (l ∷ ls) = f l ∷ ls

-- the innermost canvas changed
abbrev pub changed : (Level → Level) → State → State
changed f s = with_levels (in_first f s.levels) s

abbrev pub first_page : List Level → Page
first_page [] = empty_page
first_page (l ∷ ls) = page_of_level l

abbrev pub first_boxes : List Level → List Entry
first_boxes [] = []
first_boxes (l ∷ ls) = l.boxes

abbrev pub with_kept : List Atom → Level → Level
with_kept atoms l = record { number = l.number; header = l.header; kept = l.kept ++ atoms ∷ []; boxes = l.boxes; wires = l.wires; coords = l.coords }

abbrev pub with_coords : List Atom → Level → Level
with_coords atoms l = record { number = l.number; header = l.header; kept = l.kept; boxes = l.boxes; wires = l.wires; coords = l.coords ++ atoms ∷ [] }

abbrev pub with_boxes : List Entry → Level → Level
with_boxes es l = record { number = l.number; header = l.header; kept = l.kept; boxes = es; wires = l.wires; coords = l.coords }

abbrev pub with_wires : List Wire → Level → Level
with_wires ws l = record { number = l.number; header = l.header; kept = l.kept; boxes = l.boxes; wires = ws; coords = l.coords }

-- an element more, and a wire more
abbrev pub one_box_more : Entry → State → State
one_box_more e s = record { levels = in_first (λ l. with_boxes (l.boxes ++ e ∷ []) l) s.levels; elements = s.elements + 1; wires = s.wires }

abbrev pub one_wire_more : Wire → State → State
one_wire_more w s = record { levels = in_first (λ l. with_wires (l.wires ++ w ∷ []) l) s.levels; elements = s.elements; wires = s.wires + 1 }

abbrev pub last_of : List Entry → Option Entry
last_of [] = None
last_of (e ∷ []) = Some e
last_of (e ∷ f ∷ es) = last_of (f ∷ es)

abbrev pub in_last : Entry → List Entry → List Entry
in_last e [] = []
in_last e (f ∷ []) = e ∷ []
in_last e (f ∷ g ∷ es) = f ∷ in_last e (g ∷ es)

-- another element in the place of the last one of the innermost canvas
abbrev pub with_last : Entry → State → State
with_last e s = changed (λ l. with_boxes (in_last e l.boxes) l) s

abbrev pub with_head : Head → Entry → Entry
with_head h e = record { head = h; page = e.page }

abbrev pub with_form : Shape → Head → Head
with_form s h = record { x = h.x; y = h.y; form = s; text = h.text; width = h.width; tail = h.tail }

abbrev pub with_row : List Atom → Head → Head
with_row row h = record { x = h.x; y = h.y; form = h.form; text = h.text; width = h.width; tail = h.tail ++ row ∷ [] }

-- a row written over the values from the first on, as far as there are values
abbrev pub overlaid : List ℤ → List ℤ → List ℤ
overlaid row vs = take (length vs) row ++ drop (length row) vs

-- a row written over the values from the place on that the whole units of a number name; what is before the first value is left out
abbrev pub placed : ℤ → List ℤ → List ℤ → List ℤ
placed (pos m) row vs = take (m / 1000000) vs ++ overlaid row (drop (m / 1000000) vs)
placed (negsuc m) row vs = overlaid (drop (suc m / 1000000) row) vs

abbrev pub placed_in : ℤ → List ℤ → Shape → Shape
placed_in z row (Array vs) = Array (placed z row vs)
placed_in z row Obj = Obj
placed_in z row Msg = Msg
placed_in z row Comment = Comment
placed_in z row FloatBox = FloatBox
placed_in z row SymbolBox = SymbolBox
placed_in z row Sub = Sub
placed_in z row (Other s) = Other s

-- an array with a row of values, which it keeps where its flags say that they are saved
abbrev pub with_values : ℤ → List ℤ → Head → Head
with_values z row h = if is_saved h.text then with_form (placed_in z row h.form) h else h

abbrev pub is_array : Shape → Bool
is_array (Array vs) = true
is_array Obj = false
is_array Msg = false
is_array Comment = false
is_array FloatBox = false
is_array SymbolBox = false
is_array Sub = false
is_array (Other s) = false
