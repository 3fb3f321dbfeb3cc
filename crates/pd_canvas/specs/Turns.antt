-- What the turns make of a page.
use Rattle.std.specs.Prelude.{ℕ, ◌<◌, ◌≤◌, List, insert, length, map}
use Rattle.std.specs.List.{AllByRecursion}
use Rattle.pd_canvas.specs.declared.wires.Wire.{Wire}
use Rattle.pd_canvas.specs.declared.turns.Change.{Change}
use Rattle.pd_canvas.specs.declared.turns.Change.TheVariants as change
use Rattle.pd_canvas.specs.Pages.{Page, Entry, elements_of, with_elements}
use Rattle.pd_canvas.specs.Views.{entry_of}
use Rattle.pd_canvas.specs.Wiring.{raised_wire}
use Rattle.pd_canvas.specs.Paths.{change_box}
use Rattle.pd_canvas.specs.Edits.{with_wires, without}

-- with an element at number n, before those that had this number and higher ones
abbrev pub put_in : ℕ → Entry → Page → Page
put_in n e p = with_wires (map (raised_wire n) p.wires) (with_elements (insert (elements_of p) n e) p)

-- the page after a change
abbrev pub turned : Change → Page → Page
turned (change.Put number element) p = put_in number (entry_of element) p
turned (change.Take number) p = without number p
turned (change.Swap number element) p = change_box number (λ _. entry_of element) p
turned (change.Wires wires) p = with_wires wires p

-- there are numbers above those of the wires' boxes
abbrev pub LeavesRoom : List Wire → Type 0
LeavesRoom ws = AllByRecursion (λ w. (w.source < 4294967295) × (w.sink < 4294967295)) ws

-- the box that a change names is there, or the place for it
abbrev pub CanTurn : Change → Page → Type 0
CanTurn (change.Put number element) p = (number ≤ length (elements_of p)) × LeavesRoom p.wires
CanTurn (change.Take number) p = number < length (elements_of p)
CanTurn (change.Swap number element) p = number < length (elements_of p)
CanTurn (change.Wires wires) p = Unit {0}
