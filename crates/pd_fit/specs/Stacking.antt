-- Boxes of a list in text order, from the last one to the first: each that holds a canvas takes the boxes of that canvas off.
use Rattle.std.specs.Prelude.{ℕ, ◌+◌, List, [], ◌∷◌, take, drop, Option, Some, None}
use Rattle.pd_tree.specs.declared.rows.Sheet.{Sheet}
use Rattle.pd_tree.specs.Trees.{Cell, Stand}
use Rattle.pd_fit.specs.Seeing.{View, leaf_view, holder_view, fitting}

-- a box, with the sheet of the canvas that it holds and how many boxes that canvas has, before the boxes that follow it
abbrev pub stacked_on : Cell → Option Sheet → ℕ → List View → List View
stacked_on c None n vs = leaf_view c ∷ vs
stacked_on c (Some s) n vs = holder_view c (take n vs) ∷ drop n vs

-- the boxes that are in no other one of the list
abbrev pub stacked : List Stand → List View
stacked [] = []
stacked (s ∷ ss) = stacked_on s.cell s.sheet s.boxes (stacked ss)

-- how many wires fit of the canvas that a box holds
abbrev pub wires_on : Option Sheet → ℕ → List View → ℕ
wires_on None n vs = 0
wires_on (Some s) n vs = fitting (take n vs) s.wires

-- how many fit of all canvases that boxes of the list hold
abbrev pub wires_stacked : List Stand → ℕ
wires_stacked [] = 0
wires_stacked (s ∷ ss) = wires_on s.sheet s.boxes (stacked ss) + wires_stacked ss
