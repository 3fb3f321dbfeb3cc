-- What a patch tells of its boxes and canvases.
use Rattle.std.specs.Prelude.{ℕ, Bool, true, false, List, [], ◌∷◌, slice_get, Option, Some, None, option_map, option_and_then, unwrap_or}
use Rattle.pd_atom.specs.declared.Atom.{Atom}
use Rattle.pd_atom.specs.declared.Atom.TheVariants as atom
use Rattle.pd_canvas.specs.Pages.{Shape, Other}
use Rattle.pd_canvas.specs.Views.{shape_of}
use Rattle.pd_order.specs.Listing.{Listing}
use Rattle.pd_tree.specs.declared.rows.Fault.{Fault}
use Rattle.pd_grove.specs.declared.nodes.Node.{Node}

-- the signal order of the canvas of a key
abbrev pub order_in : List (Option Listing) → ℕ → Option Listing
order_in orders c = option_and_then (λ o. o) (slice_get orders c)

abbrev pub has_some : List ℕ → Bool
has_some [] = false
has_some (x ∷ xs) = true

-- whether boxes feed one another in a loop
abbrev pub is_looped : Option Listing → Bool
is_looped None = false
is_looped (Some o) = has_some o.stuck

-- the atom that the line of a box names: the word of its record where that has one, or else the first of its text
abbrev pub atom_named : Shape → List Atom → Option Atom
atom_named (Other s) text = Some (atom.Symbol s)
atom_named shape text = slice_get text 0

abbrev pub line_atom : Node → Option Atom
line_atom n = atom_named (shape_of n.element.form) n.text

abbrev pub fault_with : Option Fault → Option Atom → Option (Fault × Atom)
fault_with None a = None
fault_with (Some fault) a = option_map (λ x. (fault, x)) a

-- why a box could not be made, and the atom that its line names
abbrev pub fault_in : Option Node → Option (Fault × Atom)
fault_in o = option_and_then (λ n. fault_with n.fault (line_atom n)) o

-- the number that stands under the key of a box
abbrev pub number_in : List ℕ → ℕ → ℕ
number_in numbers k = unwrap_or (slice_get numbers k) 0
