-- How many wires of a grown tree fit.
use Rattle.std.specs.Prelude.{ℕ, ◌+◌, length}
use Rattle.pd_tree.specs.declared.rows.Sheet.{Sheet}
use Rattle.pd_tree.specs.Trees.{Trees, Done, Leaf, Holder}
use Rattle.pd_tree.specs.Ports.{trimmed_sheet}

-- of the canvases inside these boxes
abbrev pub wires_inside : Trees → ℕ
wires_inside Done = 0
wires_inside (Leaf c rest) = wires_inside rest
wires_inside (Holder c s inner rest) = length (trimmed_sheet inner s).wires + (wires_inside inner + wires_inside rest)

-- of a canvas with this sheet and these boxes, and of those inside it
abbrev pub wires_fitting : Sheet → Trees → ℕ
wires_fitting s boxes = length (trimmed_sheet boxes s).wires + wires_inside boxes
