-- Trees that differ in what the boxes of the document itself have.
use Rattle.std.specs.Prelude.{◌≡◌, ℕ, ℤ, List, [], ◌∷◌}
use Rattle.pd_atom.specs.declared.Atom.{Atom}
use Rattle.pd_atom.specs.declared.Atom.TheVariants.{Number}
use Rattle.pd_object.specs.declared.kinds.Toggle.{Toggle}
use Rattle.pd_canvas.specs.Pages.{Shape, Sub}
use Rattle.pd_tree.specs.declared.rows.Sheet.{Sheet}
use Rattle.pd_tree.specs.Trees.{Cell, Trees, Done, Leaf, Holder}
use Rattle.pd_regrowth_law.specs.Canvases.{Site, Regrows}

-- of two boxes without a canvas the second grows again wherever the first does
abbrev pub LeafFollows : Site → Cell → Cell → Type 0
LeafFollows s c d = (left : ℕ) → Regrows s left (Leaf c Done) → Regrows s left (Leaf d Done)

-- a subpatch whose canvas has other records and other boxes, and an abstraction as it is
abbrev pub IsHolderRefilled : Shape → Cell → Sheet → Trees → (Trees → Type 0) → (Trees → Type 0) → Trees → Type 0
IsHolderRefilled Sub c sheet inner Inner Rest u =
    (other : Sheet) × (boxes : Trees) × (others : Trees) × (u ≡ Holder c other boxes others)
    × (other.zero ≡ sheet.zero) × (other.arguments ≡ sheet.arguments) × Inner boxes × Rest others
IsHolderRefilled form c sheet inner Inner Rest u = (others : Trees) × (u ≡ Holder c sheet inner others) × Rest others

-- the second has in the canvases of the document, in place of each box without a canvas, one that grows again where that does;
-- what lies in abstractions is the same
abbrev pub IsRefilled : Site → Trees → Trees → Type 0
IsRefilled s Done u = u ≡ Done
IsRefilled s (Leaf c rest) u = (d : Cell) × (others : Trees) × (u ≡ Leaf d others) × LeafFollows s c d × IsRefilled s rest others
IsRefilled s (Holder c sheet inner rest) u = IsHolderRefilled c.head.form c sheet inner (IsRefilled s inner) (IsRefilled s rest) u

-- the value and the other value of a toggle, at the end of its text
abbrev pub last_two : ℤ → ℤ → List Atom
last_two value other = Number value ∷ Number other ∷ []

-- a toggle with another value and another other value
abbrev pub turned : ℤ → ℤ → Toggle → Toggle
turned value other t = record t { value = value; other = other }
