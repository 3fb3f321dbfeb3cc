-- Trees that differ in the wires of the document alone.
use Rattle.std.specs.Prelude.{◌≡◌, List}
use Rattle.pd_canvas.specs.declared.wires.Wire.{Wire}
use Rattle.pd_canvas.specs.Pages.{Shape, Sub}
use Rattle.pd_tree.specs.declared.rows.Sheet.{Sheet}
use Rattle.pd_tree.specs.Trees.{Cell, Trees, Done, Leaf, Holder, Tree}
use Rattle.pd_tree.specs.Ports.{trimmed_sheet}

abbrev pub with_wires : List Wire → Sheet → Sheet
with_wires ws s =
    record { zero = s.zero; arguments = s.arguments; header = s.header; kept = s.kept; wires = ws; coords = s.coords }

-- a box that holds a canvas: a subpatch with other wires and with boxes that are so, and an abstraction as it is
abbrev pub IsHolderAlike : Shape → Cell → Sheet → Trees → (Trees → Type 0) → (Trees → Type 0) → Trees → Type 0
IsHolderAlike Sub c s inner Inner Rest t =
    (ws : List Wire) × (boxes : Trees) × (others : Trees) × (t ≡ Holder c (with_wires ws s) boxes others) × Inner boxes × Rest others
IsHolderAlike form c s inner Inner Rest t = (others : Trees) × (t ≡ Holder c s inner others) × Rest others

-- the second is the first with other wires in its subpatches; what lies in abstractions is the same
abbrev pub AreAlike : Trees → Trees → Type 0
AreAlike Done t = t ≡ Done
AreAlike (Leaf c rest) t = (others : Trees) × (t ≡ Leaf c others) × AreAlike rest others
AreAlike (Holder c s inner rest) t = IsHolderAlike c.head.form c s inner (AreAlike inner) (AreAlike rest) t

-- the same of patches, whose own wires may be others too
pub record IsTreeAlike (t u : Tree) : Type 0 where
  pub wires : List Wire
  pub sheet : u.sheet ≡ with_wires wires t.sheet
  pub boxes : AreAlike t.boxes u.boxes

-- a box that holds a canvas: a subpatch with the wires that fit and with these boxes, and an abstraction as it is
abbrev pub holder_trimmed : Shape → Cell → Sheet → Trees → Trees → Trees → Trees
holder_trimmed Sub c s inner inside rest = Holder c (trimmed_sheet inner s) inside rest
holder_trimmed form c s inner inside rest = Holder c s inner rest

-- The boxes with the wires that fit in the canvases of the document itself. Abstractions have all the wires of their files.
abbrev pub own_trimmed : Trees → Trees
own_trimmed Done = Done
own_trimmed (Leaf c rest) = Leaf c (own_trimmed rest)
own_trimmed (Holder c s inner rest) = holder_trimmed c.head.form c s inner (own_trimmed inner) (own_trimmed rest)

abbrev pub own_trimmed_tree : Tree → Tree
own_trimmed_tree t = record { sheet = trimmed_sheet t.boxes t.sheet; boxes = own_trimmed t.boxes }
