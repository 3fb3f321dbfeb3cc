-- Boxes that stay and boxes that are grown anew, where the library answers otherwise for one name.
use Rattle.std.specs.Prelude.{◌≡◌, ◌⊎◌, ℕ, pred, Bool, true, false, ◌||◌, List, [], ◌∷◌, Option}
use Rattle.pd_atom.specs.Names.{Names}
use Rattle.pd_canvas.specs.Pages.{Shape, Sub, Head, Entry, empty_page}
use Rattle.pd_library.specs.declared.answers.Answer.{Answer}
use Rattle.pd_tree.specs.declared.rows.Sheet.{Sheet}
use Rattle.pd_tree.specs.Trees.{Cell, Trees, Done, Leaf, Holder, join, weight, zeros_in}
use Rattle.pd_growth.specs.Steps.{Stock, Step}
use Rattle.pd_growth.specs.Making.{Around}
use Rattle.pd_growth.specs.Growth.{box_grown}
use Rattle.pd_regrowth_law.specs.Regrowth.{inner_of, GivesAgain}
use Rattle.pd_regrowth_law.specs.Asking.{cell_asks, asks_for}

abbrev pub joined : List Trees → Trees
joined [] = Done
joined (t ∷ ts) = join t (joined ts)

-- elements and what is there of each: what grew as before and doesn't ask for the name, or what grows now
abbrev pub AreRenewed : (Entry → Stock → Step Trees) → (Entry → Stock → Step Trees) → ℕ → Names → List Entry → List Trees → Type 0
AreRenewed before now name names [] [] = Unit {0}
AreRenewed before now name names [] (t ∷ ts) = ⊥
AreRenewed before now name names (e ∷ es) [] = ⊥
AreRenewed before now name names (e ∷ es) (t ∷ ts) =
    ((GivesAgain (before e) t names (zeros_in t) (weight t) × (asks_for name t ≡ false)) ⊎ GivesAgain (now e) t names (zeros_in t) (weight t))
    × AreRenewed before now name names es ts

-- what is grown anew, or stays
abbrev pub IsRebuilt : Bool → (Trees → Type 0) → Trees → Trees → Type 0
IsRebuilt true IsNew t u = IsNew u
IsRebuilt false IsNew t u = u ≡ t

-- The second is the first with each outermost box of the document that asks for the name, or holds one that does, grown anew:
-- what is new of a box is said by how many canvases may lie in it and by what the document has of it. A subpatch is no such box.
abbrev pub IsHolderRebuilt : Shape → Cell → Sheet → Bool → (Trees → Type 0) → (Trees → Type 0) → (Trees → Type 0) → Trees → Trees → Type 0
IsHolderRebuilt Sub c s asks Inner IsNew Rest inner u = (boxes : Trees) × (others : Trees) × (u ≡ Holder c s boxes others) × Inner boxes × Rest others
IsHolderRebuilt form c s asks Inner IsNew Rest inner u =
    (first : Trees) × (others : Trees) × (u ≡ join first others) × IsRebuilt asks IsNew (Holder c s inner Done) first × Rest others

abbrev pub AreRebuilt : (ℕ → Head → Trees → Type 0) → ℕ → ℕ → Trees → Trees → Type 0
AreRebuilt IsNew name left Done u = u ≡ Done
AreRebuilt IsNew name left (Leaf c rest) u =
    (first : Trees) × (others : Trees) × (u ≡ join first others) × IsRebuilt (cell_asks name c) (IsNew left c.head) (Leaf c Done) first × AreRebuilt IsNew name left rest others
AreRebuilt IsNew name left (Holder c s inner rest) u =
    IsHolderRebuilt c.head.form c s (cell_asks name c || asks_for name inner) (AreRebuilt IsNew name (pred left) inner) (IsNew left c.head) (AreRebuilt IsNew name left rest) inner u

-- what a box with this head, which is no subpatch, grows to again
abbrev pub GrowsAnew : (ℕ → Option Answer) → List ℕ → Around → Names → ℕ → Head → Trees → Type 0
GrowsAnew lib root a names left h t =
    GivesAgain (box_grown lib root left (inner_of lib root left) a (record { head = h; page = empty_page })) t names (zeros_in t) (weight t)
