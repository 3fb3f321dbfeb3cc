-- A tree with another box in the place of one, or with another text at one.
use Rattle.std.proofs.Common.{◌≡◌, ℕ, zero, suc, ◌+◌, max, Bool, ◌&&◌, List, [], ◌∷◌, ◌++◌, Some, refl, sym, ap, ◌∙◌, subst}
use Rattle.std.specs.List.{AllByRecursion}
use Rattle.pd_tree.specs.Trees.{Cell, Trees, Done, Leaf, Holder, Tree}
use Rattle.pd_grove.specs.TextOrder.{deep, is_sub, Placed, placed, placed_in_order}
use Rattle.pd_putting_law.specs.Puts.{change_at}
use Rattle.pd_retyping_law.specs.Retypes.{boxes_with, retyped_box, retyped_at, SuitsAt}
use Rattle.pd_engine.proofs.PutLemmas.{all_append, all_split}
use Rattle.pd_engine.proofs.ShiftLemmas.{deep_inside}
use Rattle.std.specs.Prelude.{option_and_then}
use Rattle.std.proofs.lemmas.Option.{none-some, same_Some}
use Rattle.pd_canvas.specs.Pages.{Shape}
use Rattle.pd_regrowth_law.specs.Canvases.{canvas_with, own_along, own_in_box}
use Rattle.pd_putting_law.specs.Puts.{change_inside}
use Rattle.pd_engine.proofs.PutLemmas.{sub_there}

-- ---- canvases lie as deep

deep_with : (n : ℕ) (c : Cell) (t : Trees) → deep (boxes_with n c t) ≡ deep t
deep_with n c Done = refl
deep_with zero c (Leaf d rest) = refl
deep_with zero c (Holder d s inner rest) = refl
deep_with (suc n) c (Leaf d rest) = deep_with n c rest
deep_with (suc n) c (Holder d s inner rest) = ap (λ (m : ℕ). max (deep inner + 1) m) (deep_with n c rest)

pub deep_retyped : (path : List ℕ) (number : ℕ) (c : Cell) (t : Tree) → deep (retyped_at path number c t).boxes ≡ deep t.boxes
deep_retyped [] number c t = deep_with number c t.boxes
deep_retyped (n ∷ path) number c t = deep_inside n (change_at path (retyped_box number c)) (λ u. deep_retyped path number c u) t.boxes

-- ---- what holds of all boxes and of the new one

module _ (P : Placed → Type 0) (c : Cell) (own : (top : Bool) → P (placed top c)) where
  abbrev AllOf : Bool → Trees → Type 0
  AllOf top t = AllByRecursion P (placed_in_order top t)

  all_with : (n : ℕ) (top : Bool) (t : Trees) → SuitsAt n c t → AllOf top t → AllOf top (boxes_with n c t)
  all_with n top Done suits h = h
  all_with zero top (Leaf d rest) suits h = (own top, h.1)
  all_with zero top (Holder d s inner rest) suits h =
      (own top, subst (λ (f : Shape). AllByRecursion P (placed_in_order (top && is_sub f) inner ++ placed_in_order top rest)) (suits.0 ∙ sym suits.1) h.1)
  all_with (suc n) top (Leaf d rest) suits h = (h.0, all_with n top rest suits h.1)
  all_with (suc n) top (Holder d s inner rest) suits h =
      let within : Bool = top && is_sub d.head.form in
      let parts : AllOf within inner × AllOf top rest = all_split P (placed_in_order within inner) (placed_in_order top rest) h.1 in
      (h.0, all_append P (placed_in_order within inner) (placed_in_order top (boxes_with n c rest)) parts.0 (all_with n top rest suits parts.1))

  -- the canvas to which the path leads changes alone
  all_along : (n : ℕ) (path : List ℕ) (f : Tree → Tree) (u : Tree) → ((top : Bool) (v : Tree) → own_along path v ≡ Some u → AllOf top v.boxes → AllOf top (f v).boxes)
      → (top : Bool) (t : Trees) → option_and_then (own_along path) (own_in_box n t) ≡ Some u → AllOf top t → AllOf top (change_inside n f t)
  all_along n path f u k top Done on h = h
  all_along zero path f u k top (Leaf d rest) on h = absurd (none-some u on)
  all_along zero path f u k top (Holder d s inner rest) on h =
      let within : Bool = top && is_sub d.head.form in
      let parts : AllOf within inner × AllOf top rest = all_split P (placed_in_order within inner) (placed_in_order top rest) h.1 in
      let there : own_along path (canvas_with s inner) ≡ Some u = sub_there d.head.form path s inner u on in
      (h.0, all_append P (placed_in_order within (f (canvas_with s inner)).boxes) (placed_in_order top rest) (k within (canvas_with s inner) there parts.0) parts.1)
  all_along (suc n) path f u k top (Leaf d rest) on h = (h.0, all_along n path f u k top rest on h.1)
  all_along (suc n) path f u k top (Holder d s inner rest) on h =
      let within : Bool = top && is_sub d.head.form in
      let parts : AllOf within inner × AllOf top rest = all_split P (placed_in_order within inner) (placed_in_order top rest) h.1 in
      (h.0, all_append P (placed_in_order within inner) (placed_in_order top (change_inside n f rest)) parts.0 (all_along n path f u k top rest on parts.1))

  -- where the box of the number holds a canvas, both are subpatches
  pub all_retyped : (path : List ℕ) (number : ℕ) (u : Tree) → SuitsAt number c u.boxes → (top : Bool) (t : Tree) → own_along path t ≡ Some u → AllOf top t.boxes
      → AllOf top (retyped_at path number c t).boxes
  all_retyped [] number u suits top t on h = all_with number top t.boxes (subst (λ (v : Tree). SuitsAt number c v.boxes) (sym (same_Some t u on)) suits) h
  all_retyped (n ∷ path) number u suits top t on h =
      all_along n path (change_at path (retyped_box number c)) u (λ b v there k. all_retyped path number u suits b v there k) top t.boxes on h
