-- A patch with a box at another place, and its tree.
use Rattle.std.proofs.Common.{◌≡◌, ℕ, zero, suc, ℤ, ◌+◌, max, Bool, ◌&&◌, List, [], ◌∷◌, refl, sym, ap, ◌∙◌, subst, inl, inr}
use Rattle.std.specs.List.{AllByRecursion}
use Rattle.pd_tree.specs.Trees.{Cell, Trees, Done, Leaf, Holder, Tree}
use Rattle.pd_grove.specs.TextOrder.{deep, is_sub, Placed, placed, placed_in_order}
use Rattle.pd_regrowth_law.specs.Canvases.{canvas_with}
use Rattle.pd_putting_law.specs.Puts.{change_inside, change_at}
use Rattle.pd_shifted_law.specs.Shifts.{cell_at, boxes_shifted, shifted_box, shifted_at}
use Rattle.pd_engine.proofs.PutLemmas.{all_append, all_split}
use Rattle.pd_atom.specs.Names.{Names}
use Rattle.pd_name.specs.Rows.{owners_of}
use Rattle.pd_grove.specs.declared.grove.Grove.{Grove}
use Rattle.pd_grove.specs.Refits.{at_place, Alters}
use Rattle.pd_web.specs.Changes.{wires_told}
use Rattle.pd_web.proofs.CountLemmas.{same_are_as_many}
use Rattle.pd_patch.specs.declared.patch.Patch.{Patch}
use Rattle.pd_boxes.specs.Put.{HasOwners}
use Rattle.pd_stage.specs.PassedOn.{ShiftsBox}
use Rattle.pd_shifted_law.proofs.OwnerLemmas.{owners_same}

-- ---- canvases lie as deep

deep_moved : (n : ℕ) (x y : ℤ) (t : Trees) → deep (boxes_shifted n x y t) ≡ deep t
deep_moved n x y Done = refl
deep_moved zero x y (Leaf c rest) = refl
deep_moved zero x y (Holder c s inner rest) = refl
deep_moved (suc n) x y (Leaf c rest) = deep_moved n x y rest
deep_moved (suc n) x y (Holder c s inner rest) = ap (λ (m : ℕ). max (deep inner + 1) m) (deep_moved n x y rest)

pub deep_inside : (n : ℕ) (f : Tree → Tree) → ((u : Tree) → deep (f u).boxes ≡ deep u.boxes) → (t : Trees) → deep (change_inside n f t) ≡ deep t
deep_inside n f h Done = refl
deep_inside zero f h (Leaf c rest) = refl
deep_inside zero f h (Holder c s inner rest) = ap (λ (m : ℕ). max (m + 1) (deep rest)) (h (canvas_with s inner))
deep_inside (suc n) f h (Leaf c rest) = deep_inside n f h rest
deep_inside (suc n) f h (Holder c s inner rest) = ap (λ (m : ℕ). max (deep inner + 1) m) (deep_inside n f h rest)

pub deep_shifted : (path : List ℕ) (number : ℕ) (x y : ℤ) (t : Tree) → deep (shifted_at path number x y t).boxes ≡ deep t.boxes
deep_shifted [] number x y t = deep_moved number x y t.boxes
deep_shifted (n ∷ path) number x y t = deep_inside n (change_at path (shifted_box number x y)) (λ u. deep_shifted path number x y u) t.boxes

-- ---- what holds of all boxes wherever they stand

module _ (P : Placed → Type 0) (x y : ℤ) (place : (top : Bool) (c : Cell) → P (placed top c) → P (placed top (cell_at x y c))) where
  abbrev AllOf : Bool → Trees → Type 0
  AllOf top t = AllByRecursion P (placed_in_order top t)

  all_moved : (n : ℕ) (top : Bool) (t : Trees) → AllOf top t → AllOf top (boxes_shifted n x y t)
  all_moved n top Done h = h
  all_moved zero top (Leaf c rest) h = (place top c h.0, h.1)
  all_moved zero top (Holder c s inner rest) h = (place top c h.0, h.1)
  all_moved (suc n) top (Leaf c rest) h = (h.0, all_moved n top rest h.1)
  all_moved (suc n) top (Holder c s inner rest) h =
      let within : Bool = top && is_sub c.head.form in
      let parts : AllOf within inner × AllOf top rest = all_split P (placed_in_order within inner) (placed_in_order top rest) h.1 in
      (h.0, all_append P (placed_in_order within inner) (placed_in_order top (boxes_shifted n x y rest)) parts.0 (all_moved n top rest parts.1))

  all_inside : (n : ℕ) (f : Tree → Tree) → ((top : Bool) (u : Tree) → AllOf top u.boxes → AllOf top (f u).boxes) → (top : Bool) (t : Trees) → AllOf top t → AllOf top (change_inside n f t)
  all_inside n f k top Done h = h
  all_inside zero f k top (Leaf c rest) h = h
  all_inside zero f k top (Holder c s inner rest) h =
      let within : Bool = top && is_sub c.head.form in
      let parts : AllOf within inner × AllOf top rest = all_split P (placed_in_order within inner) (placed_in_order top rest) h.1 in
      (h.0, all_append P (placed_in_order within (f (canvas_with s inner)).boxes) (placed_in_order top rest) (k within (canvas_with s inner) parts.0) parts.1)
  all_inside (suc n) f k top (Leaf c rest) h = (h.0, all_inside n f k top rest h.1)
  all_inside (suc n) f k top (Holder c s inner rest) h =
      let within : Bool = top && is_sub c.head.form in
      let parts : AllOf within inner × AllOf top rest = all_split P (placed_in_order within inner) (placed_in_order top rest) h.1 in
      (h.0, all_append P (placed_in_order within inner) (placed_in_order top (change_inside n f rest)) parts.0 (all_inside n f k top rest parts.1))

  pub all_shifted : (path : List ℕ) (number : ℕ) (top : Bool) (t : Tree) → AllOf top t.boxes → AllOf top (shifted_at path number x y t).boxes
  all_shifted [] number top t h = all_moved number top t.boxes h
  all_shifted (n ∷ path) number top t h = all_inside n (change_at path (shifted_box number x y)) (λ b u k. all_shifted path number b u k) top t.boxes h

-- ---- a patch in which a box moved, whether it is a port of the box around or not

placed_room : (old ready new : Grove) (key : ℕ) (x y : ℤ) → ready ≡ old → Alters ready new key (at_place x y) → Alters old new key (at_place x y)
placed_room old ready new key x y same A = subst (λ (g : Grove). Alters g new key (at_place x y)) same A

module _ (old new : Patch) (canvas key : ℕ) (x y : ℤ) where
  -- the box alone has another place
  pub placed_by : ShiftsBox old new canvas key x y → Alters old.grove new.grove key (at_place x y)
  placed_by (inl s) = s.box
  placed_by (inr s) = placed_room old.grove s.ready.grove new.grove key x y s.room.grove s.slid.box

  -- wires are as many
  pub as_many : ShiftsBox old new canvas key x y → wires_told new.web ≡ wires_told old.web
  as_many (inl s) = ap wires_told s.rest.web
  as_many (inr s) = s.slid.wires ∙ same_are_as_many old.web s.ready.web s.room.web

  names_still : ShiftsBox old new canvas key x y → new.names ≡ old.names
  names_still (inl s) = s.rest.names
  names_still (inr s) = s.slid.rest.names ∙ s.room.names

  -- each name has its owners
  pub owners_still : (table : Names) (file : List ℕ) → ShiftsBox old new canvas key x y → HasOwners old table file → HasOwners new table file
  owners_still table file s H = λ class name.
      ap (λ r. owners_of r class name) (names_still s) ∙ H class name ∙ sym (owners_same old.grove new.grove key x y (placed_by s) table file class name)
