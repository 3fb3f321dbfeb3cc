-- A tree with more boxes.
use Rattle.std.proofs.Common.{◌≡◌, ◌≤◌, ℕ, zero, suc, ◌+◌, max, Bool, true, false, ◌&&◌, List, [], ◌∷◌, ◌++◌, length, Some, refl, arith}
use Rattle.std.specs.Prelude.{option_and_then}
use Rattle.std.specs.List.{AllByRecursion}
use Rattle.std.proofs.lemmas.Option.{none-some}
use Rattle.pd_atom.specs.Names.{Names}
use Rattle.pd_canvas.specs.Pages.{Shape, Obj, Msg, Comment, FloatBox, SymbolBox, Sub, Array, Other}
use Rattle.pd_object.specs.declared.kinds.Kind.{Kind}
use Rattle.pd_object.specs.declared.kinds.Kind.TheVariants as kind
use Rattle.pd_tree.specs.declared.rows.Sheet.{Sheet}
use Rattle.pd_tree.specs.Trees.{Cell, Trees, Done, Leaf, Holder, Tree, join, weight}
use Rattle.pd_grove.specs.TextOrder.{deep, is_sub, Placed, placed_in_order}
use Rattle.pd_grove.proofs.TreeLemmas.{deep-join}
use Rattle.pd_bind.specs.Naming.{owned_by_kind, owned_by}
use Rattle.pd_regrowth_law.specs.Canvases.{canvas_with, sub_canvas, own_in_box, own_along}
use Rattle.pd_regrowth_law.proofs.TakeLemmas.{weight_join}
use Rattle.pd_putting_law.specs.Puts.{change_inside, change_at, with_boxes, put_at}

-- the canvas in a subpatch along a path
pub sub_there : (form : Shape) (path : List ℕ) (s : Sheet) (inner : Trees) (u : Tree) → option_and_then (own_along path) (sub_canvas form s inner) ≡ Some u
    → own_along path (canvas_with s inner) ≡ Some u
sub_there Obj path s inner u h = absurd (none-some u h)
sub_there Msg path s inner u h = absurd (none-some u h)
sub_there Comment path s inner u h = absurd (none-some u h)
sub_there FloatBox path s inner u h = absurd (none-some u h)
sub_there SymbolBox path s inner u h = absurd (none-some u h)
sub_there Sub path s inner u h = h
sub_there (Array values) path s inner u h = absurd (none-some u h)
sub_there (Other x) path s inner u h = absurd (none-some u h)

module _ (new : Trees) where
  -- no canvas lies deeper than those of the tree and of what came
  deep_inside : (n m : ℕ) (f : Tree → Tree) → ((u : Tree) → deep (f u).boxes ≤ max (deep u.boxes) m) → (t : Trees) → deep (change_inside n f t) ≤ max (deep t) (m + 1)
  deep_inside n m f h Done = omega arith
  deep_inside zero m f h (Leaf d rest) = omega arith
  deep_inside zero m f h (Holder d s inner rest) = let e : deep (f (canvas_with s inner)).boxes ≤ max (deep inner) m = h (canvas_with s inner) in omega (arith, e)
  deep_inside (suc n) m f h (Leaf d rest) = deep_inside n m f h rest
  deep_inside (suc n) m f h (Holder d s inner rest) = let e : deep (change_inside n f rest) ≤ max (deep rest) (m + 1) = deep_inside n m f h rest in omega (arith, e)

  pub deep_put : (path : List ℕ) (t : Tree) → deep (put_at path new t).boxes ≤ max (deep t.boxes) (length path + deep new)
  deep_put [] t = let e : deep (join t.boxes new) ≡ max (deep t.boxes) (deep new) = deep-join t.boxes new in omega (arith, e)
  deep_put (n ∷ path) t =
      let e : deep (put_at (n ∷ path) new t).boxes ≤ max (deep t.boxes) (length path + deep new + 1) =
      deep_inside n (length path + deep new) (change_at path (with_boxes new)) (λ u. deep_put path u) t.boxes in
      omega (arith, e)

  -- there are as many boxes more as came, where the path leads to a canvas
  weight_inside : (n : ℕ) (path : List ℕ) (f : Tree → Tree) (u : Tree) → ((v : Tree) → own_along path v ≡ Some u → weight (f v).boxes ≡ weight v.boxes + weight new) → (t : Trees)
      → option_and_then (own_along path) (own_in_box n t) ≡ Some u → weight (change_inside n f t) ≡ weight t + weight new
  weight_inside n path f u h Done on = absurd (none-some u on)
  weight_inside zero path f u h (Leaf d rest) on = absurd (none-some u on)
  weight_inside zero path f u h (Holder d s inner rest) on =
      let e : weight (f (canvas_with s inner)).boxes ≡ weight inner + weight new = h (canvas_with s inner) (sub_there d.head.form path s inner u on) in
      omega (arith, e)
  weight_inside (suc n) path f u h (Leaf d rest) on = let e : weight (change_inside n f rest) ≡ weight rest + weight new = weight_inside n path f u h rest on in omega (arith, e)
  weight_inside (suc n) path f u h (Holder d s inner rest) on = let e : weight (change_inside n f rest) ≡ weight rest + weight new = weight_inside n path f u h rest on in omega (arith, e)

  pub weight_put : (path : List ℕ) (t u : Tree) → own_along path t ≡ Some u → weight (put_at path new t).boxes ≡ weight t.boxes + weight new
  weight_put [] t u on = weight_join t.boxes new
  weight_put (n ∷ path) t u on = weight_inside n path (change_at path (with_boxes new)) u (λ v h. weight_put path v u h) t.boxes on

-- ---- what holds of all boxes and of the new ones

pub all_append : {X : Type 0} (P : X → Type 0) (xs ys : List X) → AllByRecursion P xs → AllByRecursion P ys → AllByRecursion P (xs ++ ys)
all_append P [] ys h k = k
all_append P (x ∷ xs) ys h k = (h.0, all_append P xs ys h.1 k)

pub all_split : {X : Type 0} (P : X → Type 0) (xs ys : List X) → AllByRecursion P (xs ++ ys) → AllByRecursion P xs × AllByRecursion P ys
all_split P [] ys h = (tt, h)
all_split P (x ∷ xs) ys h = let k : AllByRecursion P xs × AllByRecursion P ys = all_split P xs ys h.1 in ((h.0, k.0), k.1)

pub all_both : {X : Type 0} (P Q R : X → Type 0) → ((x : X) → P x → Q x → R x) → (xs : List X) → AllByRecursion P xs → AllByRecursion Q xs → AllByRecursion R xs
all_both P Q R f [] h k = tt
all_both P Q R f (x ∷ xs) h k = (f x h.0 k.0, all_both P Q R f xs h.1 k.1)

module _ (P : Placed → Type 0) (new : Trees) (own : (top : Bool) → AllByRecursion P (placed_in_order top new)) where
  -- it holds of all boxes of a tree, in the patch's own document or not
  abbrev AllOf : Bool → Trees → Type 0
  AllOf top t = AllByRecursion P (placed_in_order top t)

  all_join : (top : Bool) (t : Trees) → AllOf top t → AllOf top (join t new)
  all_join top Done h = own top
  all_join top (Leaf d t) h = (h.0, all_join top t h.1)
  all_join top (Holder d s inner t) h =
      let within : Bool = top && is_sub d.head.form in
      let parts : AllOf within inner × AllOf top t = all_split P (placed_in_order within inner) (placed_in_order top t) h.1 in
      (h.0, all_append P (placed_in_order within inner) (placed_in_order top (join t new)) parts.0 (all_join top t parts.1))

  all_inside : (n : ℕ) (f : Tree → Tree) → ((top : Bool) (u : Tree) → AllOf top u.boxes → AllOf top (f u).boxes) → (top : Bool) (t : Trees) → AllOf top t → AllOf top (change_inside n f t)
  all_inside n f k top Done h = h
  all_inside zero f k top (Leaf d rest) h = h
  all_inside zero f k top (Holder d s inner rest) h =
      let within : Bool = top && is_sub d.head.form in
      let parts : AllOf within inner × AllOf top rest = all_split P (placed_in_order within inner) (placed_in_order top rest) h.1 in
      (h.0, all_append P (placed_in_order within (f (canvas_with s inner)).boxes) (placed_in_order top rest) (k within (canvas_with s inner) parts.0) parts.1)
  all_inside (suc n) f k top (Leaf d rest) h = (h.0, all_inside n f k top rest h.1)
  all_inside (suc n) f k top (Holder d s inner rest) h =
      let within : Bool = top && is_sub d.head.form in
      let parts : AllOf within inner × AllOf top rest = all_split P (placed_in_order within inner) (placed_in_order top rest) h.1 in
      (h.0, all_append P (placed_in_order within inner) (placed_in_order top (change_inside n f rest)) parts.0 (all_inside n f k top rest parts.1))

  pub all_put : (path : List ℕ) (top : Bool) (t : Tree) → AllOf top t.boxes → AllOf top (put_at path new t).boxes
  all_put [] top t h = all_join top t.boxes h
  all_put (n ∷ path) top t h = all_inside n (change_at path (with_boxes new)) (λ b u k. all_put path b u k) top t.boxes h

-- a box that owns the same in the patch's own document owns the same anywhere
kind_anywhere : (names more : Names) (c : Cell) (k : Kind) → owned_by_kind more true c k ≡ owned_by_kind names true c k → (top : Bool) → owned_by_kind more top c k ≡ owned_by_kind names top c k
kind_anywhere names more c k h true = h
kind_anywhere names more c (kind.Glue g) h false = h
kind_anywhere names more c (kind.Signal s) h false = h
kind_anywhere names more c (kind.Panel p) h false = h
kind_anywhere names more c kind.Canvas h false = refl
kind_anywhere names more c (kind.Arith a) h false = refl
kind_anywhere names more c (kind.Tone t) h false = refl
kind_anywhere names more c kind.Vline h false = refl
kind_anywhere names more c kind.Unmade h false = refl

pub owned_anywhere : (names more : Names) (c : Cell) → owned_by more true c ≡ owned_by names true c → (top : Bool) → owned_by more top c ≡ owned_by names top c
owned_anywhere names more c h top = kind_anywhere names more c c.kind h top

module _ (names more : Names) where
  abbrev OwnsSame : Placed → Type 0
  OwnsSame p = owned_by more p.is_top p.cell ≡ owned_by names p.is_top p.cell

  outside_by : (inner : Trees) (b : Bool) → (AllByRecursion OwnsSame (placed_in_order true inner) → AllByRecursion OwnsSame (placed_in_order false inner)) → AllByRecursion OwnsSame (placed_in_order b inner)
      → AllByRecursion OwnsSame (placed_in_order false inner)
  outside_by inner true f h = f h
  outside_by inner false f h = h

  -- so do boxes with all that lies in them
  all_outside : (t : Trees) → AllByRecursion OwnsSame (placed_in_order true t) → AllByRecursion OwnsSame (placed_in_order false t)
  all_outside Done h = tt
  all_outside (Leaf c rest) h = (owned_anywhere names more c h.0 false, all_outside rest h.1)
  all_outside (Holder c s inner rest) h =
      let within : Bool = is_sub c.head.form in
      let parts : AllByRecursion OwnsSame (placed_in_order within inner) × AllByRecursion OwnsSame (placed_in_order true rest) = all_split OwnsSame (placed_in_order within inner) (placed_in_order true rest) h.1 in
      (owned_anywhere names more c h.0 false, all_append OwnsSame (placed_in_order false inner) (placed_in_order false rest) (outside_by inner within (all_outside inner) parts.0) (all_outside rest parts.1))

  pub all_anywhere : (t : Trees) (top : Bool) → AllByRecursion OwnsSame (placed_in_order true t) → AllByRecursion OwnsSame (placed_in_order top t)
  all_anywhere t true h = h
  all_anywhere t false h = all_outside t h
