-- A tree with one box less, with all that lies in it.
use Rattle.std.proofs.Common.{◌≡◌, ◌≤◌, ℕ, zero, suc, ◌+◌, max, Bool, ◌&&◌, List, [], ◌∷◌, slice_get, Option, Some, None, refl, sym, ◌∙◌, ap, arith}
use Rattle.std.specs.Prelude.{option_map, option_and_then}
use Rattle.std.specs.List.{AllByRecursion}
use Rattle.std.proofs.lemmas.Option.{none-some, same_Some}
use Rattle.pd_tree.specs.Trees.{Cell, Trees, Done, Leaf, Holder, Tree, weight}
use Rattle.pd_grove.specs.declared.nodes.Node.{Node}
use Rattle.pd_grove.specs.declared.boards.Board.{Board}
use Rattle.pd_grove.specs.Standing.{NodeSeen, node_seen, Stands}
use Rattle.pd_grove.specs.Telling.{inner_in}
use Rattle.pd_grove.specs.TextOrder.{deep, is_sub, Placed, placed_in_order}
use Rattle.pd_regrowth_law.specs.Canvases.{canvas_with, own_in_box, own_along}
use Rattle.pd_putting_law.specs.Puts.{change_inside, change_at}
use Rattle.pd_taking_law.specs.Takes.{boxes_less, less_box, taken_at}
use Rattle.pd_engine.proofs.PutLemmas.{all_append, all_split, sub_there}

-- ---- no canvas lies deeper

max_less : (a b c : ℕ) → a ≤ b → max a c ≤ max b c
max_less a b c h = omega (arith, h)

max_more : (a b c : ℕ) → b ≤ c → max a b ≤ max a c
max_more a b c h = omega (arith, h)

over : (a b : ℕ) → b ≤ max a b
over a b = omega arith

same_deep : (n : ℕ) → n ≤ n
same_deep n = omega arith

deep_out : (n : ℕ) (t : Trees) → deep (boxes_less n t) ≤ deep t
deep_out n Done = same_deep 0
deep_out zero (Leaf c rest) = same_deep (deep rest)
deep_out zero (Holder c s inner rest) = over (deep inner + 1) (deep rest)
deep_out (suc n) (Leaf c rest) = deep_out n rest
deep_out (suc n) (Holder c s inner rest) = max_more (deep inner + 1) (deep (boxes_less n rest)) (deep rest) (deep_out n rest)

deep_inside : (n : ℕ) (f : Tree → Tree) → ((u : Tree) → deep (f u).boxes ≤ deep u.boxes) → (t : Trees) → deep (change_inside n f t) ≤ deep t
deep_inside n f h Done = same_deep 0
deep_inside zero f h (Leaf c rest) = same_deep (deep rest)
deep_inside zero f h (Holder c s inner rest) =
    let less : deep (f (canvas_with s inner)).boxes ≤ deep inner = h (canvas_with s inner) in
    max_less (deep (f (canvas_with s inner)).boxes + 1) (deep inner + 1) (deep rest) (omega (arith, less))
deep_inside (suc n) f h (Leaf c rest) = deep_inside n f h rest
deep_inside (suc n) f h (Holder c s inner rest) = max_more (deep inner + 1) (deep (change_inside n f rest)) (deep rest) (deep_inside n f h rest)

pub deep_taken : (path : List ℕ) (number : ℕ) (t : Tree) → deep (taken_at path number t).boxes ≤ deep t.boxes
deep_taken [] number t = deep_out number t.boxes
deep_taken (n ∷ path) number t = deep_inside n (change_at path (less_box number)) (λ u. deep_taken path number u) t.boxes

-- ---- there are as many boxes less as the box is with those that lie in it

abbrev pub box_weight : ℕ → Trees → ℕ
box_weight n Done = 0
box_weight zero (Leaf c rest) = 1
box_weight zero (Holder c s inner rest) = weight inner + 1
box_weight (suc n) (Leaf c rest) = box_weight n rest
box_weight (suc n) (Holder c s inner rest) = box_weight n rest

pub weight_out : (n : ℕ) (t : Trees) → weight (boxes_less n t) + box_weight n t ≡ weight t
weight_out n Done = refl
weight_out zero (Leaf c rest) = refl
weight_out zero (Holder c s inner rest) = omega arith
weight_out (suc n) (Leaf c rest) = let e : weight (boxes_less n rest) + box_weight n rest ≡ weight rest = weight_out n rest in omega (arith, e)
weight_out (suc n) (Holder c s inner rest) = let e : weight (boxes_less n rest) + box_weight n rest ≡ weight rest = weight_out n rest in omega (arith, e)

-- one that stands and holds no canvas is one
module _ (nodes : ℕ → Option Node) (boards : ℕ → Option Board) where
  no_holder : (j : ℕ) (c : Cell) (b : ℕ) (o : Option Node) → option_map node_seen o ≡ Some (record { board = b; cell = c; inner = Some j }) → inner_in o ≡ None → ⊥
  no_holder j c b None is leaf = none-some _ is
  no_holder j c b (Some n) is leaf = none-some j (sym leaf ∙ ap (λ (x : NodeSeen). x.inner) (same_Some (node_seen n) (record { board = b; cell = c; inner = Some j }) is))

  pub weight_alone : (b d : ℕ) (keys : List ℕ) (t : Trees) (n key : ℕ) → Stands nodes boards b d keys t → slice_get keys n ≡ Some key → inner_in (nodes key) ≡ None → box_weight n t ≡ 1
  weight_alone b d [] t n key S at leaf = absurd (none-some key at)
  weight_alone b d (k ∷ ks) Done n key S at leaf = absurd S
  weight_alone b d (k ∷ ks) (Leaf c rest) zero key S at leaf = refl
  weight_alone b d (k ∷ ks) (Holder c s inner rest) zero key S at leaf = absurd (no_holder S.0 c b (nodes key) (ap (λ (x : ℕ). option_map node_seen (nodes x)) (sym (same_Some k key at)) ∙ S.2) leaf)
  weight_alone b d (k ∷ ks) (Leaf c rest) (suc n) key S at leaf = weight_alone b d ks rest n key S.1 at leaf
  weight_alone b d (k ∷ ks) (Holder c s inner rest) (suc n) key S at leaf = weight_alone b d ks rest n key S.5 at leaf

module _ (nodes : ℕ → Option Node) (boards : ℕ → Option Board) where
  -- one that stands is one at least
  pub weight_some : (b d : ℕ) (keys : List ℕ) (t : Trees) (n key : ℕ) → Stands nodes boards b d keys t → slice_get keys n ≡ Some key → 1 ≤ box_weight n t
  weight_some b d [] t n key S at = absurd (none-some key at)
  weight_some b d (k ∷ ks) Done n key S at = absurd S
  weight_some b d (k ∷ ks) (Leaf c rest) zero key S at = omega arith
  weight_some b d (k ∷ ks) (Holder c s inner rest) zero key S at = omega arith
  weight_some b d (k ∷ ks) (Leaf c rest) (suc n) key S at = weight_some b d ks rest n key S.1 at
  weight_some b d (k ∷ ks) (Holder c s inner rest) (suc n) key S at = weight_some b d ks rest n key S.5 at

weight_inside : (n w : ℕ) (path : List ℕ) (f : Tree → Tree) (u : Tree) → ((v : Tree) → own_along path v ≡ Some u → weight (f v).boxes + w ≡ weight v.boxes) → (t : Trees)
    → option_and_then (own_along path) (own_in_box n t) ≡ Some u → weight (change_inside n f t) + w ≡ weight t
weight_inside n w path f u h Done on = absurd (none-some u on)
weight_inside zero w path f u h (Leaf c rest) on = absurd (none-some u on)
weight_inside zero w path f u h (Holder c s inner rest) on =
    let e : weight (f (canvas_with s inner)).boxes + w ≡ weight inner = h (canvas_with s inner) (sub_there c.head.form path s inner u on) in
    omega (arith, e)
weight_inside (suc n) w path f u h (Leaf c rest) on = let e : weight (change_inside n f rest) + w ≡ weight rest = weight_inside n w path f u h rest on in omega (arith, e)
weight_inside (suc n) w path f u h (Holder c s inner rest) on = let e : weight (change_inside n f rest) + w ≡ weight rest = weight_inside n w path f u h rest on in omega (arith, e)

tree_same : (t u : Tree) → own_along [] t ≡ Some u → t ≡ u
tree_same t u on = same_Some t u on

pub weight_taken : (path : List ℕ) (number w : ℕ) (t u : Tree) → own_along path t ≡ Some u → weight (boxes_less number u.boxes) + w ≡ weight u.boxes
    → weight (taken_at path number t).boxes + w ≡ weight t.boxes
weight_taken [] number w t u on less = rw (tree_same t u on) less
weight_taken (n ∷ path) number w t u on less = weight_inside n w path (change_at path (less_box number)) u (λ v h. weight_taken path number w v u h less) t.boxes on

-- ---- what holds of all boxes holds of those that are left

module _ (P : Placed → Type 0) where
  abbrev AllOf : Bool → Trees → Type 0
  AllOf top t = AllByRecursion P (placed_in_order top t)

  all_out : (n : ℕ) (top : Bool) (t : Trees) → AllOf top t → AllOf top (boxes_less n t)
  all_out n top Done h = h
  all_out zero top (Leaf c rest) h = h.1
  all_out zero top (Holder c s inner rest) h = (all_split P (placed_in_order (top && is_sub c.head.form) inner) (placed_in_order top rest) h.1).1
  all_out (suc n) top (Leaf c rest) h = (h.0, all_out n top rest h.1)
  all_out (suc n) top (Holder c s inner rest) h =
      let within : Bool = top && is_sub c.head.form in
      let parts : AllOf within inner × AllOf top rest = all_split P (placed_in_order within inner) (placed_in_order top rest) h.1 in
      (h.0, all_append P (placed_in_order within inner) (placed_in_order top (boxes_less n rest)) parts.0 (all_out n top rest parts.1))

  pub all_inside : (n : ℕ) (f : Tree → Tree) → ((top : Bool) (u : Tree) → AllOf top u.boxes → AllOf top (f u).boxes) → (top : Bool) (t : Trees) → AllOf top t → AllOf top (change_inside n f t)
  all_inside n f k top Done h = h
  all_inside zero f k top (Leaf c rest) h = h
  all_inside zero f k top (Holder c s inner rest) h =
      let within : Bool = top && is_sub c.head.form in
      let parts : AllOf within inner × AllOf top rest = all_split P (placed_in_order within inner) (placed_in_order top rest) h.1 in
      (h.0, all_append P (placed_in_order within (f (canvas_with s inner)).boxes) (placed_in_order top rest) (k within (canvas_with s inner) parts.0) parts.1)
  all_inside (suc n) f k top (Leaf c rest) h = (h.0, all_inside n f k top rest h.1)
  all_inside (suc n) f k top (Holder c s inner rest) h =
      let within : Bool = top && is_sub c.head.form in
      let parts : AllOf within inner × AllOf top rest = all_split P (placed_in_order within inner) (placed_in_order top rest) h.1 in
      (h.0, all_append P (placed_in_order within inner) (placed_in_order top (change_inside n f rest)) parts.0 (all_inside n f k top rest parts.1))

  pub all_taken : (path : List ℕ) (number : ℕ) (top : Bool) (t : Tree) → AllOf top t.boxes → AllOf top (taken_at path number t).boxes
  all_taken [] number top t h = all_out number top t.boxes h
  all_taken (n ∷ path) number top t h = all_inside n (change_at path (less_box number)) (λ b u k. all_taken path number b u k) top t.boxes h
