-- What grew aside isn't too deep for the canvas into which it comes.
use Rattle.std.proofs.Common.{◌≡◌, ◌≤◌, ◌<◌, ◌+◌, ◌-◌, ℕ, Bool, true, false, nat_lt, if◌then◌else◌, ◌&&◌, List, [], ◌∷◌, ◌++◌, append-nil, append_assoc, length, Option, Some, None, Result, Ok, Err, refl, sym, ap, ◌∙◌, subst, arith}
use Rattle.std.proofs.lemmas.Option.{none-some, same_Some}
use Rattle.slab.specs.Slab.{get}
use Rattle.pd_canvas.specs.declared.edits.Edit.{Edit}
use Rattle.pd_canvas.specs.Pages.{Entry}
use Rattle.pd_canvas.specs.Proper.{levels, levels_of}
use Rattle.pd_atom.specs.Names.{Names}
use Rattle.pd_library.specs.declared.answers.Answer.{Answer}
use Rattle.pd_library.specs.Files.{answer_in}
use Rattle.pd_tree.specs.Trees.{Cell, Trees, Done, Leaf, Holder, Stand, stands_of, width}
use Rattle.pd_tree.specs.declared.rows.Sheet.{Sheet}
use Rattle.pd_growth.specs.Steps.{Stock, gives}
use Rattle.pd_growth.specs.Growth.{around_root, without_ending}
use Rattle.pd_gather.specs.Gather.{known}
use Rattle.pd_grove.specs.Forest.{IsForest}
use Rattle.pd_grove.specs.OwnPaths.{sub_reached}
use Rattle.pd_grove.specs.Standing.{depth_of}
use Rattle.pd_grove.specs.TextOrder.{deep, is_sub}
use Rattle.pd_patch.specs.declared.patch.Patch.{Patch}
use Rattle.pd_wiring.proofs.DepthLemmas.{path_deep}
use Rattle.pd_patch.proofs.GrowthLemmas.{box_shallow}
use Rattle.pd_wiring.specs.declared.refusals.EditRefusal.{EditRefusal}
use Rattle.pd_wiring.specs.declared.refusals.EditRefusal.TheVariants.{NoDocument, NoCanvas, TextTooLong, TooDeep}
use Rattle.pd_adding.specs.declared.counts.Counts.{Counts}
use Rattle.pd_adding.specs.Boxes.{settled_edit, box_put}
use Rattle.pd_adding.specs.Coming.{coming, coming_by, coming_in}
use Rattle.pd_adding.specs.Counts.{stock_by}
use Rattle.pd_adding.specs.Growing.{growth_of}
use Rattle.pd_adding.proofs.GrowLemmas.{growth_is}

-- The list of the boxes tells the tree, where it is known how many stand in the canvas.

abbrev sheet_in : List Stand → Option Sheet
sheet_in [] = None
sheet_in (x ∷ xs) = x.sheet

abbrev cell_in : Cell → List Stand → Cell
cell_in d [] = d
cell_in d (x ∷ xs) = x.cell

abbrev boxes_in : List Stand → ℕ
boxes_in [] = 0
boxes_in (x ∷ xs) = x.boxes

abbrev behind : List Stand → List Stand
behind [] = []
behind (x ∷ xs) = xs

-- two trees are one, and so is what follows
record AreOne (t u : Trees) (xs ys : List Stand) : Type 0 where
  tree : t ≡ u
  left : xs ≡ ys

one_tree : (t u : Trees) (xs ys : List Stand) → stands_of t ++ xs ≡ stands_of u ++ ys → width t ≡ width u → AreOne t u xs ys
one_tree Done Done xs ys e w = record { tree = refl; left = e }
one_tree Done (Leaf d more) xs ys e w = absurd (omega (arith, w))
one_tree Done (Holder d s inner more) xs ys e w = absurd (omega (arith, w))
one_tree (Leaf c rest) Done xs ys e w = absurd (omega (arith, w))
one_tree (Holder c s inner rest) Done xs ys e w = absurd (omega (arith, w))
one_tree (Leaf c rest) (Leaf d more) xs ys e w =
    let r = one_tree rest more xs ys (ap behind e) (omega (arith, w)) in
    record { tree = ap (λ x. Leaf x rest) (ap (cell_in c) e) ∙ ap (Leaf d) r.tree; left = r.left }
one_tree (Leaf c rest) (Holder d s inner more) xs ys e w = absurd (none-some s (ap sheet_in e))
one_tree (Holder c s inner rest) (Leaf d more) xs ys e w = absurd (none-some s (sym (ap sheet_in e)))
one_tree (Holder c s inner rest) (Holder d z within more) xs ys e w =
    let tail : stands_of inner ++ (stands_of rest ++ xs) ≡ stands_of within ++ (stands_of more ++ ys) =
    sym (append_assoc (stands_of inner) (stands_of rest) xs) ∙ ap behind e ∙ append_assoc (stands_of within) (stands_of more) ys in
    let i = one_tree inner within (stands_of rest ++ xs) (stands_of more ++ ys) tail (ap boxes_in e) in
    let r = one_tree rest more xs ys i.left (omega (arith, w)) in
    record {
      tree = ap (λ x. Holder x s inner rest) (ap (cell_in c) e) ∙ ap (λ x. Holder d x inner rest) (same_Some s z (ap sheet_in e))
          ∙ ap (λ x. Holder d z x rest) i.tree ∙ ap (Holder d z within) r.tree;
      left = r.left;
    }

pub same_tree : (t u : Trees) → stands_of t ≡ stands_of u → width t ≡ width u → t ≡ u
same_tree t u e w = (one_tree t u [] [] (append-nil (stands_of t) ∙ e ∙ sym (append-nil (stands_of u))) w).tree

-- The canvas into which a box comes is that at the path.

refused_never : {A : Type 0} (e : EditRefusal) (a : A) → ◌≡◌ {A = Result A EditRefusal} (Err e) (Ok a) → ⊥
refused_never e a h = cc

same_ok : {A : Type 0} (x y : A) → ◌≡◌ {A = Result A EditRefusal} (Ok x) (Ok y) → x ≡ y
same_ok x y h = cc

-- neither of two refusals came
picked : {A : Type 0} (b c : Bool) (e f : EditRefusal) (x y : A) → ◌≡◌ {A = Result A EditRefusal} (if b then Err e else if c then Err f else Ok x) (Ok y) → x ≡ y
picked true c e f x y h = absurd (refused_never e y h)
picked false true e f x y h = absurd (refused_never f y h)
picked false false e f x y h = same_ok x y h

module _ (p : Patch) (path : List ℕ) (canvas : ℕ) (b : Entry) where
  leads_in : (x : Entry) (o : Option ℕ) → coming_in (length path) x o ≡ Ok (canvas, b) → o ≡ Some canvas
  leads_in x None h = absurd (refused_never NoCanvas (canvas, b) h)
  leads_in x (Some c) h =
      ap (λ (z : ℕ × Entry). Some z.0) (picked (nat_lt 1024 (length x.head.text)) (is_sub x.head.form && nat_lt 254 (length path)) TextTooLong TooDeep (c, x) (canvas, b) h)

  leads_by : (o : Option Entry) → coming_by p path o ≡ Ok (canvas, b) → sub_reached p.grove (Some p.grove.root) path ≡ Some canvas
  leads_by None h = absurd (refused_never NoDocument (canvas, b) h)
  leads_by (Some x) h = leads_in x (sub_reached p.grove (Some p.grove.root) path) h

  pub leads_there : (names : Names) (e : Edit) → coming names p path e ≡ Ok (canvas, b) → sub_reached p.grove (Some p.grove.root) path ≡ Some canvas
  leads_there names e h = leads_by (box_put (settled_edit names e)) h

  -- and what may grow in it fits
  pub fits_there : (F : IsForest (get p.grove.nodes) (get p.grove.boards) p.grove.root) (names : Names) (e : Edit) (left n : ℕ) → coming names p path e ≡ Ok (canvas, b) → left ≡ 255 - length path → n ≤ left
      → depth_of (get p.grove.boards canvas) + n < 257
  fits_there F names e left n h room l =
      let d = path_deep p.grove F path canvas (leads_there names e h) in
      let low = F.shallow canvas in
      omega (arith, d, low, room, l)

-- a box that grew is no deeper than may be
pub grown_shallow : (own : ℕ) (n : Counts) (name : List ℕ) (left : ℕ) (e : Entry) (files : List (ℕ × Answer)) (names : Names) (t : Trees) (w : Stock) → levels_of e.head.form (levels e.page.boxes) ≤ left
    → growth_of own n name left e (known files names) ≡ gives t w → deep t ≤ left
grown_shallow own n name left e files names t w l h =
    box_shallow (answer_in files) (without_ending name) left (around_root own) e (stock_by names n) w t l (sym (growth_is own n name left e (known files names)) ∙ h)
