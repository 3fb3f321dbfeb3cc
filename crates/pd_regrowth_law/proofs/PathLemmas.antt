-- A canvas of the document to which a path leads lies within the whole.
use Rattle.std.proofs.Common.{◌≡◌, ℕ, zero, suc, ◌+◌, Bool, true, false, List, [], ◌∷◌, length, Option, Some, None, option_and_then, refl, sym, ap, ◌∙◌, arith, true≢false}
use Rattle.pd_canvas.specs.Pages.{Shape, Sub}
use Rattle.pd_tree.specs.declared.rows.Sheet.{Sheet}
use Rattle.pd_tree.specs.Trees.{Cell, Trees, Done, Leaf, Holder, Tree, join}
use Rattle.pd_regrowth_law.specs.Canvases.{canvas_with, Alone, Inside, left_outside, sub_canvas, own_in_box, own_along, LiesWithin}

abbrev is_there : {A : Type 0} → Option A → Bool
is_there (Some a) = true
is_there None = false

abbrev there_or : {A : Type 0} → A → Option A → A
there_or a (Some b) = b
there_or a None = a

none_never : {A : Type 0} (a : A) → None ≡ Some a → ⊥
none_never {A} a h = true≢false (sym (ap (λ (o : Option A). is_there o) h))

some_same : {A : Type 0} (a b : A) → Some a ≡ Some b → a ≡ b
some_same {A} a b h = ap (λ (o : Option A). there_or a o) h

-- the subpatch of a number, between the boxes before and behind it
record SubAt (boxes : Trees) (t : Tree) : Type 0 where
  before : Trees
  cell : Cell
  behind : Trees
  whole : boxes ≡ join before (Holder cell t.sheet t.boxes behind)
  form : cell.head.form ≡ Sub

record IsSubCanvas (form : Shape) (sheet : Sheet) (inner : Trees) (t : Tree) : Type 0 where
  is_sub : form ≡ Sub
  canvas : canvas_with sheet inner ≡ t

sub_is : (form : Shape) (sheet : Sheet) (inner : Trees) (t : Tree) → sub_canvas form sheet inner ≡ Some t → IsSubCanvas form sheet inner t
sub_is Sub sheet inner t h = record { is_sub = refl; canvas = some_same (canvas_with sheet inner) t h }
sub_is form sheet inner t h = absurd (none_never t h)

sub_at : (n : ℕ) (boxes : Trees) (t : Tree) → own_in_box n boxes ≡ Some t → SubAt boxes t
sub_at n Done t h = absurd (none_never t h)
sub_at zero (Leaf c rest) t h = absurd (none_never t h)
sub_at zero (Holder c sheet inner rest) t h =
    let g = sub_is c.head.form sheet inner t h in
    record { before = Done; cell = c; behind = rest; whole = ap (λ (y : Tree). Holder c y.sheet y.boxes rest) g.canvas; form = g.is_sub }
sub_at (suc n) (Leaf c rest) t h =
    let g = sub_at n rest t h in
    record { before = Leaf c g.before; cell = g.cell; behind = g.behind; whole = ap (Leaf c) g.whole; form = g.form }
sub_at (suc n) (Holder c sheet inner rest) t h =
    let g = sub_at n rest t h in
    record { before = Holder c sheet inner g.before; cell = g.cell; behind = g.behind; whole = ap (Holder c sheet inner) g.whole; form = g.form }

record Then {A B : Type 0} (o : Option A) (f : A → Option B) (b : B) : Type 0 where
  value : A
  first : o ≡ Some value
  next : f value ≡ Some b

then_some : {A B : Type 0} (o : Option A) (f : A → Option B) (b : B) → option_and_then f o ≡ Some b → Then o f b
then_some (Some a) f b h = record { value = a; first = refl; next = h }
then_some None f b h = absurd (none_never b h)

pub path_within : (path : List ℕ) (t u : Tree) → own_along path t ≡ Some u → LiesWithin (length path) t u
path_within [] t u h = record { nest = Alone; whole = some_same t u h; subpatches = tt; levels = λ left. omega arith }
path_within (n ∷ path) t u h =
    let o = then_some (own_in_box n t.boxes) (own_along path) u h in
    let g = sub_at n t.boxes o.value o.first in
    let r = path_within path o.value u o.next in
    record {
      nest = Inside t.sheet g.before g.cell r.nest g.behind;
      whole = ap (canvas_with t.sheet) (g.whole ∙ ap (λ (y : Tree). join g.before (Holder g.cell y.sheet y.boxes g.behind)) r.whole);
      subpatches = (g.form, r.subpatches);
      levels = λ left. more (left_outside r.nest left) (length path) left (r.levels left);
    }
  where
    more : (m n left : ℕ) → m ≡ n + left → suc m ≡ suc n + left
    more m n left e = omega (arith, e)
