-- Trees that growth gives: how wide they are, how deep, and how much sound is in them.
use Rattle.std.proofs.Common.{arith, ◌≡◌, ℕ, zero, suc, ◌+◌, ◌≤◌, max, List, [], ◌∷◌, ◌++◌, append_assoc, length, Option, refl, ap, subst}
use Rattle.std.specs.Prelude.{Result, Ok, Err}
use Rattle.std.specs.List.{AllByRecursion}
use Rattle.std.proofs.lemmas.List.{append-nil}
use Rattle.pd_atom.specs.declared.Atom.{Atom}
use Rattle.pd_clock.specs.declared.times.Rate.{Rate}
use Rattle.pd_kind.specs.States.{size_of}
use Rattle.pd_canvas.specs.Pages.{Page, Entry, elements_of}
use Rattle.pd_canvas.specs.Proper.{levels, levels_of}
use Rattle.pd_library.specs.declared.answers.Answer.{Answer}
use Rattle.pd_tree.specs.declared.rows.Row.{Row}
use Rattle.pd_tree.specs.Trees.{Trees, Done, Leaf, Holder, Tree, Stand, join, width, stands_of, stands_in}
use Rattle.pd_grove.specs.TextOrder.{deep}
use Rattle.pd_web.specs.Canvases.{HoldersAreNoPorts}
use Rattle.pd_growth.specs.declared.growing.Stop.{Stop}
use Rattle.pd_growth.specs.Steps.{Stock, Step, gives, goes_on, ◌>>=◌, counted, numbered, brought}
use Rattle.pd_growth.specs.Making.{Around, Making, Plain, Subpatch, File, made}
use Rattle.pd_growth.specs.Growing.{inside_grown}
use Rattle.pd_growth.specs.Growth.{Inner, box_made, box_grown, boxes_grown, page_grown, canvas_grown, own_text, grown, around_root, without_ending, receiver_bytes, receiver_brought}
use Rattle.pd_patch.specs.Sounds.{sound_in, sound_of}
use Rattle.pd_patch.proofs.MakingLemmas.{Holds, MayHold, IsAny, any_hold, HasLevels, form_holds, levels_hold}

-- what both steps of two gave
record Both {A B : Type 0} (s : Step A) (f : A → Stock → Step B) (b : B) (v : Stock) : Type 0 where
  value : A
  stock : Stock
  first : s ≡ gives value stock
  second : f value stock ≡ gives b v

answer_parts : {A B : Type 0} (r : Result A Stop) (w : Stock) (f : A → Stock → Step B) (b : B) (v : Stock) → goes_on r w f ≡ gives b v → Both (record { answer = r; stock = w }) f b v
answer_parts (Ok a) w f b v h = record { value = a; stock = w; first = refl; second = h }
answer_parts (Err e) w f b v h = absurd (cc (ap (λ (s : Step _). s.answer) h))

parts : {A B : Type 0} (s : Step A) (f : A → Stock → Step B) (b : B) (v : Stock) → (s >>= f) ≡ gives b v → Both s f b v
parts s f b v h = answer_parts s.answer s.stock f b v h

given : {A : Type 0} (a b : A) (w v : Stock) → gives a w ≡ gives b v → a ≡ b
given a b w v h = cc (ap (λ (s : Step _). s.answer) h)

-- so many boxes, in which no more than so many canvases lie in one another, and of which none that holds a canvas is a port
record Fits (t : Trees) (n m : ℕ) : Type 0 where
  wide : width t ≡ n
  shallow : deep t ≤ m
  bare : HoldersAreNoPorts t

-- the same of the boxes of a canvas inside
record FitsInside (t : Trees) (m : ℕ) : Type 0 where
  shallow : deep t + 1 ≤ m
  bare : HoldersAreNoPorts t

fits_same : (t u : Trees) (n m : ℕ) → t ≡ u → Fits t n m → Fits u n m
fits_same t u n m e h = subst (λ x. Fits x n m) e h

abbrev Inside : Inner → (Page → Type 0) → ℕ → Type 0
Inside inner Q m = (a : Around) (p : Page) (w v : Stock) (b : Trees) → Q p → inner a p w ≡ gives b v → FitsInside b m

canvas_fits : (inner : Inner) (Q : Page → Type 0) (m : ℕ) → Inside inner Q m → (a : Around) (p : Page) (e : Entry) (text : List Atom) (w v : Stock) (b : Trees) → Q p
    → canvas_grown inner a p e.head text w ≡ gives b v → Fits b 1 m
canvas_fits inner Q m h a p e text w v b q g =
    let s = parts (inner a p w) _ b v g in
    let less = h a p w s.stock s.value q s.first in
    fits_same _ b 1 m (given _ b s.stock v s.second) (record { wide = omega arith; shallow = let l = less.shallow in omega (arith, l); bare = (refl, refl, less.bare, tt) })

box_fits : (inner : Inner) (Q : Page → Type 0) (m : ℕ) → Inside inner Q m → (a : Around) (e : Entry) (text : List Atom) (made : Making) (w v : Stock) (b : Trees) → Holds Q e.page made
    → box_made inner a e text made w ≡ gives b v → Fits b 1 m
box_fits inner Q m h a e text (Plain k fault) w v b q g = fits_same _ b 1 m (given _ b w v g) (record { wide = omega arith; shallow = omega arith; bare = tt })
box_fits inner Q m h a e text Subpatch w v b q g =
    let s = parts (receiver_brought a.is_top text w) _ b v g in
    canvas_fits inner Q m h a e.page e text s.stock v b q s.second
box_fits inner Q m h a e text (File n p) w v b q g =
    let s = parts (numbered w) _ b v g in
    canvas_fits inner Q m h _ p e text s.stock v b q s.second

one_fits : (lib : ℕ → Option Answer) (root : List ℕ) (left : ℕ) (Q : Page → Type 0) (m : ℕ) (inner : Inner) → Inside inner Q m → (a : Around) (e : Entry) (w v : Stock) (b : Trees)
    → MayHold lib root left Q e → box_grown lib root left inner a e w ≡ gives b v → Fits b 1 m
one_fits lib root left Q m inner h a e w v b q g =
    let s = parts (counted w) _ b v g in
    let t = parts (own_text a e.head s.stock) _ b v s.second in
    let u = answer_parts (made lib root left a t.stock.names e.head.form t.value) t.stock _ b v t.second in
    box_fits inner Q m h a e t.value u.value u.stock v b (q a t.stock.names t.value u.value (ap (λ (s : Step Making). s.answer) u.first)) u.second

width_join : (t u : Trees) → width (join t u) ≡ width t + width u
width_join Done u = omega arith
width_join (Leaf c rest) u = let h = width_join rest u in omega (arith, h)
width_join (Holder c s inner rest) u = let h = width_join rest u in omega (arith, h)

deep_join : (t u : Trees) → deep (join t u) ≡ max (deep t) (deep u)
deep_join Done u = omega arith
deep_join (Leaf c rest) u = deep_join rest u
deep_join (Holder c s inner rest) u = let h = deep_join rest u in omega (arith, h)

bare_join : (t u : Trees) → HoldersAreNoPorts t → HoldersAreNoPorts u → HoldersAreNoPorts (join t u)
bare_join Done u h k = k
bare_join (Leaf c rest) u h k = bare_join rest u h k
bare_join (Holder c s inner rest) u h k = (h.0, h.1, h.2, bare_join rest u h.3 k)

boxes_fit : (lib : ℕ → Option Answer) (root : List ℕ) (left : ℕ) (Q : Page → Type 0) (m : ℕ) (inner : Inner) → Inside inner Q m → (a : Around) (es : List Entry) (w v : Stock) (b : Trees)
    → AllByRecursion (MayHold lib root left Q) es → boxes_grown lib root left inner a es w ≡ gives b v → Fits b (length es) m
unfolding boxes_grown
boxes_fit lib root left Q m inner h a [] w v b q g = fits_same _ b 0 m (given _ b w v g) (record { wide = refl; shallow = omega arith; bare = tt })
boxes_fit lib root left Q m inner h a (e ∷ es) w v b q g =
    let s = parts (box_grown lib root left inner a e w) _ b v g in
    let t = parts (boxes_grown lib root left inner a es s.stock) _ b v s.second in
    let one = one_fits lib root left Q m inner h a e w s.stock s.value q.0 s.first in
    let rest = boxes_fit lib root left Q m inner h a es s.stock t.stock t.value q.1 t.first in
    let wide = width_join s.value t.value in
    let deeper = deep_join s.value t.value in
    fits_same _ b _ m (given _ b t.stock v t.second)
    (record {
      wide = omega (arith, one.wide, rest.wide, wide);
      shallow = omega (arith, one.shallow, rest.shallow, deeper);
      bare = bare_join s.value t.value one.bare rest.bare;
    })

none_inside : (b : Trees) → Done ≡ b → FitsInside b 1
none_inside b e = subst (λ x. FitsInside x 1) e (record { shallow = omega arith; bare = tt })

inside_next : (k n : ℕ) (b : Trees) → Fits b k (n + 1) → FitsInside b (suc n + 1)
inside_next k n b f = let l = f.shallow in record { shallow = omega (arith, l); bare = f.bare }

page_fits : (lib : ℕ → Option Answer) (root : List ℕ) (n : ℕ) (a : Around) (p : Page) (w v : Stock) (b : Trees)
    → page_grown lib root n a p w ≡ gives b v → Fits b (length (elements_of p)) (n + 1)
unfolding page_grown
page_fits lib root zero a p w v b g =
    boxes_fit lib root zero IsAny 1 (λ a p w. gives Done w) (λ a p w v b _ h. none_inside b (given Done b w v h)) a (elements_of p) w v b (any_hold lib root zero (elements_of p)) g
page_fits lib root (suc n) a p w v b g =
    boxes_fit lib root (suc n) IsAny (suc n + 1) (page_grown lib root n) (λ a p w v b _ h. inside_next (length (elements_of p)) n b (page_fits lib root n a p w v b h)) a (elements_of p) w v b
    (any_hold lib root (suc n) (elements_of p)) g

inside_below : (k n : ℕ) (b : Trees) → Fits b k n → FitsInside b (suc n)
inside_below k n b f = let l = f.shallow in record { shallow = omega (arith, l); bare = f.bare }

none_below : (n : ℕ) → n + 1 ≤ 0 → ⊥
none_below n h = omega (arith, h)

one_less : (m n : ℕ) → m + 1 ≤ suc n → m ≤ n
one_less m n h = omega (arith, h)

-- where no more canvases lie in one another in the document than may, no more do in what grows
page_shallow : (lib : ℕ → Option Answer) (root : List ℕ) (n : ℕ) (a : Around) (p : Page) (w v : Stock) (b : Trees) → levels p.boxes ≤ n
    → page_grown lib root n a p w ≡ gives b v → Fits b (length (elements_of p)) n
unfolding page_grown
page_shallow lib root zero a p w v b l g =
    boxes_fit lib root zero (HasLevels zero) zero (λ a p w. gives Done w) (λ a p w v b q h. absurd (none_below (levels p.boxes) q)) a (elements_of p) w v b (levels_hold lib root zero p.boxes l) g
page_shallow lib root (suc n) a p w v b l g =
    boxes_fit lib root (suc n) (HasLevels (suc n)) (suc n) (page_grown lib root n)
    (λ a p w v b q h. inside_below (length (elements_of p)) n b (page_shallow lib root n a p w v b (one_less (levels p.boxes) n q) h)) a (elements_of p) w v b
    (levels_hold lib root (suc n) p.boxes l) g

inside_any : (lib : ℕ → Option Answer) (root : List ℕ) (left : ℕ) → Inside (inside_grown lib root left) IsAny (left + 1)
inside_any lib root zero = λ a p w v b q g. none_inside b (given Done b w v g)
inside_any lib root (suc n) = λ a p w v b q g. inside_next (length (elements_of p)) n b (page_fits lib root n a p w v b g)

-- in a box that grew no more canvases lie in one another than may, with its own, and no box of it that holds a canvas is a port
pub grown_box_fits : (lib : ℕ → Option Answer) (root : List ℕ) (left : ℕ) (a : Around) (e : Entry) (w v : Stock) (b : Trees)
    → box_grown lib root left (inside_grown lib root left) a e w ≡ gives b v → (deep b ≤ left + 1) × HoldersAreNoPorts b
grown_box_fits lib root left a e w v b g =
    let any : AllByRecursion (MayHold lib root left IsAny) (e ∷ []) = any_hold lib root left (e ∷ []) in
    let f = one_fits lib root left IsAny (left + 1) (inside_grown lib root left) (inside_any lib root left) a e w v b any.0 g in
    (f.shallow, f.bare)

inside_levels : (lib : ℕ → Option Answer) (root : List ℕ) (left : ℕ) → Inside (inside_grown lib root left) (HasLevels left) left
inside_levels lib root zero = λ a p w v b q g. absurd (none_below (levels p.boxes) q)
inside_levels lib root (suc n) = λ a p w v b q g. inside_below (length (elements_of p)) n b (page_shallow lib root n a p w v b (one_less (levels p.boxes) n q) g)

-- and no more than may, where no more do in its element
pub box_shallow : (lib : ℕ → Option Answer) (root : List ℕ) (left : ℕ) (a : Around) (e : Entry) (w v : Stock) (b : Trees) → levels_of e.head.form (levels e.page.boxes) ≤ left
    → box_grown lib root left (inside_grown lib root left) a e w ≡ gives b v → deep b ≤ left
box_shallow lib root left a e w v b l g =
    (one_fits lib root left (HasLevels left) left (inside_grown lib root left) (inside_levels lib root left) a e w v b (λ a names text m h. form_holds lib root left e.head.form e.page l a names text m h) g).shallow

-- what grew at the root
record AtRoot (lib : ℕ → Option Answer) (name : List ℕ) (p : Page) (t : Tree) : Type 0 where
  own : ℕ
  before : Stock
  after : Stock
  boxes : page_grown lib (without_ending name) 255 (around_root own) p before ≡ gives t.boxes after

at_root : (lib : ℕ → Option Answer) (name : List ℕ) (p : Page) (w v : Stock) (t : Tree) → grown lib name p w ≡ gives t v → AtRoot lib name p t
at_root lib name p w v t g =
    let n = parts (numbered w) _ t v g in
    let b = parts (brought (receiver_bytes name) n.stock) _ t v n.second in
    let r = parts (page_grown lib (without_ending name) 255 (around_root n.value) p b.stock) _ t v b.second in
    let same : r.value ≡ t.boxes = ap (λ (x : Tree). x.boxes) (given _ t r.stock v r.second) in
    record {
      own = n.value;
      before = b.stock;
      after = r.stock;
      boxes = subst (λ (x : Trees). page_grown lib (without_ending name) 255 (around_root n.value) p b.stock ≡ gives x r.stock) same r.first;
    }

-- a grown document has as many boxes as the document, no more than 256 canvases lie in one another inside the root, and no box that
-- holds a canvas is a port
pub tree_fits : (lib : ℕ → Option Answer) (name : List ℕ) (p : Page) (w v : Stock) (t : Tree) → grown lib name p w ≡ gives t v
    → (width t.boxes ≡ length (elements_of p)) × (deep t.boxes ≤ 256) × HoldersAreNoPorts t.boxes
tree_fits lib name p w v t g =
    let r = at_root lib name p w v t g in
    let f = page_fits lib (without_ending name) 255 (around_root r.own) p r.before r.after t.boxes r.boxes in
    (f.wide, f.shallow, f.bare)

-- and no more than 256 with the root, where no more do in the document
pub tree_shallow : (lib : ℕ → Option Answer) (name : List ℕ) (p : Page) (w v : Stock) (t : Tree) → levels p.boxes + 1 ≤ 256 → grown lib name p w ≡ gives t v → deep t.boxes + 1 ≤ 256
tree_shallow lib name p w v t l g =
    let r = at_root lib name p w v t g in
    let f = page_shallow lib (without_ending name) 255 (around_root r.own) p r.before r.after t.boxes (omega (arith, l)) r.boxes in
    let k = f.shallow in omega (arith, k)

-- how much sound is in stands
sound_standing : Rate → List Stand → ℕ
sound_standing r [] = 0
sound_standing r (s ∷ ss) = size_of s.cell.kind r + sound_standing r ss

sound_rows : (r : Rate) (rows : List Row) → sound_in r rows ≡ sound_standing r (stands_in rows)
unfolding sound_standing
sound_rows r [] = refl
sound_rows r (row ∷ rows) = ap (λ n. size_of row.kind r + n) (sound_rows r rows)

sound_trees : (r : Rate) (t : Trees) (more : List Stand) → sound_standing r (stands_of t ++ more) ≡ sound_of r t + sound_standing r more
unfolding sound_standing
sound_trees r Done more = omega arith
sound_trees r (Leaf c rest) more = let h = sound_trees r rest more in omega (arith, h)
sound_trees r (Holder c s inner rest) more =
    let h = sound_trees r inner (stands_of rest ++ more) in
    let k = sound_trees r rest more in
    let e = ap (sound_standing r) (append_assoc (stands_of inner) (stands_of rest) more) in
    omega (arith, h, k, e)

sound_none : (r : Rate) → sound_standing r [] ≡ 0
unfolding sound_standing
sound_none r = refl

-- the sound of rows is that of the tree of which they are the list
pub sound_grown : (r : Rate) (rows : List Row) (t : Trees) → stands_in rows ≡ stands_of t → sound_in r rows ≡ sound_of r t
sound_grown r rows t h =
    let a = sound_rows r rows in
    let b = ap (sound_standing r) h in
    let c = ap (sound_standing r) (append-nil (stands_of t)) in
    let d = sound_trees r t [] in
    let e = sound_none r in
    omega (arith, a, b, c, d, e)
