-- What a tree counts with another box in one canvas.
use Rattle.std.proofs.Common.{◌≡◌, ℕ, zero, suc, ◌+◌, List, [], ◌∷◌, ◌++◌, slice_get, Option, Some, None, refl, sym, ap, ◌∙◌, subst, arith}
use Rattle.std.proofs.lemmas.Option.{none-some, same_Some}
use Rattle.slab.specs.Slab.{get}
use Rattle.pd_clock.specs.declared.times.Rate.{Rate}
use Rattle.pd_kind.specs.States.{size_of}
use Rattle.pd_canvas.specs.Pages.{Shape, Sub}
use Rattle.pd_tree.specs.declared.rows.Sheet.{Sheet}
use Rattle.pd_tree.specs.Trees.{Cell, Trees, Done, Leaf, Holder, Tree, join, weight, own_zeros, zeros_in, zeros_of}
use Rattle.pd_grove.specs.declared.nodes.Node.{Node}
use Rattle.pd_grove.specs.declared.grove.Grove.{Grove}
use Rattle.pd_grove.specs.OwnPaths.{sub_reached}
use Rattle.pd_grove.specs.Places.{CanvasStands}
use Rattle.pd_grove.specs.Standing.{NodeSeen, Stands, GroveStands}
use Rattle.pd_grove.specs.Telling.{inner_in}
use Rattle.pd_grove.proofs.PlaceLemmas.{seen_keys}
use Rattle.pd_patch.specs.Sounds.{sound_of}
use Rattle.pd_regrowth_law.specs.Canvases.{canvas_with, Nest, Alone, Inside, nested, own_along}
use Rattle.pd_reload_law.proofs.EditLemmas.{sub_inner}
use Rattle.pd_putting_law.specs.Puts.{change_inside, change_at}
use Rattle.pd_putting_law.proofs.PathLemmas.{subs}
use Rattle.pd_putting_law.proofs.StandLemmas.{seen_inner, CanvasAt, keys_are, path_along}
use Rattle.pd_putting_law.proofs.WithinLemmas.{path_within}
use Rattle.pd_retyping_law.specs.Retypes.{boxes_with, retyped_box, retyped_at, SuitsAt}
use Rattle.pd_retyping_law.specs.Retyping.{RetypesBoxAt, RenamesBoxAt, ChangesBoxAt, cell_in}
use Rattle.pd_retyping_law.proofs.PlaceLemmas.{is_here, was_seen, sub_was, sub_now, retypes_so, renames_so}

-- ---- boxes

boxes_weigh : (m : ℕ) (c : Cell) (t : Trees) → weight (boxes_with m c t) ≡ weight t
boxes_weigh m c Done = refl
boxes_weigh zero c (Leaf old rest) = refl
boxes_weigh zero c (Holder old s inner rest) = refl
boxes_weigh (suc m) c (Leaf old rest) = rw (boxes_weigh m c rest) refl
boxes_weigh (suc m) c (Holder old s inner rest) = rw (boxes_weigh m c rest) refl

inside_weighs : (m : ℕ) (f : Tree → Tree) (t : Trees) → ((v : Tree) → weight (f v).boxes ≡ weight v.boxes) → weight (change_inside m f t) ≡ weight t
inside_weighs m f Done e = refl
inside_weighs zero f (Leaf c rest) e = refl
inside_weighs zero f (Holder c s inner rest) e = rw (e (canvas_with s inner)) refl
inside_weighs (suc m) f (Leaf c rest) e = rw (inside_weighs m f rest e) refl
inside_weighs (suc m) f (Holder c s inner rest) e = rw (inside_weighs m f rest e) refl

pub weight_same : (path : List ℕ) (m : ℕ) (c : Cell) (t : Tree) → weight (retyped_at path m c t).boxes ≡ weight t.boxes
weight_same [] m c t = boxes_weigh m c t.boxes
weight_same (i ∷ path) m c t = inside_weighs i (change_at path (retyped_box m c)) t.boxes (λ v. weight_same path m c v)

-- ---- `$0` numbers

sub_zeros : (c : Cell) (s : Sheet) → c.head.form ≡ Sub → own_zeros c.head.form s ≡ []
sub_zeros c s f = ap (λ (y : Shape). own_zeros y s) f

boxes_zeros : (m : ℕ) (c : Cell) (t : Trees) → SuitsAt m c t → zeros_in (boxes_with m c t) ≡ zeros_in t
boxes_zeros m c Done u = refl
boxes_zeros zero c (Leaf old rest) u = refl
boxes_zeros zero c (Holder old s inner rest) u =
    ap (λ (l : List ℕ). l ++ (zeros_in inner ++ zeros_in rest)) (sub_zeros c s u.1 ∙ sym (sub_zeros old s u.0))
boxes_zeros (suc m) c (Leaf old rest) u = boxes_zeros m c rest u
boxes_zeros (suc m) c (Holder old s inner rest) u =
    ap (λ (l : List ℕ). own_zeros old.head.form s ++ (zeros_in inner ++ l)) (boxes_zeros m c rest u)

-- the `$0` numbers of a canvas with all that lies around it, where it has the same
behind_zeros : (before t u : Trees) → zeros_in u ≡ zeros_in t → zeros_in (join before u) ≡ zeros_in (join before t)
behind_zeros Done t u e = e
behind_zeros (Leaf c before) t u e = behind_zeros before t u e
behind_zeros (Holder c s inner before) t u e = ap (λ (l : List ℕ). own_zeros c.head.form s ++ (zeros_in inner ++ l)) (behind_zeros before t u e)

nest_sheet : (nest : Nest) (t u : Tree) → u.sheet ≡ t.sheet → (nested nest u).sheet ≡ (nested nest t).sheet
nest_sheet Alone t u s = s
nest_sheet (Inside sheet before c nest behind) t u s = refl

nest_zeros : (nest : Nest) (t u : Tree) → u.sheet ≡ t.sheet → zeros_in u.boxes ≡ zeros_in t.boxes → zeros_in (nested nest u).boxes ≡ zeros_in (nested nest t).boxes
nest_zeros Alone t u s e = e
nest_zeros (Inside sheet before c nest behind) t u s e =
    let v = nested nest t in
    let w = nested nest u in
    behind_zeros before (Holder c v.sheet v.boxes behind) (Holder c w.sheet w.boxes behind)
    (ap (λ (x : Sheet). own_zeros c.head.form x ++ (zeros_in w.boxes ++ zeros_in behind)) (nest_sheet nest t u s)
    ∙ ap (λ (l : List ℕ). own_zeros c.head.form v.sheet ++ (l ++ zeros_in behind)) (nest_zeros nest t u s e))

pub zeros_same : (path : List ℕ) (m : ℕ) (c : Cell) (t u : Tree) → own_along path t ≡ Some u → SuitsAt m c u.boxes → zeros_of (retyped_at path m c t) ≡ zeros_of t
zeros_same path m c t u at suits =
    let w = path_within path t u at in
    let v = retyped_box m c u in
    ap zeros_of (w.changed (retyped_box m c))
    ∙ ap (λ (x : Sheet). x.zero ∷ zeros_in (nested w.nest v).boxes) (nest_sheet w.nest u v refl)
    ∙ ap (λ (l : List ℕ). (nested w.nest u).sheet.zero ∷ l) (nest_zeros w.nest u v refl (boxes_zeros m c u.boxes suits))
    ∙ sym (ap zeros_of w.whole)

-- ---- values

-- the first list has so many values more, where the second had so many
abbrev IsTraded : ℕ → ℕ → ℕ → ℕ → Type 0
IsTraded old new now was = now + old ≡ was + new

traded_behind : (old new now was first : ℕ) → IsTraded old new now was → IsTraded old new (first + now) (first + was)
traded_behind old new now was first e = omega (arith, e)

traded_inside : (old new now was first rest : ℕ) → IsTraded old new now was → IsTraded old new (first + (now + rest)) (first + (was + rest))
traded_inside old new now was first rest e = omega (arith, e)

traded_last : (old new now was first inner : ℕ) → IsTraded old new now was → IsTraded old new (first + (inner + now)) (first + (inner + was))
traded_last old new now was first inner e = omega (arith, e)

traded_here : (old new first rest : ℕ) → old ≡ first → IsTraded old new (new + rest) (first + rest)
traded_here old new first rest e = omega (arith, e)

module _ (rate : Rate) (g h : Grove) (path₀ : List ℕ) (canvas key number : ℕ) (n n' : Node) (B : ChangesBoxAt g h path₀ canvas key number n n') where
  abbrev Traded : Trees → Trees → Type 0
  Traded u t = IsTraded (size_of n.kind rate) (size_of n'.kind rate) (sound_of rate u) (sound_of rate t)

  abbrev old_size : ℕ
  old_size = size_of n.kind rate

  abbrev new_size : ℕ
  new_size = size_of n'.kind rate

  boxes_trade : (b d : ℕ) (keys : List ℕ) (t : Trees) (m : ℕ) → slice_get keys m ≡ Some key → Stands (get g.nodes) (get g.boards) b d keys t
      → Traded (boxes_with m (cell_in n') t) t
  boxes_trade b d [] t m at S = absurd (none-some key at)
  boxes_trade b d (k ∷ ks) Done m at S = absurd S
  boxes_trade b d (k ∷ ks) (Leaf c rest) zero at S =
      traded_here old_size new_size (size_of c.kind rate) (sound_of rate rest)
      (ap (λ (y : NodeSeen). size_of y.cell.kind rate) (was_seen g h path₀ canvas key number n n' B k _ (same_Some k key at) S.0))
  boxes_trade b d (k ∷ ks) (Leaf c rest) (suc m) at S =
      traded_behind old_size new_size (sound_of rate (boxes_with m (cell_in n') rest)) (sound_of rate rest) (size_of c.kind rate) (boxes_trade b d ks rest m at S.1)
  boxes_trade b d (k ∷ ks) (Holder c s inner rest) zero at S =
      traded_here old_size new_size (size_of c.kind rate) (sound_of rate inner + sound_of rate rest)
      (ap (λ (y : NodeSeen). size_of y.cell.kind rate) (was_seen g h path₀ canvas key number n n' B k _ (same_Some k key at) S.2))
  boxes_trade b d (k ∷ ks) (Holder c s inner rest) (suc m) at S =
      traded_last old_size new_size (sound_of rate (boxes_with m (cell_in n') rest)) (sound_of rate rest) (size_of c.kind rate) (sound_of rate inner)
      (boxes_trade b d ks rest m at S.5)

  inside_trade : (f : Tree → Tree) (b d : ℕ) (keys : List ℕ) (t : Trees) (m k j : ℕ) → slice_get keys m ≡ Some k → inner_in (get g.nodes k) ≡ Some j
      → ((u : Tree) → CanvasAt g j (Some k) (d + 1) u → Traded (f u).boxes u.boxes) → Stands (get g.nodes) (get g.boards) b d keys t
      → Traded (change_inside m f t) t
  inside_trade f b d [] t m k j at holds on S = absurd (none-some k at)
  inside_trade f b d (l ∷ ls) Done m k j at holds on S = absurd S
  inside_trade f b d (l ∷ ls) (Leaf c rest) zero k j at holds on S =
      absurd (none-some j (sym (seen_inner (get g.nodes l) _ S.0) ∙ ap (λ x. inner_in (get g.nodes x)) (same_Some l k at) ∙ holds))
  inside_trade f b d (l ∷ ls) (Leaf c rest) (suc m) k j at holds on S =
      traded_behind old_size new_size (sound_of rate (change_inside m f rest)) (sound_of rate rest) (size_of c.kind rate) (inside_trade f b d ls rest m k j at holds on S.1)
  inside_trade f b d (l ∷ ls) (Holder c s inner rest) zero k j at holds on S =
      let same : l ≡ k = same_Some l k at in
      let is : S.0 ≡ j = same_Some S.0 j (sym (seen_inner (get g.nodes l) _ S.2) ∙ ap (λ z. inner_in (get g.nodes z)) same ∙ holds) in
      let u : Tree = canvas_with s inner in
      let C : CanvasAt g j (Some k) (d + 1) u = subst (λ x. CanvasAt g x (Some k) (d + 1) u) is
      (subst (λ x. CanvasAt g S.0 (Some x) (d + 1) u) same (record { keys = S.1; board = S.3; stands = S.4 })) in
      traded_inside old_size new_size (sound_of rate (f u).boxes) (sound_of rate inner) (size_of c.kind rate) (sound_of rate rest) (on u C)
  inside_trade f b d (l ∷ ls) (Holder c s inner rest) (suc m) k j at holds on S =
      traded_last old_size new_size (sound_of rate (change_inside m f rest)) (sound_of rate rest) (size_of c.kind rate) (sound_of rate inner)
      (inside_trade f b d ls rest m k j at holds on S.5)

  canvas_trades : (path : List ℕ) (c : ℕ) (holder : Option ℕ) (d : ℕ) (u : Tree) → sub_reached g (Some c) path ≡ Some canvas → CanvasAt g c holder d u
      → Traded (retyped_at path number (cell_in n') u).boxes u.boxes
  canvas_trades [] c holder d u on C =
      let here : c ≡ canvas = same_Some c canvas on in
      let D : CanvasAt g canvas holder d u = subst (λ x. CanvasAt g x holder d u) here C in
      boxes_trade canvas d D.keys u.boxes number (is_here g h path₀ canvas key number n n' B D.keys (keys_are g canvas holder d u D)) D.stands
  canvas_trades (i ∷ path) c holder d u on C =
      let s = subs g c i path canvas on in
      inside_trade (change_at path (retyped_box number (cell_in n'))) c d C.keys u.boxes i s.key s.inner
      (ap (λ (l : List ℕ). slice_get l i) (sym (keys_are g c holder d u C)) ∙ s.is) (sub_inner (get g.nodes s.key) s.inner s.sub)
      (λ v D. canvas_trades path s.inner (Some s.key) (d + 1) v s.on D) C.stands

  pub tree_changes : (t : Tree) → GroveStands g t.sheet t.boxes
      → sound_of rate (retyped_at path₀ number (cell_in n') t).boxes + size_of n.kind rate ≡ sound_of rate t.boxes + size_of n'.kind rate
  tree_changes t G = canvas_trades path₀ g.root None 0 t B.leads (record { keys = G.keys; board = G.root; stands = G.stands })

module _ (g h : Grove) (path₀ : List ℕ) (canvas key number : ℕ) (n n' : Node) (B : ChangesBoxAt g h path₀ canvas key number n n') where
  -- the box, where it holds a canvas, and the one that it is now are subpatches
  suits_here : (b d : ℕ) (keys : List ℕ) (t : Trees) (m : ℕ) → slice_get keys m ≡ Some key → Stands (get g.nodes) (get g.boards) b d keys t → SuitsAt m (cell_in n') t
  suits_here b d [] t m at S = absurd (none-some key at)
  suits_here b d (k ∷ ks) Done m at S = absurd S
  suits_here b d (k ∷ ks) (Leaf c rest) zero at S = tt
  suits_here b d (k ∷ ks) (Leaf c rest) (suc m) at S = suits_here b d ks rest m at S.1
  suits_here b d (k ∷ ks) (Holder c s inner rest) zero at S = (
    sub_was g h path₀ canvas key number n n' B k S.0 _ (same_Some k key at) S.2 refl,
    sub_now g h path₀ canvas key number n n' B k S.0 _ (same_Some k key at) S.2 refl,
  )
  suits_here b d (k ∷ ks) (Holder c s inner rest) (suc m) at S = suits_here b d ks rest m at S.5

  pub suits_there : (u : Tree) → CanvasStands g canvas u → SuitsAt number (cell_in n') u.boxes
  suits_there u S =
      suits_here canvas S.depth S.keys u.boxes number
      (is_here g h path₀ canvas key number n n' B S.keys (seen_keys (get g.boards canvas) _ S.board)) S.stands

  pub zeros_stay : (t : Tree) → GroveStands g t.sheet t.boxes → zeros_of (retyped_at path₀ number (cell_in n') t) ≡ zeros_of t
  zeros_stay t G =
      let at = path_along g path₀ canvas t B.forest G B.leads in
      zeros_same path₀ number (cell_in n') t at.0 at.1 (suits_there at.0 at.2)

-- ---- another box, and a subpatch with another text

pub tree_trades : (rate : Rate) (g h : Grove) (path₀ : List ℕ) (canvas key number : ℕ) (n n' : Node) → RetypesBoxAt g h path₀ canvas key number n n' → (t : Tree)
    → GroveStands g t.sheet t.boxes
    → sound_of rate (retyped_at path₀ number (cell_in n') t).boxes + size_of n.kind rate ≡ sound_of rate t.boxes + size_of n'.kind rate
tree_trades rate g h path₀ canvas key number n n' B t G =
    tree_changes rate g h path₀ canvas key number n n' (retypes_so g h path₀ canvas key number n n' B) t G

pub as_much : (rate : Rate) (g h : Grove) (path₀ : List ℕ) (canvas key number : ℕ) (n n' : Node) → RenamesBoxAt g h path₀ canvas key number n n' → (t : Tree)
    → GroveStands g t.sheet t.boxes → sound_of rate (retyped_at path₀ number (cell_in n') t).boxes ≡ sound_of rate t.boxes
as_much rate g h path₀ canvas key number n n' B t G =
    less (sound_of rate (retyped_at path₀ number (cell_in n') t).boxes) (sound_of rate t.boxes) (size_of n.kind rate) (size_of n'.kind rate)
    (ap (λ x. size_of x rate) B.kind) (tree_changes rate g h path₀ canvas key number n n' (renames_so g h path₀ canvas key number n n' B) t G)
  where
    less : (a b x y : ℕ) → y ≡ x → a + x ≡ b + y → a ≡ b
    less a b x y e h = omega (arith, e, h)

pub zeros_renamed : (g h : Grove) (path₀ : List ℕ) (canvas key number : ℕ) (n n' : Node) → RenamesBoxAt g h path₀ canvas key number n n' → (t : Tree)
    → GroveStands g t.sheet t.boxes → zeros_of (retyped_at path₀ number (cell_in n') t) ≡ zeros_of t
zeros_renamed g h path₀ canvas key number n n' B t G =
    zeros_stay g h path₀ canvas key number n n' (renames_so g h path₀ canvas key number n n' B) t G

pub zeros_retyped : (g h : Grove) (path₀ : List ℕ) (canvas key number : ℕ) (n n' : Node) → RetypesBoxAt g h path₀ canvas key number n n' → (t : Tree)
    → GroveStands g t.sheet t.boxes → zeros_of (retyped_at path₀ number (cell_in n') t) ≡ zeros_of t
zeros_retyped g h path₀ canvas key number n n' B t G =
    zeros_stay g h path₀ canvas key number n n' (retypes_so g h path₀ canvas key number n n' B) t G
