-- Another box in one canvas, and the tree as it stands.
use Rattle.std.proofs.Common.{◌≡◌, ◌≢◌, ℕ, zero, suc, ◌+◌, List, [], ◌∷◌, slice_get, Option, Some, None, refl, sym, ap, ◌∙◌, subst}
use Rattle.std.proofs.lemmas.Option.{none-some, same_Some}
use Rattle.slab.specs.Slab.{Slab, get}
use Rattle.pd_canvas.specs.Pages.{Shape, Sub}
use Rattle.pd_tree.specs.declared.rows.Sheet.{Sheet}
use Rattle.pd_tree.specs.Trees.{Cell, Trees, Done, Leaf, Holder, Tree}
use Rattle.pd_grove.specs.declared.nodes.Node.{Node}
use Rattle.pd_grove.specs.declared.boards.Board.{Board}
use Rattle.pd_grove.specs.declared.grove.Grove.{Grove}
use Rattle.pd_grove.specs.OwnPaths.{sub_in, sub_reached}
use Rattle.pd_grove.specs.Standing.{Stands, GroveStands}
use Rattle.pd_grove.specs.Telling.{inner_in, keys_in, state_in}
use Rattle.pd_grove.specs.TextOrder.{keys_inside}
use Rattle.pd_grove.proofs.PlaceLemmas.{seen_keys}
use Rattle.pd_web.specs.declared.web.Web.{Web}
use Rattle.pd_web.specs.Canvases.{keys_at}
use Rattle.pd_present.specs.Contents.{present_head}
use Rattle.pd_present.specs.Presents.{wires_among}
use Rattle.pd_regrowth_law.specs.Canvases.{canvas_with}
use Rattle.pd_regrowth_law.specs.Rewiring.{with_wires}
use Rattle.pd_reload_law.specs.Saving.{cell_by, cell_now, holder_now, boxes_now, tree_now}
use Rattle.pd_reload_law.proofs.EditLemmas.{sub_inner}
use Rattle.pd_putting_law.specs.Puts.{change_inside, change_at}
use Rattle.pd_putting_law.proofs.PathLemmas.{subs, sub_leads, LeadsNot, not_same, not_around}
use Rattle.pd_putting_law.proofs.StandLemmas.{seen_inner, CanvasAt, keys_are, AreAside, AreBeside, aside_next, beside_first, beside_next, beside_here, aside_inside, aside_here, beside_on}
use Rattle.pd_putting_law.proofs.TreeLemmas.{holder_next, seen_sub}
use Rattle.pd_retyping_law.specs.Retypes.{boxes_with, retyped_box, retyped_at}
use Rattle.pd_retyping_law.specs.Retyping.{RetypesBoxAt, RenamesBoxAt, ChangesBoxAt, cell_in}
use Rattle.pd_retyping_law.proofs.PlaceLemmas.{AreOthers, AreOthersBut, others_next, but_first, but_next, but_here, others_in, others_here, is_now, sub_was, sub_now, retypes_so, renames_so}

holder_with : (f : Shape) (x : Cell) (s : Sheet) (inner : Trees) (now : Sheet) (boxes others : Trees) (m : ℕ) (c : Cell)
    → boxes_with (suc m) c (holder_now f x s inner now boxes others) ≡ holder_now f x s inner now boxes (boxes_with m c others)
holder_with Sub x s inner now boxes others m c = refl
holder_with f x s inner now boxes others m c = refl

module _ (g h : Grove) (path₀ : List ℕ) (canvas key number : ℕ) (n n' : Node) (B : ChangesBoxAt g h path₀ canvas key number n n') (w : Web) (numbers : List ℕ) where
  abbrev old : List ℕ → Trees → Trees
  old keys t = boxes_now w numbers (get g.nodes) (get g.boards) keys t

  abbrev new : List ℕ → Trees → Trees
  new keys t = boxes_now w numbers (get h.nodes) (get g.boards) keys t

  -- a canvas under its key as it stood, and as it stands
  abbrev canvas_old : ℕ → Tree → Tree
  canvas_old c u = canvas_with (with_wires (wires_among w numbers (keys_at g c)) u.sheet) (old (keys_at g c) u.boxes)

  abbrev canvas_new : ℕ → Tree → Tree
  canvas_new c u = canvas_with (with_wires (wires_among w numbers (keys_at g c)) u.sheet) (new (keys_at g c) u.boxes)

  abbrev cell_kept : Cell
  cell_kept = cell_now n'.state (cell_in n')

  -- a box with a canvas, in which no box changed
  holder_aside : (k j : ℕ) (c : Cell) (s : Sheet) (inner rest : Trees) → k ≢ key → inner_in (get g.nodes k) ≡ Some j → new (keys_at g j) inner ≡ old (keys_at g j) inner
      → (let ks = keys_inside (get g.boards) (inner_in (get h.nodes k)) in holder_now c.head.form c s inner (with_wires (wires_among w numbers ks) s) (new ks inner) rest)
      ≡ (let ks = keys_inside (get g.boards) (inner_in (get g.nodes k)) in holder_now c.head.form c s inner (with_wires (wires_among w numbers ks) s) (old ks inner) rest)
  holder_aside k j c s inner rest d holds same =
      let f = c.head.form in
      let was : keys_inside (get g.boards) (inner_in (get g.nodes k)) ≡ keys_at g j = ap (keys_inside (get g.boards)) holds in
      let now : keys_inside (get g.boards) (inner_in (get h.nodes k)) ≡ keys_at g j = ap (λ o. keys_inside (get g.boards) (inner_in o)) (B.others k d) ∙ was in
      ap (λ (ks : List ℕ). holder_now f c s inner (with_wires (wires_among w numbers ks) s) (new ks inner) rest) now
      ∙ ap (λ (b : Trees). holder_now f c s inner (with_wires (wires_among w numbers (keys_at g j)) s) b rest) same
      ∙ sym (ap (λ (ks : List ℕ). holder_now f c s inner (with_wires (wires_among w numbers ks) s) (old ks inner) rest) was)

  abbrev was_holder : ℕ → Cell → Sheet → Trees → Trees → Trees
  was_holder k c s inner rest =
      let js = keys_inside (get g.boards) (inner_in (get g.nodes k)) in
      holder_now c.head.form c s inner (with_wires (wires_among w numbers js) s) (old js inner) rest

  -- a subpatch is kept as it is
  sub_kept : (cell_in n').head.form ≡ Sub → cell_kept ≡ cell_in n'
  sub_kept f = ap (λ (y : Shape). cell_by y n'.state (cell_in n') (present_head n'.state (cell_in n').head)) f

  -- the box itself, where it holds a canvas
  holder_here : (k j : ℕ) (c : Cell) (s : Sheet) (inner others : Trees) → k ≡ key → inner_in (get g.nodes k) ≡ Some j → c.head.form ≡ Sub → (cell_in n').head.form ≡ Sub
      → new (keys_at g j) inner ≡ old (keys_at g j) inner
      → (let ks = keys_inside (get g.boards) (inner_in (get h.nodes k)) in
      holder_now (cell_in n').head.form (cell_in n') s inner (with_wires (wires_among w numbers ks) s) (new ks inner) others)
      ≡ boxes_with zero cell_kept (was_holder k c s inner others)
  holder_here k j c s inner others here holds form form' same =
      let c' = cell_in n' in
      let js = keys_inside (get g.boards) (inner_in (get g.nodes k)) in
      let ks = keys_inside (get g.boards) (inner_in (get h.nodes k)) in
      let still : inner_in (get h.nodes k) ≡ inner_in (get g.nodes k) =
      ap inner_in (is_now g h path₀ canvas key number n n' B k here) ∙ B.inner ∙ sym (ap inner_in (ap (λ i. get g.nodes i) here ∙ B.was)) in
      let was : js ≡ keys_at g j = ap (keys_inside (get g.boards)) holds in
      let now : ks ≡ keys_at g j = ap (keys_inside (get g.boards)) still ∙ was in
      ap (λ (y : Shape). holder_now y c' s inner (with_wires (wires_among w numbers ks) s) (new ks inner) others) form'
      ∙ ap (λ (l : List ℕ). Holder c' (with_wires (wires_among w numbers l) s) (new l inner) others) now
      ∙ ap (λ (b : Trees). Holder c' (with_wires (wires_among w numbers (keys_at g j)) s) b others) same
      ∙ sym (ap (λ (y : Shape). boxes_with zero cell_kept (holder_now y c s inner (with_wires (wires_among w numbers js) s) (old js inner) others)) form
      ∙ ap (λ (l : List ℕ). Holder cell_kept (with_wires (wires_among w numbers l) s) (old l inner) others) was
      ∙ ap (λ (x : Cell). Holder x (with_wires (wires_among w numbers (keys_at g j)) s) (old (keys_at g j) inner) others) (sub_kept form'))

  now_aside : (b d : ℕ) (keys : List ℕ) (t : Trees) → AreOthers key keys → AreAside g canvas keys → Stands (get g.nodes) (get g.boards) b d keys t → new keys t ≡ old keys t
  now_aside b d [] t o a S = refl
  now_aside b d (k ∷ ks) Done o a S = refl
  now_aside b d (k ∷ ks) (Leaf c rest) o a S =
      ap (λ x. Leaf (cell_now (state_in x) c) (new ks rest)) (B.others k (o 0 k refl))
      ∙ ap (Leaf (cell_now (state_in (get g.nodes k)) c)) (now_aside b d ks rest (others_next key k ks o) (aside_next g canvas k ks a) S.1)
  now_aside b d (k ∷ ks) (Holder c s inner rest) o a S =
      let holds = seen_inner (get g.nodes k) _ S.2 in
      let out : LeadsNot g canvas S.0 = a 0 k S.0 refl holds in
      let same : keys_at g S.0 ≡ S.1 = seen_keys (get g.boards S.0) _ S.3 in
      let js = keys_inside (get g.boards) (inner_in (get g.nodes k)) in
      holder_aside k S.0 c s inner (new ks rest) (o 0 k refl) holds
      (subst (λ (l : List ℕ). new l inner ≡ old l inner) (sym same)
      (now_aside S.0 (d + 1) S.1 inner (others_in g h path₀ canvas key number n n' B S.0 S.1 same (not_same g canvas S.0 out)) (aside_inside g canvas S.0 S.1 same out) S.4))
      ∙ ap (holder_now c.head.form c s inner (with_wires (wires_among w numbers js) s) (old js inner))
      (now_aside b d ks rest (others_next key k ks o) (aside_next g canvas k ks a) S.5)

  now_with : (b d : ℕ) (keys : List ℕ) (t : Trees) (m : ℕ) → slice_get keys m ≡ Some key → AreOthersBut key m keys → AreAside g canvas keys
      → Stands (get g.nodes) (get g.boards) b d keys t → new keys (boxes_with m (cell_in n') t) ≡ boxes_with m cell_kept (old keys t)
  now_with b d [] t m at o a S = absurd (none-some key at)
  now_with b d (k ∷ ks) Done m at o a S = absurd S
  now_with b d (k ∷ ks) (Leaf c rest) zero at o a S =
      ap (λ x. Leaf (cell_now (state_in x) (cell_in n')) (new ks rest)) (is_now g h path₀ canvas key number n n' B k (same_Some k key at))
      ∙ ap (Leaf cell_kept) (now_aside b d ks rest (but_first key k ks o) (aside_next g canvas k ks a) S.1)
  now_with b d (k ∷ ks) (Leaf c rest) (suc m) at o a S =
      ap (λ x. Leaf (cell_now (state_in x) c) (new ks (boxes_with m (cell_in n') rest))) (B.others k (but_here key m k ks o))
      ∙ ap (Leaf (cell_now (state_in (get g.nodes k)) c)) (now_with b d ks rest m at (but_next key m k ks o) (aside_next g canvas k ks a) S.1)
  now_with b d (k ∷ ks) (Holder c s inner rest) zero at o a S =
      let here : k ≡ key = same_Some k key at in
      let holds = seen_inner (get g.nodes k) _ S.2 in
      let out : LeadsNot g canvas S.0 = a 0 k S.0 refl holds in
      let same : keys_at g S.0 ≡ S.1 = seen_keys (get g.boards S.0) _ S.3 in
      holder_here k S.0 c s inner (new ks rest) here holds (sub_was g h path₀ canvas key number n n' B k S.0 _ here S.2 refl)
      (sub_now g h path₀ canvas key number n n' B k S.0 _ here S.2 refl)
      (subst (λ (l : List ℕ). new l inner ≡ old l inner) (sym same)
      (now_aside S.0 (d + 1) S.1 inner (others_in g h path₀ canvas key number n n' B S.0 S.1 same (not_same g canvas S.0 out)) (aside_inside g canvas S.0 S.1 same out) S.4))
      ∙ ap (λ (r : Trees). boxes_with zero cell_kept (was_holder k c s inner r)) (now_aside b d ks rest (but_first key k ks o) (aside_next g canvas k ks a) S.5)
  now_with b d (k ∷ ks) (Holder c s inner rest) (suc m) at o a S =
      let holds = seen_inner (get g.nodes k) _ S.2 in
      let out : LeadsNot g canvas S.0 = a 0 k S.0 refl holds in
      let same : keys_at g S.0 ≡ S.1 = seen_keys (get g.boards S.0) _ S.3 in
      let js = keys_inside (get g.boards) (inner_in (get g.nodes k)) in
      let sheet = with_wires (wires_among w numbers js) s in
      holder_aside k S.0 c s inner (new ks (boxes_with m (cell_in n') rest)) (but_here key m k ks o) holds
      (subst (λ (l : List ℕ). new l inner ≡ old l inner) (sym same)
      (now_aside S.0 (d + 1) S.1 inner (others_in g h path₀ canvas key number n n' B S.0 S.1 same (not_same g canvas S.0 out)) (aside_inside g canvas S.0 S.1 same out) S.4))
      ∙ ap (holder_now c.head.form c s inner sheet (old js inner)) (now_with b d ks rest m at (but_next key m k ks o) (aside_next g canvas k ks a) S.5)
      ∙ sym (holder_with c.head.form c s inner sheet (old js inner) (old ks rest) m cell_kept)

  now_here : (holder : Option ℕ) (d : ℕ) (u : Tree) → CanvasAt g canvas holder d u
      → canvas_new canvas (retyped_box number (cell_in n') u) ≡ retyped_box number cell_kept (canvas_old canvas u)
  now_here holder d u C =
      let same = keys_are g canvas holder d u C in
      ap (canvas_with (with_wires (wires_among w numbers (keys_at g canvas)) u.sheet))
      (now_with canvas d (keys_at g canvas) u.boxes number B.is (others_here g h path₀ canvas key number n n' B (keys_at g canvas) refl)
      (aside_here g canvas (keys_at g canvas) B.forest refl) (subst (λ (l : List ℕ). Stands (get g.nodes) (get g.boards) canvas d l u.boxes) (sym same) C.stands))

  abbrev held : Cell → Tree → Trees → Trees
  held c u rest = Holder c u.sheet u.boxes rest

  now_inside : (f change : Tree → Tree) (b d : ℕ) (keys : List ℕ) (t : Trees) (m k j : ℕ) → slice_get keys m ≡ Some k → sub_in (get g.nodes k) ≡ Some j
      → AreOthers key keys → AreBeside g canvas m keys
      → ((u : Tree) → CanvasAt g j (Some k) (d + 1) u → canvas_new j (f u) ≡ change (canvas_old j u))
      → Stands (get g.nodes) (get g.boards) b d keys t → new keys (change_inside m f t) ≡ change_inside m change (old keys t)
  now_inside f change b d [] t m k j at sub o a on S = absurd (none-some k at)
  now_inside f change b d (l ∷ ls) Done m k j at sub o a on S = absurd S
  now_inside f change b d (l ∷ ls) (Leaf c rest) zero k j at sub o a on S =
      let same : l ≡ k = same_Some l k at in
      absurd (none-some j (sym (seen_inner (get g.nodes l) _ S.0) ∙ ap (λ x. inner_in (get g.nodes x)) same ∙ sub_inner (get g.nodes k) j sub))
  now_inside f change b d (l ∷ ls) (Leaf c rest) (suc m) k j at sub o a on S =
      ap (λ x. Leaf (cell_now (state_in x) c) (new ls (change_inside m f rest))) (B.others l (o 0 l refl))
      ∙ ap (Leaf (cell_now (state_in (get g.nodes l)) c)) (now_inside f change b d ls rest m k j at sub (others_next key l ls o) (beside_next g canvas m l ls a) on S.1)
  now_inside f change b d (l ∷ ls) (Holder c s inner rest) zero k j at sub o a on S =
      let same : l ≡ k = same_Some l k at in
      let sub2 : sub_in (get g.nodes l) ≡ Some j = ap (λ x. sub_in (get g.nodes x)) same ∙ sub in
      let form : c.head.form ≡ Sub = seen_sub (get g.nodes l) _ j S.2 sub2 in
      let inside : inner_in (get g.nodes l) ≡ Some j = sub_inner (get g.nodes l) j sub2 in
      let is : S.0 ≡ j = same_Some S.0 j (sym (seen_inner (get g.nodes l) _ S.2) ∙ inside) in
      let u : Tree = canvas_with s inner in
      let C : CanvasAt g j (Some k) (d + 1) u = subst (λ x. CanvasAt g x (Some k) (d + 1) u) is
      (subst (λ x. CanvasAt g S.0 (Some x) (d + 1) u) same (record { keys = S.1; board = S.3; stands = S.4 })) in
      let was : keys_inside (get g.boards) (inner_in (get g.nodes l)) ≡ keys_at g j = ap (keys_inside (get g.boards)) inside in
      let now : keys_inside (get g.boards) (inner_in (get h.nodes l)) ≡ keys_at g j =
      ap (λ x. keys_inside (get g.boards) (inner_in x)) (B.others l (o 0 l refl)) ∙ was in
      let js' = keys_inside (get g.boards) (inner_in (get h.nodes l)) in
      let js = keys_inside (get g.boards) (inner_in (get g.nodes l)) in
      ap (λ (y : Shape). holder_now y c (f u).sheet (f u).boxes (with_wires (wires_among w numbers js') (f u).sheet) (new js' (f u).boxes) (new ls rest)) form
      ∙ ap (λ (x : List ℕ). held c (canvas_with (with_wires (wires_among w numbers x) (f u).sheet) (new x (f u).boxes)) (new ls rest)) now
      ∙ ap (λ (v : Tree). held c v (new ls rest)) (on u C)
      ∙ ap (held c (change (canvas_old j u))) (now_aside b d ls rest (others_next key l ls o) (beside_first g canvas l ls a) S.5)
      ∙ sym (ap (λ (y : Shape). change_inside 0 change (holder_now y c s inner (with_wires (wires_among w numbers js) s) (old js inner) (old ls rest))) form
      ∙ ap (λ (x : List ℕ). held c (change (canvas_with (with_wires (wires_among w numbers x) s) (old x inner))) (old ls rest)) was)
  now_inside f change b d (l ∷ ls) (Holder c s inner rest) (suc m) k j at sub o a on S =
      let holds = seen_inner (get g.nodes l) _ S.2 in
      let out : LeadsNot g canvas S.0 = beside_here g canvas m l S.0 ls a holds in
      let same : keys_at g S.0 ≡ S.1 = seen_keys (get g.boards S.0) _ S.3 in
      let js = keys_inside (get g.boards) (inner_in (get g.nodes l)) in
      let sheet = with_wires (wires_among w numbers js) s in
      holder_aside l S.0 c s inner (new ls (change_inside m f rest)) (o 0 l refl) holds
      (subst (λ (x : List ℕ). new x inner ≡ old x inner) (sym same)
      (now_aside S.0 (d + 1) S.1 inner (others_in g h path₀ canvas key number n n' B S.0 S.1 same (not_same g canvas S.0 out)) (aside_inside g canvas S.0 S.1 same out) S.4))
      ∙ ap (holder_now c.head.form c s inner sheet (old js inner))
      (now_inside f change b d ls rest m k j at sub (others_next key l ls o) (beside_next g canvas m l ls a) on S.5)
      ∙ sym (holder_next c.head.form c s inner sheet (old js inner) (old ls rest) m change)

  now_canvas : (path : List ℕ) (c : ℕ) (holder : Option ℕ) (d : ℕ) (u : Tree) → sub_reached g (Some c) path ≡ Some canvas → CanvasAt g c holder d u
      → canvas_new c (retyped_at path number (cell_in n') u) ≡ retyped_at path number cell_kept (canvas_old c u)
  now_canvas [] c holder d u on C =
      let here : c ≡ canvas = same_Some c canvas on in
      subst (λ x. canvas_new x (retyped_box number (cell_in n') u) ≡ retyped_box number cell_kept (canvas_old x u)) (sym here)
      (now_here holder d u (subst (λ x. CanvasAt g x holder d u) here C))
  now_canvas (i ∷ path) c holder d u on C =
      let s = subs g c i path canvas on in
      let same = keys_are g c holder d u C in
      let f = change_at path (retyped_box number (cell_in n')) in
      let change = change_at path (retyped_box number cell_kept) in
      ap (canvas_with (with_wires (wires_among w numbers (keys_at g c)) u.sheet))
      (now_inside f change c d (keys_at g c) u.boxes i s.key s.inner s.is s.sub
      (others_in g h path₀ canvas key number n n' B c (keys_at g c) refl (not_around g B.forest c i path canvas (sub_leads g c canvas (i ∷ path) on)))
      (beside_on g c i path canvas (keys_at g c) B.forest on refl)
      (λ v D. now_canvas path s.inner (Some s.key) (d + 1) v s.on D)
      (subst (λ (x : List ℕ). Stands (get g.nodes) (get g.boards) c d x u.boxes) (sym same) C.stands))

  -- ---- the tree

  abbrev tree_in : Slab Board → ℕ → Tree → Tree
  tree_in boards root u =
      let keys = keys_in (get boards root) in
      canvas_with (with_wires (wires_among w numbers keys) u.sheet) (boxes_now w numbers (get h.nodes) (get boards) keys u.boxes)

  pub tree_changed : (t : Tree) → GroveStands g t.sheet t.boxes
      → tree_now h w numbers (retyped_at path₀ number (cell_in n') t) ≡ retyped_at path₀ number (cell_now n'.state (cell_in n')) (tree_now g w numbers t)
  tree_changed t G =
      let u = retyped_at path₀ number (cell_in n') t in
      ap (λ (s : Slab Board). tree_in s h.root u) B.boards ∙ ap (λ r. tree_in g.boards r u) B.root
      ∙ now_canvas path₀ g.root None 0 t B.leads (record { keys = G.keys; board = G.root; stands = G.stands })

  pub tree_kept : (t : Tree) → GroveStands g t.sheet t.boxes → (cell_in n').head.form ≡ Sub
      → tree_now h w numbers (retyped_at path₀ number (cell_in n') t) ≡ retyped_at path₀ number (cell_in n') (tree_now g w numbers t)
  tree_kept t G f = tree_changed t G ∙ ap (λ (c : Cell). retyped_at path₀ number c (tree_now g w numbers t)) (sub_kept f)

-- ---- another box, and a subpatch with another text

pub tree_retyped : (g h : Grove) (path₀ : List ℕ) (canvas key number : ℕ) (n n' : Node) → RetypesBoxAt g h path₀ canvas key number n n' → (w : Web) (numbers : List ℕ) (t : Tree)
    → GroveStands g t.sheet t.boxes
    → tree_now h w numbers (retyped_at path₀ number (cell_in n') t) ≡ retyped_at path₀ number (cell_now n'.state (cell_in n')) (tree_now g w numbers t)
tree_retyped g h path₀ canvas key number n n' B w numbers t G =
    tree_changed g h path₀ canvas key number n n' (retypes_so g h path₀ canvas key number n n' B) w numbers t G

pub tree_renamed : (g h : Grove) (path₀ : List ℕ) (canvas key number : ℕ) (n n' : Node) → RenamesBoxAt g h path₀ canvas key number n n' → (w : Web) (numbers : List ℕ) (t : Tree)
    → GroveStands g t.sheet t.boxes
    → tree_now h w numbers (retyped_at path₀ number (cell_in n') t) ≡ retyped_at path₀ number (cell_in n') (tree_now g w numbers t)
tree_renamed g h path₀ canvas key number n n' B w numbers t G =
    tree_kept g h path₀ canvas key number n n' (renames_so g h path₀ canvas key number n n' B) w numbers t G B.form
