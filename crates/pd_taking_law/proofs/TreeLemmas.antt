-- A box less in one canvas, and the tree as it stands.
use Rattle.std.proofs.Common.{◌≡◌, ◌≢◌, ℕ, zero, suc, ◌+◌, List, [], ◌∷◌, slice_get, Option, Some, None, IsSome, refl, sym, ap, ◌∙◌, subst}
use Rattle.std.specs.Prelude.{remove}
use Rattle.std.proofs.lemmas.Option.{none-some, same_Some}
use Rattle.slab.specs.Slab.{get}
use Rattle.pd_canvas.specs.declared.wires.Wire.{Wire}
use Rattle.pd_canvas.specs.Pages.{Shape, Sub}
use Rattle.pd_canvas.specs.Wiring.{without_box}
use Rattle.pd_tree.specs.declared.rows.Sheet.{Sheet}
use Rattle.pd_tree.specs.Trees.{Cell, Trees, Done, Leaf, Holder, Tree}
use Rattle.pd_grove.specs.declared.nodes.Node.{Node}
use Rattle.pd_grove.specs.declared.boards.Board.{Board}
use Rattle.pd_grove.specs.declared.grove.Grove.{Grove}
use Rattle.pd_grove.specs.OwnPaths.{sub_in, sub_reached}
use Rattle.pd_grove.specs.Standing.{Stands, GroveStands}
use Rattle.pd_grove.specs.Telling.{inner_in, keys_in, state_in}
use Rattle.pd_grove.specs.TextOrder.{keys_inside}
use Rattle.pd_grove.proofs.PlaceLemmas.{seen_keys}
use Rattle.pd_web.specs.declared.web.Web.{Web}
use Rattle.pd_web.specs.Canvases.{keys_at}
use Rattle.pd_present.specs.Presents.{wires_among}
use Rattle.pd_regrowth_law.specs.Canvases.{canvas_with}
use Rattle.pd_regrowth_law.specs.Rewiring.{with_wires}
use Rattle.pd_reload_law.specs.Saving.{cell_now, holder_now, boxes_now, tree_now}
use Rattle.pd_reload_law.proofs.EditLemmas.{sub_inner}
use Rattle.pd_putting_law.specs.Puts.{change_inside, change_at}
use Rattle.pd_putting_law.proofs.PathLemmas.{Forest, subs, sub_leads, live_canvas, LeadsNot, not_same, not_around}
use Rattle.pd_putting_law.proofs.StandLemmas.{seen_inner, CanvasAt, keys_are, AreAside, AreBeside, aside_next, beside_first, beside_next, beside_here, aside_inside, aside_here, beside_on}
use Rattle.pd_putting_law.proofs.TreeLemmas.{canvas_now, holder_next, seen_sub}
use Rattle.pd_taking_law.specs.Takes.{boxes_less, less_box, less_wired, taken_at, deleted_at}
use Rattle.pd_taking_law.specs.Taking.{TakesBoxAt, CutsBox}
use Rattle.pd_taking_law.proofs.StayLemmas.{forest_still, box_still, canvas_still, leads_from_root}
use Rattle.pd_taking_law.proofs.StandLemmas.{stands_less, AreLive, live_next, live_inside, inner_still, has_less, has_key}
use Rattle.pd_taking_law.proofs.WireLemmas.{wires_aside, wires_here}

-- ---- boxes less one, as they stand

holder_gone : (f : Shape) (c : Cell) (s : Sheet) (inner : Trees) (now : Sheet) (boxes others : Trees)
    → boxes_less zero (holder_now f c s inner now boxes others) ≡ others
holder_gone Sub c s inner now boxes others = refl
holder_gone f c s inner now boxes others = refl

holder_stays : (f : Shape) (c : Cell) (s : Sheet) (inner : Trees) (now : Sheet) (boxes others : Trees) (n : ℕ)
    → boxes_less (suc n) (holder_now f c s inner now boxes others) ≡ holder_now f c s inner now boxes (boxes_less n others)
holder_stays Sub c s inner now boxes others n = refl
holder_stays f c s inner now boxes others n = refl

now_less : (web : Web) (numbers : List ℕ) (nodes : ℕ → Option Node) (boards : ℕ → Option Board) (b d : ℕ) (keys : List ℕ) (t : Trees) (n k : ℕ)
    → slice_get keys n ≡ Some k → Stands nodes boards b d keys t
    → boxes_now web numbers nodes boards (remove keys n) (boxes_less n t) ≡ boxes_less n (boxes_now web numbers nodes boards keys t)
now_less web numbers nodes boards b d [] t n k at S = absurd (none-some k at)
now_less web numbers nodes boards b d (l ∷ ls) Done n k at S = absurd S
now_less web numbers nodes boards b d (l ∷ ls) (Leaf c rest) zero k at S = refl
now_less web numbers nodes boards b d (l ∷ ls) (Leaf c rest) (suc n) k at S =
    ap (Leaf (cell_now (state_in (nodes l)) c)) (now_less web numbers nodes boards b d ls rest n k at S.1)
now_less web numbers nodes boards b d (l ∷ ls) (Holder c s inner rest) zero k at S =
    let js = keys_inside boards (inner_in (nodes l)) in
    sym (holder_gone c.head.form c s inner (with_wires (wires_among web numbers js) s) (boxes_now web numbers nodes boards js inner)
    (boxes_now web numbers nodes boards ls rest))
now_less web numbers nodes boards b d (l ∷ ls) (Holder c s inner rest) (suc n) k at S =
    let js = keys_inside boards (inner_in (nodes l)) in
    let sheet = with_wires (wires_among web numbers js) s in
    let boxes = boxes_now web numbers nodes boards js inner in
    ap (holder_now c.head.form c s inner sheet boxes) (now_less web numbers nodes boards b d ls rest n k at S.5)
    ∙ sym (holder_stays c.head.form c s inner sheet boxes (boxes_now web numbers nodes boards ls rest) n)

-- ---- two groves

module _ (g h : Grove) (path₀ : List ℕ) (canvas key number : ℕ) (B : TakesBoxAt g h path₀ canvas key number) (w w' : Web) (numbers numbers' : List ℕ)
    (W : CutsBox g h w w' numbers numbers' key) (H : Forest h) where
  abbrev old : List ℕ → Trees → Trees
  old keys t = boxes_now w numbers (get g.nodes) (get g.boards) keys t

  abbrev new : List ℕ → Trees → Trees
  new keys t = boxes_now w' numbers' (get h.nodes) (get h.boards) keys t

  wires_by : (j : ℕ) → j ≢ canvas → get h.boards j ≡ get g.boards j → wires_among w' numbers' (keys_at g j) ≡ wires_among w numbers (keys_at g j)
  wires_by j apart stays =
      ap (λ o. wires_among w' numbers' (keys_in o)) (sym stays) ∙ wires_aside g h path₀ canvas key number B w w' numbers numbers' W j apart stays

  -- a box with a canvas, from which no box went
  holder_aside : (k j : ℕ) (c : Cell) (s : Sheet) (inner rest : Trees) → get h.nodes k ≡ get g.nodes k → inner_in (get h.nodes k) ≡ Some j → j ≢ canvas
      → get h.boards j ≡ get g.boards j → new (keys_at g j) inner ≡ old (keys_at g j) inner
      → (let ks = keys_inside (get h.boards) (inner_in (get h.nodes k)) in holder_now c.head.form c s inner (with_wires (wires_among w' numbers' ks) s) (new ks inner) rest)
      ≡ (let ks = keys_inside (get g.boards) (inner_in (get g.nodes k)) in holder_now c.head.form c s inner (with_wires (wires_among w numbers ks) s) (old ks inner) rest)
  holder_aside k j c s inner rest box holds apart stays same =
      let f = c.head.form in
      let now : keys_inside (get h.boards) (inner_in (get h.nodes k)) ≡ keys_at g j = ap (keys_inside (get h.boards)) holds ∙ ap keys_in stays in
      let was : keys_inside (get g.boards) (inner_in (get g.nodes k)) ≡ keys_at g j = ap (keys_inside (get g.boards)) (ap inner_in (sym box) ∙ holds) in
      ap (λ (ks : List ℕ). holder_now f c s inner (with_wires (wires_among w' numbers' ks) s) (new ks inner) rest) now
      ∙ ap (λ (ws : List Wire). holder_now f c s inner (with_wires ws s) (new (keys_at g j) inner) rest) (wires_by j apart stays)
      ∙ ap (λ (b : Trees). holder_now f c s inner (with_wires (wires_among w numbers (keys_at g j)) s) b rest) same
      ∙ sym (ap (λ (ks : List ℕ). holder_now f c s inner (with_wires (wires_among w numbers ks) s) (old ks inner) rest) was)

  now_aside : (b d : ℕ) (keys : List ℕ) (t : Trees) → AreLive h keys → AreAside h canvas keys → Stands (get g.nodes) (get g.boards) b d keys t
      → new keys t ≡ old keys t
  now_aside b d [] t l a S = refl
  now_aside b d (k ∷ ks) Done l a S = refl
  now_aside b d (k ∷ ks) (Leaf c rest) l a S =
      ap (λ o. Leaf (cell_now (state_in o) c) (new ks rest)) (box_still g h path₀ canvas key number B k (l 0 k refl))
      ∙ ap (Leaf (cell_now (state_in (get g.nodes k)) c)) (now_aside b d ks rest (live_next h k ks l) (aside_next h canvas k ks a) S.1)
  now_aside b d (k ∷ ks) (Holder c s inner rest) l a S =
      let live = l 0 k refl in
      let holds : inner_in (get h.nodes k) ≡ Some S.0 = inner_still g h path₀ canvas key number B H k S.0 _ live S.2 refl in
      let out : LeadsNot h canvas S.0 = a 0 k S.0 refl holds in
      let apart = not_same h canvas S.0 out in
      let stays = canvas_still g h path₀ canvas key number B S.0 apart (live_canvas h H k S.0 holds) in
      let same : keys_at g S.0 ≡ S.1 = seen_keys (get g.boards S.0) _ S.3 in
      let there : keys_at h S.0 ≡ S.1 = ap keys_in stays ∙ same in
      let js = keys_inside (get g.boards) (inner_in (get g.nodes k)) in
      holder_aside k S.0 c s inner (new ks rest) (box_still g h path₀ canvas key number B k live) holds apart stays
      (subst (λ (x : List ℕ). new x inner ≡ old x inner) (sym same)
      (now_aside S.0 (d + 1) S.1 inner (live_inside h S.0 S.1 H there) (aside_inside h canvas S.0 S.1 there out) S.4))
      ∙ ap (holder_now c.head.form c s inner (with_wires (wires_among w numbers js) s) (old js inner))
      (now_aside b d ks rest (live_next h k ks l) (aside_next h canvas k ks a) S.5)

  now_here : (holder : Option ℕ) (d : ℕ) (u : Tree) → CanvasAt g canvas holder d u
      → canvas_now h w' numbers' canvas (less_box number u) ≡ less_wired number (canvas_now g w numbers canvas u)
  now_here holder d u C =
      let same = keys_are g canvas holder d u C in
      let has = has_less g h path₀ canvas key number B H C.keys same in
      let at = has_key g h path₀ canvas key number B H C.keys same in
      let less : new (keys_at h canvas) (boxes_less number u.boxes) ≡ boxes_less number (old (keys_at g canvas) u.boxes) =
      ap (λ (ks : List ℕ). new ks (boxes_less number u.boxes)) has
      ∙ now_aside canvas d (remove C.keys number) (boxes_less number u.boxes) (live_inside h canvas (remove C.keys number) H has)
      (aside_here h canvas (remove C.keys number) H has) (stands_less (get g.nodes) (get g.boards) canvas d C.keys u.boxes number key at C.stands)
      ∙ now_less w numbers (get g.nodes) (get g.boards) canvas d C.keys u.boxes number key at C.stands
      ∙ ap (λ (ks : List ℕ). boxes_less number (old ks u.boxes)) (sym same) in
      ap (λ (ws : List Wire). canvas_with (with_wires ws u.sheet) (new (keys_at h canvas) (boxes_less number u.boxes)))
      (wires_here g h path₀ canvas key number B w w' numbers numbers' W)
      ∙ ap (canvas_with (with_wires (without_box number (wires_among w numbers (keys_at g canvas))) u.sheet)) less

  abbrev held : Cell → Tree → Trees → Trees
  held c u rest = Holder c u.sheet u.boxes rest

  now_inside : (f change : Tree → Tree) (b d : ℕ) (keys : List ℕ) (t : Trees) (n k j : ℕ) → slice_get keys n ≡ Some k → sub_in (get h.nodes k) ≡ Some j
      → AreLive h keys → AreBeside h canvas n keys
      → ((u : Tree) → CanvasAt g j (Some k) (d + 1) u → canvas_now h w' numbers' j (f u) ≡ change (canvas_now g w numbers j u))
      → Stands (get g.nodes) (get g.boards) b d keys t → new keys (change_inside n f t) ≡ change_inside n change (old keys t)
  now_inside f change b d [] t n k j at sub v a on S = absurd (none-some k at)
  now_inside f change b d (l ∷ ls) Done n k j at sub v a on S = absurd S
  now_inside f change b d (l ∷ ls) (Leaf c rest) zero k j at sub v a on S =
      let same : l ≡ k = same_Some l k at in
      let stays = box_still g h path₀ canvas key number B l (v 0 l refl) in
      absurd (none-some j (sym (ap inner_in stays ∙ seen_inner (get g.nodes l) _ S.0) ∙ ap (λ x. inner_in (get h.nodes x)) same ∙ sub_inner (get h.nodes k) j sub))
  now_inside f change b d (l ∷ ls) (Leaf c rest) (suc n) k j at sub v a on S =
      ap (λ o. Leaf (cell_now (state_in o) c) (new ls (change_inside n f rest))) (box_still g h path₀ canvas key number B l (v 0 l refl))
      ∙ ap (Leaf (cell_now (state_in (get g.nodes l)) c))
      (now_inside f change b d ls rest n k j at sub (live_next h l ls v) (beside_next h canvas n l ls a) on S.1)
  now_inside f change b d (l ∷ ls) (Holder c s inner rest) zero k j at sub v a on S =
      let live = v 0 l refl in
      let stays = box_still g h path₀ canvas key number B l live in
      let same : l ≡ k = same_Some l k at in
      let sub2 : sub_in (get h.nodes l) ≡ Some j = ap (λ x. sub_in (get h.nodes x)) same ∙ sub in
      let form : c.head.form ≡ Sub = seen_sub (get g.nodes l) _ j S.2 (ap sub_in (sym stays) ∙ sub2) in
      let inside : inner_in (get h.nodes l) ≡ Some j = sub_inner (get h.nodes l) j sub2 in
      let is : S.0 ≡ j = same_Some S.0 j (sym (inner_still g h path₀ canvas key number B H l S.0 _ live S.2 refl) ∙ inside) in
      let u : Tree = canvas_with s inner in
      let C : CanvasAt g j (Some k) (d + 1) u = subst (λ x. CanvasAt g x (Some k) (d + 1) u) is
      (subst (λ x. CanvasAt g S.0 (Some x) (d + 1) u) same (record { keys = S.1; board = S.3; stands = S.4 })) in
      let now : keys_inside (get h.boards) (inner_in (get h.nodes l)) ≡ keys_at h j = ap (keys_inside (get h.boards)) inside in
      let was : keys_inside (get g.boards) (inner_in (get g.nodes l)) ≡ keys_at g j = ap (keys_inside (get g.boards)) (ap inner_in (sym stays) ∙ inside) in
      let js' = keys_inside (get h.boards) (inner_in (get h.nodes l)) in
      let js = keys_inside (get g.boards) (inner_in (get g.nodes l)) in
      ap (λ (y : Shape). holder_now y c (f u).sheet (f u).boxes (with_wires (wires_among w' numbers' js') (f u).sheet) (new js' (f u).boxes) (new ls rest)) form
      ∙ ap (λ (x : List ℕ). held c (canvas_with (with_wires (wires_among w' numbers' x) (f u).sheet) (new x (f u).boxes)) (new ls rest)) now
      ∙ ap (λ (y : Tree). held c y (new ls rest)) (on u C)
      ∙ ap (held c (change (canvas_now g w numbers j u))) (now_aside b d ls rest (live_next h l ls v) (beside_first h canvas l ls a) S.5)
      ∙ sym (ap (λ (y : Shape). change_inside 0 change (holder_now y c s inner (with_wires (wires_among w numbers js) s) (old js inner) (old ls rest))) form
      ∙ ap (λ (x : List ℕ). held c (change (canvas_with (with_wires (wires_among w numbers x) s) (old x inner))) (old ls rest)) was)
  now_inside f change b d (l ∷ ls) (Holder c s inner rest) (suc n) k j at sub v a on S =
      let live = v 0 l refl in
      let holds : inner_in (get h.nodes l) ≡ Some S.0 = inner_still g h path₀ canvas key number B H l S.0 _ live S.2 refl in
      let out : LeadsNot h canvas S.0 = beside_here h canvas n l S.0 ls a holds in
      let apart = not_same h canvas S.0 out in
      let stays = canvas_still g h path₀ canvas key number B S.0 apart (live_canvas h H l S.0 holds) in
      let same : keys_at g S.0 ≡ S.1 = seen_keys (get g.boards S.0) _ S.3 in
      let there : keys_at h S.0 ≡ S.1 = ap keys_in stays ∙ same in
      let js = keys_inside (get g.boards) (inner_in (get g.nodes l)) in
      let sheet = with_wires (wires_among w numbers js) s in
      holder_aside l S.0 c s inner (new ls (change_inside n f rest)) (box_still g h path₀ canvas key number B l live) holds apart stays
      (subst (λ (x : List ℕ). new x inner ≡ old x inner) (sym same)
      (now_aside S.0 (d + 1) S.1 inner (live_inside h S.0 S.1 H there) (aside_inside h canvas S.0 S.1 there out) S.4))
      ∙ ap (holder_now c.head.form c s inner sheet (old js inner))
      (now_inside f change b d ls rest n k j at sub (live_next h l ls v) (beside_next h canvas n l ls a) on S.5)
      ∙ sym (holder_next c.head.form c s inner sheet (old js inner) (old ls rest) n change)

  pub now_canvas : (path : List ℕ) (c : ℕ) (holder : Option ℕ) (d : ℕ) (u : Tree) → IsSome (get h.boards c) → sub_reached h (Some c) path ≡ Some canvas
      → CanvasAt g c holder d u → canvas_now h w' numbers' c (taken_at path number u) ≡ deleted_at path number (canvas_now g w numbers c u)
  now_canvas [] c holder d u live on C =
      let here : c ≡ canvas = same_Some c canvas on in
      subst (λ x. canvas_now h w' numbers' x (less_box number u) ≡ less_wired number (canvas_now g w numbers x u)) (sym here)
      (now_here holder d u (subst (λ x. CanvasAt g x holder d u) here C))
  now_canvas (n ∷ path) c holder d u live on C =
      let s = subs h c n path canvas on in
      let same = keys_are g c holder d u C in
      let apart = not_around h H c n path canvas (sub_leads h c canvas (n ∷ path) on) in
      let stays : get h.boards c ≡ get g.boards c = canvas_still g h path₀ canvas key number B c apart live in
      let keys : keys_at h c ≡ keys_at g c = ap keys_in stays in
      let holds = sub_inner (get h.nodes s.key) s.inner s.sub in
      let f = change_at path (less_box number) in
      let change = change_at path (less_wired number) in
      ap (λ (x : List ℕ). canvas_with (with_wires (wires_among w' numbers' x) u.sheet) (new x (change_inside n f u.boxes))) keys
      ∙ ap (λ (ws : List Wire). canvas_with (with_wires ws u.sheet) (new (keys_at g c) (change_inside n f u.boxes))) (wires_by c apart stays)
      ∙ ap (canvas_with (with_wires (wires_among w numbers (keys_at g c)) u.sheet))
      (now_inside f change c d (keys_at g c) u.boxes n s.key s.inner (ap (λ (l : List ℕ). slice_get l n) (sym keys) ∙ s.is) s.sub
      (live_inside h c (keys_at g c) H keys) (beside_on h c n path canvas (keys_at g c) H on keys)
      (λ v D. now_canvas path s.inner (Some s.key) (d + 1) v (live_canvas h H s.key s.inner holds) s.on D)
      (subst (λ (x : List ℕ). Stands (get g.nodes) (get g.boards) c d x u.boxes) (sym same) C.stands))

-- ---- the tree

pub tree_less : (g h : Grove) (w w' : Web) (numbers numbers' path : List ℕ) (canvas key number : ℕ) (t : Tree) → TakesBoxAt g h path canvas key number
    → CutsBox g h w w' numbers numbers' key → GroveStands g t.sheet t.boxes
    → tree_now h w' numbers' (taken_at path number t) ≡ deleted_at path number (tree_now g w numbers t)
tree_less g h w w' numbers numbers' path canvas key number t B W G =
    let H = forest_still g h path canvas key number B in
    now_canvas g h path canvas key number B w w' numbers numbers' W H path h.root None 0 t H.rooted.0 (leads_from_root g h path canvas key number B)
    (subst (λ x. CanvasAt g x None 0 t) (sym B.root) (record { keys = G.keys; board = G.root; stands = G.stands }))
    ∙ ap (λ x. deleted_at path number (canvas_now g w numbers x t)) B.root
