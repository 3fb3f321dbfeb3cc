-- A box more in one canvas, and the tree as it stands.
use Rattle.std.proofs.Common.{◌≡◌, ℕ, zero, suc, ◌+◌, ◌≤◌, true, false, cond, List, [], ◌∷◌, ◌++◌, map, length, take, drop, slice_get, Option, Some, None, refl, sym, ap, ◌∙◌, subst}
use Rattle.std.specs.Prelude.{option_map}
use Rattle.std.proofs.lemmas.Option.{none-some, same_Some}
use Rattle.slab.specs.Slab.{get}
use Rattle.pd_canvas.specs.declared.wires.Wire.{Wire}
use Rattle.pd_canvas.specs.Pages.{Shape, Sub}
use Rattle.pd_canvas.specs.Views.{entry_of}
use Rattle.pd_canvas.specs.Wiring.{raised_wire}
use Rattle.pd_tree.specs.declared.rows.Sheet.{Sheet}
use Rattle.pd_tree.specs.Trees.{Cell, Trees, Done, Leaf, Holder, Tree, join}
use Rattle.pd_grove.specs.declared.nodes.Node.{Node}
use Rattle.pd_grove.specs.declared.boards.Board.{Board}
use Rattle.pd_grove.specs.declared.grove.Grove.{Grove}
use Rattle.pd_grove.specs.Grafts.{HasPartMore}
use Rattle.pd_grove.specs.OwnPaths.{sub_in, sub_reached}
use Rattle.pd_grove.specs.Standing.{NodeSeen, node_seen, BoardSeen, board_seen, depth_of, Stands, GroveStands}
use Rattle.pd_grove.specs.Telling.{inner_in, keys_in, state_in}
use Rattle.pd_grove.specs.TextOrder.{is_sub, keys_inside}
use Rattle.pd_grove.proofs.PlaceLemmas.{seen_keys}
use Rattle.pd_grove.proofs.Standings.{seen_depth}
use Rattle.pd_web.specs.declared.web.Web.{Web}
use Rattle.pd_web.specs.Canvases.{keys_at}
use Rattle.pd_present.specs.Presents.{wires_among}
use Rattle.pd_regrowth_law.specs.Canvases.{canvas_with}
use Rattle.pd_regrowth_law.specs.Rewiring.{with_wires}
use Rattle.pd_reload_law.specs.Saving.{cell_now, holder_now, boxes_now, tree_now}
use Rattle.pd_reload_law.proofs.EditLemmas.{sub_inner}
use Rattle.pd_putting_law.specs.Puts.{boxes_before, change_inside, change_at, come_before, put_at, put_before, wired_before, with_before, with_boxes}
use Rattle.pd_putting_law.specs.Putting.{HasBoxAt, HasBoxLast, KeepsWires}
use Rattle.pd_putting_law.proofs.PathLemmas.{Forest, subs, sub_leads, LeadsNot, not_same, not_around}
use Rattle.pd_putting_law.proofs.StandLemmas.{seen_inner, CanvasAt, keys_are, AreAside, AreBeside, aside_next, beside_first, beside_next, beside_here, aside_inside, aside_here, beside_on, box_stays, canvas_stays, stands_aside}
use Rattle.pd_putting_law.proofs.PlaceLemmas.{last_at}
use Rattle.pd_putting_law.proofs.WireLemmas.{wires_aside, wires_here, wires_with}

-- a canvas under its key as it stands
abbrev pub canvas_now : Grove → Web → List ℕ → ℕ → Tree → Tree
canvas_now g web numbers c u =
    canvas_with (with_wires (wires_among web numbers (keys_at g c)) u.sheet) (boxes_now web numbers (get g.nodes) (get g.boards) (keys_at g c) u.boxes)

-- ---- boxes that hold canvases

holder_join : (f : Shape) (c : Cell) (s : Sheet) (inner : Trees) (now : Sheet) (boxes others new : Trees)
    → holder_now f c s inner now boxes (join others new) ≡ join (holder_now f c s inner now boxes others) new
holder_join Sub c s inner now boxes others new = refl
holder_join f c s inner now boxes others new = refl

holder_before : (f : Shape) (c : Cell) (s : Sheet) (inner : Trees) (now : Sheet) (boxes others new : Trees) (n : ℕ)
    → boxes_before (suc n) new (holder_now f c s inner now boxes others) ≡ holder_now f c s inner now boxes (boxes_before n new others)
holder_before Sub c s inner now boxes others new n = refl
holder_before f c s inner now boxes others new n = refl

pub holder_next : (f : Shape) (c : Cell) (s : Sheet) (inner : Trees) (now : Sheet) (boxes others : Trees) (n : ℕ) (change : Tree → Tree)
    → change_inside (suc n) change (holder_now f c s inner now boxes others) ≡ holder_now f c s inner now boxes (change_inside n change others)
holder_next Sub c s inner now boxes others n change = refl
holder_next f c s inner now boxes others n change = refl

sub_form : (f : Shape) → is_sub f ≡ true → f ≡ Sub
sub_form Sub e = refl
sub_form f e = cc

pub seen_sub : (o : Option Node) (x : NodeSeen) (j : ℕ) → option_map node_seen o ≡ Some x → sub_in o ≡ Some j → x.cell.head.form ≡ Sub
seen_sub None x j h e = absurd (none-some x h)
seen_sub (Some n) x j h e =
    sub_form x.cell.head.form (ap (λ (y : NodeSeen). is_sub y.cell.head.form) (sym (same_Some (node_seen n) x h)) ∙ by (is_sub (entry_of n.element).head.form) e)
  where
    by : (b : _) → cond b n.inner None ≡ Some j → b ≡ true
    by true e = refl
    by false e = absurd (none-some j e)

-- boxes behind others
now_join : (web : Web) (numbers : List ℕ) (nodes : ℕ → Option Node) (boards : ℕ → Option Board) (b d : ℕ) (ks ls : List ℕ) (t u : Trees)
    → Stands nodes boards b d ks t → boxes_now web numbers nodes boards (ks ++ ls) (join t u)
    ≡ join (boxes_now web numbers nodes boards ks t) (boxes_now web numbers nodes boards ls u)
now_join web numbers nodes boards b d [] ls Done u S = refl
now_join web numbers nodes boards b d (k ∷ ks) ls Done u S = absurd S
now_join web numbers nodes boards b d [] ls (Leaf c rest) u S = absurd S
now_join web numbers nodes boards b d (k ∷ ks) ls (Leaf c rest) u S = ap (Leaf (cell_now (state_in (nodes k)) c)) (now_join web numbers nodes boards b d ks ls rest u S.1)
now_join web numbers nodes boards b d [] ls (Holder c s inner rest) u S = absurd S
now_join web numbers nodes boards b d (k ∷ ks) ls (Holder c s inner rest) u S =
    let js = keys_inside boards (inner_in (nodes k)) in
    let sheet = with_wires (wires_among web numbers js) s in
    let boxes = boxes_now web numbers nodes boards js inner in
    ap (holder_now c.head.form c s inner sheet boxes) (now_join web numbers nodes boards b d ks ls rest u S.5)
    ∙ holder_join c.head.form c s inner sheet boxes (boxes_now web numbers nodes boards ks rest) (boxes_now web numbers nodes boards ls u)

-- one box before others
now_more : (web : Web) (numbers : List ℕ) (nodes : ℕ → Option Node) (boards : ℕ → Option Board) (b d : ℕ) (keys : List ℕ) (t new : Trees) (n k : ℕ)
    → Stands nodes boards b d keys t → Stands nodes boards b d (k ∷ []) new
    → boxes_now web numbers nodes boards (take n keys ++ k ∷ drop n keys) (boxes_before n new t)
    ≡ boxes_before n (boxes_now web numbers nodes boards (k ∷ []) new) (boxes_now web numbers nodes boards keys t)
now_more web numbers nodes boards b d [] t new zero k S N = now_join web numbers nodes boards b d (k ∷ []) [] new t N
now_more web numbers nodes boards b d (l ∷ ls) t new zero k S N = now_join web numbers nodes boards b d (k ∷ []) (l ∷ ls) new t N
now_more web numbers nodes boards b d [] Done new (suc n) k S N = refl
now_more web numbers nodes boards b d (l ∷ ls) Done new (suc n) k S N = absurd S
now_more web numbers nodes boards b d [] (Leaf c rest) new (suc n) k S N = absurd S
now_more web numbers nodes boards b d (l ∷ ls) (Leaf c rest) new (suc n) k S N =
    ap (Leaf (cell_now (state_in (nodes l)) c)) (now_more web numbers nodes boards b d ls rest new n k S.1 N)
now_more web numbers nodes boards b d [] (Holder c s inner rest) new (suc n) k S N = absurd S
now_more web numbers nodes boards b d (l ∷ ls) (Holder c s inner rest) new (suc n) k S N =
    let js = keys_inside boards (inner_in (nodes l)) in
    let sheet = with_wires (wires_among web numbers js) s in
    let boxes = boxes_now web numbers nodes boards js inner in
    ap (holder_now c.head.form c s inner sheet boxes) (now_more web numbers nodes boards b d ls rest new n k S.5 N)
    ∙ sym (holder_before c.head.form c s inner sheet boxes (boxes_now web numbers nodes boards ls rest) (boxes_now web numbers nodes boards (k ∷ []) new) n)

-- ---- two groves

module _ (g h : Grove) (w w' : Web) (numbers numbers' : List ℕ) (canvas key number : ℕ) (F : Forest g)
    (M : HasPartMore (get g.nodes) (get h.nodes) (get g.boards) (get h.boards) canvas key (take number (keys_at g canvas)) (drop number (keys_at g canvas))) (W : KeepsWires g h w w' numbers numbers' key) where
  abbrev old : List ℕ → Trees → Trees
  old keys t = boxes_now w numbers (get g.nodes) (get g.boards) keys t

  abbrev new : List ℕ → Trees → Trees
  new keys t = boxes_now w' numbers' (get h.nodes) (get h.boards) keys t

  -- a box with a canvas, in which no box came
  holder_aside : (k j : ℕ) (x : NodeSeen) (y : BoardSeen) (c : Cell) (s : Sheet) (inner rest : Trees) → option_map node_seen (get g.nodes k) ≡ Some x → x.inner ≡ Some j
      → option_map board_seen (get g.boards j) ≡ Some y → LeadsNot g canvas j → new (keys_at g j) inner ≡ old (keys_at g j) inner
      → (let ks = keys_inside (get h.boards) (inner_in (get h.nodes k)) in holder_now c.head.form c s inner (with_wires (wires_among w' numbers' ks) s) (new ks inner) rest)
      ≡ (let ks = keys_inside (get g.boards) (inner_in (get g.nodes k)) in holder_now c.head.form c s inner (with_wires (wires_among w numbers ks) s) (old ks inner) rest)
  holder_aside k j x y c s inner rest seen holds board out same =
      let f = c.head.form in
      let inside : inner_in (get g.nodes k) ≡ Some j = seen_inner (get g.nodes k) x seen ∙ holds in
      let stays : get h.boards j ≡ get g.boards j = canvas_stays g h canvas key number F M j y board (not_same g canvas j out) in
      let now : keys_inside (get h.boards) (inner_in (get h.nodes k)) ≡ keys_at g j =
      ap (λ o. keys_inside (get h.boards) (inner_in o)) (box_stays g h canvas key number F M k x seen) ∙ ap (keys_inside (get h.boards)) inside ∙ ap keys_in stays in
      let was : keys_inside (get g.boards) (inner_in (get g.nodes k)) ≡ keys_at g j = ap (keys_inside (get g.boards)) inside in
      ap (λ (ks : List ℕ). holder_now f c s inner (with_wires (wires_among w' numbers' ks) s) (new ks inner) rest) now
      ∙ ap (λ (ws : List Wire). holder_now f c s inner (with_wires ws s) (new (keys_at g j) inner) rest) (wires_aside g h w w' numbers numbers' key j F W stays)
      ∙ ap (λ (b : Trees). holder_now f c s inner (with_wires (wires_among w numbers (keys_at g j)) s) b rest) same
      ∙ sym (ap (λ (ks : List ℕ). holder_now f c s inner (with_wires (wires_among w numbers ks) s) (old ks inner) rest) was)

  now_aside : (b d : ℕ) (keys : List ℕ) (t : Trees) → AreAside g canvas keys → Stands (get g.nodes) (get g.boards) b d keys t → new keys t ≡ old keys t
  now_aside b d [] t a S = refl
  now_aside b d (k ∷ ks) Done a S = refl
  now_aside b d (k ∷ ks) (Leaf c rest) a S =
      ap (λ o. Leaf (cell_now (state_in o) c) (new ks rest)) (box_stays g h canvas key number F M k _ S.0)
      ∙ ap (Leaf (cell_now (state_in (get g.nodes k)) c)) (now_aside b d ks rest (aside_next g canvas k ks a) S.1)
  now_aside b d (k ∷ ks) (Holder c s inner rest) a S =
      let out : LeadsNot g canvas S.0 = a 0 k S.0 refl (seen_inner (get g.nodes k) _ S.2) in
      let same : keys_at g S.0 ≡ S.1 = seen_keys (get g.boards S.0) _ S.3 in
      let js = keys_inside (get g.boards) (inner_in (get g.nodes k)) in
      holder_aside k S.0 _ _ c s inner (new ks rest) S.2 refl S.3 out
      (subst (λ (l : List ℕ). new l inner ≡ old l inner) (sym same) (now_aside S.0 (d + 1) S.1 inner (aside_inside g canvas S.0 S.1 same out) S.4))
      ∙ ap (holder_now c.head.form c s inner (with_wires (wires_among w numbers js) s) (old js inner)) (now_aside b d ks rest (aside_next g canvas k ks a) S.5)

  pub now_here : (t : Trees) → number ≤ length (keys_at g canvas) → Stands (get h.nodes) (get h.boards) canvas (depth_of (get g.boards canvas)) (key ∷ []) t
      → (holder : Option ℕ) (d : ℕ) (u : Tree) → CanvasAt g canvas holder d u
      → canvas_now h w' numbers' canvas (with_before number t u) ≡ wired_before number (new (key ∷ []) t) (canvas_now g w numbers canvas u)
  now_here t within N holder d u C =
      let same = keys_are g canvas holder d u C in
      let aside = aside_here g canvas C.keys F same in
      let low : depth_of (get g.boards canvas) ≡ d = seen_depth (get g.boards canvas) _ C.board in
      let boxes : new (keys_at h canvas) (boxes_before number t u.boxes) ≡ boxes_before number (new (key ∷ []) t) (old (keys_at g canvas) u.boxes) =
      ap (λ (ks : List ℕ). new ks (boxes_before number t u.boxes)) (M.has ∙ ap (λ (l : List ℕ). take number l ++ key ∷ drop number l) same)
      ∙ now_more w' numbers' (get h.nodes) (get h.boards) canvas d C.keys u.boxes t number key (stands_aside g h canvas key number F M canvas d C.keys u.boxes aside C.stands)
      (subst (λ x. Stands (get h.nodes) (get h.boards) canvas x (key ∷ []) t) low N)
      ∙ ap (boxes_before number (new (key ∷ []) t)) (now_aside canvas d C.keys u.boxes aside C.stands)
      ∙ ap (λ (ks : List ℕ). boxes_before number (new (key ∷ []) t) (old ks u.boxes)) (sym same) in
      ap (λ (ws : List Wire). canvas_with (with_wires ws u.sheet) (new (keys_at h canvas) (boxes_before number t u.boxes)))
      (wires_with g h w w' numbers numbers' canvas key number F W within M.has)
      ∙ ap (canvas_with (with_wires (map (raised_wire number) (wires_among w numbers (keys_at g canvas))) u.sheet)) boxes

  -- behind the others any boxes may come
  pub now_behind : (t : Trees) → keys_at h canvas ≡ keys_at g canvas ++ key ∷ []
      → wires_among w' numbers' (keys_at h canvas) ≡ wires_among w numbers (keys_at g canvas) → (holder : Option ℕ) (d : ℕ) (u : Tree) → CanvasAt g canvas holder d u
      → canvas_now h w' numbers' canvas (with_boxes t u) ≡ with_boxes (new (key ∷ []) t) (canvas_now g w numbers canvas u)
  now_behind t has wires holder d u C =
      let same = keys_are g canvas holder d u C in
      let aside = aside_here g canvas C.keys F same in
      let boxes : new (keys_at h canvas) (join u.boxes t) ≡ join (old (keys_at g canvas) u.boxes) (new (key ∷ []) t) =
      ap (λ (ks : List ℕ). new ks (join u.boxes t)) (has ∙ ap (λ (l : List ℕ). l ++ key ∷ []) same)
      ∙ now_join w' numbers' (get h.nodes) (get h.boards) canvas d C.keys (key ∷ []) u.boxes t
      (stands_aside g h canvas key number F M canvas d C.keys u.boxes aside C.stands)
      ∙ ap (λ (x : Trees). join x (new (key ∷ []) t)) (now_aside canvas d C.keys u.boxes aside C.stands)
      ∙ ap (λ (ks : List ℕ). join (old ks u.boxes) (new (key ∷ []) t)) (sym same) in
      ap (λ (ws : List Wire). canvas_with (with_wires ws u.sheet) (new (keys_at h canvas) (join u.boxes t))) wires
      ∙ ap (canvas_with (with_wires (wires_among w numbers (keys_at g canvas)) u.sheet)) boxes

  abbrev held : Cell → Tree → Trees → Trees
  held c u rest = Holder c u.sheet u.boxes rest

  now_inside : (f change : Tree → Tree) (b d : ℕ) (keys : List ℕ) (t : Trees) (n k j : ℕ) → slice_get keys n ≡ Some k → sub_in (get g.nodes k) ≡ Some j
      → AreBeside g canvas n keys
      → ((u : Tree) → CanvasAt g j (Some k) (d + 1) u → canvas_now h w' numbers' j (f u) ≡ change (canvas_now g w numbers j u))
      → Stands (get g.nodes) (get g.boards) b d keys t → new keys (change_inside n f t) ≡ change_inside n change (old keys t)
  now_inside f change b d [] t n k j at sub a on S = absurd (none-some k at)
  now_inside f change b d (l ∷ ls) Done n k j at sub a on S = absurd S
  now_inside f change b d (l ∷ ls) (Leaf c rest) zero k j at sub a on S =
      let same : l ≡ k = same_Some l k at in
      absurd (none-some j (sym (seen_inner (get g.nodes l) _ S.0) ∙ ap (λ x. inner_in (get g.nodes x)) same ∙ sub_inner (get g.nodes k) j sub))
  now_inside f change b d (l ∷ ls) (Leaf c rest) (suc n) k j at sub a on S =
      ap (λ o. Leaf (cell_now (state_in o) c) (new ls (change_inside n f rest))) (box_stays g h canvas key number F M l _ S.0)
      ∙ ap (Leaf (cell_now (state_in (get g.nodes l)) c)) (now_inside f change b d ls rest n k j at sub (beside_next g canvas n l ls a) on S.1)
  now_inside f change b d (l ∷ ls) (Holder c s inner rest) zero k j at sub a on S =
      let same : l ≡ k = same_Some l k at in
      let sub2 : sub_in (get g.nodes l) ≡ Some j = ap (λ x. sub_in (get g.nodes x)) same ∙ sub in
      let form : c.head.form ≡ Sub = seen_sub (get g.nodes l) _ j S.2 sub2 in
      let inside : inner_in (get g.nodes l) ≡ Some j = sub_inner (get g.nodes l) j sub2 in
      let is : S.0 ≡ j = same_Some S.0 j (sym (seen_inner (get g.nodes l) _ S.2) ∙ inside) in
      let u : Tree = canvas_with s inner in
      let C : CanvasAt g j (Some k) (d + 1) u = subst (λ x. CanvasAt g x (Some k) (d + 1) u) is
      (subst (λ x. CanvasAt g S.0 (Some x) (d + 1) u) same (record { keys = S.1; board = S.3; stands = S.4 })) in
      let now : keys_inside (get h.boards) (inner_in (get h.nodes l)) ≡ keys_at h j =
      ap (λ o. keys_inside (get h.boards) (inner_in o)) (box_stays g h canvas key number F M l _ S.2) ∙ ap (keys_inside (get h.boards)) inside in
      let was : keys_inside (get g.boards) (inner_in (get g.nodes l)) ≡ keys_at g j = ap (keys_inside (get g.boards)) inside in
      let js' = keys_inside (get h.boards) (inner_in (get h.nodes l)) in
      let js = keys_inside (get g.boards) (inner_in (get g.nodes l)) in
      ap (λ (y : Shape). holder_now y c (f u).sheet (f u).boxes (with_wires (wires_among w' numbers' js') (f u).sheet) (new js' (f u).boxes) (new ls rest)) form
      ∙ ap (λ (x : List ℕ). held c (canvas_with (with_wires (wires_among w' numbers' x) (f u).sheet) (new x (f u).boxes)) (new ls rest)) now
      ∙ ap (λ (v : Tree). held c v (new ls rest)) (on u C)
      ∙ ap (held c (change (canvas_now g w numbers j u))) (now_aside b d ls rest (beside_first g canvas l ls a) S.5)
      ∙ sym (ap (λ (y : Shape). change_inside 0 change (holder_now y c s inner (with_wires (wires_among w numbers js) s) (old js inner) (old ls rest))) form
      ∙ ap (λ (x : List ℕ). held c (change (canvas_with (with_wires (wires_among w numbers x) s) (old x inner))) (old ls rest)) was)
  now_inside f change b d (l ∷ ls) (Holder c s inner rest) (suc n) k j at sub a on S =
      let out : LeadsNot g canvas S.0 = beside_here g canvas n l S.0 ls a (seen_inner (get g.nodes l) _ S.2) in
      let same : keys_at g S.0 ≡ S.1 = seen_keys (get g.boards S.0) _ S.3 in
      let js = keys_inside (get g.boards) (inner_in (get g.nodes l)) in
      let sheet = with_wires (wires_among w numbers js) s in
      holder_aside l S.0 _ _ c s inner (new ls (change_inside n f rest)) S.2 refl S.3 out
      (subst (λ (x : List ℕ). new x inner ≡ old x inner) (sym same) (now_aside S.0 (d + 1) S.1 inner (aside_inside g canvas S.0 S.1 same out) S.4))
      ∙ ap (holder_now c.head.form c s inner sheet (old js inner)) (now_inside f change b d ls rest n k j at sub (beside_next g canvas n l ls a) on S.5)
      ∙ sym (holder_next c.head.form c s inner sheet (old js inner) (old ls rest) n change)

  -- where the canvas around the box changes so
  pub now_canvas : (f change : Tree → Tree)
      → ((holder : Option ℕ) (d : ℕ) (u : Tree) → CanvasAt g canvas holder d u → canvas_now h w' numbers' canvas (f u) ≡ change (canvas_now g w numbers canvas u))
      → (path : List ℕ) (c : ℕ) (holder : Option ℕ) (d : ℕ) (u : Tree) → sub_reached g (Some c) path ≡ Some canvas → CanvasAt g c holder d u
      → canvas_now h w' numbers' c (change_at path f u) ≡ change_at path change (canvas_now g w numbers c u)
  now_canvas f change here [] c holder d u on C =
      let same : c ≡ canvas = same_Some c canvas on in
      subst (λ x. canvas_now h w' numbers' x (f u) ≡ change (canvas_now g w numbers x u)) (sym same)
      (here holder d u (subst (λ x. CanvasAt g x holder d u) same C))
  now_canvas f change here (n ∷ path) c holder d u on C =
      let s = subs g c n path canvas on in
      let same = keys_are g c holder d u C in
      let stays : get h.boards c ≡ get g.boards c =
      canvas_stays g h canvas key number F M c _ C.board (not_around g F c n path canvas (sub_leads g c canvas (n ∷ path) on)) in
      let keys : keys_at h c ≡ keys_at g c = ap keys_in stays in
      let f2 = change_at path f in
      ap (λ (x : List ℕ). canvas_with (with_wires (wires_among w' numbers' x) u.sheet) (new x (change_inside n f2 u.boxes))) keys
      ∙ ap (λ (ws : List Wire). canvas_with (with_wires ws u.sheet) (new (keys_at g c) (change_inside n f2 u.boxes))) (wires_aside g h w w' numbers numbers' key c F W stays)
      ∙ ap (canvas_with (with_wires (wires_among w numbers (keys_at g c)) u.sheet))
      (now_inside f2 (change_at path change) c d (keys_at g c) u.boxes n s.key s.inner s.is s.sub (beside_on g c n path canvas (keys_at g c) F on refl)
      (λ v D. now_canvas f change here path s.inner (Some s.key) (d + 1) v s.on D)
      (subst (λ (x : List ℕ). Stands (get g.nodes) (get g.boards) c d x u.boxes) (sym same) C.stands))

-- ---- the tree

pub tree_before : (g h : Grove) (w w' : Web) (numbers numbers' path : List ℕ) (canvas key number : ℕ) (t : Tree) (new : Trees) → HasBoxAt g h path canvas key number
    → KeepsWires g h w w' numbers numbers' key → GroveStands g t.sheet t.boxes
    → Stands (get h.nodes) (get h.boards) canvas (depth_of (get g.boards canvas)) (key ∷ []) new
    → tree_now h w' numbers' (put_before path number new t)
    ≡ come_before path number (boxes_now w' numbers' (get h.nodes) (get h.boards) (key ∷ []) new) (tree_now g w numbers t)
tree_before g h w w' numbers numbers' path canvas key number t new B W G N =
    let F = B.forest in
    let M = B.part in
    ap (λ x. canvas_now h w' numbers' x (put_before path number new t)) B.root
    ∙ now_canvas g h w w' numbers numbers' canvas key number F M W (with_before number new)
    (wired_before number (boxes_now w' numbers' (get h.nodes) (get h.boards) (key ∷ []) new))
    (now_here g h w w' numbers numbers' canvas key number F M W new B.within N) path g.root None 0 t B.leads (record { keys = G.keys; board = G.root; stands = G.stands })

pub tree_put : (g h : Grove) (w w' : Web) (numbers numbers' path : List ℕ) (canvas key : ℕ) (t : Tree) (new : Trees) → HasBoxLast g h path canvas key
    → KeepsWires g h w w' numbers numbers' key → GroveStands g t.sheet t.boxes
    → tree_now h w' numbers' (put_at path new t) ≡ put_at path (boxes_now w' numbers' (get h.nodes) (get h.boards) (key ∷ []) new) (tree_now g w numbers t)
tree_put g h w w' numbers numbers' path canvas key t new B W G =
    let F = B.forest in
    let M = (last_at g h path canvas key B).part in
    let n = length (keys_at g canvas) in
    ap (λ x. canvas_now h w' numbers' x (put_at path new t)) B.root
    ∙ now_canvas g h w w' numbers numbers' canvas key n F M W (with_boxes new) (with_boxes (boxes_now w' numbers' (get h.nodes) (get h.boards) (key ∷ []) new))
    (now_behind g h w w' numbers numbers' canvas key n F M W new B.part.has (wires_here g h w w' numbers numbers' canvas key F W B.part))
    path g.root None 0 t B.leads (record { keys = G.keys; board = G.root; stands = G.stands })
