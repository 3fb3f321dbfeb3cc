-- The way out of a canvas to which a path leads is that path, backwards.
use Rattle.std.proofs.Common.{arith, ◌≡◌, ℕ, zero, suc, ◌+◌, ◌≤◌, List, [], ◌∷◌, ◌++◌, length, refl, sym, ap, ◌∙◌, subst}
use Rattle.std.specs.Prelude.{Option, Some, None, slice_get, option_map, option_and_then, unwrap_or, reverse}
use Rattle.std.proofs.lemmas.List.{reverse-reverse, length-reverse, reverse-append}
use Rattle.std.proofs.lemmas.Option.{none-some, same_Some}
use Rattle.slab.specs.Slab.{get}
use Rattle.pd_tree.specs.declared.rows.Sheet.{Sheet}
use Rattle.pd_tree.specs.Trees.{Trees, Done, Leaf, Holder, Tree}
use Rattle.pd_grove.specs.declared.nodes.Node.{Node}
use Rattle.pd_grove.specs.declared.boards.Board.{Board}
use Rattle.pd_grove.specs.declared.grove.Grove.{Grove}
use Rattle.pd_grove.specs.Standing.{NodeSeen, node_seen, BoardSeen, board_seen, Stands, GroveStands}
use Rattle.pd_grove.specs.Telling.{inner_in, keys_in, step_in, reached}
use Rattle.pd_grove.specs.TextOrder.{deep}
use Rattle.pd_grove.specs.Places.{canvas_in_box, canvas_along, CanvasStands, LeadsTo}
use Rattle.pd_grove.proofs.PlaceLemmas.{path_leads}
use Rattle.pd_web.specs.Canvases.{keys_at}
use Rattle.pd_patch.specs.Numbers.{AreUnder}
use Rattle.pd_patch.specs.Telling.{number_in}
use Rattle.pd_patch.specs.Paths.{spot_of, holder_in, around, outward, path_told}

holder_seen : (o : Option Board) (s : BoardSeen) → option_map board_seen o ≡ Some s → holder_in o ≡ s.holder
holder_seen None s h = absurd (none-some s h)
holder_seen (Some b) s h = ap (λ (x : BoardSeen). x.holder) (same_Some (board_seen b) s h)

keys_seen : (o : Option Board) (s : BoardSeen) → option_map board_seen o ≡ Some s → keys_in o ≡ s.keys
keys_seen None s h = absurd (none-some s h)
keys_seen (Some b) s h = ap (λ (x : BoardSeen). x.keys) (same_Some (board_seen b) s h)

inner_seen : (o : Option Node) (s : NodeSeen) → option_map node_seen o ≡ Some s → inner_in o ≡ s.inner
inner_seen None s h = absurd (none-some s h)
inner_seen (Some n) s h = ap (λ (x : NodeSeen). x.inner) (same_Some (node_seen n) s h)

-- the canvas in which a box lies
abbrev canvas_of : Option Node → Option ℕ
canvas_of o = option_map (λ n. n.board) o

home_seen : (o : Option Node) (s : NodeSeen) → option_map node_seen o ≡ Some s → canvas_of o ≡ Some s.board
home_seen None s h = absurd (none-some s h)
home_seen (Some n) s h = ap (λ (x : NodeSeen). Some x.board) (same_Some (node_seen n) s h)

-- a box of a canvas that stands lies in it
home_at : (g : Grove) (b d : ℕ) (ks : List ℕ) (t : Trees) (i k : ℕ) → Stands (get g.nodes) (get g.boards) b d ks t → slice_get ks i ≡ Some k → canvas_of (get g.nodes k) ≡ Some b
home_at g b d [] t i k S at = absurd (none-some k at)
home_at g b d (x ∷ ks) Done i k S at = absurd S
home_at g b d (x ∷ ks) (Leaf e rest) zero k S at = ap (λ y. canvas_of (get g.nodes y)) (sym (same_Some x k at)) ∙ home_seen (get g.nodes x) _ S.0
home_at g b d (x ∷ ks) (Leaf e rest) (suc i) k S at = home_at g b d ks rest i k S.1 at
home_at g b d (x ∷ ks) (Holder e s inner rest) zero k S at = ap (λ y. canvas_of (get g.nodes y)) (sym (same_Some x k at)) ∙ home_seen (get g.nodes x) _ S.2
home_at g b d (x ∷ ks) (Holder e s inner rest) (suc i) k S at = home_at g b d ks rest i k S.5 at

-- the box that holds a canvas is its holder
held_by : (g : Grove) (b d : ℕ) (ks : List ℕ) (t : Trees) (i k c : ℕ) → Stands (get g.nodes) (get g.boards) b d ks t → slice_get ks i ≡ Some k → inner_in (get g.nodes k) ≡ Some c
    → holder_in (get g.boards c) ≡ Some k
held_by g b d [] t i k c S at h = absurd (none-some k at)
held_by g b d (x ∷ ks) Done i k c S at h = absurd S
held_by g b d (x ∷ ks) (Leaf e rest) zero k c S at h =
    let same : x ≡ k = same_Some x k at in
    absurd (none-some c (sym (inner_seen (get g.nodes x) _ S.0) ∙ ap (λ y. inner_in (get g.nodes y)) same ∙ h))
held_by g b d (x ∷ ks) (Leaf e rest) (suc i) k c S at h = held_by g b d ks rest i k c S.1 at h
held_by g b d (x ∷ ks) (Holder e s inner rest) zero k c S at h =
    let same : x ≡ k = same_Some x k at in
    let there : Some S.0 ≡ Some c = sym (inner_seen (get g.nodes x) _ S.2) ∙ ap (λ y. inner_in (get g.nodes y)) same ∙ h in
    ap (λ y. holder_in (get g.boards y)) (sym (same_Some S.0 c there)) ∙ holder_seen (get g.boards S.0) _ S.3 ∙ ap (λ y. Some y) same
held_by g b d (x ∷ ks) (Holder e s inner rest) (suc i) k c S at h = held_by g b d ks rest i k c S.5 at h

spot_at : (numbers : List ℕ) (k c i : ℕ) (o : Option Node) → canvas_of o ≡ Some c → slice_get numbers k ≡ Some i → spot_of numbers k o ≡ Some (c, i)
spot_at numbers k c i None h e = absurd (none-some c h)
spot_at numbers k c i (Some n) h e = ap (λ x. Some (x, number_in numbers k)) (same_Some n.board c h) ∙ ap (λ (x : Option ℕ). Some (c, unwrap_or x 0)) e

record Step (g : Grove) (c i j : ℕ) : Type 0 where
  key : ℕ
  at : slice_get (keys_at g c) i ≡ Some key
  inner : inner_in (get g.nodes key) ≡ Some j

step_at : (g : Grove) (c i j : ℕ) (o : Option ℕ) → slice_get (keys_at g c) i ≡ o → option_and_then (λ k. inner_in (get g.nodes k)) o ≡ Some j → Step g c i j
step_at g c i j None at h = absurd (none-some j h)
step_at g c i j (Some k) at h = record { key = k; at = at; inner = h }

-- around a canvas in a box of another is that one, with the number of the box
around_step : (g : Grove) (numbers : List ℕ) (c i j : ℕ) (u : Tree) → AreUnder numbers (keys_at g c) → CanvasStands g c u → step_in g c i ≡ Some j → around (get g.nodes) g.boards numbers j ≡ Some (c, i)
around_step g numbers c i j u h C e =
    let s = step_at g c i j (slice_get (keys_at g c) i) refl e in
    let here : slice_get C.keys i ≡ Some s.key = ap (λ ks. slice_get ks i) (sym (keys_seen (get g.boards c) _ C.board)) ∙ s.at in
    ap (option_and_then (λ k. spot_of numbers k (get g.nodes k))) (held_by g c C.depth C.keys u.boxes i s.key j C.stands here s.inner)
    ∙ spot_at numbers s.key c i (get g.nodes s.key) (home_at g c C.depth C.keys u.boxes i s.key C.stands here) (h i s.key s.at)

none_out : (g : Grove) (numbers : List ℕ) (n : ℕ) → outward (get g.nodes) g.boards numbers n None ≡ []
unfolding outward
none_out g numbers zero = refl
none_out g numbers (suc n) = none_out g numbers n

one_out : (g : Grove) (numbers : List ℕ) (n c i : ℕ) → outward (get g.nodes) g.boards numbers (suc n) (Some (c, i)) ≡ i ∷ outward (get g.nodes) g.boards numbers n (around (get g.nodes) g.boards numbers c)
unfolding outward
one_out g numbers n c i = refl

reached-append : (g : Grove) (here : Option ℕ) (path : List ℕ) (n : ℕ) → reached g here (path ++ n ∷ []) ≡ option_and_then (λ c. step_in g c n) (reached g here path)
reached-append g here [] n = refl
reached-append g here (m ∷ path) n = reached-append g (option_and_then (λ c. step_in g c m) here) path n

record Before (g : Grove) (path : List ℕ) (n j : ℕ) : Type 0 where
  canvas : ℕ
  leads : reached g (Some g.root) path ≡ Some canvas
  step : step_in g canvas n ≡ Some j

before_in : (g : Grove) (path : List ℕ) (n j : ℕ) (o : Option ℕ) → reached g (Some g.root) path ≡ o → option_and_then (λ c. step_in g c n) o ≡ Some j → Before g path n j
before_in g path n j None e h = absurd (none-some j h)
before_in g path n j (Some c) e h = record { canvas = c; leads = e; step = h }

-- the canvas that stands where a path leads
pub canvas_led : (g : Grove) (c : ℕ) (key : Option ℕ) (v : Option Tree) → LeadsTo g key v → key ≡ Some c → (u : Tree) × (v ≡ Some u) × CanvasStands g c u
canvas_led g c key None h e = absurd (none-some c (sym h ∙ e))
canvas_led g c key (Some u) h e = (u, refl, subst (λ x. CanvasStands g x u) (same_Some h.0 c (sym h.1 ∙ e)) h.2)

pub root_stands : (g : Grove) (s : Sheet) (t : Trees) → GroveStands g s t → CanvasStands g g.root (record { sheet = s; boxes = t })
root_stands g s t G = record { holder = None; depth = 0; keys = G.keys; board = G.root; stands = G.stands }

root_around : (g : Grove) (numbers : List ℕ) (s : Sheet) (t : Trees) → GroveStands g s t → around (get g.nodes) g.boards numbers g.root ≡ None
root_around g numbers s t G = ap (option_and_then (λ k. spot_of numbers k (get g.nodes k))) (holder_seen (get g.boards g.root) _ G.root)

-- the numbers on the way out of a canvas to which a path leads, where there are enough levels
way_out : (g : Grove) (numbers : List ℕ) (s : Sheet) (t : Trees) (back : List ℕ) (c n : ℕ) → GroveStands g s t → ((d : ℕ) → AreUnder numbers (keys_at g d))
    → reached g (Some g.root) (reverse back) ≡ Some c → length back ≤ n → outward (get g.nodes) g.boards numbers n (around (get g.nodes) g.boards numbers c) ≡ back
way_out g numbers s t [] c n G h e l =
    ap (λ x. outward (get g.nodes) g.boards numbers n (around (get g.nodes) g.boards numbers x)) (sym (same_Some g.root c e))
    ∙ ap (outward (get g.nodes) g.boards numbers n) (root_around g numbers s t G) ∙ none_out g numbers n
way_out g numbers s t (i ∷ back) c zero G h e l = absurd (omega (arith, l))
way_out g numbers s t (i ∷ back) c (suc n) G h e l =
    let b = before_in g (reverse back) i c (reached g (Some g.root) (reverse back)) refl
    (sym (reached-append g (Some g.root) (reverse back) i) ∙ ap (reached g (Some g.root)) (sym (reverse-append (i ∷ []) back)) ∙ e) in
    let v = canvas_led g b.canvas (reached g (Some g.root) (reverse back)) (canvas_along (reverse back) (record { sheet = s; boxes = t }))
    (path_leads g (reverse back) g.root (record { sheet = s; boxes = t }) (root_stands g s t G)) b.leads in
    ap (outward (get g.nodes) g.boards numbers (suc n)) (around_step g numbers b.canvas i c v.0 (h b.canvas) v.2 b.step)
    ∙ one_out g numbers n b.canvas i
    ∙ ap (λ x. i ∷ x) (way_out g numbers s t back b.canvas n G h b.leads (omega (arith, l)))

-- the path that is told of a canvas is the one that leads to it
pub path_back : (g : Grove) (numbers : List ℕ) (s : Sheet) (t : Trees) (path : List ℕ) (c : ℕ) → GroveStands g s t → ((d : ℕ) → AreUnder numbers (keys_at g d))
    → reached g (Some g.root) path ≡ Some c → length path ≤ 256 → path_told (get g.nodes) g.boards numbers c ≡ path
unfolding path_told
path_back g numbers s t path c G h e l =
    let there : reached g (Some g.root) (reverse (reverse path)) ≡ Some c = ap (reached g (Some g.root)) (reverse-reverse path) ∙ e in
    let long = length-reverse path in
    ap (λ x. reverse x) (way_out g numbers s t (reverse path) c 256 G h there (omega (arith, l, long))) ∙ reverse-reverse path

-- a canvas in a box lies deeper
box_deep : (n : ℕ) (t : Trees) (u : Tree) → canvas_in_box n t ≡ Some u → deep u.boxes + 1 ≤ deep t
box_deep n Done u h = absurd (none-some u h)
box_deep zero (Leaf c rest) u h = absurd (none-some u h)
box_deep zero (Holder c s inner rest) u h =
    let e : deep inner ≡ deep u.boxes = ap (λ (x : Tree). deep x.boxes) (same_Some (record { sheet = s; boxes = inner }) u h) in omega (arith, e)
box_deep (suc n) (Leaf c rest) u h = box_deep n rest u h
box_deep (suc n) (Holder c s inner rest) u h = let k = box_deep n rest u h in omega (arith, k)

step_deep : (path : List ℕ) (u : Tree) (o : Option Tree) (b : Trees) → ((x : Tree) → canvas_along path x ≡ Some u → length path + deep u.boxes ≤ deep x.boxes)
    → ((x : Tree) → o ≡ Some x → deep x.boxes + 1 ≤ deep b) → option_and_then (canvas_along path) o ≡ Some u → length path + 1 + deep u.boxes ≤ deep b
step_deep path u None b P D h = absurd (none-some u h)
step_deep path u (Some x) b P D h = let k = P x h in let l = D x refl in omega (arith, k, l)

-- each number of a path leads one canvas deeper
pub path_deep : (path : List ℕ) (t u : Tree) → canvas_along path t ≡ Some u → length path + deep u.boxes ≤ deep t.boxes
path_deep [] t u h = let e : deep t.boxes ≡ deep u.boxes = ap (λ (x : Tree). deep x.boxes) (same_Some t u h) in omega (arith, e)
path_deep (n ∷ path) t u h =
    let k = step_deep path u (canvas_in_box n t.boxes) t.boxes (λ x e. path_deep path x u e) (λ x e. box_deep n t.boxes x e) h in omega (arith, k)

-- a path has no more numbers than canvases lie in one another
pub path_short : (g : Grove) (s : Sheet) (t : Trees) (path : List ℕ) (c : ℕ) → GroveStands g s t → reached g (Some g.root) path ≡ Some c → length path ≤ deep t
path_short g s t path c G e =
    let tree : Tree = record { sheet = s; boxes = t } in
    let v = canvas_led g c (reached g (Some g.root) path) (canvas_along path tree) (path_leads g path g.root tree (root_stands g s t G)) e in
    let k = path_deep path tree v.0 v.1 in omega (arith, k)

pub path_whole : (g : Grove) (numbers : List ℕ) (s : Sheet) (t : Trees) (path : List ℕ) (c : ℕ) → GroveStands g s t → ((d : ℕ) → AreUnder numbers (keys_at g d)) → deep t ≤ 256
    → reached g (Some g.root) path ≡ Some c → path_told (get g.nodes) g.boards numbers c ≡ path
path_whole g numbers s t path c G h l e = let k = path_short g s t path c G e in path_back g numbers s t path c G h e (omega (arith, k, l))
