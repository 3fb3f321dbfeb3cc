-- A box more in one canvas, and the tree that stands.
use Rattle.std.proofs.Common.{◌≡◌, ◌≢◌, ℕ, zero, suc, ◌+◌, ◌<◌, ◌≤◌, max, cond, List, [], ◌∷◌, ◌++◌, length, take, drop, slice_get, Option, Some, None, IsSome, refl, sym, ap, ◌∙◌, subst, arith}
use Rattle.std.specs.Prelude.{option_map, option_and_then}
use Rattle.std.proofs.lemmas.Option.{none-some, same_Some}
use Rattle.slab.specs.Slab.{get}
use Rattle.pd_clock.specs.declared.times.Rate.{Rate}
use Rattle.pd_kind.specs.States.{start_of}
use Rattle.pd_kind.specs.Tables.{started}
use Rattle.pd_canvas.specs.Pages.{Shape, Sub}
use Rattle.pd_tree.specs.declared.rows.Sheet.{Sheet}
use Rattle.pd_tree.specs.Trees.{Trees, Done, Leaf, Holder, Tree, width}
use Rattle.pd_grove.specs.declared.nodes.Node.{Node}
use Rattle.pd_grove.specs.declared.boards.Board.{Board}
use Rattle.pd_grove.specs.declared.grove.Grove.{Grove}
use Rattle.pd_grove.specs.Forest.{holder_in}
use Rattle.pd_grove.specs.Grafts.{HasPartMore, sheet_in}
use Rattle.pd_grove.specs.OwnPaths.{sub_in_box, sub_reached, sub_along}
use Rattle.pd_grove.specs.Places.{CanvasStands, LeadsTo}
use Rattle.pd_grove.specs.Standing.{NodeSeen, node_seen, BoardSeen, board_seen, depth_of, Stands, GroveStands}
use Rattle.pd_grove.specs.Telling.{inner_in, keys_in}
use Rattle.pd_grove.specs.TextOrder.{deep, is_sub}
use Rattle.pd_grove.proofs.PlaceLemmas.{seen_keys}
use Rattle.pd_grove.proofs.Standings.{seen_depth, stands_join}
use Rattle.pd_grove.proofs.SubLemmas.{sub_path_leads}
use Rattle.pd_forest_law.proofs.PartLemmas.{forest_part}
use Rattle.pd_web.specs.Canvases.{keys_at}
use Rattle.pd_regrowth_law.specs.Canvases.{canvas_with, sub_canvas, own_in_box, own_along}
use Rattle.pd_reload_law.specs.Reloading.{RunsAs}
use Rattle.pd_reload_law.specs.Saving.{AreSavable}
use Rattle.pd_reload_law.proofs.EditLemmas.{sub_inner}
use Rattle.pd_reload_law.proofs.FreshLemmas.{fresh_savable}
use Rattle.pd_putting_law.specs.Puts.{boxes_before, change_inside, with_before, put_at, put_before}
use Rattle.pd_putting_law.specs.Putting.{HasBoxAt, HasBoxLast, ComeFresh}
use Rattle.pd_putting_law.proofs.PathLemmas.{Forest, subs, sub_leads, deep_as, LeadsNot, not_same, not_inside, not_below, not_around, not_beside}
use Rattle.pd_putting_law.proofs.PlaceLemmas.{last_at}
use Rattle.pd_putting_law.proofs.WithinLemmas.{put_before_last}

-- ---- what is seen

pub seen_there : (o : Option Node) (x : NodeSeen) → option_map node_seen o ≡ Some x → IsSome o
seen_there None x h = absurd (none-some x h)
seen_there (Some n) x h = refl

pub board_there : (o : Option Board) (x : BoardSeen) → option_map board_seen o ≡ Some x → IsSome o
board_there None x h = absurd (none-some x h)
board_there (Some b) x h = refl

pub seen_inner : (o : Option Node) (x : NodeSeen) → option_map node_seen o ≡ Some x → inner_in o ≡ x.inner
seen_inner None x h = absurd (none-some x h)
seen_inner (Some n) x h = ap (λ (y : NodeSeen). y.inner) (same_Some (node_seen n) x h)

pub seen_more : (o o' : Option Board) (x : BoardSeen) (ks : List ℕ) → option_map board_seen o ≡ Some x → IsSome o' → holder_in o' ≡ holder_in o
    → depth_of o' ≡ depth_of o → sheet_in o' ≡ sheet_in o → keys_in o' ≡ ks
    → option_map board_seen o' ≡ Some (record { holder = x.holder; depth = x.depth; sheet = x.sheet; keys = ks })
seen_more None o' x ks h live a b s k = absurd (none-some x h)
seen_more (Some y) None x ks h live a b s k = cc
seen_more (Some y) (Some z) x ks h live a b s k =
    let same : board_seen y ≡ x = same_Some (board_seen y) x h in
    ap (λ (u : Option ℕ). Some (record { holder = u; depth = z.depth; sheet = z.sheet; keys = z.nodes.items })) (a ∙ ap (λ (u : BoardSeen). u.holder) same)
    ∙ ap (λ (u : ℕ). Some (record { holder = x.holder; depth = u; sheet = z.sheet; keys = z.nodes.items })) (b ∙ ap (λ (u : BoardSeen). u.depth) same)
    ∙ ap (λ (u : Sheet). Some (record { holder = x.holder; depth = x.depth; sheet = u; keys = z.nodes.items }))
    (same_Some z.sheet y.sheet s ∙ ap (λ (u : BoardSeen). u.sheet) same)
    ∙ ap (λ (u : List ℕ). Some (record { holder = x.holder; depth = x.depth; sheet = x.sheet; keys = u })) k

-- a canvas stands under its key, in this box and so deep
pub record CanvasAt (g : Grove) (c : ℕ) (holder : Option ℕ) (d : ℕ) (u : Tree) : Type 0 where
  pub keys : List ℕ
  pub board : option_map board_seen (get g.boards c) ≡ Some (record { holder = holder; depth = d; sheet = u.sheet; keys = keys })
  pub stands : Stands (get g.nodes) (get g.boards) c d keys u.boxes

pub keys_are : (g : Grove) (c : ℕ) (holder : Option ℕ) (d : ℕ) (u : Tree) → (C : CanvasAt g c holder d u) → keys_at g c ≡ C.keys
keys_are g c holder d u C = seen_keys (get g.boards c) _ C.board

-- no path leads to this canvas from what the boxes of these keys hold
abbrev pub AreAside : Grove → ℕ → List ℕ → Type 0
AreAside g canvas keys = (i k j : ℕ) → slice_get keys i ≡ Some k → inner_in (get g.nodes k) ≡ Some j → LeadsNot g canvas j

-- nor from the others, but for the one of this number
abbrev pub AreBeside : Grove → ℕ → ℕ → List ℕ → Type 0
AreBeside g canvas n keys = (i k j : ℕ) → i ≢ n → slice_get keys i ≡ Some k → inner_in (get g.nodes k) ≡ Some j → LeadsNot g canvas j

pub aside_next : (g : Grove) (canvas k : ℕ) (ks : List ℕ) → AreAside g canvas (k ∷ ks) → AreAside g canvas ks
aside_next g canvas k ks a i l j e h = a (suc i) l j e h

pub beside_first : (g : Grove) (canvas k : ℕ) (ks : List ℕ) → AreBeside g canvas zero (k ∷ ks) → AreAside g canvas ks
beside_first g canvas k ks a i l j e h = a (suc i) l j (never i) e h
  where
    never : (i : ℕ) → suc i ≢ 0
    never i e = cc

pub beside_next : (g : Grove) (canvas n k : ℕ) (ks : List ℕ) → AreBeside g canvas (suc n) (k ∷ ks) → AreBeside g canvas n ks
beside_next g canvas n k ks a i l j apart e h = a (suc i) l j (λ s. apart (less i n s)) e h
  where
    less : (i n : ℕ) → suc i ≡ suc n → i ≡ n
    less i n e = omega (arith, e)

pub beside_here : (g : Grove) (canvas n k j : ℕ) (ks : List ℕ) → AreBeside g canvas (suc n) (k ∷ ks) → inner_in (get g.nodes k) ≡ Some j → LeadsNot g canvas j
beside_here g canvas n k j ks a h = a 0 k j (never n) refl h
  where
    never : (n : ℕ) → 0 ≢ suc n
    never n e = cc

pub aside_inside : (g : Grove) (canvas j : ℕ) (js : List ℕ) → keys_at g j ≡ js → LeadsNot g canvas j → AreAside g canvas js
aside_inside g canvas j js same h i l x is holds = not_inside g canvas j i l x h (ap (λ ks. slice_get ks i) same ∙ is) holds

pub aside_here : (g : Grove) (canvas : ℕ) (ks : List ℕ) → Forest g → keys_at g canvas ≡ ks → AreAside g canvas ks
aside_here g canvas ks F same i k j is holds = not_below g F canvas i k j (ap (λ l. slice_get l i) same ∙ is) holds

pub beside_on : (g : Grove) (c n : ℕ) (path : List ℕ) (canvas : ℕ) (ks : List ℕ) → Forest g → sub_reached g (Some c) (n ∷ path) ≡ Some canvas → keys_at g c ≡ ks
    → AreBeside g canvas n ks
beside_on g c n path canvas ks F on same i k j apart is holds =
    not_beside g F c n path canvas i k j (sub_leads g c canvas (n ∷ path) on) apart (ap (λ l. slice_get l i) same ∙ is) holds

-- ---- what stands

-- one box more
pub stands_more : (nodes : ℕ → Option Node) (boards : ℕ → Option Board) (b d : ℕ) (keys : List ℕ) (t new : Trees) (n k : ℕ) → Stands nodes boards b d keys t
    → Stands nodes boards b d (k ∷ []) new → Stands nodes boards b d (take n keys ++ k ∷ drop n keys) (boxes_before n new t)
stands_more nodes boards b d [] t new zero k S N = stands_join nodes boards b d (k ∷ []) [] new t N S
stands_more nodes boards b d (l ∷ ls) t new zero k S N = stands_join nodes boards b d (k ∷ []) (l ∷ ls) new t N S
stands_more nodes boards b d [] Done new (suc n) k S N = N
stands_more nodes boards b d (l ∷ ls) Done new (suc n) k S N = absurd S
stands_more nodes boards b d [] (Leaf c rest) new (suc n) k S N = absurd S
stands_more nodes boards b d (l ∷ ls) (Leaf c rest) new (suc n) k S N = (S.0, stands_more nodes boards b d ls rest new n k S.1 N)
stands_more nodes boards b d [] (Holder c s inner rest) new (suc n) k S N = absurd S
stands_more nodes boards b d (l ∷ ls) (Holder c s inner rest) new (suc n) k S N =
    (S.0, S.1, S.2, S.3, S.4, stands_more nodes boards b d ls rest new n k S.5 N)

-- as many boxes stand as there are keys
pub stands_wide : (nodes : ℕ → Option Node) (boards : ℕ → Option Board) (b d : ℕ) (keys : List ℕ) (t : Trees) → Stands nodes boards b d keys t → length keys ≡ width t
stands_wide nodes boards b d [] Done S = refl
stands_wide nodes boards b d (k ∷ ks) Done S = absurd S
stands_wide nodes boards b d [] (Leaf c rest) S = absurd S
stands_wide nodes boards b d (k ∷ ks) (Leaf c rest) S = one_more (length ks) (width rest) (stands_wide nodes boards b d ks rest S.1)
  where
    one_more : (m n : ℕ) → m ≡ n → suc m ≡ n + 1
    one_more m n h = omega (arith, h)
stands_wide nodes boards b d [] (Holder c s inner rest) S = absurd S
stands_wide nodes boards b d (k ∷ ks) (Holder c s inner rest) S = one_more (length ks) (width rest) (stands_wide nodes boards b d ks rest S.5)
  where
    one_more : (m n : ℕ) → m ≡ n → suc m ≡ n + 1
    one_more m n h = omega (arith, h)

module _ (g h : Grove) (canvas key number : ℕ) (F : Forest g)
    (M : HasPartMore (get g.nodes) (get h.nodes) (get g.boards) (get h.boards) canvas key (take number (keys_at g canvas)) (drop number (keys_at g canvas))) where
  pub box_stays : (k : ℕ) (x : NodeSeen) → option_map node_seen (get g.nodes k) ≡ Some x → get h.nodes k ≡ get g.nodes k
  box_stays k x e = M.boxes_stay k (seen_there (get g.nodes k) x e)

  pub canvas_stays : (j : ℕ) (x : BoardSeen) → option_map board_seen (get g.boards j) ≡ Some x → j ≢ canvas → get h.boards j ≡ get g.boards j
  canvas_stays j x e apart = M.canvases_stay j apart (board_there (get g.boards j) x e)

  seen_still : (k : ℕ) (x : NodeSeen) → option_map node_seen (get g.nodes k) ≡ Some x → option_map node_seen (get h.nodes k) ≡ Some x
  seen_still k x e = ap (option_map node_seen) (box_stays k x e) ∙ e

  board_still : (j : ℕ) (x : BoardSeen) → option_map board_seen (get g.boards j) ≡ Some x → j ≢ canvas → option_map board_seen (get h.boards j) ≡ Some x
  board_still j x e apart = ap (option_map board_seen) (canvas_stays j x e apart) ∙ e

  pub stands_aside : (b d : ℕ) (keys : List ℕ) (t : Trees) → AreAside g canvas keys → Stands (get g.nodes) (get g.boards) b d keys t
      → Stands (get h.nodes) (get h.boards) b d keys t
  stands_aside b d [] Done a S = tt
  stands_aside b d (k ∷ ks) Done a S = absurd S
  stands_aside b d [] (Leaf c rest) a S = absurd S
  stands_aside b d (k ∷ ks) (Leaf c rest) a S = (seen_still k _ S.0, stands_aside b d ks rest (aside_next g canvas k ks a) S.1)
  stands_aside b d [] (Holder c s inner rest) a S = absurd S
  stands_aside b d (k ∷ ks) (Holder c s inner rest) a S =
      let out : LeadsNot g canvas S.0 = a 0 k S.0 refl (seen_inner (get g.nodes k) _ S.2) in (
        S.0,
        S.1,
        seen_still k _ S.2,
        board_still S.0 _ S.3 (not_same g canvas S.0 out),
        stands_aside S.0 (d + 1) S.1 inner (aside_inside g canvas S.0 S.1 (seen_keys (get g.boards S.0) _ S.3) out) S.4,
        stands_aside b d ks rest (aside_next g canvas k ks a) S.5,
      )

  put_here : (new : Trees) (holder : Option ℕ) (d : ℕ) (u : Tree) → Stands (get h.nodes) (get h.boards) canvas (depth_of (get g.boards canvas)) (key ∷ []) new
      → CanvasAt g canvas holder d u → CanvasAt h canvas holder d (with_before number new u)
  put_here new holder d u N C =
      let same = keys_are g canvas holder d u C in
      let low : depth_of (get g.boards canvas) ≡ d = seen_depth (get g.boards canvas) _ C.board in
      let keys = take number C.keys ++ key ∷ drop number C.keys in
      record {
        keys = keys;
        board = seen_more (get g.boards canvas) (get h.boards canvas) _ keys C.board M.lives M.holder M.depth M.sheet
            (M.has ∙ ap (λ (l : List ℕ). take number l ++ key ∷ drop number l) same);
        stands = stands_more (get h.nodes) (get h.boards) canvas d C.keys u.boxes new number key
            (stands_aside canvas d C.keys u.boxes (aside_here g canvas C.keys F same) C.stands)
            (subst (λ x. Stands (get h.nodes) (get h.boards) canvas x (key ∷ []) new) low N);
      }

  put_inside : (f : Tree → Tree) (b d : ℕ) (keys : List ℕ) (t : Trees) (n k j : ℕ) → slice_get keys n ≡ Some k → inner_in (get g.nodes k) ≡ Some j
      → AreBeside g canvas n keys → ((u : Tree) → CanvasAt g j (Some k) (d + 1) u → CanvasAt h j (Some k) (d + 1) (f u))
      → Stands (get g.nodes) (get g.boards) b d keys t → Stands (get h.nodes) (get h.boards) b d keys (change_inside n f t)
  put_inside f b d [] t n k j at holds a on S = absurd (none-some k at)
  put_inside f b d (l ∷ ls) Done n k j at holds a on S = absurd S
  put_inside f b d (l ∷ ls) (Leaf c rest) zero k j at holds a on S = (seen_still l _ S.0, stands_aside b d ls rest (beside_first g canvas l ls a) S.1)
  put_inside f b d (l ∷ ls) (Leaf c rest) (suc n) k j at holds a on S =
      (seen_still l _ S.0, put_inside f b d ls rest n k j at holds (beside_next g canvas n l ls a) on S.1)
  put_inside f b d (l ∷ ls) (Holder c s inner rest) zero k j at holds a on S =
      let same : l ≡ k = same_Some l k at in
      let is : S.0 ≡ j = same_Some S.0 j (sym (seen_inner (get g.nodes l) _ S.2) ∙ ap (λ x. inner_in (get g.nodes x)) same ∙ holds) in
      let here = subst (λ x. (u : Tree) → CanvasAt g S.0 (Some x) (d + 1) u → CanvasAt h S.0 (Some x) (d + 1) (f u)) (sym same)
      (subst (λ x. (u : Tree) → CanvasAt g x (Some k) (d + 1) u → CanvasAt h x (Some k) (d + 1) (f u)) (sym is) on) in
      let C = here (canvas_with s inner) (record { keys = S.1; board = S.3; stands = S.4 }) in
      (S.0, C.keys, seen_still l _ S.2, C.board, C.stands, stands_aside b d ls rest (beside_first g canvas l ls a) S.5)
  put_inside f b d (l ∷ ls) (Holder c s inner rest) (suc n) k j at holds a on S =
      let out : LeadsNot g canvas S.0 = beside_here g canvas n l S.0 ls a (seen_inner (get g.nodes l) _ S.2) in (
        S.0,
        S.1,
        seen_still l _ S.2,
        board_still S.0 _ S.3 (not_same g canvas S.0 out),
        stands_aside S.0 (d + 1) S.1 inner (aside_inside g canvas S.0 S.1 (seen_keys (get g.boards S.0) _ S.3) out) S.4,
        put_inside f b d ls rest n k j at holds (beside_next g canvas n l ls a) on S.5,
      )

  pub put_canvas : (new : Trees) (path : List ℕ) (c : ℕ) (holder : Option ℕ) (d : ℕ) (u : Tree)
      → Stands (get h.nodes) (get h.boards) canvas (depth_of (get g.boards canvas)) (key ∷ []) new → sub_reached g (Some c) path ≡ Some canvas
      → CanvasAt g c holder d u → CanvasAt h c holder d (put_before path number new u)
  put_canvas new [] c holder d u N on C =
      let here : c ≡ canvas = same_Some c canvas on in
      subst (λ x. CanvasAt h x holder d (with_before number new u)) (sym here) (put_here new holder d u N (subst (λ x. CanvasAt g x holder d u) here C))
  put_canvas new (n ∷ path) c holder d u N on C =
      let s = subs g c n path canvas on in
      let same = keys_are g c holder d u C in
      record {
        keys = C.keys;
        board = board_still c _ C.board (not_around g F c n path canvas (sub_leads g c canvas (n ∷ path) on));
        stands = put_inside (put_before path number new) c d C.keys u.boxes n s.key s.inner (ap (λ (l : List ℕ). slice_get l n) (sym same) ∙ s.is)
            (sub_inner (get g.nodes s.key) s.inner s.sub) (beside_on g c n path canvas C.keys F on same)
            (λ v D. put_canvas new path s.inner (Some s.key) (d + 1) v N s.on D) C.stands;
      }

-- ---- the tree

pub grove_before : (g h : Grove) (path : List ℕ) (canvas key number : ℕ) (t : Tree) (new : Trees) → HasBoxAt g h path canvas key number → GroveStands g t.sheet t.boxes
    → Stands (get h.nodes) (get h.boards) canvas (depth_of (get g.boards canvas)) (key ∷ []) new
    → GroveStands h (put_before path number new t).sheet (put_before path number new t).boxes
grove_before g h path canvas key number t new B G N =
    let u = put_before path number new t in
    let C = put_canvas g h canvas key number B.forest B.part new path g.root None 0 t N B.leads (record { keys = G.keys; board = G.root; stands = G.stands }) in
    record {
      keys = C.keys;
      root = ap (λ x. option_map board_seen (get h.boards x)) B.root ∙ C.board;
      stands = subst (λ x. Stands (get h.nodes) (get h.boards) x 0 C.keys u.boxes) (sym B.root) C.stands;
    }

pub deep_within : (nodes : ℕ → Option Node) (boards : ℕ → Option Board) (b d : ℕ) (keys : List ℕ) (t : Trees) → ((x : ℕ) → depth_of (boards x) < 257)
    → Stands nodes boards b d keys t → d ≤ 256 → deep t + d ≤ 256
deep_within nodes boards b d [] Done low S l = omega (arith, l)
deep_within nodes boards b d (k ∷ ks) Done low S l = absurd S
deep_within nodes boards b d [] (Leaf c rest) low S l = absurd S
deep_within nodes boards b d (k ∷ ks) (Leaf c rest) low S l = deep_within nodes boards b d ks rest low S.1 l
deep_within nodes boards b d [] (Holder c s inner rest) low S l = absurd S
deep_within nodes boards b d (k ∷ ks) (Holder c s inner rest) low S l =
    let here : depth_of (boards S.0) ≡ d + 1 = seen_depth (boards S.0) _ S.3 in
    let more : d + 1 ≤ 256 = one_more d (depth_of (boards S.0)) here (low S.0) in
    both (deep inner) (deep rest) d (deep_within nodes boards S.0 (d + 1) S.1 inner low S.4 more) (deep_within nodes boards b d ks rest low S.5 l)
  where
    one_more : (d x : ℕ) → x ≡ d + 1 → x < 257 → d + 1 ≤ 256
    one_more d x e h = omega (arith, e, h)

    both : (a b d : ℕ) → a + (d + 1) ≤ 256 → b + d ≤ 256 → max (a + 1) b + d ≤ 256
    both a b d h k = omega (arith, h, k)

-- what came, where nothing was
abbrev beside : Option Node → Option Node → Option Node
beside None o = o
beside (Some n) o = None

come_savable : (rate : Rate) (now : ℕ) (nodes nodes' : ℕ → Option Node) → ComeFresh rate now nodes nodes' → AreSavable (λ k. beside (nodes k) (nodes' k))
come_savable rate now nodes nodes' f = fresh_savable rate now (λ k. beside (nodes k) (nodes' k)) (λ k n e. by k n (nodes k) refl e)
  where
    by : (k : ℕ) (n : Node) (o : Option Node) → nodes k ≡ o → beside o (nodes' k) ≡ Some n → n.state ≡ Some (started (start_of n.kind rate) now)
    by k n None is e = f k n is e
    by k n (Some m) is e = absurd (none-some n e)

pub savable_on : (rate : Rate) (now : ℕ) (nodes nodes' : ℕ → Option Node) → ComeFresh rate now nodes nodes' → ((k : ℕ) → IsSome (nodes k) → nodes' k ≡ nodes k)
    → AreSavable nodes → AreSavable nodes'
savable_on rate now nodes nodes' f stay a =
    let come = come_savable rate now nodes nodes' f in
    record {
      toggles = λ k n e. by (λ x. a.toggles k n (sym (stay k x) ∙ e)) (λ is. come.toggles k n (ap (λ o. beside o (nodes' k)) is ∙ e)) (nodes k) refl;
      canvases = λ k n h e c. by (λ x. a.canvases k n h (sym (stay k x) ∙ e) c) (λ is. come.canvases k n h (ap (λ o. beside o (nodes' k)) is ∙ e) c) (nodes k) refl;
    }
  where
    by : {P : Type 0} {k : ℕ} → (IsSome (nodes k) → P) → (nodes k ≡ None → P) → (o : Option Node) → nodes k ≡ o → P
    by s n None is = n is
    by s n (Some m) is = s (subst IsSome (sym is) refl)

pub runs_before : (g h : Grove) (path : List ℕ) (canvas key number : ℕ) (t : Tree) (new : Trees) (rate : Rate) (now : ℕ) → HasBoxAt g h path canvas key number → RunsAs g t
    → Stands (get h.nodes) (get h.boards) canvas (depth_of (get g.boards canvas)) (key ∷ []) new → ComeFresh rate now (get g.nodes) (get h.nodes)
    → RunsAs h (put_before path number new t)
runs_before g h path canvas key number t new rate now B R N f =
    let u = put_before path number new t in
    let keys = keys_at g canvas in
    let G = grove_before g h path canvas key number t new B R.stands N in
    let H = forest_part (get g.nodes) (get h.nodes) (get g.boards) (get h.boards) g.root canvas key (take number keys) (drop number keys) B.part B.forest in
    record {
      stands = G;
      shallow = plain (deep u.boxes) (deep_within (get h.nodes) (get h.boards) h.root 0 G.keys u.boxes H.shallow G.stands (omega arith));
      savable = savable_on rate now (get g.nodes) (get h.nodes) f B.part.boxes_stay R.savable;
    }
  where
    plain : (n : ℕ) → n + 0 ≤ 256 → n ≤ 256
    plain n h = omega (arith, h)

-- ---- the canvas at the path

form_same : (f : Shape) (s : Sheet) (inner : Trees) → sub_canvas f s inner ≡ cond (is_sub f) (Some (canvas_with s inner)) None
form_same Sub s inner = refl
form_same f s inner = refl

box_same : (n : ℕ) (t : Trees) → own_in_box n t ≡ sub_in_box n t
box_same n Done = refl
box_same zero (Leaf c rest) = refl
box_same zero (Holder c s inner rest) = form_same c.head.form s inner
box_same (suc n) (Leaf c rest) = box_same n rest
box_same (suc n) (Holder c s inner rest) = box_same n rest

along_same : (path : List ℕ) (t : Tree) → own_along path t ≡ sub_along path t
along_same [] t = refl
along_same (n ∷ path) t = ap (option_and_then (own_along path)) (box_same n t.boxes) ∙ on (λ u. along_same path u) (sub_in_box n t.boxes)
  where
    on : ((u : Tree) → own_along path u ≡ sub_along path u) → (o : Option Tree) → option_and_then (own_along path) o ≡ option_and_then (sub_along path) o
    on same None = refl
    on same (Some u) = same u

-- the canvas at the path stands there, as deep as the path is long
pub path_along : (g : Grove) (path : List ℕ) (canvas : ℕ) (t : Tree) → Forest g → GroveStands g t.sheet t.boxes → sub_reached g (Some g.root) path ≡ Some canvas
    → (u : Tree) × (own_along path t ≡ Some u) × CanvasStands g canvas u × (depth_of (get g.boards canvas) ≡ length path)
path_along g path canvas t F G on =
    by (sub_along path t) refl (sub_path_leads g path g.root t (record { holder = None; depth = 0; keys = G.keys; board = G.root; stands = G.stands }))
  where
    plain : (d r l : ℕ) → d ≡ r + l → r ≡ 0 → d ≡ l
    plain d r l h k = omega (arith, h, k)

    by : (o : Option Tree) → sub_along path t ≡ o → LeadsTo g (sub_reached g (Some g.root) path) o
        → (u : Tree) × (own_along path t ≡ Some u) × CanvasStands g canvas u × (depth_of (get g.boards canvas) ≡ length path)
    by None e L = absurd (none-some canvas (sym L ∙ on))
    by (Some u) e L =
        let same : L.0 ≡ canvas = same_Some L.0 canvas (sym L.1 ∙ on) in (
          u,
          along_same path t ∙ e,
          subst (λ x. CanvasStands g x u) same L.2,
          plain (depth_of (get g.boards canvas)) (depth_of (get g.boards g.root)) (length path) (deep_as g F path g.root canvas (sub_leads g g.root canvas path on)) F.rooted.2,
        )

-- ---- a box that comes last

pub put_last : (g : Grove) (path : List ℕ) (canvas : ℕ) (t : Tree) (new : Trees) → Forest g → sub_reached g (Some g.root) path ≡ Some canvas
    → GroveStands g t.sheet t.boxes → put_before path (length (keys_at g canvas)) new t ≡ put_at path new t
put_last g path canvas t new F on G =
    let a = path_along g path canvas t F G on in
    let C = a.2 in
    ap (λ n. put_before path n new t)
    (ap length (seen_keys (get g.boards canvas) _ C.board) ∙ stands_wide (get g.nodes) (get g.boards) canvas C.depth C.keys a.0.boxes C.stands)
    ∙ put_before_last path t a.0 new a.1

pub grove_put : (g h : Grove) (path : List ℕ) (canvas key : ℕ) (t : Tree) (new : Trees) → HasBoxLast g h path canvas key → GroveStands g t.sheet t.boxes
    → Stands (get h.nodes) (get h.boards) canvas (depth_of (get g.boards canvas)) (key ∷ []) new
    → GroveStands h (put_at path new t).sheet (put_at path new t).boxes
grove_put g h path canvas key t new B G N =
    subst (λ (x : Tree). GroveStands h x.sheet x.boxes) (put_last g path canvas t new B.forest B.leads G)
    (grove_before g h path canvas key (length (keys_at g canvas)) t new (last_at g h path canvas key B) G N)

pub runs_put : (g h : Grove) (path : List ℕ) (canvas key : ℕ) (t : Tree) (new : Trees) (rate : Rate) (now : ℕ) → HasBoxLast g h path canvas key → RunsAs g t
    → Stands (get h.nodes) (get h.boards) canvas (depth_of (get g.boards canvas)) (key ∷ []) new → ComeFresh rate now (get g.nodes) (get h.nodes)
    → RunsAs h (put_at path new t)
runs_put g h path canvas key t new rate now B R N f =
    subst (RunsAs h) (put_last g path canvas t new B.forest B.leads R.stands)
    (runs_before g h path canvas key (length (keys_at g canvas)) t new rate now (last_at g h path canvas key B) R N f)
