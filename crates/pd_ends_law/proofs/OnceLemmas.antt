-- In a patch that stands no box runs twice in a block.
use Rattle.std.proofs.Common.{arith, ◌≡◌, ◌≤◌, ◌<◌, ◌+◌, ◌==◌, ◌⊎◌, inl, inr, ℕ, zero, suc, Bool, true, false, cond, List, [], ◌∷◌, ◌++◌, Option, Some, None, option_map, refl, sym, ap, subst, ◌∙◌}
use Rattle.std.specs.Prelude.{flat_map, option_and_then}
use Rattle.std.proofs.lemmas.Option.{none-some, same_Some}
use Rattle.slab.specs.Slab.{get}
use Rattle.pd_clock.specs.Queue.{Clock}
use Rattle.pd_order.specs.Graph.{tally}
use Rattle.pd_order.specs.Listing.{Listing}
use Rattle.pd_order.proofs.Basics.{by_test, same_node, same_test, in_rest, tally-append}
use Rattle.pd_tree.specs.declared.rows.Sheet.{Sheet}
use Rattle.pd_tree.specs.Trees.{Trees, Done, Leaf, Holder, Tree}
use Rattle.pd_grove.specs.declared.nodes.Node.{Node}
use Rattle.pd_grove.specs.declared.boards.Board.{Board}
use Rattle.pd_grove.specs.declared.grove.Grove.{Grove}
use Rattle.pd_grove.specs.Forest.{holder_in, around, out_of}
use Rattle.pd_grove.specs.Owning.{board_in, AreOwn}
use Rattle.pd_grove.specs.Places.{CanvasStands}
use Rattle.pd_grove.specs.Standing.{NodeSeen, node_seen, BoardSeen, board_seen, depth_of, Stands, GroveStands}
use Rattle.pd_grove.specs.Telling.{inner_in, keys_in}
use Rattle.pd_web.specs.declared.web.Web.{Web}
use Rattle.pd_web.specs.Canvases.{keys_at}
use Rattle.pd_patch.specs.declared.patch.Patch.{Patch}
use Rattle.pd_patch.specs.Orders.{is_signal_node, HasOrder, AreOrdered}
use Rattle.pd_patch.specs.Telling.{order_in}
use Rattle.pd_patch.specs.Values.{chain_by}
use Rattle.pd_patch.proofs.CanvasLemmas.{once_apart, fewer_kept}
use Rattle.pd_patch.proofs.ListingLemmas.{place_in}
use Rattle.pd_patch.proofs.WayLemmas.{root_stands}
use Rattle.pd_block.specs.Nets.{Net, net_of, with_clocks, inner_at, chain_at}
use Rattle.pd_block.proofs.WalkLemmas.{inner_told}
use Rattle.pd_ends_law.specs.Once.{with_inside, boxes_run, RunsOnce}
use Rattle.pd_ends_law.proofs.BlockLemmas.{box_runs}

-- ---- lists joined

some_or : (a b : ℕ) → 0 < a + b → (0 < a) ⊎ (0 < b)
some_or zero b h = inr (omega (arith, h))
some_or (suc a) b h = inl (omega arith)

sum_once : (a b : ℕ) → a ≤ 1 → b ≤ 1 → (0 < a → 0 < b → ⊥) → a + b ≤ 1
sum_once zero b h k n = omega (arith, k)
sum_once (suc a) zero h k n = omega (arith, h)
sum_once (suc a) (suc b) h k n = absurd (n (omega arith) (omega arith))

here : (x : ℕ) (xs : List ℕ) → 0 < tally x (x ∷ xs)
here x xs = rw (same_test x) (omega arith)

behind : (x y : ℕ) (xs : List ℕ) → 0 < tally x xs → 0 < tally x (y ∷ xs)
behind x y xs h = omega (arith, h)

-- from which of the lists something comes
record Comes (f : ℕ → List ℕ) (xs : List ℕ) (x : ℕ) : Type 0 where
  key : ℕ
  there : 0 < tally key xs
  of : 0 < tally x (f key)

comes_on : (f : ℕ → List ℕ) (y : ℕ) (ys : List ℕ) (x : ℕ) → (0 < tally x (flat_map f ys) → Comes f ys x) → (0 < tally x (f y)) ⊎ (0 < tally x (flat_map f ys)) → Comes f (y ∷ ys) x
comes_on f y ys x rest (inl h) = record { key = y; there = here y ys; of = h }
comes_on f y ys x rest (inr h) = let c = rest h in record { key = c.key; there = behind c.key y ys c.there; of = c.of }

comes : (f : ℕ → List ℕ) (xs : List ℕ) (x : ℕ) → 0 < tally x (flat_map f xs) → Comes f xs x
comes f [] x h = absurd (omega (arith, h))
comes f (y ∷ ys) x h =
    let both : tally x (f y ++ flat_map f ys) ≡ tally x (f y) + tally x (flat_map f ys) = tally-append x (f y) (flat_map f ys) in
    comes_on f y ys x (λ k. comes f ys x k) (some_or (tally x (f y)) (tally x (flat_map f ys)) (omega (arith, both, h)))

-- it comes once where it comes from one list at most, and once from each
flat_once : (f : ℕ → List ℕ) (xs : List ℕ) (x : ℕ) → ((k : ℕ) → tally k xs ≤ 1) → ((k : ℕ) → 0 < tally k xs → tally x (f k) ≤ 1)
    → ((k l : ℕ) → 0 < tally k xs → 0 < tally l xs → 0 < tally x (f k) → 0 < tally x (f l) → k ≡ l) → tally x (flat_map f xs) ≤ 1
flat_once f [] x apart each only = omega arith
flat_once f (y ∷ ys) x apart each only =
    let rest : tally x (flat_map f ys) ≤ 1 =
    flat_once f ys x (λ k. less k (apart k)) (λ k h. each k (behind k y ys h)) (λ k l h i a b. only k l (behind k y ys h) (behind l y ys i) a b) in
    let both : tally x (f y ++ flat_map f ys) ≡ tally x (f y) + tally x (flat_map f ys) = tally-append x (f y) (flat_map f ys) in
    let sum : tally x (f y) + tally x (flat_map f ys) ≤ 1 = sum_once (tally x (f y)) (tally x (flat_map f ys)) (each y (here y ys)) rest (λ a b. twice a (comes f ys x b)) in
    omega (arith, both, sum)
  where
    less : (k : ℕ) → tally k (y ∷ ys) ≤ 1 → tally k ys ≤ 1
    less k h = omega (arith, h)

    twice : 0 < tally x (f y) → Comes f ys x → ⊥
    twice a c =
        let same : y ≡ c.key = only y c.key (here y ys) (behind c.key y ys c.there) a c.of in
        let there : 0 < tally y ys = subst (λ (z : ℕ). 0 < tally z ys) (sym same) c.there in
        let one : 1 + tally y ys ≤ 1 = rw (same_test y) at (apart y) in
        omega (arith, there, one)

-- ---- what is seen

inner_seen : (o : Option Node) (s : NodeSeen) → option_map node_seen o ≡ Some s → inner_in o ≡ s.inner
inner_seen None s h = absurd (none-some s h)
inner_seen (Some n) s h = ap (λ (x : NodeSeen). x.inner) (same_Some (node_seen n) s h)

holder_seen : (o : Option Board) (s : BoardSeen) → option_map board_seen o ≡ Some s → holder_in o ≡ s.holder
holder_seen None s h = absurd (none-some s h)
holder_seen (Some b) s h = ap (λ (x : BoardSeen). x.holder) (same_Some (board_seen b) s h)

depth_seen : (o : Option Board) (s : BoardSeen) → option_map board_seen o ≡ Some s → depth_of o ≡ s.depth
depth_seen None s h = absurd (none-some s h)
depth_seen (Some b) s h = ap (λ (x : BoardSeen). x.depth) (same_Some (board_seen b) s h)

keys_seen : (o : Option Board) (s : BoardSeen) → option_map board_seen o ≡ Some s → keys_in o ≡ s.keys
keys_seen None s h = absurd (none-some s h)
keys_seen (Some b) s h = ap (λ (x : BoardSeen). x.keys) (same_Some (board_seen b) s h)

-- ---- the canvas that a box holds

-- it names the box, and lies one deeper
record Held (g : Grove) (d k j : ℕ) : Type 0 where
  sheet : Sheet
  boxes : Trees
  keys : List ℕ
  board : option_map board_seen (get g.boards j) ≡ Some (record { holder = Some k; depth = d + 1; sheet = sheet; keys = keys })
  stands : Stands (get g.nodes) (get g.boards) j (d + 1) keys boxes

held_same : (g : Grove) (d x k i j : ℕ) → x ≡ k → i ≡ j → Held g d x i → Held g d k j
held_same g d x k i j e f h = subst (λ (z : ℕ). Held g d k z) f (subst (λ (z : ℕ). Held g d z i) e h)

held : (g : Grove) (b d : ℕ) (ks : List ℕ) (t : Trees) (k j : ℕ) → Stands (get g.nodes) (get g.boards) b d ks t → 0 < tally k ks → inner_in (get g.nodes k) ≡ Some j → Held g d k j
held g b d [] t k j S m e = absurd (omega (arith, m))
held g b d (x ∷ ks) Done k j S m e = absurd S
held g b d (x ∷ ks) (Leaf cell rest) k j S m e = by_test (x == k)
    (λ same. absurd (none-some j (sym (inner_seen (get g.nodes x) _ S.0) ∙ ap (λ (z : ℕ). inner_in (get g.nodes z)) (same_node x k same) ∙ e)))
    (λ other. held g b d ks rest k j S.1 (in_rest k x ks other m) e)
held g b d (x ∷ ks) (Holder cell s inner rest) k j S m e = by_test (x == k)
    (λ same. held_same g d x k S.0 j (same_node x k same)
    (same_Some S.0 j (sym (inner_seen (get g.nodes x) _ S.2) ∙ ap (λ (z : ℕ). inner_in (get g.nodes z)) (same_node x k same) ∙ e))
    (record { sheet = s; boxes = inner; keys = S.1; board = S.3; stands = S.4 }))
    (λ other. held g b d ks rest k j S.5 (in_rest k x ks other m) e)

-- the boxes that run are boxes of their canvas
chain_few : (g : Grove) (w : Web) (o : Option Board) (l : Option Listing) (k : ℕ) → HasOrder g w o l → tally k (chain_by l) ≤ tally k (keys_in o)
chain_few g w None l k h = subst (λ (x : Option Listing). tally k (chain_by x) ≤ tally k (keys_in None)) (sym h) (omega arith)
chain_few g w (Some b) None k h = absurd h
chain_few g w (Some b) (Some l) k h =
    let all = h.rest k in
    let some = fewer_kept (λ j. is_signal_node (get g.nodes j)) b.nodes.items k in
    omega (arith, all, some)

module _ (p : Patch) (clocks : List Clock) (own : AreOwn (get p.grove.nodes) (get p.grove.boards)) (orders : AreOrdered p.grove p.web p.orders.items) where
  abbrev net : Net
  net = with_clocks (net_of p) clocks

  few : (c k : ℕ) → tally k (chain_at net c) ≤ tally k (keys_at p.grove c)
  few c k = chain_few p.grove p.web (get p.grove.boards c) (order_in p.orders.items c) k (orders c)

  apart : (c k : ℕ) → tally k (chain_at net c) ≤ 1
  apart c k = let less = few c k in let one = once_apart (keys_at p.grove c) (own.once c) k in omega (arith, less, one)

  among : (c k : ℕ) → 0 < tally k (chain_at net c) → 0 < tally k (keys_at p.grove c)
  among c k m = let less = few c k in omega (arith, less, m)

  home : (c k : ℕ) → 0 < tally k (chain_at net c) → board_in (get p.grove.nodes k) ≡ Some c
  home c k m = let at = place_in k (keys_at p.grove c) (among c k m) in own.home c at.0 k at.1

  -- a box lies in a canvas of this depth, so many canvases further in
  record Below (c d x : ℕ) : Type 0 where
    lies_in : ℕ
    steps : ℕ
    lies : board_in (get p.grove.nodes x) ≡ Some lies_in
    out : out_of (get p.grove.nodes) (get p.grove.boards) steps lies_in ≡ Some c
    depth : depth_of (get p.grove.boards lies_in) ≡ d + steps

  -- a box lies in the canvas that a box holds
  record InBox (d k x : ℕ) : Type 0 where
    canvas : ℕ
    holder : holder_in (get p.grove.boards canvas) ≡ Some k
    below : Below canvas (d + 1) x

  deep : (c : ℕ) (u : Tree) (C : CanvasStands p.grove c u) → depth_of (get p.grove.boards c) ≡ C.depth
  deep c u C = depth_seen (get p.grove.boards c) _ C.board

  -- the canvas in a box that runs
  inside : (c : ℕ) (u : Tree) (C : CanvasStands p.grove c u) (k j : ℕ) → 0 < tally k (chain_at net c) → inner_at net k ≡ Some j → Held p.grove C.depth k j
  inside c u C k j m e =
      held p.grove c C.depth C.keys u.boxes k j C.stands (subst (λ (ks : List ℕ). 0 < tally k ks) (keys_seen (get p.grove.boards c) _ C.board) (among c k m)) (sym (inner_told p k) ∙ e)

  abbrev canvas_held : (d k j : ℕ) (h : Held p.grove d k j) → CanvasStands p.grove j (record { sheet = h.sheet; boxes = h.boxes })
  canvas_held d k j h = record { holder = Some k; depth = d + 1; keys = h.keys; board = h.board; stands = h.stands }

  itself : (c : ℕ) (u : Tree) (C : CanvasStands p.grove c u) (k : ℕ) → 0 < tally k (chain_at net c) → Below c C.depth k
  itself c u C k m = record { lies_in = c; steps = 0; lies = home c k m; out = refl; depth = (let d : depth_of (get p.grove.boards c) ≡ C.depth = deep c u C in omega (arith, d)) }

  further : (c d k x : ℕ) → board_in (get p.grove.nodes k) ≡ Some c → InBox d k x → Below c d x
  further c d k x lies b = record {
    lies_in = b.below.lies_in;
    steps = suc b.below.steps;
    lies = b.below.lies;
    out = ap (λ (o : Option ℕ). option_and_then (around (get p.grove.nodes) (get p.grove.boards)) o) b.below.out
        ∙ ap (λ (o : Option ℕ). option_and_then (λ (y : ℕ). board_in (get p.grove.nodes y)) o) b.holder ∙ lies;
    depth = (let e : depth_of (get p.grove.boards b.below.lies_in) ≡ d + 1 + b.below.steps = b.below.depth in omega (arith, e));
  }

  -- what runs in a canvas lies in it or further in
  abbrev AreBelow : ℕ → Type 0
  AreBelow n = (c : ℕ) (u : Tree) (C : CanvasStands p.grove c u) (x : ℕ) → 0 < tally x (boxes_run net n c) → Below c C.depth x

  in_box : (n c : ℕ) (u : Tree) (C : CanvasStands p.grove c u) → AreBelow n → (k x : ℕ) (o : Option ℕ) → inner_at net k ≡ o → 0 < tally k (chain_at net c)
      → (k == x) ≡ false → 0 < tally x (with_inside (boxes_run net n) k o) → InBox C.depth k x
  in_box n c u C below k x None e m other h = let none : 0 < tally x [] = in_rest x k [] other h in absurd (omega (arith, none))
  in_box n c u C below k x (Some j) e m other h =
      let i : Held p.grove C.depth k j = inside c u C k j m e in
      record {
        canvas = j;
        holder = holder_seen (get p.grove.boards j) _ i.board;
        below = below j (record { sheet = i.sheet; boxes = i.boxes }) (canvas_held C.depth k j i) x (in_rest x k (boxes_run net n j) other h);
      }

  box_below : (n c : ℕ) (u : Tree) (C : CanvasStands p.grove c u) → AreBelow n → (k x : ℕ) → 0 < tally k (chain_at net c) → 0 < tally x (box_runs net n k) → Below c C.depth x
  box_below n c u C below k x m h = by_test (k == x)
      (λ same. subst (λ (z : ℕ). Below c C.depth z) (same_node k x same) (itself c u C k m))
      (λ other. further c C.depth k x (home c k m) (in_box n c u C below k x (inner_at net k) refl m other h))

  all_below : (n : ℕ) → AreBelow n
  unfolding boxes_run
  all_below zero c u C x h = absurd (omega (arith, h))
  all_below (suc n) c u C x h =
      let from : Comes (box_runs net n) (chain_at net c) x = comes (box_runs net n) (chain_at net c) x h in
      box_below n c u C (all_below n) from.key x from.there from.of

  -- a box of a canvas doesn't lie further in
  not_deeper : (c d k j : ℕ) → board_in (get p.grove.nodes k) ≡ Some c → depth_of (get p.grove.boards c) ≡ d → Below j (d + 1) k → ⊥
  not_deeper c d k j lies e b =
      let same : c ≡ b.lies_in = same_Some c b.lies_in (sym lies ∙ b.lies) in
      let f : depth_of (get p.grove.boards c) ≡ d + 1 + b.steps = ap (λ (z : ℕ). depth_of (get p.grove.boards z)) same ∙ b.depth in
      omega (arith, e, f)

  -- it lies in one box of a canvas
  same_canvas : (i j d x : ℕ) → Below i d x → Below j d x → i ≡ j
  same_canvas i j d x a b =
      let place : a.lies_in ≡ b.lies_in = same_Some a.lies_in b.lies_in (sym a.lies ∙ b.lies) in
      let e : depth_of (get p.grove.boards a.lies_in) ≡ d + b.steps = ap (λ (z : ℕ). depth_of (get p.grove.boards z)) place ∙ b.depth in
      let f : depth_of (get p.grove.boards a.lies_in) ≡ d + a.steps = a.depth in
      let steps : a.steps ≡ b.steps = omega (arith, e, f) in
      same_Some i j
      (sym a.out
      ∙ ap (λ (z : ℕ). out_of (get p.grove.nodes) (get p.grove.boards) z a.lies_in) steps
      ∙ ap (λ (z : ℕ). out_of (get p.grove.nodes) (get p.grove.boards) b.steps z) place
      ∙ b.out)

  same_box : (d k l x : ℕ) → InBox d k x → InBox d l x → k ≡ l
  same_box d k l x a b =
      same_Some k l (sym a.holder ∙ ap (λ (z : ℕ). holder_in (get p.grove.boards z)) (same_canvas a.canvas b.canvas (d + 1) x a.below b.below) ∙ b.holder)

  module _ (n c : ℕ) (u : Tree) (C : CanvasStands p.grove c u) where
    -- a box of the canvas is in no box of it
    not_in : (k l : ℕ) → 0 < tally k (chain_at net c) → InBox C.depth l k → ⊥
    not_in k l m b = not_deeper c C.depth k b.canvas (home c k m) (deep c u C) b.below

    in_one : (k x : ℕ) → 0 < tally k (chain_at net c) → (k == x) ≡ false → 0 < tally x (box_runs net n k) → InBox C.depth k x
    in_one k x m other h = in_box n c u C (all_below n) k x (inner_at net k) refl m other h

    only : (x k l : ℕ) → 0 < tally k (chain_at net c) → 0 < tally l (chain_at net c) → 0 < tally x (box_runs net n k) → 0 < tally x (box_runs net n l) → k ≡ l
    only x k l m i a b = by_test (k == x)
        (λ same. by_test (l == x)
        (λ too. same_node k x same ∙ sym (same_node l x too))
        (λ other. absurd (not_in x l (subst (λ (z : ℕ). 0 < tally z (chain_at net c)) (same_node k x same) m) (in_one l x i other b))))
        (λ other. by_test (l == x)
        (λ same. absurd (not_in x k (subst (λ (z : ℕ). 0 < tally z (chain_at net c)) (same_node l x same) i) (in_one k x m other a)))
        (λ too. same_box C.depth k l x (in_one k x m other a) (in_one l x i too b)))

  abbrev AreOnce : ℕ → Type 0
  AreOnce n = (c : ℕ) (u : Tree) (C : CanvasStands p.grove c u) (x : ℕ) → tally x (boxes_run net n c) ≤ 1

  -- a box is not among those inside it
  first_once : (n c : ℕ) (u : Tree) (C : CanvasStands p.grove c u) → AreOnce n → (k x j : ℕ) → inner_at net k ≡ Some j → 0 < tally k (chain_at net c) → tally x (k ∷ boxes_run net n j) ≤ 1
  first_once n c u C once k x j e m =
      let i : Held p.grove C.depth k j = inside c u C k j m e in
      let tree : Tree = record { sheet = i.sheet; boxes = i.boxes } in
      let rest : tally x (boxes_run net n j) ≤ 1 = once j tree (canvas_held C.depth k j i) x in
      sum_once (cond (k == x) 1 0) (tally x (boxes_run net n j)) (at_most (k == x)) rest
      (λ a b. not_deeper c C.depth k j (home c k m) (deep c u C) (subst (λ (z : ℕ). Below j (C.depth + 1) z) (sym (is_first a)) (all_below n j tree (canvas_held C.depth k j i) x b)))
    where
      at_most : (b : Bool) → cond b 1 0 ≤ 1
      at_most true = omega arith
      at_most false = omega arith

      is_first : 0 < cond (k == x) 1 0 → k ≡ x
      is_first a = by_test (k == x) (λ same. same_node k x same) (λ other. let none : 0 < 0 = rw other at a in absurd (omega (arith, none)))

  box_once : (n c : ℕ) (u : Tree) (C : CanvasStands p.grove c u) → AreOnce n → (k x : ℕ) (o : Option ℕ) → inner_at net k ≡ o → 0 < tally k (chain_at net c)
      → tally x (with_inside (boxes_run net n) k o) ≤ 1
  box_once n c u C once k x None e m = by_test (k == x) (λ same. rw same (omega arith)) (λ other. rw other (omega arith))
  box_once n c u C once k x (Some j) e m = first_once n c u C once k x j e m

  all_once : (n : ℕ) → AreOnce n
  unfolding boxes_run
  all_once zero c u C x = omega arith
  all_once (suc n) c u C x =
      flat_once (box_runs net n) (chain_at net c) x (apart c) (λ k m. box_once n c u C (all_once n) k x (inner_at net k) refl m) (only n c u C x)

pub standing_once : (p : Patch) (t : Tree) (clocks : List Clock) (levels : ℕ) → GroveStands p.grove t.sheet t.boxes → AreOwn (get p.grove.nodes) (get p.grove.boards) → AreOrdered p.grove p.web p.orders.items
    → RunsOnce levels (with_clocks (net_of p) clocks)
standing_once p t clocks levels stands own orders = record { once = all_once p clocks own orders levels p.grove.root t (root_stands p.grove t.sheet t.boxes stands) }
