-- More levels than canvases lie in one another change nothing.
use Rattle.std.proofs.Common.{arith, ◌≡◌, ℕ, zero, suc, ◌+◌, ◌<◌, ◌≤◌, Bool, true, false, cond, List, [], ◌∷◌, slice_get, refl, sym, ap, ◌∙◌, subst}
use Rattle.std.specs.Prelude.{Option, Some, None, option_and_then}
use Rattle.std.proofs.lemmas.Option.{slice_get-get_or}
use Rattle.slab.specs.Slab.{get}
use Rattle.pd_atom.specs.Names.{Names}
use Rattle.pd_clock.specs.declared.times.Rate.{Rate}
use Rattle.pd_clock.specs.Queue.{Clock}
use Rattle.pd_order.specs.Graph.{tally}
use Rattle.pd_order.specs.Listing.{Listing}
use Rattle.pd_order.proofs.Basics.{same_test, at_tally}
use Rattle.pd_order.proofs.SettleLemmas.{tally-filter}
use Rattle.pd_tree.specs.declared.rows.Sheet.{Sheet}
use Rattle.pd_tree.specs.Trees.{Trees, Tree}
use Rattle.pd_growth.specs.Steps.{Step}
use Rattle.pd_grove.specs.declared.boards.Board.{Board}
use Rattle.pd_grove.specs.declared.grove.Grove.{Grove}
use Rattle.pd_grove.specs.Standing.{GroveStands}
use Rattle.pd_grove.specs.Telling.{inner_in, keys_in, step_in, reached}
use Rattle.pd_grove.specs.TextOrder.{deep}
use Rattle.pd_grove.specs.Places.{canvas_along, CanvasStands}
use Rattle.pd_grove.proofs.PlaceLemmas.{path_leads}
use Rattle.pd_web.specs.declared.web.Web.{Web}
use Rattle.pd_web.specs.Canvases.{keys_at}
use Rattle.pd_patch.specs.declared.patch.Patch.{Patch}
use Rattle.pd_patch.specs.Telling.{order_in}
use Rattle.pd_patch.specs.Values.{chain_by}
use Rattle.pd_patch.specs.Orders.{is_signal_node, HasOrder, AreOrdered}
use Rattle.pd_patch.specs.Built.{IsBuilt}
use Rattle.pd_patch.specs.Grown.{IsFresh, IsTree}
use Rattle.pd_patch.proofs.BuiltLemmas.{is_built}
use Rattle.pd_patch.proofs.WayLemmas.{canvas_led, path_deep, root_stands}
use Rattle.pd_block.specs.Nets.{Net, Sound, net_of, with_clocks, inner_at, chain_at, stuck_at}
use Rattle.pd_block.specs.Blocks.{Played, played, each, silenced, ran_box, ran_one, down_chain, ran_canvas, block_within, block_of}
use Rattle.pd_block.proofs.WalkLemmas.{inner_told, canvas_suc}

-- what is among those that pass is among all
filter_part : (b : Bool) (n m : ℕ) → m ≡ cond b n 0 → 0 < m → 0 < n
filter_part true n m e h = subst (λ x. 0 < x) e h
filter_part false n m e h = absurd (omega (arith, e, h))

-- the boxes that run are boxes of their canvas
chain_part : (g : Grove) (w : Web) (o : Option Board) (l : Option Listing) (k : ℕ) → HasOrder g w o l → 0 < tally k (chain_by l) → 0 < tally k (keys_in o)
chain_part g w None l k h m = absurd (omega (arith, subst (λ x. 0 < tally k (chain_by x)) h m))
chain_part g w (Some b) None k h m = absurd h
chain_part g w (Some b) (Some l) k h m =
    let all = h.rest k in
    filter_part (is_signal_node (get g.nodes k)) (tally k b.nodes.items) _ (tally-filter (λ j. is_signal_node (get g.nodes j)) k b.nodes.items) (omega (arith, all, m))

-- the canvas in a box of a canvas stands, and lies deeper
inner_stands : (g : Grove) (c k j : ℕ) (u : Tree) → CanvasStands g c u → 0 < tally k (keys_at g c) → inner_in (get g.nodes k) ≡ Some j → (v : Tree) × CanvasStands g j v × (deep v.boxes + 1 ≤ deep u.boxes)
inner_stands g c k j u C m e =
    let at = at_tally k (keys_at g c) m in
    let key : slice_get (keys_at g c) at.0 ≡ Some k = slice_get-get_or (keys_at g c) at.0 0 at.1 ∙ ap (λ x. Some x) at.2 in
    let there : step_in g c at.0 ≡ Some j = ap (option_and_then (λ x. inner_in (get g.nodes x))) key ∙ e in
    let v = canvas_led g j (reached g (Some c) (at.0 ∷ [])) (canvas_along (at.0 ∷ []) u) (path_leads g (at.0 ∷ []) c u C) there in
    let deeper = path_deep (at.0 ∷ []) u v.0 v.1 in
    (v.0, v.2, omega (arith, deeper))

-- boxes one after another, where each runs the same in two ways
each_same : (f g : Played → ℕ → Played) (xs : List ℕ) (p : Played) → ((x : ℕ) (q : Played) → 0 < tally x xs → f q x ≡ g q x) → each f p xs ≡ each g p xs
each_same f g [] p h = refl
each_same f g (x ∷ xs) p h =
    ap (λ (q : Played). each f q xs) (h x p (here x xs)) ∙ each_same f g xs (g p x) (λ y q m. h y q (behind x y xs m))
  where
    here : (x : ℕ) (xs : List ℕ) → 0 < tally x (x ∷ xs)
    here x xs = rw (same_test x) (omega arith)

    behind : (x y : ℕ) (xs : List ℕ) → 0 < tally y xs → 0 < tally y (x ∷ xs)
    behind x y xs m = omega (arith, m)

-- a box, where the canvas that it may hold runs the same
box_same : (net : Net) (start : ℕ) (f g : Played → ℕ → Played) (p : Played) (node : ℕ) (o : Option ℕ) → ((j : ℕ) (q : Played) → o ≡ Some j → f q j ≡ g q j)
    → ran_box net start f p node o ≡ ran_box net start g p node o
box_same net start f g p node None h = refl
box_same net start f g p node (Some j) h = h j (played (silenced p.sound node) p.out) refl

chain_same : (net : Net) (start : ℕ) (f g : Played → ℕ → Played) (p : Played) (c : ℕ) → ((k j : ℕ) (q : Played) → 0 < tally k (chain_at net c) → inner_at net k ≡ Some j → f q j ≡ g q j)
    → down_chain net start f p c ≡ down_chain net start g p c
chain_same net start f g p c h =
    each_same (ran_one net start f) (ran_one net start g) (chain_at net c) (played (each silenced p.sound (stuck_at net c)) p.out)
    (λ k q m. box_same net start f g q k (inner_at net k) (λ j r e. h k j r m e))

-- a canvas that stands, run with two numbers of levels
canvas_same : (p : Patch) (clocks : List Clock) (start : ℕ) → AreOrdered p.grove p.web p.orders.items → (n m c : ℕ) (u : Tree) (q : Played) → CanvasStands p.grove c u → deep u.boxes < n → deep u.boxes < m
    → ran_canvas (with_clocks (net_of p) clocks) start n q c ≡ ran_canvas (with_clocks (net_of p) clocks) start m q c
canvas_same p clocks start O zero m c u q C l k = absurd (omega (arith, l))
canvas_same p clocks start O (suc n) zero c u q C l k = absurd (omega (arith, k))
canvas_same p clocks start O (suc n) (suc m) c u q C l k =
    let net = with_clocks (net_of p) clocks in
    canvas_suc net start n q c
    ∙ chain_same net start (ran_canvas net start n) (ran_canvas net start m) q c
    (λ b j r at e.
    let v = inner_stands p.grove c b j u C (chain_part p.grove p.web (get p.grove.boards c) (order_in p.orders.items c) b (O c) at) (sym (inner_told p b) ∙ e) in
    canvas_same p clocks start O n m j v.0 r v.1 (less (deep v.0.boxes) (deep u.boxes) n v.2 l) (less (deep v.0.boxes) (deep u.boxes) m v.2 k))
    ∙ sym (canvas_suc net start m q c)
  where
    less : (a b n : ℕ) → a + 1 ≤ b → b < suc n → a < n
    less a b n h l = omega (arith, h, l)

pub levels_enough : (p : Patch) (s : Sheet) (t : Trees) → GroveStands p.grove s t → AreOrdered p.grove p.web p.orders.items → deep t ≤ 256 → (clocks : List Clock) (sound : Sound) (start levels : ℕ) → deep t < levels
    → block_within levels (with_clocks (net_of p) clocks) sound start ≡ block_of (with_clocks (net_of p) clocks) sound start
unfolding block_of
levels_enough p s t G O l clocks sound start levels m =
    canvas_same p clocks start O levels 257 p.grove.root (record { sheet = s; boxes = t }) _ (root_stands p.grove s t G) m (omega (arith, l))

pub levels_built : (p : Patch) (names : Names) (file : List ℕ) (rate : Rate) (grown : Step Tree) → IsTree p names rate grown → IsBuilt p names file rate
    → (clocks : List Clock) (sound : Sound) (start levels : ℕ) → 256 ≤ levels
    → block_within levels (with_clocks (net_of p) clocks) sound start ≡ block_of (with_clocks (net_of p) clocks) sound start
levels_built p names file rate grown T B clocks sound start levels m =
    let l = T.shallow in
    levels_enough p T.tree.sheet T.tree.boxes T.stands B.orders (omega (arith, l)) clocks sound start levels (omega (arith, l, m))

pub levels_grown : (p : Patch) (names : Names) (file : List ℕ) (rate : Rate) (grown : Step Tree) → IsTree p names rate grown → IsFresh p names file rate
    → (clocks : List Clock) (sound : Sound) (start levels : ℕ) → 256 ≤ levels
    → block_within levels (with_clocks (net_of p) clocks) sound start ≡ block_of (with_clocks (net_of p) clocks) sound start
levels_grown p names file rate grown T F = levels_built p names file rate grown T (is_built p names file rate F)
