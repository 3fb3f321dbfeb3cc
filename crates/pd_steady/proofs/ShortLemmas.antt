-- In a patch in which a tree stands the order of a canvas lists no more boxes than there are in the tree.
use Rattle.std.proofs.Common.{◌≡◌, ℕ, zero, suc, ◌+◌, ◌<◌, ◌≤◌, Bool, List, [], ◌∷◌, ◌++◌, length, Option, Some, None, refl, sym, ap, subst, ◌∙◌, arith, length-append}
use Rattle.std.specs.Prelude.{option_map, option_and_then}
use Rattle.std.specs.List.{filter}
use Rattle.std.proofs.lemmas.Option.{none-some, same_Some}
use Rattle.slab.specs.Slab.{get}
use Rattle.pd_tree.specs.Trees.{Trees, Done, Leaf, Holder, Tree, weight}
use Rattle.pd_order.specs.Graph.{Graph, tally, take_out, IsOrder}
use Rattle.pd_order.specs.Listing.{Listing}
use Rattle.pd_order.proofs.Basics.{same_test, tally-append, tally-take_out, length-take_out}
use Rattle.pd_chain.specs.Wires.{graph_of}
use Rattle.pd_grove.specs.declared.nodes.Node.{Node}
use Rattle.pd_grove.specs.declared.boards.Board.{Board}
use Rattle.pd_grove.specs.declared.grove.Grove.{Grove}
use Rattle.pd_grove.specs.Standing.{BoardSeen, board_seen, Stands, GroveStands}
use Rattle.pd_grove.specs.Telling.{keys_in, reached}
use Rattle.pd_grove.specs.Places.{canvas_in_box, canvas_along}
use Rattle.pd_grove.proofs.PlaceLemmas.{path_leads}
use Rattle.pd_web.specs.Canvases.{keys_at}
use Rattle.pd_web.specs.declared.web.Web.{Web}
use Rattle.pd_patch.specs.declared.patch.Patch.{Patch}
use Rattle.pd_patch.specs.Orders.{is_signal_node, signal_among, signal_wires_among, IsChain, HasOrder, AreOrdered}
use Rattle.pd_patch.specs.Telling.{order_in}
use Rattle.pd_patch.proofs.WayLemmas.{canvas_led, root_stands}
use Rattle.pd_guards.proofs.FactLemmas.{either}

head_there : (x : ℕ) (xs : List ℕ) → 0 < tally x (x ∷ xs)
head_there x xs = rw (same_test x) (omega arith)

-- a list that has each number at most as often as another is no longer
shorter : (xs ys : List ℕ) → ((z : ℕ) → tally z xs ≤ tally z ys) → length xs ≤ length ys
shorter [] ys h = omega arith
shorter (x ∷ xs) ys h =
    let first : tally x (x ∷ xs) ≤ tally x ys = h x in
    let there : 0 < tally x ys = let one = head_there x xs in omega (arith, first, one) in
    let rest : length xs ≤ length (take_out x ys) =
    shorter xs (take_out x ys)
    (λ z. let each : tally z (x ∷ xs) ≤ tally z ys = h z in let less = tally-take_out z x ys there in omega (arith, each, less)) in
    let less = length-take_out x ys there in
    omega (arith, rest, less)

listed_short : (g : Graph) (nodes chain stuck : List ℕ) → IsOrder g nodes chain stuck → length chain + length stuck ≤ length nodes
listed_short g nodes chain stuck o =
    let l : length (stuck ++ chain) ≤ length nodes =
    shorter (stuck ++ chain) nodes (λ z. let parts = tally-append z stuck chain in let all = o.rest z in omega (arith, parts, all)) in
    let e = length-append stuck chain in
    omega (arith, l, e)

filter_short : (f : ℕ → Bool) (xs : List ℕ) → length (filter f xs) ≤ length xs
filter_short f [] = omega arith
filter_short f (x ∷ xs) =
    let l = filter_short f xs in
    either (λ (ys : List ℕ). length ys ≤ length (x ∷ xs)) (f x) (x ∷ filter f xs) (filter f xs) (omega (arith, l)) (omega (arith, l))

-- the order of a canvas that lives
pub order_short : (g : Grove) (w : Web) (board : Option Board) (s : BoardSeen) (order : Option Listing) (o : Listing) → option_map board_seen board ≡ Some s
    → HasOrder g w board order → order ≡ Some o → length o.chain + length o.stuck ≤ length s.keys
order_short g w None s order o e h f = absurd (none-some s e)
order_short g w (Some b) s order o e h f =
    let keys = b.nodes.items in
    let signal = signal_among g keys in
    let c : IsChain g w keys (Some o) = subst (IsChain g w keys) f h in
    let l : length o.chain + length o.stuck ≤ length signal = listed_short (graph_of keys (signal_wires_among w signal)) signal o.chain o.stuck c in
    let m : length signal ≤ length keys = filter_short (λ k. is_signal_node (get g.nodes k)) keys in
    let same : length keys ≡ length s.keys = ap (λ (x : BoardSeen). length x.keys) (same_Some (board_seen b) s e) in
    omega (arith, l, m, same)

pub order_keys : (g : Grove) (w : Web) (board : Option Board) (order : Option Listing) (o : Listing) → HasOrder g w board order → order ≡ Some o
    → length o.chain + length o.stuck ≤ length (keys_in board)
order_keys g w None order o h f = absurd (none-some o (sym h ∙ f))
order_keys g w (Some b) order o h f = order_short g w (Some b) (board_seen b) order o refl h f

-- a canvas has no more boxes than its tree
keys_few : (nodes : ℕ → Option Node) (boards : ℕ → Option Board) (b d : ℕ) (ks : List ℕ) (t : Trees) → Stands nodes boards b d ks t → length ks ≤ weight t
keys_few nodes boards b d [] t S = omega arith
keys_few nodes boards b d (k ∷ ks) Done S = absurd S
keys_few nodes boards b d (k ∷ ks) (Leaf c rest) S = let l = keys_few nodes boards b d ks rest S.1 in omega (arith, l)
keys_few nodes boards b d (k ∷ ks) (Holder c s inner rest) S = let l = keys_few nodes boards b d ks rest S.5 in omega (arith, l)

box_weight : (n : ℕ) (t : Trees) (u : Tree) → canvas_in_box n t ≡ Some u → weight u.boxes ≤ weight t
box_weight n Done u h = absurd (none-some u h)
box_weight zero (Leaf c rest) u h = absurd (none-some u h)
box_weight zero (Holder c s inner rest) u h =
    let e : weight inner ≡ weight u.boxes = ap (λ (x : Tree). weight x.boxes) (same_Some (record { sheet = s; boxes = inner }) u h) in omega (arith, e)
box_weight (suc n) (Leaf c rest) u h = let l = box_weight n rest u h in omega (arith, l)
box_weight (suc n) (Holder c s inner rest) u h = let l = box_weight n rest u h in omega (arith, l)

step_weight : (path : List ℕ) (u : Tree) (o : Option Tree) (n : ℕ) → ((x : Tree) → canvas_along path x ≡ Some u → weight u.boxes ≤ weight x.boxes)
    → ((x : Tree) → o ≡ Some x → weight x.boxes ≤ n) → option_and_then (canvas_along path) o ≡ Some u → weight u.boxes ≤ n
step_weight path u None n P D h = absurd (none-some u h)
step_weight path u (Some x) n P D h = let k = P x h in let l = D x refl in omega (arith, k, l)

path_weight : (path : List ℕ) (t u : Tree) → canvas_along path t ≡ Some u → weight u.boxes ≤ weight t.boxes
path_weight [] t u h = let e : weight t.boxes ≡ weight u.boxes = ap (λ (x : Tree). weight x.boxes) (same_Some t u h) in omega (arith, e)
path_weight (n ∷ path) t u h =
    step_weight path u (canvas_in_box n t.boxes) (weight t.boxes) (λ x e. path_weight path x u e) (λ x e. box_weight n t.boxes x e) h

-- a canvas to which a path leads has no more boxes than the tree
pub canvas_few : (g : Grove) (t : Tree) → GroveStands g t.sheet t.boxes → (path : List ℕ) (c : ℕ) → reached g (Some g.root) path ≡ Some c → length (keys_at g c) ≤ weight t.boxes
canvas_few g t G path c leads =
    let v = canvas_led g c (reached g (Some g.root) path) (canvas_along path t) (path_leads g path g.root t (root_stands g t.sheet t.boxes G)) leads in
    let C = v.2 in
    let m : length C.keys ≤ weight v.0.boxes = keys_few (get g.nodes) (get g.boards) c C.depth C.keys v.0.boxes C.stands in
    let w : weight v.0.boxes ≤ weight t.boxes = path_weight path t v.0 v.1 in
    let e : length (keys_at g c) ≡ length C.keys = ap (λ (ks : List ℕ). length ks) (keys_seen (get g.boards c) _ C.board) in
    omega (arith, m, w, e)
  where
    keys_seen : (o : Option Board) (s : BoardSeen) → option_map board_seen o ≡ Some s → keys_in o ≡ s.keys
    keys_seen None s h = absurd (none-some s h)
    keys_seen (Some b) s h = ap (λ (x : BoardSeen). x.keys) (same_Some (board_seen b) s h)

-- the order of a canvas to which a path leads
pub orders_short : (p : Patch) (t : Tree) → GroveStands p.grove t.sheet t.boxes → AreOrdered p.grove p.web p.orders.items
    → (path : List ℕ) (c : ℕ) (o : Listing) → reached p.grove (Some p.grove.root) path ≡ Some c → order_in p.orders.items c ≡ Some o → length o.chain + length o.stuck ≤ weight t.boxes
orders_short p t G ordered path c o leads order =
    let g = p.grove in
    let v = canvas_led g c (reached g (Some g.root) path) (canvas_along path t) (path_leads g path g.root t (root_stands g t.sheet t.boxes G)) leads in
    let C = v.2 in
    let l : length o.chain + length o.stuck ≤ length C.keys = order_short g p.web (get g.boards c) _ (order_in p.orders.items c) o C.board (ordered c) order in
    let m : length C.keys ≤ weight v.0.boxes = keys_few (get g.nodes) (get g.boards) c C.depth C.keys v.0.boxes C.stands in
    let w : weight v.0.boxes ≤ weight t.boxes = path_weight path t v.0 v.1 in
    omega (arith, l, m, w)
