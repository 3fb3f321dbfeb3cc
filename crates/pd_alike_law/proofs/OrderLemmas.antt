-- The signal orders of a patch that opened from what another one saved.
use Rattle.std.proofs.Common.{◌≡◌, ℕ, ◌<◌, List, map, slice_get, Option, Some, None, sym, ap, ◌∙◌, arith}
use Rattle.std.specs.Prelude.{option_map}
use Rattle.std.proofs.lemmas.Option.{none-some, same_Some}
use Rattle.slab.specs.Slab.{get}
use Rattle.pd_order.specs.Graph.{tally, IsOrder}
use Rattle.pd_order.specs.Listing.{Listing}
use Rattle.pd_order.proofs.UniqueLemmas.{one_order}
use Rattle.pd_chain.specs.Wires.{graph_of}
use Rattle.pd_tree.specs.Trees.{Tree}
use Rattle.pd_grove.specs.declared.boards.Board.{Board}
use Rattle.pd_grove.specs.declared.grove.Grove.{Grove}
use Rattle.pd_grove.specs.OwnPaths.{sub_reached}
use Rattle.pd_grove.specs.Places.{CanvasStands}
use Rattle.pd_grove.specs.Standing.{BoardSeen, board_seen}
use Rattle.pd_grove.specs.Telling.{keys_in, reached}
use Rattle.pd_grove.proofs.PlaceLemmas.{seen_keys, path_leads}
use Rattle.pd_web.specs.declared.web.Web.{Web}
use Rattle.pd_web.specs.Canvases.{keys_at}
use Rattle.pd_present.specs.Presents.{number_in}
use Rattle.pd_patch.specs.declared.patch.Patch.{Patch}
use Rattle.pd_patch.specs.Orders.{is_signal_node, signal_among, signal_wires_among, HasOrder}
use Rattle.pd_patch.specs.Telling.{order_in}
use Rattle.pd_patch.specs.Values.{chain_by, stuck_by, chain_in, stuck_in}
use Rattle.pd_patch.proofs.WayLemmas.{canvas_led, root_stands}
use Rattle.pd_wiring.specs.Changes.{CanRewire}
use Rattle.pd_wiring.specs.Graphs.{canvas_graph, signal_boxes}
use Rattle.pd_wiring.proofs.BuiltLemmas.{wired_parts}
use Rattle.pd_wiring.proofs.GraphLemmas.{canvas_lawful, order_by_links}
use Rattle.pd_saved_law.specs.Fitting.{HaveSameWires}
use Rattle.pd_saved_law.proofs.CanvasLemmas.{canvas_now, leads_now}
use Rattle.pd_saved_law.proofs.EditLemmas.{stays_among}
use Rattle.pd_saved_law.proofs.WireLemmas.{reopened}
use Rattle.pd_alike_law.specs.Alike.{HasOpened, HaveSameOrder, now_of}
use Rattle.pd_alike_law.proofs.MatchLemmas.{moved, Match, order_moved, numbers_kept}
use Rattle.pd_alike_law.proofs.SoundLemmas.{sounds_at, stands_sound, sounds_stay}

-- a canvas of the document, and where it stands in the patch that opened
pub record OpenedCanvas (p : Patch) (c : ℕ) (q : Patch) (d : ℕ) : Type 0 where
  pub before : Tree
  pub now : Tree
  pub stands : CanvasStands p.grove c before
  pub again : CanvasStands q.grove d now
  pub sounds : (i : ℕ) → sounds_at i now.boxes ≡ sounds_at i before.boxes

pub opened_canvas : (p q : Patch) (t : Tree) (path : List ℕ) (c d : ℕ) → HasOpened p t q → sub_reached p.grove (Some p.grove.root) path ≡ Some c
    → reached q.grove (Some q.grove.root) path ≡ Some d → OpenedCanvas p c q d
opened_canvas p q t path c d o at there =
    let l = leads_now p.grove p.web p.numbers.items path p.grove.root c t o.made (root_stands p.grove t.sheet t.boxes o.stands) at in
    let v = canvas_led q.grove d (reached q.grove (Some q.grove.root) path) _ (path_leads q.grove path q.grove.root (now_of p t)
    (root_stands q.grove (now_of p t).sheet (now_of p t).boxes o.again)) there in
    let same : v.0 ≡ canvas_now p.grove p.web p.numbers.items c l.canvas = same_Some v.0 (canvas_now p.grove p.web p.numbers.items c l.canvas) (sym v.1 ∙ l.told) in
    record {
      before = l.canvas;
      now = v.0;
      stands = l.stands;
      again = v.2;
      sounds = λ i. ap (λ (x : Tree). sounds_at i x.boxes) same
          ∙ sounds_stay p.web p.numbers.items (get p.grove.nodes) (get p.grove.boards) (keys_at p.grove c) l.canvas.boxes i l.made;
    }

canvas_sounds : (g : Grove) (c : ℕ) (u : Tree) (i k : ℕ) → CanvasStands g c u → slice_get (keys_at g c) i ≡ Some k → is_signal_node (get g.nodes k) ≡ sounds_at i u.boxes
canvas_sounds g c u i k C e =
    stands_sound (get g.nodes) (get g.boards) c C.depth C.keys u.boxes i k C.stands (ap (λ (x : List ℕ). slice_get x i) (sym (seen_keys (get g.boards c) _ C.board)) ∙ e)

pub matches : (p q : Patch) (c d : ℕ) → CanRewire p → CanRewire q → HaveSameWires p c q d → OpenedCanvas p c q d
    → Match p.grove p.web p.numbers.items (keys_at p.grove c) q.grove q.web q.numbers.items (keys_at q.grove d)
matches p q c d r s w o = record {
  numbered = r.numbers c;
  numbered2 = s.numbers d;
  boxes = w.ports;
  wires = w.wires;
  inside = stays_among p c r;
  inside2 = stays_among q d s;
  sounds = λ i k j e f. canvas_sounds q.grove d o.now i j o.again f ∙ o.sounds i ∙ sym (canvas_sounds p.grove c o.before i k o.stands e);
}

-- a canvas that lives has its order
has_chain : (g : Grove) (w : Web) (b : Option Board) (x : BoardSeen) (o : Option Listing) → option_map board_seen b ≡ Some x → HasOrder g w b o
    → IsOrder (graph_of (keys_in b) (signal_wires_among w (signal_among g (keys_in b)))) (signal_among g (keys_in b)) (chain_by o) (stuck_by o)
has_chain g w None x o e h = absurd (none-some x e)
has_chain g w (Some b) x None e h = absurd h
has_chain g w (Some b) x (Some o) e h = h

abbrev IsOrderOf : Patch → ℕ → List ℕ → List ℕ → Type 0
IsOrderOf p c chain stuck =
    IsOrder (graph_of (keys_at p.grove c) (signal_wires_among p.web (signal_among p.grove (keys_at p.grove c)))) (signal_among p.grove (keys_at p.grove c)) chain stuck

chain_of : (p : Patch) (c : ℕ) (u : Tree) → CanRewire p → CanvasStands p.grove c u → IsOrderOf p c (chain_in p c) (stuck_in p c)
chain_of p c u r C = has_chain p.grove p.web (get p.grove.boards c) _ (order_in p.orders.items c) C.board (r.orders c)

-- a canvas has one order
one_chain : (p : Patch) (c : ℕ) (C S D U : List ℕ) → CanRewire p → IsOrderOf p c C S → IsOrderOf p c D U → (C ≡ D) × (S ≡ U)
one_chain p c C S D U r a b =
    let W = wired_parts p r in
    one_order (canvas_graph p.grove p.links c) (signal_boxes p.grove c) (canvas_lawful p.grove p.web p.links W c) C S D U
    (order_by_links p.grove p.web p.links W c C S a) (order_by_links p.grove p.web p.links W c D U b)

listed_there : (p : Patch) (c : ℕ) (chain stuck : List ℕ) → IsOrderOf p c chain stuck → (x : ℕ) → 0 < tally x chain → 0 < tally x (signal_among p.grove (keys_at p.grove c))
listed_there p c chain stuck o x l = let r = o.rest x in omega (arith, r, l)

stuck_there : (p : Patch) (c : ℕ) (chain stuck : List ℕ) → IsOrderOf p c chain stuck → (x : ℕ) → 0 < tally x stuck → 0 < tally x (signal_among p.grove (keys_at p.grove c))
stuck_there p c chain stuck o x l = let r = o.rest x in omega (arith, r, l)

pub orders_alike : (p q : Patch) (c d : ℕ) → CanRewire p → CanRewire q → HaveSameWires p c q d → OpenedCanvas p c q d → HaveSameOrder p c q d
orders_alike p q c d r s w o =
    let N = p.numbers.items in
    let M = q.numbers.items in
    let K = keys_at p.grove c in
    let L = keys_at q.grove d in
    let m = matches p q c d r s w o in
    let a : IsOrderOf p c (chain_in p c) (stuck_in p c) = chain_of p c o.before r o.stands in
    let b : IsOrderOf q d (chain_in q d) (stuck_in q d) = chain_of q d o.now s o.again in
    let there : IsOrderOf q d (map (moved N L) (chain_in p c)) (map (moved N L) (stuck_in p c)) =
    order_moved p.grove p.web N K q.grove q.web M L m (chain_in p c) (stuck_in p c) a in
    let one = one_chain q d (chain_in q d) (stuck_in q d) (map (moved N L) (chain_in p c)) (map (moved N L) (stuck_in p c)) s b there in
    record {
      chain = ap (map (number_in M)) one.0
          ∙ numbers_kept p.grove p.web N K q.grove q.web M L m (chain_in p c) (listed_there p c (chain_in p c) (stuck_in p c) a);
      stuck = ap (map (number_in M)) one.1
          ∙ numbers_kept p.grove p.web N K q.grove q.web M L m (stuck_in p c) (stuck_there p c (chain_in p c) (stuck_in p c) a);
    }

pub opened_orders : (p q : Patch) (t : Tree) (path : List ℕ) (c d : ℕ) → HasOpened p t q → sub_reached p.grove (Some p.grove.root) path ≡ Some c
    → reached q.grove (Some q.grove.root) path ≡ Some d → HaveSameOrder p c q d
opened_orders p q t path c d o at there =
    orders_alike p q c d o.runs o.opened
    (reopened p q t path c d o.runs o.fit o.opened.numbers o.stands o.made o.wired at there)
    (opened_canvas p q t path c d o at there)
