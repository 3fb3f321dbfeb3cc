-- Orders of canvases where a wire came or went.
use Rattle.std.proofs.Common.{arith, ◌≡◌, ◌≢◌, ℕ, ◌<◌, ◌==◌, true, List, refl, sym, ap, ◌∙◌, subst, inl, inr}
use Rattle.std.specs.Prelude.{Option, Some, None, slice_get}
use Rattle.std.proofs.lemmas.Bool.{cases_eq}
use Rattle.std.proofs.lemmas.Option.{none-some, same_Some}
use Rattle.slab.specs.Slab.{get}
use Rattle.pd_order.specs.Graph.{Graph, tally, IsLawful, IsOrder, cut_wire, add_wire}
use Rattle.pd_order.specs.Listing.{Listing, IsListed}
use Rattle.pd_order.specs.Spots.{nodes_of}
use Rattle.pd_order.proofs.Basics.{same_node, other_test}
use Rattle.pd_order.proofs.SameLemmas.{same_order}
use Rattle.pd_chain.specs.declared.graph.SignalWire.{SignalWire}
use Rattle.pd_links.specs.declared.links.Links.{Links}
use Rattle.pd_links.specs.Linked.{feeders_of, HasOneMore}
use Rattle.pd_links.proofs.LinkLemmas.{taken, wire_there}
use Rattle.pd_grove.specs.declared.boards.Board.{Board}
use Rattle.pd_grove.specs.declared.grove.Grove.{Grove}
use Rattle.pd_grove.specs.Owning.{AreOwn, board_in}
use Rattle.pd_grove.specs.Labelled.{label_of}
use Rattle.pd_grove.specs.Telling.{keys_in}
use Rattle.pd_web.specs.Canvases.{keys_at}
use Rattle.pd_patch.specs.Linked.{ShareCanvas}
use Rattle.pd_patch.specs.Listing.{IsThere}
use Rattle.pd_patch.specs.Telling.{order_in}
use Rattle.pd_wiring.specs.declared.mend.Change.{Change}
use Rattle.pd_wiring.specs.declared.mend.Change.TheVariants.{Came, Went}
use Rattle.pd_wiring.specs.Graphs.{lies_in, signal_boxes, canvas_graph, graph_before, IsOrderIn, HasOrderBy, AreOrderedBy}
use Rattle.pd_wiring.proofs.GraphLemmas.{signal_lies, one_canvas}

-- the spots of an order have its nodes
pub spots_are : (g : Graph) (nodes : List ℕ) (o : Listing) → IsOrder g nodes o.chain o.stuck → IsListed o.chain o.stuck o.spots → (x : ℕ) → tally x nodes ≡ tally x (nodes_of o.spots)
spots_are g nodes o order listed x = sym (order.rest x) ∙ listed.listed x

-- a graph is lawful for nodes in any order
pub lawful_nodes : (g : Graph) (ns ms : List ℕ) → ((x : ℕ) → tally x ns ≡ tally x ms) → IsLawful g ns → IsLawful g ms
lawful_nodes g ns ms e h = record {
  once = λ x. let a = h.once x in let b = e x in omega (arith, a, b);
  apart = λ x y p q r. let a = e x in let b = e y in h.apart x y (omega (arith, a, p)) (omega (arith, b, q)) r;
  joined = h.joined;
  sources = λ x u p. let a = h.sources x u p in let b = e u in omega (arith, a, b);
  sinks = λ x u p. let a = h.sinks x u p in let b = e x in omega (arith, a, b);
  few = h.few;
}

pub there_nodes : (ns ms : List ℕ) (x : ℕ) → ((y : ℕ) → tally y ns ≡ tally y ms) → 0 < tally x ns → 0 < tally x ms
there_nodes ns ms x e h = let a = e x in omega (arith, a, h)

rank_kept : (g : Grove) (x y : ℕ) → (label_of g x < label_of g y → label_of g x < label_of g y) × (label_of g x < label_of g y → label_of g x < label_of g y)
rank_kept g x y = (λ h. h, λ h. h)

module _ (g : Grove) (own : AreOwn (get g.nodes) (get g.boards)) where
  -- before a wire came into the links, the order of each canvas is one without it
  came_before : (l m : Links) (v : SignalWire) (c : ℕ) (chain stuck : List ℕ) → HasOneMore l m v.source v.sink → IsOrder (canvas_graph g l c) (signal_boxes g c) chain stuck
      → IsOrder (cut_wire (canvas_graph g m c) v.source v.sink) (signal_boxes g c) chain stuck
  came_before l m v c chain stuck h o = same_order (canvas_graph g l c) (cut_wire (canvas_graph g m c) v.source v.sink) (signal_boxes g c) (signal_boxes g c) chain stuck
      (record {
        ranks = λ x y _ _. rank_kept g x y;
        feeders = λ x u at. let lies : lies_in g c x ≡ true = signal_lies g c x own at in
            rw lies (taken v.source u (feeders_of m x) (feeders_of l x) (x == v.sink) (h.feeders x u)
            (λ e. subst (λ (y : ℕ). 0 < tally v.source (feeders_of m y)) (sym (same_node x v.sink e)) (wire_there l m v.source v.sink h)));
      }) (λ x. refl) o

  -- before a wire went out of the links, the order of each canvas is one with it
  went_before : (l m : Links) (v : SignalWire) (c : ℕ) (chain stuck : List ℕ) → HasOneMore l m v.source v.sink → IsOrder (canvas_graph g m c) (signal_boxes g c) chain stuck
      → IsOrder (add_wire (canvas_graph g l c) v.source v.sink) (signal_boxes g c) chain stuck
  went_before l m v c chain stuck h o = same_order (canvas_graph g m c) (add_wire (canvas_graph g l c) v.source v.sink) (signal_boxes g c) (signal_boxes g c) chain stuck
      (record {
        ranks = λ x y _ _. rank_kept g x y;
        feeders = λ x u at. let lies : lies_in g c x ≡ true = signal_lies g c x own at in rw lies (h.feeders x u);
      }) (λ x. refl) o

  came_in : (l m : Links) (v : SignalWire) (c : ℕ) (b : Option Board) (o : Option Listing) → HasOneMore l m v.source v.sink → HasOrderBy (canvas_graph g l c) (signal_boxes g c) b o
      → HasOrderBy (graph_before Came (canvas_graph g m c) v) (signal_boxes g c) b o
  came_in l m v c None o h k = k
  came_in l m v c (Some b) None h k = k
  came_in l m v c (Some b) (Some o) h k = came_before l m v c o.chain o.stuck h k

  went_out : (l m : Links) (v : SignalWire) (c : ℕ) (b : Option Board) (o : Option Listing) → HasOneMore l m v.source v.sink → HasOrderBy (canvas_graph g m c) (signal_boxes g c) b o
      → HasOrderBy (graph_before Went (canvas_graph g l c) v) (signal_boxes g c) b o
  went_out l m v c None o h k = k
  went_out l m v c (Some b) None h k = k
  went_out l m v c (Some b) (Some o) h k = went_before l m v c o.chain o.stuck h k

  -- the orders of all canvases, before the wire
  pub all_came : (l m : Links) (v : SignalWire) (orders : List (Option Listing)) → HasOneMore l m v.source v.sink → AreOrderedBy g l orders
      → (c : ℕ) → HasOrderBy (graph_before Came (canvas_graph g m c) v) (signal_boxes g c) (get g.boards c) (order_in orders c)
  all_came l m v orders h k c = came_in l m v c (get g.boards c) (order_in orders c) h (k c)

  pub all_went : (l m : Links) (v : SignalWire) (orders : List (Option Listing)) → HasOneMore l m v.source v.sink → AreOrderedBy g m orders
      → (c : ℕ) → HasOrderBy (graph_before Went (canvas_graph g l c) v) (signal_boxes g c) (get g.boards c) (order_in orders c)
  all_went l m v orders h k c = went_out l m v c (get g.boards c) (order_in orders c) h (k c)

  -- a wire of one canvas is none to another
  other_fed : (change : Change) (l : Links) (v : SignalWire) (x u : ℕ) (d : ℕ) → (x ≡ v.sink → ⊥) → tally u ((graph_before change (canvas_graph g l d) v).feeders x) ≡ tally u ((canvas_graph g l d).feeders x)
  other_fed Came l v x u d differ = rw (other_test x v.sink differ) refl
  other_fed Went l v x u d differ = rw (other_test x v.sink differ) refl

  rank_before : (change : Change) (l : Links) (v : SignalWire) (d x y : ℕ)
      → ((graph_before change (canvas_graph g l d) v).rank x < (graph_before change (canvas_graph g l d) v).rank y → (canvas_graph g l d).rank x < (canvas_graph g l d).rank y)
      × ((canvas_graph g l d).rank x < (canvas_graph g l d).rank y → (graph_before change (canvas_graph g l d) v).rank x < (graph_before change (canvas_graph g l d) v).rank y)
  rank_before Came l v d x y = (λ h. h, λ h. h)
  rank_before Went l v d x y = (λ h. h, λ h. h)

  pub other_stays : (change : Change) (l : Links) (v : SignalWire) (c d : ℕ) (o : Option Listing) → IsThere (keys_at g c) v.sink → d ≢ c
      → IsOrderIn (graph_before change (canvas_graph g l d) v) (signal_boxes g d) o → IsOrderIn (canvas_graph g l d) (signal_boxes g d) o
  other_stays change l v c d None at differ h = h
  other_stays change l v c d (Some o) at differ h = same_order (graph_before change (canvas_graph g l d) v) (canvas_graph g l d) (signal_boxes g d) (signal_boxes g d) o.chain o.stuck
      (record {
        ranks = λ x y _ _. rank_before change l v d x y;
        feeders = λ x u here. other_fed change l v x u d
            (λ (e : x ≡ v.sink). differ (sym (one_canvas g d c v.sink own (subst (λ (y : ℕ). lies_in g d y ≡ true) e (signal_lies g d x own here)) at)));
      }) (λ x. refl) h

  here : (c : ℕ) (l : Links) (b : Option Board) (o : Option Listing) → (b ≡ None → ⊥) → IsOrderIn (canvas_graph g l c) (signal_boxes g c) o → HasOrderBy (canvas_graph g l c) (signal_boxes g c) b o
  here c l None o n k = absurd (n refl)
  here c l (Some b) o n k = k

  away : (change : Change) (l : Links) (v : SignalWire) (c d : ℕ) (b : Option Board) (o p : Option Listing) → IsThere (keys_at g c) v.sink → d ≢ c → p ≡ o
      → HasOrderBy (graph_before change (canvas_graph g l d) v) (signal_boxes g d) b o → HasOrderBy (canvas_graph g l d) (signal_boxes g d) b p
  away change l v c d None o p at differ e k = e ∙ k
  away change l v c d (Some b) o p at differ e k = subst (IsOrderIn (canvas_graph g l d) (signal_boxes g d)) (sym e) (other_stays change l v c d o at differ k)

  -- a canvas with a box lives
  pub canvas_lives : (c k : ℕ) → IsThere (keys_at g c) k → get g.boards c ≡ None → ⊥
  canvas_lives c k at none = none-some k (sym (ap (λ (b : Option Board). slice_get (keys_in b) at.0) none) ∙ at.1)

  -- once the canvas of the wire is mended, each canvas has its order
  pub each_mended : (change : Change) (l : Links) (v : SignalWire) (c : ℕ) (old new : List (Option Listing)) → IsThere (keys_at g c) v.sink
      → ((d : ℕ) → HasOrderBy (graph_before change (canvas_graph g l d) v) (signal_boxes g d) (get g.boards d) (order_in old d))
      → IsOrderIn (canvas_graph g l c) (signal_boxes g c) (order_in new c) → ((d : ℕ) → d ≢ c → order_in new d ≡ order_in old d) → AreOrderedBy g l new
  each_mended change l v c old new at was mended others d = elim (cases_eq d c) [
    | inl same ↦
        subst (λ (k : ℕ). HasOrderBy (canvas_graph g l k) (signal_boxes g k) (get g.boards k) (order_in new k)) (sym same) (here c l (get g.boards c) (order_in new c) (canvas_lives c v.sink at) mended)
    | inr differ ↦ away change l v c d (get g.boards d) (order_in old d) (order_in new d) at differ (others d differ) (was d)
  ]

  before_in : (change : Change) (l : Links) (v : SignalWire) (c : ℕ) (b : Option Board) (o : Option Listing) → (b ≡ None → ⊥)
      → HasOrderBy (graph_before change (canvas_graph g l c) v) (signal_boxes g c) b o → IsOrderIn (graph_before change (canvas_graph g l c) v) (signal_boxes g c) o
  before_in change l v c None o n k = absurd (n refl)
  before_in change l v c (Some b) o n k = k

  -- the order that is to be mended
  pub order_before : (change : Change) (l : Links) (v : SignalWire) (c : ℕ) (orders : List (Option Listing)) → IsThere (keys_at g c) v.sink
      → ((d : ℕ) → HasOrderBy (graph_before change (canvas_graph g l d) v) (signal_boxes g d) (get g.boards d) (order_in orders d))
      → IsOrderIn (graph_before change (canvas_graph g l c) v) (signal_boxes g c) (order_in orders c)
  order_before change l v c orders at was = before_in change l v c (get g.boards c) (order_in orders c) (canvas_lives c v.sink at) (was c)

  -- the canvas of a box is the one that it shares
  pub canvas_is : (k j : ℕ) (o : Option ℕ) (c : ℕ) (T : ShareCanvas g k j) → o ≡ board_in (get g.nodes k) → o ≡ Some c → c ≡ T.canvas
  canvas_is k j o c T told is = same_Some c T.canvas (sym is ∙ told ∙ own.home T.canvas T.one.0 k T.one.1)

  pub sink_there : (k j : ℕ) (o : Option ℕ) (c : ℕ) (T : ShareCanvas g k j) → o ≡ board_in (get g.nodes k) → o ≡ Some c → IsThere (keys_at g c) j
  sink_there k j o c T told is = subst (λ (x : ℕ). IsThere (keys_at g x) j) (sym (canvas_is k j o c T told is)) T.other

  pub no_canvas : (k j : ℕ) (o : Option ℕ) → ShareCanvas g k j → o ≡ board_in (get g.nodes k) → o ≡ None → ⊥
  no_canvas k j o T told none = none-some T.canvas (sym none ∙ told ∙ own.home T.canvas T.one.0 k T.one.1)
