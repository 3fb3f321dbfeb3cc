-- The order of one canvas, by links and by wires, and where wires came elsewhere.
use Rattle.std.proofs.Common.{◌≡◌, ℕ, zero, suc, Bool, true, false, cond, List, [], ◌∷◌, ◌++◌, map, filter, length, Option, Some, None, IsSome, refl, sym, ap, ◌∙◌, subst}
use Rattle.std.specs.Prelude.{slice_get, if◌then◌else◌}
use Rattle.std.specs.List.{flat_map}
use Rattle.slab.specs.Slab.{get}
use Rattle.pd_order.specs.Graph.{IsOrder}
use Rattle.pd_order.specs.Listing.{Listing}
use Rattle.pd_chain.specs.declared.graph.SignalWire.{SignalWire}
use Rattle.pd_chain.specs.Wires.{graph_of}
use Rattle.pd_links.specs.declared.links.Links.{Links}
use Rattle.pd_grove.specs.declared.boards.Board.{Board}
use Rattle.pd_grove.specs.declared.grove.Grove.{Grove}
use Rattle.pd_grove.specs.declared.ports.Side.TheVariants.{Inlets, Outlets}
use Rattle.pd_grove.specs.Telling.{keys_in}
use Rattle.pd_web.specs.declared.jacks.Jack.{Jack}
use Rattle.pd_web.specs.declared.web.Hop.{Hop}
use Rattle.pd_web.specs.declared.web.Web.{Web}
use Rattle.pd_web.specs.Changes.{KeepsPorts}
use Rattle.pd_web.specs.Hops.{fan_hops, jack_told, ports_told, signal_in}
use Rattle.pd_patch.specs.Orders.{box_wires, is_heard, is_signal_node, signal_among, signal_wires_among, wires_below, wires_by, wires_from, HasOrder}
use Rattle.pd_wiring.specs.Graphs.{canvas_graph, signal_boxes, AreWired, IsOrderIn, HasOrderBy}
use Rattle.pd_wiring.proofs.GraphLemmas.{order_by_wires}

same_functions : {A B : Type 0} (f g : A → B) → ((x : A) → f x ≡ g x) → f ≡ g
same_functions f g h = λ i x. h x i

-- by links, and so by wires
module _ (g : Grove) (w : Web) (l : Links) (W : AreWired g w l) where
  wired_by : (c : ℕ) (b : Option Board) (o : Option Listing) → b ≡ get g.boards c → HasOrderBy (canvas_graph g l c) (signal_boxes g c) b o → HasOrder g w b o
  wired_by c None o e h = h
  wired_by c (Some b) None e h = h
  wired_by c (Some b) (Some o) e h =
      let keys : b.nodes.items ≡ keys_in (get g.boards c) = ap keys_in e in
      subst (λ (ks : List ℕ). IsOrder (graph_of ks (signal_wires_among w (signal_among g ks))) (signal_among g ks) o.chain o.stuck) (sym keys) (order_by_wires g w l W c o.chain o.stuck h)

  pub one_by_wires : (c : ℕ) (o : Option Listing) → HasOrderBy (canvas_graph g l c) (signal_boxes g c) (get g.boards c) o → HasOrder g w (get g.boards c) o
  one_by_wires c o h = wired_by c (get g.boards c) o refl h

  pub live_by_wires : (c : ℕ) (o : Option Listing) → IsSome (get g.boards c) → IsOrderIn (canvas_graph g l c) (signal_boxes g c) o → HasOrder g w (get g.boards c) o
  live_by_wires c o live h = by (get g.boards c) refl live
    where
      by : (b : Option Board) → b ≡ get g.boards c → IsSome b → HasOrder g w b o
      by None e live = absurd (cc)
      by (Some b) e live = wired_by c (Some b) o e h

-- Where some boxes have the wires that they had.

module _ (w v : Web) (K : KeepsPorts w v) where
  jack_kept : (k i : ℕ) → signal_in (jack_told v Outlets k i) ≡ signal_in (jack_told w Outlets k i)
  jack_kept k i = ap (λ (js : List Jack). signal_in (slice_get js i)) (K.ports Outlets k)

  heard_kept : is_heard v ≡ is_heard w
  heard_kept = same_functions (is_heard v) (is_heard w) (λ h. ap (λ (js : List Jack). signal_in (slice_get js h.port)) (K.ports Inlets h.node))

  module _ (k : ℕ) (same : (o : ℕ) → fan_hops v k o ≡ fan_hops w k o) where
    from_kept : (o : ℕ) → wires_from v k o ≡ wires_from w k o
    from_kept o =
        ap (λ b. if b then wires_by v k (fan_hops v k o) else []) (jack_kept k o)
        ∙ ap (λ hs. if signal_in (jack_told w Outlets k o) then wires_by v k hs else []) (same o)
        ∙ ap (λ (f : Hop → Bool). if signal_in (jack_told w Outlets k o) then map (λ (h : Hop). record { source = k; sink = h.node }) (filter f (fan_hops w k o)) else []) heard_kept

    below_kept : (n : ℕ) → wires_below v k n ≡ wires_below w k n
    below_kept zero = refl
    below_kept (suc n) = ap (λ ws. ws ++ wires_from v k n) (below_kept n) ∙ ap (λ ws. wires_below w k n ++ ws) (from_kept n)

    pub wires_kept : box_wires v k ≡ box_wires w k
    wires_kept = ap (λ (js : List Jack). wires_below v k (length js)) (K.ports Outlets k) ∙ below_kept (length (ports_told w Outlets k))

-- Where the boxes of a canvas have the signal wires that they had, and as many of them are signal boxes, it has the order that it had.

module _ (g h : Grove) (w v : Web) where
  signals_kept : (ks : List ℕ) → ((i k : ℕ) → slice_get ks i ≡ Some k → is_signal_node (get h.nodes k) ≡ is_signal_node (get g.nodes k)) → signal_among h ks ≡ signal_among g ks
  signals_kept [] same = refl
  signals_kept (k ∷ ks) same =
      ap (λ b. cond b (k ∷ signal_among h ks) (signal_among h ks)) (same zero k refl)
      ∙ ap (λ (ys : List ℕ). cond (is_signal_node (get g.nodes k)) (k ∷ ys) ys) (signals_kept ks (λ i x at. same (suc i) x at))

  among_kept : (ks : List ℕ) → ((i k : ℕ) → slice_get ks i ≡ Some k → box_wires v k ≡ box_wires w k) → signal_wires_among v (signal_among g ks) ≡ signal_wires_among w (signal_among g ks)
  among_kept [] same = refl
  among_kept (k ∷ ks) same = by (is_signal_node (get g.nodes k)) (same zero k refl) (among_kept ks (λ i x at. same (suc i) x at))
    where
      by : (b : Bool) → box_wires v k ≡ box_wires w k → signal_wires_among v (signal_among g ks) ≡ signal_wires_among w (signal_among g ks)
          → flat_map (box_wires v) (cond b (k ∷ signal_among g ks) (signal_among g ks)) ≡ flat_map (box_wires w) (cond b (k ∷ signal_among g ks) (signal_among g ks))
      by true e r = ap (λ ws. ws ++ signal_wires_among v (signal_among g ks)) e ∙ ap (λ ws. box_wires w k ++ ws) r
      by false e r = r

  pub order_kept : (b : Option Board) (o : Option Listing) → ((i k : ℕ) → slice_get (keys_in b) i ≡ Some k → is_signal_node (get h.nodes k) ≡ is_signal_node (get g.nodes k))
      → ((i k : ℕ) → slice_get (keys_in b) i ≡ Some k → box_wires v k ≡ box_wires w k) → HasOrder g w b o → HasOrder h v b o
  order_kept None o signal wires x = x
  order_kept (Some b) None signal wires x = x
  order_kept (Some b) (Some o) signal wires x =
      let ks = b.nodes.items in
      let same : signal_among h ks ≡ signal_among g ks = signals_kept ks signal in
      subst (λ (ss : List ℕ). IsOrder (graph_of ks (signal_wires_among v ss)) ss o.chain o.stuck) (sym same)
      (subst (λ (ws : List SignalWire). IsOrder (graph_of ks ws) (signal_among g ks) o.chain o.stuck) (sym (among_kept ks wires)) x)
