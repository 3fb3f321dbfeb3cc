-- A patch goes on to run where a box in it got a canvas without boxes.
use Rattle.std.proofs.Common.{◌≡◌, ◌≢◌, ℕ, ◌<◌, List, [], map, replicate, Option, Some, None, refl, sym, ap, ◌∙◌, subst}
use Rattle.std.specs.Prelude.{slice_get, option_map}
use mathlib.Core.Logic.{⊎_elim}
use Rattle.std.proofs.lemmas.Bool.{cases_eq}
use Rattle.std.proofs.lemmas.Option.{none-some, same_Some}
use Rattle.slab.specs.Slab.{get}
use Rattle.pd_atom.specs.Names.{Names}
use Rattle.pd_clock.specs.declared.times.Rate.{Rate}
use Rattle.pd_object.specs.declared.kinds.Kind.TheVariants as kind
use Rattle.pd_order.specs.Graph.{IsOrder}
use Rattle.pd_order.specs.Listing.{Listing}
use Rattle.pd_links.specs.declared.links.Links.{Links}
use Rattle.pd_name.specs.Rows.{owners_of}
use Rattle.pd_chain.specs.Wires.{graph_of}
use Rattle.pd_grove.specs.declared.nodes.Node.{Node}
use Rattle.pd_grove.specs.declared.boards.Board.{Board}
use Rattle.pd_grove.specs.declared.grove.Grove.{Grove}
use Rattle.pd_grove.specs.Telling.{keys_in}
use Rattle.pd_grove.specs.Owning.{board_in}
use Rattle.pd_grove.specs.declared.ports.Side.TheVariants.{Outlets}
use Rattle.pd_grove.specs.Forest.{IsForest}
use Rattle.pd_grove.specs.Grafts.{HasCanvasMore}
use Rattle.pd_grove.proofs.OpenLemmas.{forest_opened}
use Rattle.pd_bind.specs.Owning.{root_owner}
use Rattle.pd_web.specs.declared.web.Web.{Web}
use Rattle.pd_web.specs.Canvases.{keys_at}
use Rattle.pd_web.specs.Hops.{ports_told}
use Rattle.pd_patch.specs.declared.patch.Patch.{Patch}
use Rattle.pd_patch.specs.Built.{IsBuilt, HasPorts, block_sizes}
use Rattle.pd_patch.specs.Linked.{HasLinks, StayInside}
use Rattle.pd_patch.specs.Numbers.{AreUnder}
use Rattle.pd_patch.specs.Orders.{is_signal_node, signal_among, signal_wires_among, IsChain, HasOrder, AreOrdered}
use Rattle.pd_patch.specs.Telling.{order_in}
use Rattle.pd_patch.specs.Values.{block_at, block_count}
use Rattle.pd_patch.proofs.ListingLemmas.{place_in}
use Rattle.pd_placing.specs.Room.{IsEmptyOrder}
use Rattle.pd_placing.proofs.ListLemmas.{same_passing}
use Rattle.pd_placing.proofs.PlaceLemmas.{empty_order}
use Rattle.pd_wiring.specs.Changes.{CanRewire}
use Rattle.pd_wiring.specs.Graphs.{AreWired}
use Rattle.pd_boxes.specs.Put.{CanPut}
use Rattle.pd_subpatches.proofs.OpenedLemmas.{keys_kept, owners_kept, small_kept, live_kept, none_kept, ports_kept, inside_kept_wires}

-- an order of no boxes is that of a canvas without boxes
empty_has : (g : Grove) (w : Web) (o : Option Board) (b : Board) (x : Option Listing) → o ≡ Some b → b.nodes.items ≡ [] → IsEmptyOrder x → HasOrder g w o x
empty_has g w o b x is none e = subst (λ (y : Option Board). HasOrder g w y x) (sym is) (subst (λ (ks : List ℕ). IsChain g w ks x) (sym none) (by x e))
  where
    by : (x : Option Listing) → IsEmptyOrder x → IsChain g w [] x
    by None e = absurd e
    by (Some l) e = empty_order (graph_of [] (signal_wires_among w (signal_among g []))) (Some l) e

-- the patch m before, and q after: all but the canvas and the orders stays
pub record Opens (m q : Patch) (k j : ℕ) (n : Node) (b : Board) : Type 0 where
  pub canvas : HasCanvasMore (get m.grove.nodes) (get q.grove.nodes) (get m.grove.boards) (get q.grove.boards) k j n b
  pub plain : n.kind ≡ kind.Canvas
  pub root : q.grove.root ≡ m.grove.root
  pub web : q.web ≡ m.web
  pub names : q.names ≡ m.names
  pub links : q.links ≡ m.links
  pub numbers : q.numbers ≡ m.numbers
  pub values : q.values ≡ m.values
  pub timers : q.timers ≡ m.timers
  pub rate : q.rate ≡ m.rate

module _ (m q : Patch) (k j : ℕ) (n : Node) (b : Board) (O : Opens m q k j n b) where
  pub forest_after : IsForest (get m.grove.nodes) (get m.grove.boards) m.grove.root → IsForest (get q.grove.nodes) (get q.grove.boards) q.grove.root
  forest_after F = subst (λ (r : ℕ). IsForest (get q.grove.nodes) (get q.grove.boards) r) (sym O.root)
      (forest_opened (get m.grove.nodes) (get q.grove.nodes) (get m.grove.boards) (get q.grove.boards) m.grove.root k j n b O.canvas F)

  -- what orders rest on, but for the orders
  pub wired_after : IsForest (get m.grove.nodes) (get m.grove.boards) m.grove.root → CanRewire m → AreWired q.grove q.web q.links
  wired_after F R = record {
    own = (forest_after F).own;
    ports = (subst (λ (w : Web). HasPorts q.grove w) (sym O.web) (ports_kept m.grove q.grove k j n b O.canvas O.plain m.web R.ports)).ports;
    inside = subst (λ (w : Web). StayInside q.grove w) (sym O.web) (inside_kept_wires m.grove q.grove k j n b O.canvas m.web R.inside);
    linked = subst (λ (w : Web). HasLinks w q.links) (sym O.web) (subst (λ (l : Links). HasLinks m.web l) (sym O.links) R.linked);
  }

  -- the canvases around, and that of the box
  module _ (c : ℕ) (lies : n.board ≡ c) (F : IsForest (get m.grove.nodes) (get m.grove.boards) m.grove.root) (A : AreOrdered m.grove m.web m.orders.items)
      (order : HasOrder q.grove q.web (get q.grove.boards c) (order_in q.orders.items c)) (own : IsEmptyOrder (order_in q.orders.items j))
      (others : (d : ℕ) → d ≢ c → d ≢ j → order_in q.orders.items d ≡ order_in m.orders.items d) where
    -- of another canvas the same boxes carry signals
    signals_kept : (d : ℕ) → d ≢ c → signal_among q.grove (keys_at m.grove d) ≡ signal_among m.grove (keys_at m.grove d)
    signals_kept d f = same_passing (λ x. is_signal_node (get m.grove.nodes x)) (λ x. is_signal_node (get q.grove.nodes x)) (keys_at m.grove d) (λ x t.
        let at = place_in x (keys_at m.grove d) t in
        ap is_signal_node (O.canvas.others x (λ e. f (same_Some d c (sym (F.own.home d at.0 x at.1) ∙ ap (λ y. board_in (get m.grove.nodes y)) e ∙ ap board_in O.canvas.was ∙ ap (λ y. Some y) lies)))))

    chain_kept : (d : ℕ) → d ≢ c → d ≢ j → (o : Option Board) → get m.grove.boards d ≡ o → (x : Option Listing) → HasOrder m.grove m.web o x → HasOrder q.grove q.web o x
    chain_kept d f g None e x h = h
    chain_kept d f g (Some y) e None h = h
    chain_kept d f g (Some y) e (Some x) h =
        let keys : keys_at m.grove d ≡ y.nodes.items = ap keys_in e in
        let same : signal_among q.grove y.nodes.items ≡ signal_among m.grove y.nodes.items = ap (signal_among q.grove) (sym keys) ∙ signals_kept d f ∙ ap (signal_among m.grove) keys in
        subst (λ (w : Web). IsOrder (graph_of y.nodes.items (signal_wires_among w (signal_among q.grove y.nodes.items))) (signal_among q.grove y.nodes.items) x.chain x.stuck) (sym O.web)
        (subst (λ (ks : List ℕ). IsOrder (graph_of y.nodes.items (signal_wires_among m.web ks)) ks x.chain x.stuck) (sym same) h)

    ordered_after : AreOrdered q.grove q.web q.orders.items
    ordered_after d = ⊎_elim
        (λ (e : d ≡ c). subst (λ x. HasOrder q.grove q.web (get q.grove.boards x) (order_in q.orders.items x)) (sym e) order)
        (λ (f : d ≢ c). ⊎_elim
        (λ (e : d ≡ j). subst (λ x. HasOrder q.grove q.web (get q.grove.boards x) (order_in q.orders.items x)) (sym e)
        (empty_has q.grove q.web (get q.grove.boards j) b (order_in q.orders.items j) O.canvas.opened O.canvas.empty own))
        (λ (g : d ≢ j). subst (λ (o : Option Board). HasOrder q.grove q.web o (order_in q.orders.items d)) (sym (O.canvas.stay d g))
        (subst (λ (x : Option Listing). HasOrder q.grove q.web (get m.grove.boards d) x) (sym (others d f g)) (chain_kept d f g (get m.grove.boards d) refl (order_in m.orders.items d) (A d))))
        (cases_eq d j))
        (cases_eq d c)

    numbered_after : ((d : ℕ) → AreUnder m.numbers.items (keys_at m.grove d)) → (d : ℕ) → AreUnder q.numbers.items (keys_at q.grove d)
    numbered_after N d i x at = ap (λ ns. slice_get ns.items x) O.numbers ∙ N d i x (sym (ap (λ (ks : List ℕ). slice_get ks i) (keys_kept m.grove q.grove k j n b O.canvas d)) ∙ at)

    rewires_after : CanRewire m → CanRewire q
    rewires_after R = record {
      own = (forest_after F).own;
      ports = subst (λ (w : Web). HasPorts q.grove w) (sym O.web) (ports_kept m.grove q.grove k j n b O.canvas O.plain m.web R.ports);
      inside = (wired_after F R).inside;
      linked = (wired_after F R).linked;
      orders = ordered_after;
      numbers = numbered_after R.numbers;
    }

    apart_after : get m.grove.nodes root_owner ≡ None → get q.grove.nodes root_owner ≡ None
    apart_after apart = O.canvas.others root_owner (λ e. none-some n (sym apart ∙ ap (get m.grove.nodes) e ∙ O.canvas.was)) ∙ apart

    pub can_after : CanPut m → CanPut q
    can_after P = record {
      forest = forest_after P.forest;
      small = small_kept m.grove q.grove k j n b O.canvas P.small;
      apart = apart_after P.apart;
      runs = rewires_after P.runs;
    }

    pub built_after : (table : Names) (file : List ℕ) (rate : Rate) → IsBuilt m table file rate → IsBuilt q table file rate
    built_after table file rate B =
        let R = rewires_after (record { own = B.own; ports = B.ports; inside = B.inside; linked = B.linked; orders = B.orders; numbers = B.numbers }) in
        let live = live_kept m.grove q.grove k j n b O.canvas in
        record {
          own = R.own;
          keys = λ l h. B.keys l (live l h);
          ports = R.ports;
          owners = λ class name. ap (λ ns. owners_of ns class name) O.names ∙ B.owners class name ∙ sym (owners_kept m.grove q.grove k j n b O.canvas O.root table file class name);
          apart = apart_after B.apart;
          inside = R.inside;
          linked = R.linked;
          orders = R.orders;
          numbers = R.numbers;
          blocks = λ l h. ap (λ vs. option_map block_sizes (slice_get (map (λ b. b.items) vs.items) l)) O.values ∙ B.blocks l (live l h)
              ∙ ap (λ (w : Web). Some (replicate (block_count (ports_told w Outlets l)) 64)) (sym O.web);
          no_others = λ l outlet none. ap (λ vs. block_at (map (λ b. b.items) vs.items) l outlet) O.values ∙ B.no_others l outlet (none_kept m.grove q.grove k j n b O.canvas l none);
          room = λ l h. subst (λ t. l < t.end) (sym O.timers) (B.room l (live l h));
          same_rate = O.rate ∙ B.same_rate;
        }
