-- What an edit of wires asks, of patches that are alike but for what boxes keep.
use Rattle.std.proofs.Common.{◌≡◌, ℕ, List, [], ◌∷◌, map, filter, refl, sym, ap, ◌∙◌, subst}
use Rattle.std.specs.Prelude.{Option, Some, None, option_map, slice_get, is_some, IsSome}
use Rattle.std.specs.List.{AllByRecursion}
use Rattle.slab.specs.Slab.{Slab, get}
use Rattle.pd_order.specs.Graph.{IsOrder}
use Rattle.pd_order.specs.Listing.{Listing}
use Rattle.pd_order.proofs.Basics.{by_test}
use Rattle.pd_chain.specs.Wires.{graph_of}
use Rattle.pd_grove.specs.declared.boards.Board.{Board}
use Rattle.pd_grove.specs.declared.grove.Grove.{Grove}
use Rattle.pd_grove.specs.declared.nodes.Node.{Node}
use Rattle.pd_grove.specs.declared.ports.PortSpot.{PortSpot}
use Rattle.pd_grove.specs.declared.ports.Side.{Side}
use Rattle.pd_grove.specs.Owning.{AreOwn, board_in}
use Rattle.pd_grove.specs.Ports.{spot_at, node_spot, with_spot, ports_among}
use Rattle.pd_grove.specs.Telling.{keys_in, with_state}
use Rattle.pd_web.specs.declared.jacks.Jack.{Jack}
use Rattle.pd_web.specs.declared.web.Hop.{Hop}
use Rattle.pd_web.specs.declared.web.Web.{Web}
use Rattle.pd_web.specs.Canvases.{keys_at}
use Rattle.pd_web.specs.Homes.{IsPortOf, inner_in}
use Rattle.pd_web.specs.Hops.{fan_hops, port_told}
use Rattle.pd_web.specs.Jacks.{spot_jack, jacks_in, jacks_at, made_in}
use Rattle.pd_patch.specs.declared.patch.Patch.{Patch}
use Rattle.pd_patch.specs.Built.{HasPorts}
use Rattle.pd_patch.specs.Linked.{HasLinks, StayInside, ShareCanvas}
use Rattle.pd_patch.specs.Orders.{is_signal_node, signal_among, signal_wires_among, HasOrder, AreOrdered}
use Rattle.pd_patch.specs.Telling.{order_in}
use Rattle.pd_wiring.specs.Changes.{CanRewire, AreAlike}

-- what doesn't ask for the state is the same of boxes that are alike but for it
alike_by : {X : Type 0} (f : Option Node → X) → ((o : Option Node) → f (option_map (with_state None) o) ≡ f o) → (a b : Option Node) → option_map (with_state None) a ≡ option_map (with_state None) b → f a ≡ f b
alike_by f h a b e = sym (h a) ∙ ap f e ∙ h b

board_bare : (o : Option Node) → board_in (option_map (with_state None) o) ≡ board_in o
board_bare None = refl
board_bare (Some n) = refl

made_bare : (o : Option Node) → made_in (option_map (with_state None) o) ≡ made_in o
made_bare None = refl
made_bare (Some n) = refl

signal_bare : (o : Option Node) → is_signal_node (option_map (with_state None) o) ≡ is_signal_node o
signal_bare None = refl
signal_bare (Some n) = refl

abbrev spot_by_node : Side → ℕ → Option Node → Option PortSpot
spot_by_node side k None = None
spot_by_node side k (Some n) = node_spot side k n

spot_bare : (side : Side) (k : ℕ) (o : Option Node) → spot_by_node side k (option_map (with_state None) o) ≡ spot_by_node side k o
spot_bare side k None = refl
spot_bare side k (Some n) = refl

jacks_bare : (side : Side) (g : Grove) (o : Option Node) → jacks_in side g (option_map (with_state None) o) ≡ jacks_in side g o
jacks_bare side g None = refl
jacks_bare side g (Some n) = refl

all_of : {X : Type 0} (P Q : X → Type 0) → ((x : X) → P x → Q x) → (xs : List X) → AllByRecursion P xs → AllByRecursion Q xs
all_of P Q f [] h = tt
all_of P Q f (x ∷ xs) h = (f x h.0, all_of P Q f xs h.1)

module _ (g h : Grove) (nodes : (k : ℕ) → option_map (with_state None) (get h.nodes k) ≡ option_map (with_state None) (get g.nodes k)) (boards : h.boards ≡ g.boards) where
  keys_alike : (c : ℕ) → keys_at h c ≡ keys_at g c
  keys_alike c = rw boards refl

  pub own_alike : AreOwn (get g.nodes) (get g.boards) → AreOwn (get h.nodes) (get h.boards)
  own_alike O = record {
    home = λ c i k e. alike_by board_in board_bare (get h.nodes k) (get g.nodes k) (nodes k) ∙ O.home c i k (subst (λ (ks : List ℕ). slice_get ks i ≡ Some k) (keys_alike c) e);
    once = λ c i j k a b. O.once c i j k (subst (λ (ks : List ℕ). slice_get ks i ≡ Some k) (keys_alike c) a) (subst (λ (ks : List ℕ). slice_get ks j ≡ Some k) (keys_alike c) b);
  }

  spot_told : (side : Side) (k : ℕ) (a b : Option Node) → spot_by_node side k a ≡ spot_by_node side k b → spot_at side (λ _. a) k ≡ spot_at side (λ _. b) k
  spot_told side k None None e = refl
  spot_told side k None (Some n) e = e
  spot_told side k (Some m) None e = e
  spot_told side k (Some m) (Some n) e = e

  spot_alike : (side : Side) (k : ℕ) → spot_at side (get h.nodes) k ≡ spot_at side (get g.nodes) k
  spot_alike side k = spot_told side k (get h.nodes k) (get g.nodes k) (alike_by (spot_by_node side k) (spot_bare side k) (get h.nodes k) (get g.nodes k) (nodes k))

  ports_alike : (side : Side) (ks : List ℕ) → ports_among side (get h.nodes) ks ≡ ports_among side (get g.nodes) ks
  ports_alike side [] = refl
  ports_alike side (k ∷ ks) =
      ap (λ (o : Option PortSpot). with_spot o (ports_among side (get h.nodes) ks)) (spot_alike side k) ∙ ap (λ (ps : List PortSpot). with_spot (spot_at side (get g.nodes) k) ps) (ports_alike side ks)

  held_alike : (side : Side) (c : ℕ) → map spot_jack (ports_among side (get h.nodes) (keys_at h c)) ≡ map spot_jack (ports_among side (get g.nodes) (keys_at g c))
  held_alike side c =
      ap (λ (ps : List PortSpot). map spot_jack ps) (ports_alike side (keys_at h c) ∙ ap (λ (ks : List ℕ). ports_among side (get g.nodes) ks) (keys_alike c))

  jacks_by_grove : (side : Side) (o : Option Node) → jacks_in side h o ≡ jacks_in side g o
  jacks_by_grove side None = refl
  jacks_by_grove side (Some n) = by_inner n n.inner refl where
    by_inner : (n : Node) (inner : Option ℕ) → n.inner ≡ inner → jacks_in side h (Some n) ≡ jacks_in side g (Some n)
    by_inner n None e = rw e refl
    by_inner n (Some c) e = rw e (held_alike side c)

  jacks_alike : (side : Side) (k : ℕ) → jacks_at side h k ≡ jacks_at side g k
  jacks_alike side k = alike_by (jacks_in side h) (jacks_bare side h) (get h.nodes k) (get g.nodes k) (nodes k) ∙ jacks_by_grove side (get g.nodes k)

  port_back : (j k i : ℕ) → IsPortOf h j k i → IsPortOf g j k i
  port_back j k i P = record { side = P.side; told = ap (λ (js : List Jack). inner_in (slice_get js i)) (sym (jacks_alike P.side k)) ∙ P.told }

  port_too : (j k i : ℕ) → IsPortOf g j k i → IsPortOf h j k i
  port_too j k i P = record { side = P.side; told = ap (λ (js : List Jack). inner_in (slice_get js i)) (jacks_alike P.side k) ∙ P.told }

  pub has_ports : (w : Web) → HasPorts g w → HasPorts h w
  has_ports w P = record {
    ports = λ side k. P.ports side k ∙ sym (jacks_alike side k);
    made = λ k. P.made k ∙ sym (alike_by made_in made_bare (get h.nodes k) (get g.nodes k) (nodes k));
    homes = λ j k i e. port_too j k i (P.homes j k i e);
    homes_found = λ j k i e. P.homes_found j k i (port_back j k i e);
  }

  share_alike : (k j : ℕ) → ShareCanvas g k j → ShareCanvas h k j
  share_alike k j s = record { canvas = s.canvas; one = rw boards s.one; other = rw boards s.other }

  pub inside_alike : (w : Web) → StayInside g w → StayInside h w
  inside_alike w inside k o = all_of (λ (x : Hop). ShareCanvas g k x.node) (λ (x : Hop). ShareCanvas h k x.node) (λ x s. share_alike k x.node s) (fan_hops w k o) (inside k o)

  signal_alike : (k : ℕ) → is_signal_node (get h.nodes k) ≡ is_signal_node (get g.nodes k)
  signal_alike k = alike_by is_signal_node signal_bare (get h.nodes k) (get g.nodes k) (nodes k)

  among_alike : (ks : List ℕ) → signal_among h ks ≡ signal_among g ks
  among_alike [] = refl
  among_alike (k ∷ ks) =
      let same = signal_alike k in
      by_test (is_signal_node (get g.nodes k))
      (λ t. rw (same, t) (ap (λ (xs : List ℕ). k ∷ xs) (among_alike ks)))
      (λ f. rw (same, f) (among_alike ks))

  order_alike : (w : Web) (b : Option Board) (o : Option Listing) → HasOrder g w b o → HasOrder h w b o
  order_alike w None o e = e
  order_alike w (Some b) None e = e
  order_alike w (Some b) (Some o) e =
      subst (λ (xs : List ℕ). IsOrder (graph_of b.nodes.items (signal_wires_among w xs)) xs o.chain o.stuck) (sym (among_alike b.nodes.items)) e

  pub orders_alike : (w : Web) (orders : List (Option Listing)) → AreOrdered g w orders → AreOrdered h w orders
  orders_alike w orders O c =
      subst (λ (b : Option Board). HasOrder h w b (order_in orders c)) (ap (λ (s : Slab Board). get s c) (sym boards)) (order_alike w (get g.boards c) (order_in orders c) (O c))

pub rewires_alike : (p q : Patch) → AreAlike p q → CanRewire p → CanRewire q
rewires_alike p q A can = record {
  own = own_alike p.grove q.grove A.nodes A.boards can.own;
  ports = subst (λ (w : Web). HasPorts q.grove w) (sym A.web) (has_ports p.grove q.grove A.nodes A.boards p.web can.ports);
  inside = subst (λ (w : Web). StayInside q.grove w) (sym A.web) (inside_alike p.grove q.grove A.nodes A.boards p.web can.inside);
  linked = rw (A.web, A.links) can.linked;
  orders = rw (A.web, A.orders) (orders_alike p.grove q.grove A.nodes A.boards p.web p.orders.items can.orders);
  numbers = λ c. rw (A.numbers, A.boards) (can.numbers c);
}
