-- A patch of which a box became another one, and all its wires stay.
use Rattle.std.proofs.Common.{◌≡◌, ◌≢◌, ℕ, zero, suc, Bool, cond, List, [], ◌∷◌, map, slice_get, Option, Some, None, IsSome, refl, sym, ap, ◌∙◌, subst}
use Rattle.std.specs.Prelude.{◌⊎◌}
use Rattle.std.specs.List.{AllByRecursion}
use mathlib.Core.Logic.{⊎_elim}
use Rattle.std.proofs.lemmas.Bool.{cases_eq}
use Rattle.std.proofs.lemmas.Option.{none-some, same_Some}
use Rattle.slab.specs.Slab.{Slab, get}
use Rattle.pd_atom.specs.Names.{Names}
use Rattle.pd_object.specs.declared.kinds.Kind.{Kind}
use Rattle.pd_object.specs.Ports.{IsSmallKind}
use Rattle.pd_order.specs.Graph.{IsOrder}
use Rattle.pd_order.specs.Listing.{Listing}
use Rattle.pd_chain.specs.declared.graph.SignalWire.{SignalWire}
use Rattle.pd_chain.specs.Wires.{graph_of}
use Rattle.pd_links.specs.declared.links.Links.{Links}
use Rattle.pd_tree.specs.Ports.{is_made, sockets_of}
use Rattle.pd_grove.specs.declared.boards.Board.{Board}
use Rattle.pd_grove.specs.declared.grove.Grove.{Grove}
use Rattle.pd_grove.specs.declared.nodes.Node.{Node}
use Rattle.pd_grove.specs.declared.seeds.Seed.{Seed}
use Rattle.pd_grove.specs.declared.ports.PortSpot.{PortSpot}
use Rattle.pd_grove.specs.declared.ports.Side.{Side}
use Rattle.pd_grove.specs.Forest.{IsForest, holder_in}
use Rattle.pd_grove.specs.Grafts.{AreAlike, HasBoxChanged}
use Rattle.pd_grove.specs.Owning.{board_in}
use Rattle.pd_grove.specs.Ports.{port_signal, ports_among, spot_at, spot_by, with_spot}
use Rattle.pd_grove.specs.Standing.{depth_of}
use Rattle.pd_grove.specs.Telling.{inner_in, keys_in}
use Rattle.pd_grove.proofs.OpenLemmas.{forest_alike}
use Rattle.pd_bind.specs.Owning.{root_owner}
use Rattle.pd_web.specs.declared.jacks.Jack.{Jack}
use Rattle.pd_web.specs.declared.web.Hop.{Hop}
use Rattle.pd_web.specs.declared.web.Web.{Web}
use Rattle.pd_web.specs.Canvases.{keys_at}
use Rattle.pd_web.specs.Homes.{IsPortOf, inner_in as box_in}
use Rattle.pd_web.specs.Hops.{ports_told, fan_hops, port_told}
use Rattle.pd_web.specs.Jacks.{KindsSmall, plain_jack, spot_jack, on_side, kind_jacks, jacks_by, jacks_in, jacks_at, made_by, made_in}
use Rattle.pd_web.specs.Sockets.{made_at}
use Rattle.pd_ports.specs.Boxes.{HasPorts as GetsPorts}
use Rattle.pd_patch.specs.declared.patch.Patch.{Patch}
use Rattle.pd_patch.specs.Built.{HasPorts}
use Rattle.pd_patch.specs.Linked.{HasLinks, StayInside, ShareCanvas}
use Rattle.pd_patch.specs.Listing.{IsThere}
use Rattle.pd_patch.specs.Orders.{is_signal_node, signal_among, box_wires, signal_wires_among, HasOrder, AreOrdered}
use Rattle.pd_patch.specs.Telling.{order_in}
use Rattle.pd_wiring.specs.Changes.{CanRewire}
use Rattle.pd_boxes.specs.Put.{node_of, CanPut}
use Rattle.pd_refitting.specs.Refits.{Becomes, CanRefit, IsRefitted}
use Rattle.pd_refitting.proofs.WireLemmas.{among_same, wires_now, links_now}

all_of : {X : Type 0} (P Q : X → Type 0) → ((x : X) → P x → Q x) → (xs : List X) → AllByRecursion P xs → AllByRecursion Q xs
all_of P Q f [] h = tt
all_of P Q f (x ∷ xs) h = (f x h.0, all_of P Q f xs h.1)

-- a box of this kind in the canvas of a key is no port of a box around
abbrev IsPlain : Grove → ℕ → Kind → Type 0
IsPlain g c kind = (holder_in (get g.boards c) ≡ None) ⊎ ((side : Side) → port_signal side kind ≡ None)

-- one box became another one in its canvas; neither holds a canvas or is a port of a box around
pub record IsOther (g h : Grove) (key : ℕ) (n m : Node) : Type 0 where
  pub was : get g.nodes key ≡ Some n
  pub box : Becomes g h key m
  pub lies : m.board ≡ n.board
  pub bare : n.inner ≡ None
  pub still_bare : m.inner ≡ None
  pub plain : IsPlain g n.board n.kind
  pub still_plain : IsPlain g n.board m.kind

-- where a box is no port, it has no place among the ports
no_spot : (side : Side) (k : ℕ) (n : Node) (o : Option Node) → o ≡ Some n → port_signal side n.kind ≡ None → spot_at side (λ _. o) k ≡ None
no_spot side k n o is none = ap (λ x. spot_at side (λ _. x) k) is ∙ ap (spot_by k n.element.x) none

-- none of the ports of a kind is a box
plain_none : (bs : List Bool) (i : ℕ) → box_in (slice_get (map plain_jack bs) i) ≡ None
plain_none [] i = refl
plain_none (b ∷ bs) zero = refl
plain_none (b ∷ bs) (suc i) = plain_none bs i

module _ (g h : Grove) (key : ℕ) (n m : Node) (I : IsOther g h key n m) where
  -- what both boxes tell, each box tells as before
  pub told_as : {X : Type 0} (f : Option Node → X) → f (Some m) ≡ f (Some n) → (k : ℕ) → f (get h.nodes k) ≡ f (get g.nodes k)
  told_as f e k = ⊎_elim
      (λ (same : k ≡ key). ap (λ j. f (get h.nodes j)) same ∙ ap f I.box.is ∙ e ∙ sym (ap f I.was) ∙ ap (λ j. f (get g.nodes j)) (sym same))
      (λ (d : k ≢ key). ap f (I.box.others k d))
      (cases_eq k key)

  pub boards_as : (k : ℕ) → board_in (get h.nodes k) ≡ board_in (get g.nodes k)
  boards_as = told_as board_in (ap (λ c. Some c) I.lies)

  inners_as : (k : ℕ) → inner_in (get h.nodes k) ≡ inner_in (get g.nodes k)
  inners_as = told_as inner_in (I.still_bare ∙ sym I.bare)

  pub keys_as : (c : ℕ) → keys_at h c ≡ keys_at g c
  keys_as c = ap (λ (s : Slab Board). keys_in (get s c)) I.box.boards

  pub alike_as : AreAlike (get g.nodes) (get h.nodes) (get g.boards) (get h.boards)
  alike_as = record {
    lie = boards_as;
    hold = inners_as;
    keys = keys_as;
    holders = λ c. ap (λ (s : Slab Board). holder_in (get s c)) I.box.boards;
    depths = λ c. ap (λ (s : Slab Board). depth_of (get s c)) I.box.boards;
    live = λ c l. subst (λ (s : Slab Board). IsSome (get s c)) (sym I.box.boards) l;
    no_more = λ c l. subst (λ (s : Slab Board). IsSome (get s c)) I.box.boards l;
  }

  pub changed_as : HasBoxChanged (get g.nodes) (get h.nodes) (get g.boards) (get h.boards) n.board key n m
  changed_as = record {
    was = I.was;
    is = I.box.is;
    lay = refl;
    lies = I.lies;
    others = I.box.others;
    stay = λ x l. ap (λ (s : Slab Board). get s x) I.box.boards;
  }

  -- Ports of canvases that boxes hold.

  spot_other : (side : Side) (k : ℕ) → k ≢ key → spot_at side (get h.nodes) k ≡ spot_at side (get g.nodes) k
  spot_other side k d = ap (λ o. spot_at side (λ _. o) k) (I.box.others k d)

  spot_here : (side : Side) → port_signal side n.kind ≡ None → port_signal side m.kind ≡ None → spot_at side (get h.nodes) key ≡ spot_at side (get g.nodes) key
  spot_here side none none' = no_spot side key m (get h.nodes key) I.box.is none' ∙ sym (no_spot side key n (get g.nodes key) I.was none)

  -- each of these boxes is the same port, or none
  ports_by : (side : Side) (ks : List ℕ) → ((i k : ℕ) → slice_get ks i ≡ Some k → spot_at side (get h.nodes) k ≡ spot_at side (get g.nodes) k)
      → ports_among side (get h.nodes) ks ≡ ports_among side (get g.nodes) ks
  ports_by side [] e = refl
  ports_by side (k ∷ ks) e =
      ap (λ (o : Option PortSpot). with_spot o (ports_among side (get h.nodes) ks)) (e 0 k refl)
      ∙ ap (λ (ps : List PortSpot). with_spot (spot_at side (get g.nodes) k) ps) (ports_by side ks (λ i. e (suc i)))

  -- the box has the ports of its kind, and none of them is a box
  pub jacks_new : (side : Side) → jacks_at side h key ≡ kind_jacks side m.kind
  jacks_new side = ap (jacks_in side h) I.box.is ∙ ap (jacks_by side h m.kind) I.still_bare

  pub made_new : made_in (get h.nodes key) ≡ is_made m.kind
  made_new = ap made_in I.box.is ∙ ap (made_by m.kind) I.still_bare

  pub jacks_old : (side : Side) → jacks_at side g key ≡ kind_jacks side n.kind
  jacks_old side = ap (jacks_in side g) I.was ∙ ap (jacks_by side g n.kind) I.bare

  pub no_home : (j i : ℕ) → IsPortOf h j key i → ⊥
  no_home j i q = none-some j (sym (plain_none (on_side q.side (sockets_of m.kind)) i) ∙ sym (ap (λ (js : List Jack). box_in (slice_get js i)) (jacks_new q.side)) ∙ q.told)

  pub had_no_home : (j i : ℕ) → IsPortOf g j key i → ⊥
  had_no_home j i q = none-some j (sym (plain_none (on_side q.side (sockets_of n.kind)) i) ∙ sym (ap (λ (js : List Jack). box_in (slice_get js i)) (jacks_old q.side)) ∙ q.told)

  module _ (F : IsForest (get g.nodes) (get g.boards) g.root) where
    pub forest_as : IsForest (get h.nodes) (get h.boards) h.root
    forest_as = subst (λ (r : ℕ). IsForest (get h.nodes) (get h.boards) r) (sym I.box.root)
        (forest_alike (get g.nodes) (get h.nodes) (get g.boards) (get h.boards) g.root alike_as F)

    -- the box lies in one canvas alone
    home_of : (c i j : ℕ) → slice_get (keys_at g c) i ≡ Some j → j ≡ key → n.board ≡ c
    home_of c i j at same = same_Some n.board c (sym (ap board_in I.was) ∙ ap (λ z. board_in (get g.nodes z)) (sym same) ∙ F.own.home c i j at)

    -- in a canvas that a box holds, the boxes are no ports
    no_signal : (kind : Kind) (side : Side) (c i j k : ℕ) → IsPlain g n.board kind → holder_in (get g.boards c) ≡ Some k → slice_get (keys_at g c) i ≡ Some j → j ≡ key → port_signal side kind ≡ None
    no_signal kind side c i j k plain holds at same = ⊎_elim
        (λ (free : holder_in (get g.boards n.board) ≡ None). absurd (none-some k (sym free ∙ ap (λ z. holder_in (get g.boards z)) (home_of c i j at same) ∙ holds)))
        (λ (none : (s : Side) → port_signal s kind ≡ None). none side)
        plain

    -- a canvas that a box holds has the same ports
    ports_held : (side : Side) (k c : ℕ) → holder_in (get g.boards c) ≡ Some k → ports_among side (get h.nodes) (keys_at g c) ≡ ports_among side (get g.nodes) (keys_at g c)
    ports_held side k c holds = ports_by side (keys_at g c) (λ i j at. ⊎_elim
        (λ (same : j ≡ key). subst (λ z. spot_at side (get h.nodes) z ≡ spot_at side (get g.nodes) z) (sym same)
        (spot_here side (no_signal n.kind side c i j k I.plain holds at same) (no_signal m.kind side c i j k I.still_plain holds at same)))
        (λ (d : j ≢ key). spot_other side j d)
        (cases_eq j key))

    jacks_by_grove : (side : Side) (k : ℕ) (o : Option Node) → get g.nodes k ≡ o → jacks_in side h o ≡ jacks_in side g o
    jacks_by_grove side k None at = refl
    jacks_by_grove side k (Some x) at = by_inner x.inner refl
      where
        by_inner : (inner : Option ℕ) → x.inner ≡ inner → jacks_in side h (Some x) ≡ jacks_in side g (Some x)
        by_inner None e = rw e refl
        by_inner (Some c) e = rw e
            (ap (λ (ps : List PortSpot). map spot_jack ps)
            (ap (λ (ks : List ℕ). ports_among side (get h.nodes) ks) (keys_as c) ∙ ports_held side k c (F.inside k c (ap inner_in at ∙ e))))

    -- every other box has the ports that it had
    jacks_other : (side : Side) (k : ℕ) → k ≢ key → jacks_at side h k ≡ jacks_at side g k
    jacks_other side k d = ap (jacks_in side h) (I.box.others k d) ∙ jacks_by_grove side k (get g.nodes k) refl

    pub ports_as : (w w' : Web) → HasPorts g w → GetsPorts w w' key (λ side. kind_jacks side m.kind) (is_made m.kind) → ((j : ℕ) → port_told w' j ≡ port_told w j) → HasPorts h w'
    ports_as w w' P G H = record {
      ports = λ side k. ⊎_elim
          (λ (e : k ≡ key). ap (ports_told w' side) e ∙ G.ports side ∙ sym (jacks_new side) ∙ ap (jacks_at side h) (sym e))
          (λ (d : k ≢ key). G.other_ports side k d ∙ P.ports side k ∙ sym (jacks_other side k d)) (cases_eq k key);
      made = λ k. ⊎_elim
          (λ (e : k ≡ key). ap (made_at w'.sockets.items) e ∙ G.made ∙ sym made_new ∙ ap (λ x. made_in (get h.nodes x)) (sym e))
          (λ (d : k ≢ key). G.others_made k d ∙ P.made k ∙ ap made_in (sym (I.box.others k d))) (cases_eq k key);
      homes = λ j k i e. port_too j k i (P.homes j k i (sym (H j) ∙ e));
      homes_found = λ j k i is. subst (λ (o : Option (ℕ × ℕ)). IsSome o) (sym (H j)) (P.homes_found j k i (port_back j k i is));
    }
      where
        port_back : (j k i : ℕ) → IsPortOf h j k i → IsPortOf g j k i
        port_back j k i P = ⊎_elim
            (λ (e : k ≡ key). absurd (no_home j i (subst (λ x. IsPortOf h j x i) e P)))
            (λ (d : k ≢ key). record { side = P.side; told = ap (λ (js : List Jack). box_in (slice_get js i)) (sym (jacks_other P.side k d)) ∙ P.told })
            (cases_eq k key)

        port_too : (j k i : ℕ) → IsPortOf g j k i → IsPortOf h j k i
        port_too j k i P = ⊎_elim
            (λ (e : k ≡ key). absurd (had_no_home j i (subst (λ x. IsPortOf g j x i) e P)))
            (λ (d : k ≢ key). record { side = P.side; told = ap (λ (js : List Jack). box_in (slice_get js i)) (jacks_other P.side k d) ∙ P.told })
            (cases_eq k key)

    -- in another canvas stands every box that stood there, with its part in signals
    pub signals_in : (c : ℕ) → c ≢ n.board → (x : ℕ) → IsThere (keys_at g c) x → is_signal_node (get h.nodes x) ≡ is_signal_node (get g.nodes x)
    signals_in c away x there = ap is_signal_node (I.box.others x (λ same. away (sym (home_of c there.0 x there.1 same))))

    -- another canvas has the order that it had
    order_other : (w w' : Web) (c : ℕ) → c ≢ n.board → ((u : ℕ) → box_wires w' u ≡ box_wires w u) → (b : Option Board) (o : Option Listing) → get g.boards c ≡ b → HasOrder g w b o → HasOrder h w' b o
    order_other w w' c away same None o at e = e
    order_other w w' c away same (Some b) None at e = e
    order_other w w' c away same (Some b) (Some o) at e =
        let ks = b.nodes.items in
        let signal : signal_among h ks ≡ signal_among g ks = filter_same ks (λ i x is. signals_in c away x (i, ap (λ (q : Option Board). slice_get (keys_in q) i) at ∙ is)) in
        let wires : signal_wires_among w' (signal_among h ks) ≡ signal_wires_among w (signal_among g ks) = ap (signal_wires_among w') signal ∙ among_same w w' same (signal_among g ks) in
        subst (λ (xs : List ℕ). IsOrder (graph_of ks (signal_wires_among w' (signal_among h ks))) xs o.chain o.stuck) (sym signal)
        (subst (λ (vs : List SignalWire). IsOrder (graph_of ks vs) (signal_among g ks) o.chain o.stuck) (sym wires) e)
      where
        filter_same : (ks : List ℕ) → ((i x : ℕ) → slice_get ks i ≡ Some x → is_signal_node (get h.nodes x) ≡ is_signal_node (get g.nodes x)) → signal_among h ks ≡ signal_among g ks
        filter_same [] f = refl
        filter_same (x ∷ ks) f =
            ap (λ b. cond b (x ∷ signal_among h ks) (signal_among h ks)) (f 0 x refl) ∙ ap (λ (ys : List ℕ). cond (is_signal_node (get g.nodes x)) (x ∷ ys) ys) (filter_same ks (λ i. f (suc i)))

    pub other_order : (w w' : Web) (c : ℕ) → c ≢ n.board → ((u : ℕ) → box_wires w' u ≡ box_wires w u) → (o : Option Listing) → HasOrder g w (get g.boards c) o → HasOrder h w' (get h.boards c) o
    other_order w w' c away same o e = subst (λ (bs : Slab Board). HasOrder h w' (get bs c) o) (sym I.box.boards) (order_other w w' c away same (get g.boards c) o refl e)

  -- Wires and orders.

  share_as : (k j : ℕ) → ShareCanvas g k j → ShareCanvas h k j
  share_as k j s = record { canvas = s.canvas; one = rw I.box.boards s.one; other = rw I.box.boards s.other }

  pub inside_as : (w w' : Web) → ((u o : ℕ) → fan_hops w' u o ≡ fan_hops w u o) → StayInside g w → StayInside h w'
  inside_as w w' fans inside k o = subst (AllByRecursion (λ (z : Hop). ShareCanvas h k z.node)) (sym (fans k o))
      (all_of (λ (z : Hop). ShareCanvas g k z.node) (λ (z : Hop). ShareCanvas h k z.node) (λ z s. share_as k z.node s) (fan_hops w k o) (inside k o))

  pub small_as : IsSmallKind m.kind → KindsSmall g → KindsSmall h
  small_as own small k x at = ⊎_elim
      (λ (same : k ≡ key). subst (λ (y : Node). IsSmallKind y.kind) (same_Some m x (sym I.box.is ∙ ap (get h.nodes) (sym same) ∙ at)) own)
      (λ (d : k ≢ key). small k x (sym (I.box.others k d) ∙ at))
      (cases_eq k key)

  -- where no box lived, none lives
  pub none_as : (k : ℕ) → get g.nodes k ≡ None → get h.nodes k ≡ None
  none_as k none = I.box.others k (λ same. none-some n (sym none ∙ ap (get g.nodes) same ∙ I.was)) ∙ none

-- A patch.

pub other_box : (p q : Patch) (table : Names) (key : ℕ) (n : Node) (s : Seed) → CanRefit p key n s → IsRefitted p q table key n s → IsOther p.grove q.grove key n (node_of n.board s)
other_box p q table key n s C R = record {
  was = C.is;
  box = R.grove;
  lies = refl;
  bare = C.bare;
  still_bare = refl;
  plain = C.plain;
  still_plain = C.stays_plain;
}

module _ (p q : Patch) (table : Names) (key : ℕ) (n : Node) (s : Seed) (C : CanRefit p key n s) (R : IsRefitted p q table key n s) where
  abbrev I : IsOther p.grove q.grove key n (node_of n.board s)
  I = other_box p q table key n s C R

  pub same_wires : (u : ℕ) → box_wires q.web u ≡ box_wires p.web u
  same_wires = wires_now p.web key s.row.kind C.meet C.wires q.web R.ports

  still_ordered : AreOrdered q.grove q.web q.orders.items
  still_ordered c = ⊎_elim
      (λ (e : c ≡ n.board). subst (λ x. HasOrder q.grove q.web (get q.grove.boards x) (order_in q.orders.items x)) (sym e) R.order)
      (λ (d : c ≢ n.board). subst (λ (o : Option Listing). HasOrder q.grove q.web (get q.grove.boards c) o) (sym (R.other_orders c d))
      (other_order p.grove q.grove key n (node_of n.board s) I C.can.forest p.web q.web c d same_wires (order_in p.orders.items c) (C.can.runs.orders c)))
      (cases_eq c n.board)

  pub still_rewires : CanRewire q
  still_rewires =
      let m = node_of n.board s in
      let can = C.can.runs in
      record {
        own = (forest_as p.grove q.grove key n m I C.can.forest).own;
        ports = ports_as p.grove q.grove key n m I C.can.forest p.web q.web can.ports R.ports R.homes;
        inside = inside_as p.grove q.grove key n m I p.web q.web R.ports.fans can.inside;
        linked = subst (λ (l : Links). HasLinks q.web l) (sym R.links) (links_now p.web key s.row.kind C.meet C.wires q.web R.ports p.links can.linked);
        orders = still_ordered;
        numbers = λ c. rw (R.numbers, R.grove.boards) (can.numbers c);
      }

  pub still_put : CanPut q
  still_put =
      let m = node_of n.board s in
      record {
        forest = forest_as p.grove q.grove key n m I C.can.forest;
        small = small_as p.grove q.grove key n m I C.leaf.small C.can.small;
        apart = none_as p.grove q.grove key n m I root_owner C.can.apart;
        runs = still_rewires;
      }
