-- What a patch has as long as it runs, where a port box came into it.
use Rattle.std.proofs.Common.{◌≡◌, ◌≢◌, ℕ, ℤ, zero, suc, pos, ◌<◌, ◌^◌, List, ◌∷◌, length, Option, Some, None, IsSome, is_some, inl, inr, refl, sym, ap, ◌∙◌, subst, arith}
use Rattle.std.specs.Prelude.{slice_get, option_map, option_and_then, replicate}
use mathlib.Core.Logic.{⊎_elim}
use Rattle.std.proofs.lemmas.Bool.{cases_eq}
use Rattle.std.proofs.lemmas.List.{length-replicate}
use Rattle.std.proofs.lemmas.Option.{none-some, same_Some}
use Rattle.slab.specs.Slab.{get}
use Rattle.pd_atom.specs.Names.{Names}
use Rattle.pd_clock.specs.declared.times.Rate.{Rate}
use Rattle.pd_kind.specs.States.{silent_block}
use Rattle.pd_links.specs.declared.links.Links.{Links}
use Rattle.pd_order.specs.Listing.{Listing}
use Rattle.pd_grove.specs.declared.nodes.Node.{Node}
use Rattle.pd_grove.specs.declared.boards.Board.{Board}
use Rattle.pd_grove.specs.declared.grove.Grove.{Grove}
use Rattle.pd_grove.specs.declared.seeds.Seed.{Seed}
use Rattle.pd_grove.specs.declared.ports.Side.{Side}
use Rattle.pd_grove.specs.declared.ports.Side.TheVariants.{Inlets, Outlets}
use Rattle.pd_grove.specs.Forest.{IsForest}
use Rattle.pd_grove.specs.Owning.{AreOwn}
use Rattle.pd_grove.specs.Telling.{inner_in, keys_in}
use Rattle.pd_bind.specs.Owning.{root_owner, owners_in}
use Rattle.pd_name.specs.Rows.{owners_of}
use Rattle.pd_object.specs.Ports.{IsSmallKind}
use Rattle.pd_tree.specs.Ports.{is_made}
use Rattle.pd_web.specs.declared.jacks.Jack.{Jack}
use Rattle.pd_web.specs.declared.web.Web.{Web}
use Rattle.pd_web.specs.Canvases.{keys_at}
use Rattle.pd_web.specs.Homes.{IsPortOf, inner_in as box_in}
use Rattle.pd_web.specs.Hops.{ports_told, port_told}
use Rattle.pd_web.specs.Jacks.{kind_jacks, jacks_at, made_in}
use Rattle.pd_web.specs.Sockets.{made_at}
use Rattle.pd_ports.specs.Known.{KnowsHomes}
use Rattle.pd_patch.specs.declared.patch.Patch.{Patch}
use Rattle.pd_patch.specs.Built.{HasPorts, IsBuilt, block_sizes}
use Rattle.pd_patch.specs.Linked.{HasLinks, StayInside}
use Rattle.pd_patch.specs.Numbers.{AreUnder}
use Rattle.pd_patch.specs.Orders.{HasOrder}
use Rattle.pd_patch.specs.Telling.{order_in}
use Rattle.pd_patch.specs.Values.{block_at, block_count, blocks_told}
use Rattle.pd_wiring.specs.Changes.{CanRewire}
use Rattle.pd_wiring.specs.Graphs.{AreWired}
use Rattle.pd_boxes.specs.declared.room.Place.{Place}
use Rattle.pd_boxes.specs.Put.{node_of, keys_before, keys_behind, CanPut, ComesIn}
use Rattle.pd_boxes.proofs.BuiltLemmas.{still_forest, still_linked, bare}
use Rattle.pd_boxes.proofs.PortLemmas.{jacks_new, made_new}
use Rattle.pd_boxes.proofs.WireLemmas.{inside_still, other_order}
use Rattle.pd_following.specs.Raising.{Raises}
use Rattle.pd_following.specs.Ports.{CanPutPort, IsPortPut, BlocksFollow, port_jack}
use Rattle.pd_following.proofs.ComeLemmas.{same_side, ready_holds, ready_same}
use Rattle.pd_following.proofs.WireLemmas.{wires_raised, inside_raised, links_stay, order_stays}

pub known_had : (g : Grove) (w : Web) → ((side : Side) (k : ℕ) → ports_told w side k ≡ jacks_at side g k) → KnowsHomes w → (j k i : ℕ) → port_told w j ≡ Some (k, i) → IsPortOf g j k i
known_had g w ports known j k i h =
    let t = known.told k j i h in record { side = t.0; told = ap (λ (js : List Jack). box_in (slice_get js i)) (sym (ports t.0 k)) ∙ t.1 }

pub known_found : (g : Grove) (w : Web) → ((side : Side) (k : ℕ) → ports_told w side k ≡ jacks_at side g k) → KnowsHomes w → (j k i : ℕ) → IsPortOf g j k i → IsSome (port_told w j)
known_found g w ports known j k i is = ap is_some (known.found is.side j k i (ap (λ (js : List Jack). box_in (slice_get js i)) (ports is.side k) ∙ is.told))

silent_count : length silent_block ≡ 64
unfolding silent_block
silent_count = length-replicate 64 (pos 0)

pub silent_sizes : (n : ℕ) → block_sizes (replicate n silent_block) ≡ replicate n 64
silent_sizes zero = refl
silent_sizes (suc n) =
    ap (λ (size : ℕ). size ∷ block_sizes (replicate n silent_block)) silent_count ∙ ap (λ (sizes : List ℕ). 64 ∷ sizes) (silent_sizes n)

pub outlets_differ : Inlets ≡ Outlets → ⊥
outlets_differ e = cc

-- The patch as it is with the box, and the web that has followed it.
module _ (p r : Patch) (w : Web) (table : Names) (place : Place) (s : Seed) (key holder : ℕ) (side : Side) (P : CanPutPort p place s holder side) (C : ComesIn p r table place s key)
    (known : KnowsHomes p.web) (at : ℕ) (ports : ports_told w side holder ≡ jacks_at side r.grove holder) (X : Raises r.web w holder side at (port_jack side s.row.kind key)) where
  ready_ports : (t : Side) (l : ℕ) → (l ≡ holder → t ≢ side) → ports_told r.web t l ≡ jacks_at t r.grove l
  ready_ports t l differ = elim (cases_eq l key) [
    | inl e ↦ ap (ports_told r.web t) e ∙ C.ports.ports t
        ∙ sym (jacks_new p.grove r.grove place.canvas key (node_of place.canvas s) (keys_before p place) (keys_behind p place) C.grove t) ∙ ap (jacks_at t r.grove) (sym e)
    | inr d ↦ C.ports.other_ports t l d ∙ P.can.runs.ports.ports t l ∙ sym (ready_same p r table place s key holder side P C known t l d differ)
  ]

  ports_by : (t : Side) (l : ℕ) → (l ≡ holder → t ≢ side) → ports_told w t l ≡ jacks_at t r.grove l
  ports_by t l differ = X.other_ports t l differ ∙ ready_ports t l differ

  followed_ports : (t : Side) (l : ℕ) → ports_told w t l ≡ jacks_at t r.grove l
  followed_ports t l = elim (same_side t side) [
    | inr d ↦ ports_by t l (λ _. d)
    | inl e ↦ elim (cases_eq l holder) [
      | inr d ↦ ports_by t l (λ h. absurd (d h))
      | inl h ↦ ap (λ x. ports_told w t x) h ∙ subst (λ (u : Side). ports_told w u holder ≡ jacks_at u r.grove holder) (sym e) ports ∙ ap (jacks_at t r.grove) (sym h)
    ]
  ]

  followed_made : (l : ℕ) → made_at w.sockets.items l ≡ made_in (get r.grove.nodes l)
  followed_made l = X.made l ∙ elim (cases_eq l key) [
    | inl e ↦ ap (made_at r.web.sockets.items) e ∙ C.ports.made ∙ sym (made_new p.grove r.grove place.canvas key (node_of place.canvas s) (keys_before p place) (keys_behind p place) C.grove)
        ∙ ap (λ x. made_in (get r.grove.nodes x)) (sym e)
    | inr d ↦ C.ports.others_made l d ∙ P.can.runs.ports.made l ∙ ap made_in (sym (C.grove.others l d))
  ]

  pub has_ports : KnowsHomes w → HasPorts r.grove w
  has_ports K = record {
    ports = followed_ports;
    made = followed_made;
    homes = known_had r.grove w followed_ports K;
    homes_found = known_found r.grove w followed_ports K;
  }

  pub stays_inside : StayInside r.grove w
  stays_inside = inside_raised r.web w holder side at (port_jack side s.row.kind key) X r.grove
      (inside_still p.grove r.grove place.canvas key (node_of place.canvas s) (keys_before p place) (keys_behind p place) C.grove P.can.runs.own p.web r.web P.can.runs.inside C.ports.fans)

  pub has_links : HasLinks w r.links
  has_links = links_stay r.web w (wires_raised r.web w holder side at (port_jack side s.row.kind key) X) r.links (still_linked p r table place s key C P.can.forest P.can.runs)

  -- the graphs of canvases rest on what they rested on
  pub is_wired : AreWired r.grove w r.links
  is_wired = record {
    own = (still_forest p r table place s key C P.can.forest P.can.runs).own;
    ports = followed_ports;
    inside = stays_inside;
    linked = has_links;
  }

  pub other_canvas : (d : ℕ) → d ≢ place.canvas → HasOrder r.grove w (get r.grove.boards d) (order_in p.orders.items d)
  other_canvas d f =
      order_stays r.web w (wires_raised r.web w holder side at (port_jack side s.row.kind key) X) r.grove (get r.grove.boards d) (order_in p.orders.items d)
      (other_order p.grove r.grove place.canvas key (node_of place.canvas s) (keys_before p place) (keys_behind p place) C.grove P.can.runs.own
      p.web r.web (λ t. kind_jacks t s.row.kind) (is_made s.row.kind) C.ports P.can.runs.inside (bare p r table place s key C P.can.forest P.can.runs) d (order_in p.orders.items d) f (P.can.runs.orders d))

  pub numbered : (d : ℕ) → AreUnder r.numbers.items (keys_at r.grove d)
  numbered d = ⊎_elim
      (λ (e : d ≡ place.canvas). subst (λ x. AreUnder r.numbers.items (keys_at r.grove x)) (sym e) C.numbers)
      (λ (f : d ≢ place.canvas). λ i x there.
      let F = still_forest p r table place s key C P.can.forest P.can.runs in
      let was : slice_get (keys_at p.grove d) i ≡ Some x = sym (ap (λ (o : Option Board). slice_get (keys_in o) i) (C.grove.keys.others d f)) ∙ there in
      C.other_numbers x (λ j also. f (same_Some d place.canvas (sym (F.own.home d i x there) ∙ F.own.home place.canvas j x also))) ∙ P.can.runs.numbers d i x was)
      (cases_eq d place.canvas)

  was_live : (l : ℕ) → l ≢ key → IsSome (get r.grove.nodes l) → IsSome (get p.grove.nodes l)
  was_live l d live = subst (λ o. IsSome o) (C.grove.others l d) live

  not_key : (l : ℕ) → get r.grove.nodes l ≡ None → l ≢ key
  not_key l none e = none-some (node_of place.canvas s) (sym none ∙ ap (get r.grove.nodes) e ∙ C.grove.is)

  not_holder : (l : ℕ) → get r.grove.nodes l ≡ None → l ≢ holder
  not_holder l none e =
      none-some place.canvas (sym (ap inner_in none) ∙ ap (λ x. inner_in (get r.grove.nodes x)) e ∙ ready_holds p r table place s key holder side P C known)

  -- the blocks of boxes
  module _ (file : List ℕ) (rate : Rate) (b : IsBuilt p table file rate) where
    ready_blocks : (l : ℕ) → IsSome (get r.grove.nodes l) → option_map block_sizes (slice_get (blocks_told r) l) ≡ Some (replicate (block_count (ports_told r.web Outlets l)) 64)
    ready_blocks l live = ⊎_elim
        (λ (e : l ≡ key). subst (λ x. option_map block_sizes (slice_get (blocks_told r) x) ≡ Some (replicate (block_count (ports_told r.web Outlets x)) 64)) (sym e)
        (ap (option_map block_sizes) C.blocks.is ∙ ap (λ (ns : List ℕ). Some ns) (silent_sizes (block_count (ports_told r.web Outlets key)))))
        (λ (d : l ≢ key). ap (option_map block_sizes) (C.blocks.others l d) ∙ b.blocks l (was_live l d live)
        ∙ ap (λ (js : List Jack). Some (replicate (block_count js) 64)) (sym (C.ports.other_ports Outlets l d)))
        (cases_eq l key)

    pub followed_blocks : (q : Patch) → q.web ≡ w → (t : Side) → t ≡ side → BlocksFollow t r q holder → (l : ℕ) → IsSome (get r.grove.nodes l)
        → option_map block_sizes (slice_get (blocks_told q) l) ≡ Some (replicate (block_count (ports_told w Outlets l)) 64)
    followed_blocks q web Inlets same B l live =
        ap (λ (bs : List (List (List ℤ))). option_map block_sizes (slice_get bs l)) B ∙ ready_blocks l live
        ∙ ap (λ (js : List Jack). Some (replicate (block_count js) 64)) (sym (X.other_ports Outlets l (λ _ e. outlets_differ (same ∙ sym e))))
    followed_blocks q web Outlets same B l live = elim (cases_eq l holder) [
      | inl e ↦
          ap (λ x. option_map block_sizes (slice_get (blocks_told q) x)) e ∙ ap (option_map block_sizes) B.is
          ∙ ap (λ (ns : List ℕ). Some ns) (silent_sizes (block_count (ports_told q.web Outlets holder)))
          ∙ ap (λ (v : Web). Some (replicate (block_count (ports_told v Outlets holder)) 64)) web
          ∙ ap (λ x. Some (replicate (block_count (ports_told w Outlets x)) 64)) (sym e)
      | inr d ↦ ap (option_map block_sizes) (B.others l d) ∙ ready_blocks l live
          ∙ ap (λ (js : List Jack). Some (replicate (block_count js) 64)) (sym (X.other_ports Outlets l (λ e. absurd (d e))))
    ]

    ready_others : (l outlet : ℕ) → get r.grove.nodes l ≡ None → block_at (blocks_told r) l outlet ≡ None
    ready_others l outlet none = ap (option_and_then (λ own. slice_get own outlet)) (C.blocks.others l (not_key l none))
        ∙ b.no_others l outlet (sym (C.grove.others l (not_key l none)) ∙ none)

    pub followed_others : (q : Patch) (t : Side) → BlocksFollow t r q holder → (l outlet : ℕ) → get r.grove.nodes l ≡ None → block_at (blocks_told q) l outlet ≡ None
    followed_others q Inlets B l outlet none = ap (λ (bs : List (List (List ℤ))). block_at bs l outlet) B ∙ ready_others l outlet none
    followed_others q Outlets B l outlet none = ap (option_and_then (λ own. slice_get own outlet)) (B.others l (not_holder l none)) ∙ ready_others l outlet none

-- All layers.
module _ (p q : Patch) (table : Names) (place : Place) (s : Seed) (key holder : ℕ) (side : Side) (P : CanPutPort p place s holder side) (I : IsPortPut p q table place s key holder side)
    (known : KnowsHomes p.web) where
  ports_now : ports_told q.web side holder ≡ jacks_at side I.ready.grove holder
  ports_now = I.follows.ports ∙ ap (λ (g : Grove). jacks_at side g holder) I.rest.grove

  orders_now : (d : ℕ) → HasOrder q.grove q.web (get q.grove.boards d) (order_in q.orders.items d)
  orders_now d = ⊎_elim
      (λ (e : d ≡ place.canvas). subst (λ x. HasOrder q.grove q.web (get q.grove.boards x) (order_in q.orders.items x)) (sym e) I.order)
      (λ (f : d ≢ place.canvas). subst (λ (o : Option Listing). HasOrder q.grove q.web (get q.grove.boards d) o) (sym (I.other_orders d f))
      (subst (λ (g : Grove). HasOrder g q.web (get g.boards d) (order_in p.orders.items d)) (sym I.rest.grove)
      (other_canvas p I.ready q.web table place s key holder side P I.comes known I.number ports_now I.raises d f)))
      (cases_eq d place.canvas)

  pub port_rewires : CanRewire q
  port_rewires =
      let C = I.comes in
      let g = I.rest.grove in
      record {
        own = subst (λ (x : Grove). AreOwn (get x.nodes) (get x.boards)) (sym g) (still_forest p I.ready table place s key C P.can.forest P.can.runs).own;
        ports = subst (λ (x : Grove). HasPorts x q.web) (sym g) (has_ports p I.ready q.web table place s key holder side P C known I.number ports_now I.raises I.known);
        inside = subst (λ (x : Grove). StayInside x q.web) (sym g) (stays_inside p I.ready q.web table place s key holder side P C known I.number ports_now I.raises);
        linked = subst (λ (l : Links). HasLinks q.web l) (sym I.rest.links) (has_links p I.ready q.web table place s key holder side P C known I.number ports_now I.raises);
        orders = orders_now;
        numbers = λ d. subst (λ (x : Grove). AreUnder q.numbers.items (keys_at x d)) (sym g)
            (subst (λ ns. AreUnder ns.items (keys_at I.ready.grove d)) (sym I.rest.numbers) (numbered p I.ready q.web table place s key holder side P C known I.number ports_now I.raises d));
      }

  small_ready : (l : ℕ) (m : Node) → get I.ready.grove.nodes l ≡ Some m → IsSmallKind m.kind
  small_ready l m is = ⊎_elim
      (λ (e : l ≡ key). subst (λ (x : Node). IsSmallKind x.kind) (same_Some (node_of place.canvas s) m (sym I.comes.grove.is ∙ ap (get I.ready.grove.nodes) (sym e) ∙ is)) P.leaf.small)
      (λ (d : l ≢ key). P.can.small l m (sym (I.comes.grove.others l d) ∙ is)) (cases_eq l key)

  apart_ready : get I.ready.grove.nodes root_owner ≡ None
  apart_ready = I.comes.grove.others root_owner (λ e. let low = I.comes.low in omega (arith, e, low)) ∙ P.can.apart

  -- another box can come
  pub port_can : CanPut q
  port_can = record {
    forest = subst (λ (x : Grove). IsForest (get x.nodes) (get x.boards) x.root) (sym I.rest.grove)
        (subst (λ x. IsForest (get I.ready.grove.nodes) (get I.ready.grove.boards) x) (sym I.comes.root) (still_forest p I.ready table place s key I.comes P.can.forest P.can.runs));
    small = λ l m is. small_ready l m (ap (λ (x : Grove). get x.nodes l) (sym I.rest.grove) ∙ is);
    apart = ap (λ (x : Grove). get x.nodes root_owner) I.rest.grove ∙ apart_ready;
    runs = port_rewires;
  }

  module _ (file : List ℕ) (rate : Rate) (b : IsBuilt p table file rate) where
    live_ready : (l : ℕ) → IsSome (get q.grove.nodes l) → IsSome (get I.ready.grove.nodes l)
    live_ready l live = subst (λ (x : Grove). IsSome (get x.nodes l)) I.rest.grove live

    none_ready : (l : ℕ) → get q.grove.nodes l ≡ None → get I.ready.grove.nodes l ≡ None
    none_ready l none = ap (λ (x : Grove). get x.nodes l) (sym I.rest.grove) ∙ none

    small_keys : (l : ℕ) → IsSome (get I.ready.grove.nodes l) → l < 2 ^ 32
    small_keys l live = ⊎_elim
        (λ (e : l ≡ key). let low = I.comes.low in omega (arith, e, low))
        (λ (d : l ≢ key). b.keys l (subst (λ o. IsSome o) (I.comes.grove.others l d) live)) (cases_eq l key)

    -- the patch with the port box is built as the patch was
    pub port_runs_on : IsBuilt q table file rate
    port_runs_on =
        let can = port_rewires in
        let C = I.comes in
        record {
          own = can.own;
          keys = λ l live. small_keys l (live_ready l live);
          ports = can.ports;
          owners = λ class name. ap (λ ns. owners_of ns class name) I.rest.names ∙ C.owners file b.owners class name ∙ ap (λ (x : Grove). owners_in table file x class name) (sym I.rest.grove);
          apart = ap (λ (x : Grove). get x.nodes root_owner) I.rest.grove ∙ apart_ready;
          inside = can.inside;
          linked = can.linked;
          orders = can.orders;
          numbers = can.numbers;
          blocks = λ l live. followed_blocks p I.ready q.web table place s key holder side P C known I.number ports_now I.raises file rate b q refl side refl I.blocks l (live_ready l live);
          no_others = λ l outlet none. followed_others p I.ready q.web table place s key holder side P C known I.number ports_now I.raises file rate b q side I.blocks l outlet (none_ready l none);
          room = λ l live. ⊎_elim
              (λ (e : l ≡ key). subst (λ x. x < q.timers.end) (sym e) (rw I.rest.clocks C.clock_room))
              (λ (d : l ≢ key). rw (I.rest.clocks, C.clocks) (b.room l (subst (λ o. IsSome o) (C.grove.others l d) (live_ready l live)))) (cases_eq l key);
          same_rate = I.rest.rate ∙ C.rate ∙ b.same_rate;
        }
