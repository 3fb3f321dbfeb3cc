-- Where room was set aside for a box, a patch tells what it told.
use Rattle.std.proofs.Common.{◌≡◌, ℕ, zero, suc, ℤ, Bool, true, ◌&&◌, List, [], ◌∷◌, ◌++◌, map, filter, Option, Some, None, IsSome, inl, inr, refl, sym, ap, ◌∙◌, subst, arith}
use Rattle.std.specs.Prelude.{slice_get, option_map, option_and_then, replicate, ◌⊎◌}
use mathlib.Core.Logic.{⊎_elim}
use Rattle.std.specs.List.{flat_map}
use Rattle.std.proofs.lemmas.Option.{none-some, same_Some}
use Rattle.slab.specs.Slab.{get}
use Rattle.pd_atom.specs.Names.{Names}
use Rattle.pd_clock.specs.declared.times.Rate.{Rate}
use Rattle.pd_canvas.specs.Views.{entry_of}
use Rattle.pd_object.specs.declared.kinds.Kind.{Kind}
use Rattle.pd_name.specs.declared.Class.{Class}
use Rattle.pd_order.specs.Graph.{IsOrder}
use Rattle.pd_order.specs.Listing.{Listing}
use Rattle.pd_chain.specs.Wires.{graph_of}
use Rattle.pd_grove.specs.declared.nodes.Node.{Node}
use Rattle.pd_grove.specs.declared.boards.Board.{Board}
use Rattle.pd_grove.specs.declared.spots.Spot.{Spot}
use Rattle.pd_grove.specs.declared.grove.Grove.{Grove}
use Rattle.pd_grove.specs.declared.ports.Side.{Side}
use Rattle.pd_grove.specs.declared.ports.Side.TheVariants.{Outlets}
use Rattle.pd_grove.specs.Standing.{BoardSeen, board_seen}
use Rattle.pd_grove.specs.Telling.{keys_in}
use Rattle.pd_grove.specs.Owning.{board_in}
use Rattle.pd_grove.specs.Ports.{ports_among}
use Rattle.pd_grove.specs.Room.{IsSameButRoom}
use Rattle.pd_grove.specs.TextOrder.{is_sub, keys_inside, spot, box_spots, spots_among, spots_in_order}
use Rattle.pd_grove.proofs.RoomLemmas.{room_forest}
use Rattle.pd_grove.proofs.SpotLemmas.{spots_none, spots_suc}
use Rattle.pd_bind.specs.Owning.{root_owner, root_owning, boxes_owning, owners_in}
use Rattle.pd_web.specs.declared.jacks.Jack.{Jack}
use Rattle.pd_web.specs.declared.web.Hop.{Hop}
use Rattle.pd_web.specs.declared.web.Web.{Web}
use Rattle.pd_web.specs.Canvases.{keys_at}
use Rattle.pd_web.specs.Homes.{inner_in as box_in}
use Rattle.pd_web.specs.Hops.{ports_told, fan_hops}
use Rattle.pd_web.specs.Jacks.{spot_jack, jacks_by, jacks_in, jacks_at, made_in}
use Rattle.pd_patch.specs.declared.patch.Patch.{Patch}
use Rattle.pd_patch.specs.Built.{IsBuilt, block_sizes}
use Rattle.pd_patch.specs.Linked.{ShareCanvas}
use Rattle.pd_patch.specs.Listing.{IsThere}
use Rattle.pd_patch.specs.Orders.{is_signal_node, signal_wires_among, HasOrder}
use Rattle.pd_patch.specs.Telling.{order_in}
use Rattle.pd_patch.specs.Values.{block_at, block_count, blocks_told}
use Rattle.pd_wiring.specs.Changes.{CanRewire}
use Rattle.pd_wiring.proofs.BuiltLemmas.{roomed, roomed_built}
use Rattle.pd_placing.specs.Room.{IsSameButRoom as IsSameOrder}
use Rattle.pd_boxes.specs.Rows.{IsLonger}
use Rattle.pd_boxes.specs.Room.{SameButRoom}
use Rattle.pd_boxes.specs.Put.{CanPut}
use Rattle.pd_boxes.proofs.WireLemmas.{all_imply}

same_functions : {A B : Type 0} (f g : A → B) → ((x : A) → f x ≡ g x) → f ≡ g
same_functions f g h = λ i x. h x i

keys_seen : (o o' : Option Board) → option_map board_seen o' ≡ option_map board_seen o → keys_in o' ≡ keys_in o
keys_seen None None e = refl
keys_seen None (Some b') e = absurd (none-some (board_seen b') (sym e))
keys_seen (Some b) None e = absurd (none-some (board_seen b) e)
keys_seen (Some b) (Some b') e = ap (λ (s : BoardSeen). s.keys) (same_Some (board_seen b') (board_seen b) e)

-- Lists by key.

at_left : {X : Type 0} (xs ys : List X) (i : ℕ) (x : X) → slice_get xs i ≡ Some x → slice_get (xs ++ ys) i ≡ Some x
at_left [] ys i x at = absurd (none-some x at)
at_left (y ∷ xs) ys zero x at = at
at_left (y ∷ xs) ys (suc i) x at = at_left xs ys i x at

longer_at : {X : Type 0} (y : X) (old new : List X) (i : ℕ) (x : X) → IsLonger y old new → slice_get old i ≡ Some x → slice_get new i ≡ Some x
longer_at y old new i x L at = ap (λ zs. slice_get zs i) L.1 ∙ at_left old (replicate L.0 y) i x at

filled : {X : Type 0} (y : X) (n i : ℕ) → (slice_get (replicate n y) i ≡ None) ⊎ (slice_get (replicate n y) i ≡ Some y)
filled y zero i = inl refl
filled y (suc n) zero = inr refl
filled y (suc n) (suc i) = filled y n i

behind_filled : {X : Type 0} (y : X) (xs : List X) (n i : ℕ) → (slice_get (xs ++ replicate n y) i ≡ slice_get xs i) ⊎ (slice_get (xs ++ replicate n y) i ≡ Some y)
behind_filled y [] n i = filled y n i
behind_filled y (x ∷ xs) n zero = inl refl
behind_filled y (x ∷ xs) n (suc i) = behind_filled y xs n i

-- Boxes in text order.

inside_same : (boards boards' : ℕ → Option Board) → ((c : ℕ) → keys_in (boards' c) ≡ keys_in (boards c)) → (o : Option ℕ) → keys_inside boards' o ≡ keys_inside boards o
inside_same boards boards' K None = refl
inside_same boards boards' K (Some j) = K j

box_same : (boards boards' : ℕ → Option Board) → ((c : ℕ) → keys_in (boards' c) ≡ keys_in (boards c)) → (inside inside' : Bool → List ℕ → List Spot)
    → ((top : Bool) (ks : List ℕ) → inside' top ks ≡ inside top ks) → (top : Bool) (k : ℕ) (o : Option Node) → box_spots boards' inside' top k o ≡ box_spots boards inside top k o
box_same boards boards' K inside inside' H top k None = refl
box_same boards boards' K inside inside' H top k (Some n) =
    let within : Bool = top && is_sub (entry_of n.element).head.form in
    ap (λ (ps : List Spot). spot top k ∷ ps) (H within (keys_inside boards' n.inner) ∙ ap (inside within) (inside_same boards boards' K n.inner))

spots_same : (nodes : ℕ → Option Node) (boards boards' : ℕ → Option Board) → ((c : ℕ) → keys_in (boards' c) ≡ keys_in (boards c)) → (n : ℕ) (top : Bool) (ks : List ℕ)
    → spots_among nodes boards' n top ks ≡ spots_among nodes boards n top ks
spots_same nodes boards boards' K zero top ks = spots_none nodes boards' top ks ∙ sym (spots_none nodes boards top ks)
spots_same nodes boards boards' K (suc n) top ks =
    spots_suc nodes boards' n top ks
    ∙ ap (λ (f : ℕ → List Spot). flat_map f ks) (same_functions (λ k. box_spots boards' (spots_among nodes boards' n) top k (nodes k)) (λ k. box_spots boards (spots_among nodes boards n) top k (nodes k))
    (λ k. box_same boards boards' K (spots_among nodes boards n) (spots_among nodes boards' n) (spots_same nodes boards boards' K n) top k (nodes k)))
    ∙ sym (spots_suc nodes boards n top ks)

module _ (g g' : Grove) (S : IsSameButRoom g g') where
  nodes_same : get g'.nodes ≡ get g.nodes
  nodes_same = same_functions (get g'.nodes) (get g.nodes) S.nodes

  pub keys_same : (c : ℕ) → keys_at g' c ≡ keys_at g c
  keys_same c = keys_seen (get g.boards c) (get g'.boards c) (S.boards c)

  order_same : spots_in_order g' ≡ spots_in_order g
  order_same =
      spots_same (get g'.nodes) (get g.boards) (get g'.boards) keys_same 257 true (keys_at g' g'.root)
      ∙ ap (λ (f : ℕ → Option Node). spots_among f (get g.boards) 257 true (keys_at g' g'.root)) nodes_same
      ∙ ap (spots_among (get g.nodes) (get g.boards) 257 true) (keys_same g'.root ∙ ap (keys_at g) S.root)

  pub owners_same : (table : Names) (file : List ℕ) (class : Class) (name : ℕ) → owners_in table file g' class name ≡ owners_in table file g class name
  owners_same table file class name =
      ap (λ (f : ℕ → Option Node). root_owning table file class name ++ boxes_owning table f class name (spots_in_order g')) nodes_same
      ∙ ap (λ (ps : List Spot). root_owning table file class name ++ boxes_owning table (get g.nodes) class name ps) order_same

  by_same : (side : Side) (kind : Kind) (o : Option ℕ) → jacks_by side g' kind o ≡ jacks_by side g kind o
  by_same side kind None = refl
  by_same side kind (Some d) =
      ap (λ (f : ℕ → Option Node). map spot_jack (ports_among side f (keys_at g' d))) nodes_same
      ∙ ap (λ (ks : List ℕ). map spot_jack (ports_among side (get g.nodes) ks)) (keys_same d)

  in_same : (side : Side) (o : Option Node) → jacks_in side g' o ≡ jacks_in side g o
  in_same side None = refl
  in_same side (Some n) = by_same side n.kind n.inner

  jacks_same : (side : Side) (k : ℕ) → jacks_at side g' k ≡ jacks_at side g k
  jacks_same side k = ap (jacks_in side g') (S.nodes k) ∙ in_same side (get g.nodes k)

  share_same : (u x : ℕ) → ShareCanvas g u x → ShareCanvas g' u x
  share_same u x s = record {
    canvas = s.canvas;
    one = subst (λ (ks : List ℕ). IsThere ks u) (sym (keys_same s.canvas)) s.one;
    other = subst (λ (ks : List ℕ). IsThere ks x) (sym (keys_same s.canvas)) s.other;
  }

-- Orders.

abbrev IsChainOf : Web → List ℕ → (ℕ → Option Node) → List ℕ → List ℕ → Type 0
IsChainOf w ks nodes chain stuck =
    IsOrder (graph_of ks (signal_wires_among w (filter (λ k. is_signal_node (nodes k)) ks))) (filter (λ k. is_signal_node (nodes k)) ks) chain stuck

order_moved : (g g' : Grove) (w : Web) → get g'.nodes ≡ get g.nodes → (b b' : Option Board) → option_map board_seen b' ≡ option_map board_seen b → (o o' : Option Listing) → IsSameOrder o o'
    → HasOrder g w b o → HasOrder g' w b' o'
order_moved g g' w nodes None None e None o' r h = r
order_moved g g' w nodes None None e (Some x) o' r h = absurd (none-some x (sym h))
order_moved g g' w nodes None (Some b') e o o' r h = absurd (none-some (board_seen b') (sym e))
order_moved g g' w nodes (Some b) None e o o' r h = absurd (none-some (board_seen b) e)
order_moved g g' w nodes (Some b) (Some b') e None o' r h = absurd h
order_moved g g' w nodes (Some b) (Some b') e (Some x) None r h = absurd r
order_moved g g' w nodes (Some b) (Some b') e (Some x) (Some y) r h =
    subst (λ (ks : List ℕ). IsChainOf w ks (get g'.nodes) y.chain y.stuck) (sym (keys_seen (Some b) (Some b') e))
    (subst (λ (f : ℕ → Option Node). IsChainOf w b.nodes.items f y.chain y.stuck) (sym nodes)
    (subst (λ (zs : List ℕ). IsChainOf w b.nodes.items (get g.nodes) zs y.stuck) (sym r.chain)
    (subst (λ (zs : List ℕ). IsChainOf w b.nodes.items (get g.nodes) x.chain zs) (sym r.stuck) h)))

-- All layers.

module _ (p q : Patch) (S : SameButRoom p q) where
  abbrev rewebbed : Patch
  rewebbed = record p { web = q.web; links = q.links }

  still_rewires : CanRewire p → CanRewire q
  still_rewires before =
      let R = roomed p rewebbed (record { grove = refl; web = S.web; links = S.links; names = refl; timers = refl; orders = refl; numbers = refl; values = refl; rate = refl; present = refl }) before in
      record {
        own = record {
          home = λ c i k at. ap board_in (S.grove.nodes k) ∙ R.own.home c i k (sym (ap (λ (ks : List ℕ). slice_get ks i) (keys_same p.grove q.grove S.grove c)) ∙ at);
          once = λ c i j k at also. R.own.once c i j k (sym (ap (λ (ks : List ℕ). slice_get ks i) (keys_same p.grove q.grove S.grove c)) ∙ at)
              (sym (ap (λ (ks : List ℕ). slice_get ks j) (keys_same p.grove q.grove S.grove c)) ∙ also);
        };
        ports = record {
          ports = λ side k. R.ports.ports side k ∙ sym (jacks_same p.grove q.grove S.grove side k);
          made = λ k. R.ports.made k ∙ ap made_in (sym (S.grove.nodes k));
          homes = λ j k i e. let P = R.ports.homes j k i e in
              record { side = P.side; told = ap (λ (js : List Jack). box_in (slice_get js i)) (jacks_same p.grove q.grove S.grove P.side k) ∙ P.told };
          homes_found = λ j k i P. R.ports.homes_found j k i (record { side = P.side; told = sym (ap (λ (js : List Jack). box_in (slice_get js i)) (jacks_same p.grove q.grove S.grove P.side k)) ∙ P.told });
        };
        inside = λ u o. all_imply (λ (h : Hop). ShareCanvas p.grove u h.node) (λ (h : Hop). ShareCanvas q.grove u h.node) (λ h s. share_same p.grove q.grove S.grove u h.node s) (fan_hops q.web u o) (R.inside u o);
        linked = R.linked;
        orders = λ c. order_moved p.grove q.grove q.web (nodes_same p.grove q.grove S.grove) (get p.grove.boards c) (get q.grove.boards c) (S.grove.boards c) (order_in p.orders.items c) (order_in q.orders.items c)
            (S.orders c) (R.orders c);
        numbers = λ c i k at. longer_at 0 p.numbers.items q.numbers.items k i S.numbers (R.numbers c i k (sym (ap (λ (ks : List ℕ). slice_get ks i) (keys_same p.grove q.grove S.grove c)) ∙ at));
      }

  -- more boxes can come
  pub room_put : CanPut p → CanPut q
  room_put P = record {
    forest = room_forest p.grove q.grove S.grove P.forest;
    small = λ k n is. P.small k n (sym (S.grove.nodes k) ∙ is);
    apart = S.grove.nodes root_owner ∙ P.apart;
    runs = still_rewires P.runs;
  }

  live_same : (k : ℕ) → IsSome (get q.grove.nodes k) → IsSome (get p.grove.nodes k)
  live_same k live = subst (λ o. IsSome o) (S.grove.nodes k) live

  sizes_stay : (k : ℕ) (o : Option (List (List ℤ))) (ns : List ℕ) → slice_get (blocks_told p) k ≡ o → option_map block_sizes o ≡ Some ns → option_map block_sizes (slice_get (blocks_told q) k) ≡ Some ns
  sizes_stay k None ns at e = absurd (none-some ns e)
  sizes_stay k (Some own) ns at e = ap (option_map block_sizes) (longer_at [] (blocks_told p) (blocks_told q) k own S.values at) ∙ e

  no_block : (k outlet : ℕ) → block_at (blocks_told p) k outlet ≡ None → block_at (blocks_told q) k outlet ≡ None
  no_block k outlet none =
      let blocks = ap (λ zs. block_at zs k outlet) S.values.1 in
      ⊎_elim
      (λ (e : slice_get (blocks_told p ++ replicate S.values.0 []) k ≡ slice_get (blocks_told p) k). blocks ∙ ap (option_and_then (λ own. slice_get own outlet)) e ∙ none)
      (λ (e : slice_get (blocks_told p ++ replicate S.values.0 []) k ≡ Some []). blocks ∙ ap (option_and_then (λ own. slice_get own outlet)) e)
      (behind_filled [] (blocks_told p) S.values.0 k)

  -- a patch that runs still does
  pub room_built : (names : Names) (file : List ℕ) (rate : Rate) → IsBuilt p names file rate → IsBuilt q names file rate
  room_built names file rate before =
      let b = roomed_built p rewebbed (record { grove = refl; web = S.web; links = S.links; names = refl; timers = refl; orders = refl; numbers = refl; values = refl; rate = refl; present = refl }) names file rate before in
      let R = still_rewires (record { own = before.own; ports = before.ports; inside = before.inside; linked = before.linked; orders = before.orders; numbers = before.numbers }) in
      record {
        own = R.own;
        keys = λ k live. before.keys k (live_same k live);
        ports = R.ports;
        owners = λ class name. S.names class name ∙ before.owners class name ∙ sym (owners_same p.grove q.grove S.grove names file class name);
        apart = S.grove.nodes root_owner ∙ before.apart;
        inside = R.inside;
        linked = R.linked;
        orders = R.orders;
        numbers = R.numbers;
        blocks = λ k live. sizes_stay k (slice_get (blocks_told p) k) (replicate (block_count (ports_told q.web Outlets k)) 64) refl (b.blocks k (live_same k live));
        no_others = λ k outlet none. no_block k outlet (before.no_others k outlet (sym (S.grove.nodes k) ∙ none));
        room = λ k live. let l = before.room k (live_same k live) in let e = S.end in omega (arith, l, e);
        same_rate = S.rate ∙ before.same_rate;
      }
