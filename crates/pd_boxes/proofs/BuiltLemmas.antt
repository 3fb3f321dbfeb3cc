-- What a patch has as long as it runs, where a box came.
use Rattle.std.proofs.Common.{◌≡◌, ◌≢◌, ℕ, zero, suc, pos, ◌+◌, ◌<◌, ◌≤◌, ◌^◌, List, [], ◌∷◌, ◌++◌, take, drop, length, Option, Some, None, IsSome, inl, inr, refl, sym, ap, ◌∙◌, subst, arith}
use Rattle.std.specs.Prelude.{slice_get, option_map, option_and_then, replicate}
use mathlib.Core.Logic.{⊎_elim}
use Rattle.std.proofs.lemmas.Bool.{cases_eq, cases_lt}
use Rattle.std.proofs.lemmas.List.{length-replicate}
use Rattle.std.proofs.lemmas.Option.{none-some, same_Some}
use Rattle.slab.specs.Slab.{get}
use Rattle.pd_atom.specs.Names.{Names}
use Rattle.pd_clock.specs.declared.times.Rate.{Rate}
use Rattle.pd_kind.specs.States.{silent_block}
use Rattle.pd_links.specs.declared.links.Links.{Links}
use Rattle.pd_name.specs.declared.Class.{Class}
use Rattle.pd_name.specs.Rows.{Row, owners_of}
use Rattle.pd_order.specs.Listing.{Listing}
use Rattle.pd_grove.specs.declared.nodes.Node.{Node}
use Rattle.pd_grove.specs.declared.boards.Board.{Board}
use Rattle.pd_grove.specs.declared.grove.Grove.{Grove}
use Rattle.pd_grove.specs.declared.seeds.Seed.{Seed}
use Rattle.pd_grove.specs.declared.ports.Side.TheVariants.{Outlets}
use Rattle.pd_grove.specs.Telling.{inner_in, keys_in}
use Rattle.pd_grove.specs.Forest.{IsForest}
use Rattle.pd_grove.specs.Grafts.{HasBoxMore}
use Rattle.pd_grove.proofs.GraftLemmas.{forest_more}
use Rattle.pd_bind.specs.Owning.{root_owner, owners_in}
use Rattle.pd_owning.specs.Bound.{AreOwnersBut}
use Rattle.pd_owning.proofs.FollowLemmas.{owners_stay}
use Rattle.pd_owning.proofs.LeafLemmas.{leaf_alone}
use Rattle.pd_owning.proofs.ListLemmas.{all_kept_none}
use Rattle.pd_web.specs.declared.jacks.Jack.{Jack}
use Rattle.pd_web.specs.Canvases.{keys_at}
use Rattle.pd_web.specs.Hops.{ports_told}
use Rattle.pd_web.specs.Jacks.{KindsSmall, kind_jacks}
use Rattle.pd_object.specs.Ports.{IsSmallKind}
use Rattle.pd_tree.specs.Ports.{is_made}
use Rattle.pd_patch.specs.declared.patch.Patch.{Patch}
use Rattle.pd_patch.specs.Built.{HasPorts, IsBuilt, block_sizes}
use Rattle.pd_patch.specs.Linked.{HasLinks, StayInside}
use Rattle.pd_patch.specs.Numbers.{AreApart, AreUnder, IsOut}
use Rattle.pd_patch.specs.Orders.{HasOrder}
use Rattle.pd_patch.specs.Telling.{order_in}
use Rattle.pd_patch.specs.Values.{block_count, blocks_told}
use Rattle.pd_wiring.specs.Changes.{CanRewire}
use Rattle.pd_wiring.specs.Graphs.{AreWired}
use Rattle.pd_boxes.specs.declared.room.Place.{Place}
use Rattle.pd_boxes.specs.Rows.{NumbersFrom}
use Rattle.pd_boxes.specs.Put.{node_of, keys_before, keys_behind, CanPut, ComesIn, IsNoPort}
use Rattle.pd_boxes.proofs.AloneLemmas.{taken_back}
use Rattle.pd_boxes.proofs.PortLemmas.{jacks_none, ports_kept}
use Rattle.pd_boxes.proofs.WireLemmas.{inside_still, links_same, other_order}

-- Numbers.

drop_at : (xs : List ℕ) (n j m x : ℕ) → m ≡ n + j → slice_get (drop n xs) j ≡ Some x → slice_get xs m ≡ Some x
drop_at xs zero j m x e h = (let q : j ≡ m = omega (arith, e) in subst (λ y. slice_get xs y ≡ Some x) q h)
drop_at [] (suc n) j m x e h = absurd (none-some x h)
drop_at (y ∷ xs) (suc n) j zero x e h = absurd (omega (arith, e))
drop_at (y ∷ xs) (suc n) j (suc m) x e h = drop_at xs n j m x (omega (arith, e)) h

before_at : (ks : List ℕ) (n i k x : ℕ) → i < n → n ≤ length ks → slice_get (take n ks ++ k ∷ drop n ks) i ≡ Some x → slice_get ks i ≡ Some x
before_at ks zero i k x l m h = absurd (omega (arith, l))
before_at [] (suc n) i k x l m h = absurd (omega (arith, m))
before_at (y ∷ ks) (suc n) zero k x l m h = h
before_at (y ∷ ks) (suc n) (suc i) k x l m h = before_at ks n i k x (omega (arith, l)) (omega (arith, m)) h

-- the boxes behind a number are none of those before it
behind_out : (keys : List ℕ) (n i x : ℕ) → AreApart keys → i < n → slice_get keys i ≡ Some x → IsOut (drop n keys) x
behind_out keys n i x once l at = λ j there.
    let e : i ≡ n + j = once i (n + j) x at (drop_at keys n j (n + j) x refl there) in
    omega (arith, l, e)

pub numbers_more : (old new ks : List ℕ) (n k : ℕ) → n ≤ length ks → AreUnder old ks → AreApart (take n ks ++ k ∷ drop n ks) → NumbersFrom old new (take n ks ++ k ∷ drop n ks) n
    → AreUnder new (take n ks ++ k ∷ drop n ks)
numbers_more old new ks n k within under once N = λ i x at. elim (cases_lt i n) [
  | inl l ↦ N.others x (behind_out (take n ks ++ k ∷ drop n ks) n i x once l at) ∙ under i x (before_at ks n i k x l within at)
  | inr l ↦ N.under i x l at
]

pub numbers_stay : (old new keys : List ℕ) (n k : ℕ) → NumbersFrom old new keys n → IsOut keys k → slice_get new k ≡ slice_get old k
numbers_stay old new keys n k N out = N.others k (λ j there. out (n + j) (drop_at keys n j (n + j) k refl there))

-- Blocks.

silent_count : length silent_block ≡ 64
unfolding silent_block
silent_count = length-replicate 64 (pos 0)

silent_sizes : (n : ℕ) → block_sizes (replicate n silent_block) ≡ replicate n 64
silent_sizes zero = refl
silent_sizes (suc n) =
    ap (λ (size : ℕ). size ∷ block_sizes (replicate n silent_block)) silent_count ∙ ap (λ (sizes : List ℕ). 64 ∷ sizes) (silent_sizes n)

-- Owners: where those of the tree without the box are bound, and then the box, those of the tree with it are.
pub owners_come : (g g' : Grove) (names names' : List Row) (table : Names) (c k : ℕ) (n : Node) (a b : List ℕ)
    → HasBoxMore (get g.nodes) (get g'.nodes) (get g.boards) (get g'.boards) c k n a b → IsForest (get g'.nodes) (get g'.boards) g'.root → g'.root ≡ g.root → get g'.nodes root_owner ≡ None
    → ((file : List ℕ) → AreOwnersBut names table file g' (k ∷ []) → AreOwnersBut names' table file g' [])
    → (file : List ℕ) → ((class : Class) (name : ℕ) → owners_of names class name ≡ owners_in table file g class name)
    → (class : Class) (name : ℕ) → owners_of names' class name ≡ owners_in table file g' class name
owners_come g g' names names' table c k n a b M F root apart B file H class name =
    B file (λ class name. H class name
    ∙ sym (owners_stay g' g c k n a b (k ∷ []) F apart (sym root) (taken_back (get g.nodes) (get g'.nodes) (get g.boards) (get g'.boards) c k n a b M)
    (leaf_alone (get g'.nodes) (get g'.boards) g'.root F k (ap inner_in M.is ∙ M.bare)) table file class name)) class name
    ∙ all_kept_none (owners_in table file g' class name)

-- All layers.

module _ (p q : Patch) (table : Names) (place : Place) (s : Seed) (key : ℕ) (C : ComesIn p q table place s key) (F : IsForest (get p.grove.nodes) (get p.grove.boards) p.grove.root)
    (R : CanRewire p) where
  pub still_forest : IsForest (get q.grove.nodes) (get q.grove.boards) p.grove.root
  still_forest = forest_more (get p.grove.nodes) (get q.grove.nodes) (get p.grove.boards) (get q.grove.boards) p.grove.root place.canvas key (node_of place.canvas s)
      (keys_before p place) (keys_behind p place) C.grove F

  was_live : (l : ℕ) → l ≢ key → IsSome (get q.grove.nodes l) → IsSome (get p.grove.nodes l)
  was_live l d live = subst (λ o. IsSome o) (C.grove.others l d) live

  pub bare : ports_told p.web Outlets key ≡ []
  bare = R.ports.ports Outlets key ∙ jacks_none p.grove q.grove place.canvas key (node_of place.canvas s) (keys_before p place) (keys_behind p place) C.grove Outlets

  pub still_linked : HasLinks q.web q.links
  still_linked = subst (λ (l : Links). HasLinks q.web l) (sym C.links)
      (links_same p.grove q.grove place.canvas key (node_of place.canvas s) (keys_before p place) (keys_behind p place) C.grove R.own
      p.web q.web (λ side. kind_jacks side s.row.kind) (is_made s.row.kind) C.ports R.inside bare p.links R.linked)

  still_ordered : HasOrder q.grove q.web (get q.grove.boards place.canvas) (order_in q.orders.items place.canvas) → ((d : ℕ) → d ≢ place.canvas → order_in q.orders.items d ≡ order_in p.orders.items d)
      → (d : ℕ) → HasOrder q.grove q.web (get q.grove.boards d) (order_in q.orders.items d)
  still_ordered order others d = ⊎_elim
      (λ (e : d ≡ place.canvas). subst (λ x. HasOrder q.grove q.web (get q.grove.boards x) (order_in q.orders.items x)) (sym e) order)
      (λ (f : d ≢ place.canvas). subst (λ (o : Option Listing). HasOrder q.grove q.web (get q.grove.boards d) o) (sym (others d f))
      (other_order p.grove q.grove place.canvas key (node_of place.canvas s) (keys_before p place) (keys_behind p place) C.grove R.own
      p.web q.web (λ side. kind_jacks side s.row.kind) (is_made s.row.kind) C.ports R.inside bare d (order_in p.orders.items d) f (R.orders d)))
      (cases_eq d place.canvas)

  still_numbered : (d : ℕ) → AreUnder q.numbers.items (keys_at q.grove d)
  still_numbered d = ⊎_elim
      (λ (e : d ≡ place.canvas). subst (λ x. AreUnder q.numbers.items (keys_at q.grove x)) (sym e) C.numbers)
      (λ (f : d ≢ place.canvas). λ i x at.
      let was : slice_get (keys_at p.grove d) i ≡ Some x = sym (ap (λ (o : Option Board). slice_get (keys_in o) i) (C.grove.keys.others d f)) ∙ at in
      C.other_numbers x (λ j there. f (same_Some d place.canvas (sym (still_forest.own.home d i x at) ∙ still_forest.own.home place.canvas j x there))) ∙ R.numbers d i x was)
      (cases_eq d place.canvas)

  not_key : (l : ℕ) → get q.grove.nodes l ≡ None → l ≢ key
  not_key l none e = none-some (node_of place.canvas s) (sym none ∙ ap (get q.grove.nodes) e ∙ C.grove.is)

  still_ports : IsNoPort p place s.row.kind → HasPorts q.grove q.web
  still_ports N = ports_kept p.grove q.grove place.canvas key (node_of place.canvas s) (keys_before p place) (keys_behind p place) C.grove p.grove.root F N p.web q.web R.ports C.ports C.homes

  still_inside : StayInside q.grove q.web
  still_inside = inside_still p.grove q.grove place.canvas key (node_of place.canvas s) (keys_before p place) (keys_behind p place) C.grove R.own p.web q.web R.inside C.ports.fans

  -- where the box is no port of a box around, the graphs of canvases rest on what they rested on
  pub still_wired : IsNoPort p place s.row.kind → AreWired q.grove q.web q.links
  still_wired N = record { own = still_forest.own; ports = (still_ports N).ports; inside = still_inside; linked = still_linked }

  module _ (order : HasOrder q.grove q.web (get q.grove.boards place.canvas) (order_in q.orders.items place.canvas)) (others : (d : ℕ) → d ≢ place.canvas → order_in q.orders.items d ≡ order_in p.orders.items d)
      (N : IsNoPort p place s.row.kind) where
    pub still_rewires : CanRewire q
    still_rewires = record {
      own = still_forest.own;
      ports = still_ports N;
      inside = still_inside;
      linked = still_linked;
      orders = still_ordered order others;
      numbers = still_numbered;
    }

    -- another box can come
    pub still_put : IsSmallKind s.row.kind → KindsSmall p.grove → get p.grove.nodes root_owner ≡ None → CanPut q
    still_put small kinds apart = record {
      forest = subst (λ (r : ℕ). IsForest (get q.grove.nodes) (get q.grove.boards) r) (sym C.root) still_forest;
      small = λ l m is. ⊎_elim
          (λ (e : l ≡ key). subst (λ (x : Node). IsSmallKind x.kind) (same_Some (node_of place.canvas s) m (sym C.grove.is ∙ ap (get q.grove.nodes) (sym e) ∙ is)) small)
          (λ (d : l ≢ key). kinds l m (sym (C.grove.others l d) ∙ is)) (cases_eq l key);
      apart = C.grove.others root_owner (λ e. let low = C.low in omega (arith, e, low)) ∙ apart;
      runs = still_rewires;
    }

    module _ (file : List ℕ) (rate : Rate) (b : IsBuilt p table file rate) where
      still_small : (l : ℕ) → IsSome (get q.grove.nodes l) → l < 2 ^ 32
      still_small l live = ⊎_elim
          (λ (e : l ≡ key). let low = C.low in omega (arith, e, low))
          (λ (d : l ≢ key). b.keys l (was_live l d live)) (cases_eq l key)

      still_apart : get q.grove.nodes root_owner ≡ None
      still_apart = C.grove.others root_owner (λ e. let low = C.low in omega (arith, e, low)) ∙ b.apart

      still_blocks : (l : ℕ) → IsSome (get q.grove.nodes l) → option_map block_sizes (slice_get (blocks_told q) l) ≡ Some (replicate (block_count (ports_told q.web Outlets l)) 64)
      still_blocks l live = ⊎_elim
          (λ (e : l ≡ key). subst (λ x. option_map block_sizes (slice_get (blocks_told q) x) ≡ Some (replicate (block_count (ports_told q.web Outlets x)) 64)) (sym e)
          (ap (option_map block_sizes) C.blocks.is ∙ ap (λ (ns : List ℕ). Some ns) (silent_sizes (block_count (ports_told q.web Outlets key)))))
          (λ (d : l ≢ key). ap (option_map block_sizes) (C.blocks.others l d) ∙ b.blocks l (was_live l d live)
          ∙ ap (λ (js : List Jack). Some (replicate (block_count js) 64)) (sym (C.ports.other_ports Outlets l d)))
          (cases_eq l key)

      -- the patch with the box is built as the patch was
      pub runs_on : IsBuilt q table file rate
      runs_on =
          let can = still_rewires in
          record {
            own = can.own;
            keys = still_small;
            ports = can.ports;
            owners = C.owners file b.owners;
            apart = still_apart;
            inside = can.inside;
            linked = can.linked;
            orders = can.orders;
            numbers = can.numbers;
            blocks = still_blocks;
            no_others = λ l outlet none. ap (option_and_then (λ own. slice_get own outlet)) (C.blocks.others l (not_key l none))
                ∙ b.no_others l outlet (sym (C.grove.others l (not_key l none)) ∙ none);
            room = λ l live. ⊎_elim
                (λ (e : l ≡ key). subst (λ x. x < q.timers.end) (sym e) C.clock_room)
                (λ (d : l ≢ key). rw C.clocks (b.room l (was_live l d live))) (cases_eq l key);
            same_rate = C.rate ∙ b.same_rate;
          }
