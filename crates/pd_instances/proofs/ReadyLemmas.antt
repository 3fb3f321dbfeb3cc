-- A box came into the tree with all that lies in it: what the layers ask of the grove that it left.
use Rattle.std.proofs.Common.{◌≡◌, ◌≢◌, ℕ, zero, suc, ◌+◌, ◌*◌, ◌<◌, ◌≤◌, ◌^◌, ◌||◌, nat_eq, Bool, true, false, List, [], ◌∷◌, ◌++◌, append-nil, map, length, Option, Some, None, IsSome, IsTrue, refl, sym, ap, ◌∙◌, subst, inl, inr, eqb-true, arith}
use Rattle.std.specs.Prelude.{is_some, slice_get, vec_capacity, vec_len, slice_index_or, ◌⊎◌}
use Rattle.std.specs.List.{AllByRecursion, AllZip, flat_map}
use mathlib.Core.Logic.{⊎_elim}
use Rattle.std.proofs.lemmas.Bool.{cases_eq, false≢true, or_cases}
use Rattle.std.proofs.lemmas.Option.{none-some, same_Some}
use Rattle.slab.specs.Slab.{Slab, get}
use Rattle.pd_atom.specs.Names.{Names}
use Rattle.pd_object.specs.declared.kinds.Kind.{Kind}
use Rattle.pd_object.specs.Ports.{IsSmallKind}
use Rattle.pd_name.specs.declared.Class.{Class}
use Rattle.pd_order.specs.Listing.{Listing}
use Rattle.pd_links.specs.Linked.{ReachesKeys}
use Rattle.pd_order.proofs.Basics.{by_test}
use Rattle.pd_tree.specs.Trees.{Trees, Stand, stands_of, width}
use Rattle.pd_grove.specs.declared.nodes.Node.{Node}
use Rattle.pd_grove.specs.declared.boards.Board.{Board}
use Rattle.pd_grove.specs.declared.grove.Grove.{Grove}
use Rattle.pd_grove.specs.declared.ports.Side.{Side}
use Rattle.pd_grove.specs.declared.seeds.Seed.{Seed}
use Rattle.pd_grove.specs.declared.seeds.Seeds.{Seeds}
use Rattle.pd_grove.specs.declared.spots.Spot.{Spot}
use Rattle.pd_grove.specs.Forest.{IsForest, holder_in}
use Rattle.pd_grove.proofs.UseLemmas.{not_both}
use Rattle.pd_grove.specs.Grafts.{HasPartMore}
use Rattle.pd_grove.specs.Owning.{board_in}
use Rattle.pd_grove.specs.Planting.{IsMadeOf, one, seed_stand, seeds_in, stands_ready, Uses}
use Rattle.pd_grove.specs.Ports.{port_signal}
use Rattle.pd_grove.specs.Standing.{Stands, depth_of}
use Rattle.pd_grove.specs.States.{SeedsSmall}
use Rattle.pd_grove.specs.Telling.{inner_in, keys_in}
use Rattle.pd_grove.specs.TextOrder.{deep, keys_of_spots, spot, spots_in_order}
use Rattle.pd_bind.specs.Owning.{boxes_owning, root_owner}
use Rattle.pd_owning.specs.Bound.{is_among, AreNew, HasRoom}
use Rattle.pd_owning.specs.Parts.{ArePart, part_keys, part_spots}
use Rattle.pd_owning.proofs.PartKeyLemmas.{part_told}
use Rattle.pd_web.specs.declared.web.Web.{Web}
use Rattle.pd_web.specs.Canvases.{keys_at}
use Rattle.pd_web.specs.Changes.{HasRoom as HasWebRoom}
use Rattle.pd_web.specs.Homes.{IsPortOf}
use Rattle.pd_web.specs.Hops.{port_told, ports_told}
use Rattle.pd_web.specs.Jacks.{KindsSmall, made_in}
use Rattle.pd_web.specs.Sockets.{made_at}
use Rattle.pd_web.specs.Lines.{wires_in}
use Rattle.pd_ports.specs.Known.{HoldAlone}
use Rattle.pd_ports.proofs.OnceLemmas.{port_stands}
use Rattle.pd_patch.specs.declared.patch.Patch.{Patch}
use Rattle.pd_patch.specs.Listing.{IsThere}
use Rattle.pd_patch.specs.Numbers.{AreApart}
use Rattle.pd_placing.specs.Placing.{IsLoose, LacksBox}
use Rattle.pd_wiring.specs.Graphs.{AreWired}
use Rattle.pd_boxes.specs.declared.room.Place.{Place}
use Rattle.pd_boxes.specs.Put.{CanPut, IsNoPort, keys_before, keys_behind}
use Rattle.pd_clearing.specs.Clearing.{IsPartOf}
use Rattle.pd_clearing.proofs.SpotLemmas.{is_part}
use Rattle.pd_instances.specs.declared.room.PartRoom.{PartRoom}
use Rattle.pd_instances.specs.Needs.{inside_at, insides_of, need_at, needs_of, wires_all, AreLinkRooms, AreRoomsFor, Inside, IsOrderRoom}
use Rattle.pd_instances.specs.Layers.{OpensAll}
use Rattle.pd_instances.specs.Room.{stands_for, IsEmptyFor, TakesPart}
use Rattle.pd_instances.proofs.OpenLemmas.{among_middle, or_right, true_of}
use Rattle.pd_instances.proofs.PartLemmas.{forest, hold_alone, live, one_home, port_inside, stays, vacant}
use Rattle.pd_instances.proofs.AssembleLemmas.{made, none_had, wired}
use Rattle.pd_instances.proofs.NumberLemmas.{box_lives}
use Rattle.pd_instances.proofs.TellLemmas.{first_kind, part_insides, part_length, part_needs, part_stands}
use Rattle.pd_instances.proofs.RowLemmas.{inside_is}
use Rattle.pd_instances.proofs.NameLemmas.{owner_room}
use Rattle.pd_instances.proofs.LooseLemmas as loose

-- Keys that live are below the end of their slab.

filled_low : {X : Type 0} (xs : List (Option X)) (k : ℕ) → IsSome (slice_index_or xs k None) → k < length xs
filled_low [] k h = absurd (false≢true h)
filled_low (x ∷ xs) zero h = omega arith
filled_low (x ∷ xs) (suc k) h = let r = filled_low xs k h in omega (arith, r)

pub key_low : {X : Type 0} (s : Slab X) (end k : ℕ) → length s.slots ≤ end → IsSome (get s k) → k < end
key_low s end k l live = let r = filled_low s.slots k live in omega (arith, l, r)

none_ready : (seeds : List Seed) → stands_ready seeds ≡ [] → seeds ≡ []
none_ready [] e = refl
none_ready (s ∷ seeds) e = let l : length (stands_ready (s ∷ seeds)) ≡ 0 = ap length e in absurd (omega (arith, l))

made_small : (s : Seed) (o : Option Node) (n : Node) → IsMadeOf s o → o ≡ Some n → IsSmallKind s.row.kind → IsSmallKind n.kind
made_small s None n m e small = absurd m
made_small s (Some x) n m e small = subst (λ (y : Node). IsSmallKind y.kind) (same_Some x n e) (subst (λ (k : Kind). IsSmallKind k) (sym m.2) small)

seed_small : (seeds : List Seed) (i : ℕ) (s : Seed) → SeedsSmall seeds → slice_get seeds i ≡ Some s → IsSmallKind s.row.kind
seed_small [] i s A at = absurd (none-some s at)
seed_small (x ∷ seeds) zero s A at = subst (λ (y : Seed). IsSmallKind y.row.kind) (same_Some x s at) A.0
seed_small (x ∷ seeds) (suc i) s A at = seed_small seeds i s A.1 at

longer : (a b : List ℕ) (k : ℕ) → length (a ++ k ∷ b) ≡ suc (length (a ++ b))
longer [] b k = refl
longer (x ∷ a) b k = ap suc (longer a b k)

all_of : (P : ℕ → Type 0) (ks : List ℕ) → ((k : ℕ) → IsTrue (is_among ks k) → P k) → AllByRecursion P ks
all_of P [] h = tt
all_of P (k ∷ ks) h = (h k (here k ks), all_of P ks (λ x t. h x (later k ks x t)))
  where
    here : (x : ℕ) (xs : List ℕ) → IsTrue (is_among (x ∷ xs) x)
    here x xs = true_of (is_among (x ∷ xs) x) (among_middle [] x xs)

    later : (x : ℕ) (xs : List ℕ) (y : ℕ) → IsTrue (is_among xs y) → IsTrue (is_among (x ∷ xs) y)
    later x xs y t = ap (λ b. nat_eq y x || b) t ∙ or_right (nat_eq y x)

-- what holds of all that a list gives holds of what one key gives
all_front : {X : Type 0} (P : X → Type 0) (xs ys : List X) → AllByRecursion P (xs ++ ys) → AllByRecursion P xs × AllByRecursion P ys
all_front P [] ys A = (tt, A)
all_front P (x ∷ xs) ys A = let R = all_front P xs ys A.1 in ((A.0, R.0), R.1)

all_flat : {X : Type 0} (P : X → Type 0) (f : ℕ → List X) (ks : List ℕ) (k : ℕ) → AllByRecursion P (flat_map f ks) → IsTrue (is_among ks k) → AllByRecursion P (f k)
all_flat P f [] k A t = absurd (false≢true t)
all_flat P f (x ∷ ks) k A t = by (or_cases (nat_eq k x) (is_among ks k) t) (λ r. all_flat P f ks k (all_front P (f x) (flat_map f ks) A).1 r)
  where
    by : (nat_eq k x ≡ true) ⊎ (is_among ks k ≡ true) → (is_among ks k ≡ true → AllByRecursion P (f k)) → AllByRecursion P (f k)
    by (inl e) h = subst (λ y. AllByRecursion P (f y)) (sym (eqb-true k x e)) (all_front P (f x) (flat_map f ks) A).0
    by (inr e) h = h e

zipped_few : (is : List Inside) (orders : List Listing) → AllZip IsOrderRoom is orders → AllByRecursion (λ (i : Inside). i.boxes < 4294967295) is
zipped_few [] orders A = tt
zipped_few (i ∷ is) [] A = absurd A
zipped_few (i ∷ is) (o ∷ orders) A = (let f = A.0.takes.few in omega (arith, f), zipped_few is orders A.1)

-- all that the layers ask, where these spots are the boxes that came
pub record IsReady (p : Patch) (room : PartRoom) (table : Names) (g : Grove) (key : ℕ) (spots : List Spot) : Type 0 where
  pub more : HasPartMore (get p.grove.nodes) (get g.nodes) (get p.grove.boards) (get g.boards) room.place.canvas key (keys_before p room.place) (keys_behind p room.place)
  pub stands : (t : Trees) → one (seed_stand room.seed) (stands_ready (seeds_in room.inside)) ≡ stands_of t → width t ≡ 1
      → Stands (get g.nodes) (get g.boards) room.place.canvas (depth_of (get p.grove.boards room.place.canvas)) (key ∷ []) t
  pub uses : Uses (get p.grove.nodes) (get g.nodes) (room.seed ∷ seeds_in room.inside) []
  pub kind : (n : Node) → get g.nodes key ≡ Some n → n.kind ≡ room.seed.row.kind
  pub forest : IsForest (get g.nodes) (get g.boards) g.root
  pub alone : HoldAlone g
  pub homes_alone : (j a b i m : ℕ) → IsPortOf g j a i → IsPortOf g j b m → a ≡ b
  pub root_free : get g.nodes root_owner ≡ None
  pub low : (k : ℕ) → IsTrue (is_among (keys_of_spots spots) k) → k < root_owner
  pub clock_room : (k : ℕ) → IsTrue (is_among (keys_of_spots spots) k) → k < p.timers.end
  pub near : (k : ℕ) → IsSome (get g.nodes k) → HasWebRoom p.web (k + 1) 0 0
  pub values_reach : (k : ℕ) → IsSome (get g.nodes k) → k < length p.values.items
  pub numbers_reach : (k : ℕ) → IsSome (get g.nodes k) → k < length p.numbers.items
  pub outer_reach : (i k : ℕ) → slice_get (keys_at g room.place.canvas) i ≡ Some k → k < length p.numbers.items
  pub links_reach : (k : ℕ) → IsSome (get g.nodes k) → ReachesKeys p.links (k + 1)
  pub outer_once : AreApart (keys_at g room.place.canvas)
  pub outer_few : length (keys_at g room.place.canvas) < 2 ^ 32
  pub list : IsPartOf g key spots
  pub in_order : keys_of_spots spots ≡ part_keys (get g.nodes) (get g.boards) key
  pub fits : length spots ≤ vec_capacity room.signal
  pub all_live : AllByRecursion (λ k. IsSome (get g.nodes k)) (keys_of_spots spots)
  pub small : KindsSmall g
  pub rooms : AreRoomsFor (map (need_at g) (keys_of_spots spots)) room.boxes.items
  pub order_rooms : AllZip IsOrderRoom (flat_map (inside_at g) (keys_of_spots spots)) room.orders.items
  pub link_rooms : AllZip AreLinkRooms (flat_map (inside_at g) (keys_of_spots spots)) (map (λ v. v.items) room.links.items)
  pub web_room : (w : Web) (end : ℕ) → HasWebRoom w end (2 * wires_all (insides_of (stands_for room))) (wires_all (insides_of (stands_for room)))
      → HasWebRoom w 0 (2 * wires_all (flat_map (inside_at g) (keys_of_spots spots))) (wires_all (flat_map (inside_at g) (keys_of_spots spots)))
  pub bare : (side : Side) (k : ℕ) → IsTrue (is_among (keys_of_spots spots) k) → ports_told p.web side k ≡ []
  pub apart : (j k i : ℕ) → IsTrue (is_among (keys_of_spots spots) k) → IsPortOf g j k i → port_told p.web j ≡ None
  pub boards : (k c : ℕ) → IsTrue (is_among (keys_of_spots spots) k) → inner_in (get g.nodes k) ≡ Some c → IsSome (get g.boards c)
  pub slots : (k c : ℕ) → IsTrue (is_among (keys_of_spots spots) k) → inner_in (get g.nodes k) ≡ Some c → c < length p.orders.items
  pub lists : (k c : ℕ) → IsTrue (is_among (keys_of_spots spots) k) → inner_in (get g.nodes k) ≡ Some c → length (keys_at g c) ≤ vec_capacity room.signal
  pub few : (k c : ℕ) → IsTrue (is_among (keys_of_spots spots) k) → inner_in (get g.nodes k) ≡ Some c → length (keys_at g c) < 2 ^ 32
  pub owners : (class : Class) (name : ℕ) → length (boxes_owning table (get g.nodes) class name spots) ≢ 0 → HasRoom p.names (Some (class, name)) (length (boxes_owning table (get g.nodes) class name spots))
  pub loose : IsLoose p.links key
  pub loose_inside : (x c k : ℕ) → IsTrue (is_among (keys_of_spots spots) x) → inner_in (get g.nodes x) ≡ Some c → IsThere (keys_at g c) k → IsLoose p.links k
  pub stands_there : IsThere (keys_at g room.place.canvas) key
  pub lacks : LacksBox g p.links p.orders.items room.place.canvas key
  pub wired : (o : Web) → OpensAll g p.web o (keys_of_spots spots) → AreWired g o p.links
  pub made : (o : Web) → OpensAll g p.web o (keys_of_spots spots) → (k : ℕ) → made_at o.sockets.items k ≡ made_in (get g.nodes k)

module _ (p : Patch) (room : PartRoom) (table : Names) (C : CanPut p) (plain : IsNoPort p room.place room.seed.row.kind) (T : TakesPart p room table) (g : Grove) (key : ℕ) (left : Seeds)
    (part : (t : Trees) (more : List Stand) → one (seed_stand room.seed) (stands_ready (seeds_in room.inside)) ≡ stands_of t ++ more → width t ≡ 1 → depth_of (get p.grove.boards room.place.canvas) + deep t < 257
    → HasPartMore (get p.grove.nodes) (get g.nodes) (get p.grove.boards) (get g.boards) room.place.canvas key (keys_before p room.place) (keys_behind p room.place))
    (stands : (t : Trees) (more : List Stand) → one (seed_stand room.seed) (stands_ready (seeds_in room.inside)) ≡ stands_of t ++ more → width t ≡ 1
    → Stands (get g.nodes) (get g.boards) room.place.canvas (depth_of (get p.grove.boards room.place.canvas)) (key ∷ []) t × (stands_ready (seeds_in left) ≡ more))
    (uses : Uses (get p.grove.nodes) (get g.nodes) (room.seed ∷ seeds_in room.inside) (seeds_in left)) (root : g.root ≡ p.grove.root)
    (nodes_end : g.nodes.capacity ≡ p.grove.nodes.capacity) (boards_end : g.boards.capacity ≡ p.grove.boards.capacity)
    (low_boxes : (k : ℕ) → IsSome (get g.nodes k) → k < g.nodes.capacity) (low_canvases : (c : ℕ) → IsSome (get g.boards c) → c < g.boards.capacity) where
  abbrev tree : Trees
  tree = T.part.tree

  whole : one (seed_stand room.seed) (stands_ready (seeds_in room.inside)) ≡ stands_of tree ++ []
  whole = T.part.is_tree ∙ sym (append-nil (stands_of tree))

  -- The tree.

  pub more : HasPartMore (get p.grove.nodes) (get g.nodes) (get p.grove.boards) (get g.boards) room.place.canvas key (keys_before p room.place) (keys_behind p room.place)
  more = part tree [] whole T.part.single T.part.shallow

  pub stands_whole : (t : Trees) → one (seed_stand room.seed) (stands_ready (seeds_in room.inside)) ≡ stands_of t → width t ≡ 1
      → Stands (get g.nodes) (get g.boards) room.place.canvas (depth_of (get p.grove.boards room.place.canvas)) (key ∷ []) t
  stands_whole t e single = (stands t [] (e ∙ sym (append-nil (stands_of t))) single).0

  pub uses_all : Uses (get p.grove.nodes) (get g.nodes) (room.seed ∷ seeds_in room.inside) []
  uses_all = subst (λ xs. Uses (get p.grove.nodes) (get g.nodes) (room.seed ∷ seeds_in room.inside) xs) (none_ready (seeds_in left) (stands tree [] whole T.part.single).1) uses

  stood : Stands (get g.nodes) (get g.boards) room.place.canvas (depth_of (get g.boards room.place.canvas)) (key ∷ []) tree
  stood = subst (λ d. Stands (get g.nodes) (get g.boards) room.place.canvas d (key ∷ []) tree) (sym more.depth) (stands_whole tree T.part.is_tree T.part.single)

  lower : depth_of (get g.boards room.place.canvas) + deep tree < 257
  lower = let a = T.part.shallow in let e = more.depth in omega (arith, a, e)

  pub kind : (n : Node) → get g.nodes key ≡ Some n → n.kind ≡ room.seed.row.kind
  kind n is = first_kind (get g.nodes) (get g.boards) room.place.canvas (depth_of (get g.boards room.place.canvas)) key tree (seed_stand room.seed) (stands_ready (seeds_in room.inside)) n T.part.is_tree stood is

  pub F : IsForest (get g.nodes) (get g.boards) g.root
  F = forest p.grove g room.place.canvas key (keys_before p room.place) (keys_behind p room.place) C.forest root more

  pub alone : HoldAlone g
  alone = hold_alone g F

  pub homes_alone : (j a b i m : ℕ) → IsPortOf g j a i → IsPortOf g j b m → a ≡ b
  homes_alone = one_home g F

  pub N : (holder_in (get p.grove.boards room.place.canvas) ≡ None) ⊎ ((n : Node) → get g.nodes key ≡ Some n → (side : Side) → port_signal side n.kind ≡ None)
  N = ⊎_elim
      (λ (e : holder_in (get p.grove.boards room.place.canvas) ≡ None). inl e)
      (λ (f : (side : Side) → port_signal side room.seed.row.kind ≡ None). inr (λ n is side. ap (port_signal side) (kind n is) ∙ f side)) plain

  -- Keys.

  pub live_low : (k : ℕ) → IsSome (get g.nodes k) → k < T.end
  live_low k some = let a = low_boxes k some in let b = T.keys.boxes in omega (arith, a, b, nodes_end)

  pub below_root : (k : ℕ) → IsSome (get g.nodes k) → k < root_owner
  below_root k some = let a = live_low k some in let b = T.keys.low in omega (arith, a, b)

  pub root_free : get g.nodes root_owner ≡ None
  root_free = by (get g.nodes root_owner) refl
    where
      by : (o : Option Node) → get g.nodes root_owner ≡ o → get g.nodes root_owner ≡ None
      by None e = e
      by (Some n) e = let l = below_root root_owner (ap is_some e) in absurd (omega (arith, l))

  pub near : (k : ℕ) → IsSome (get g.nodes k) → HasWebRoom p.web (k + 1) 0 0
  near k some =
      let l = live_low k some in
      let W = T.web in
      record { boxes = (let x = W.boxes in omega (arith, l, x)); homes = (let x = W.homes in omega (arith, l, x)); ends = omega arith; wires = omega arith }

  pub values_reach : (k : ℕ) → IsSome (get g.nodes k) → k < length p.values.items
  values_reach k some = let l = live_low k some in let x = T.keys.values in omega (arith, l, x)

  pub numbers_reach : (k : ℕ) → IsSome (get g.nodes k) → k < length p.numbers.items
  numbers_reach k some = let l = live_low k some in let x = T.keys.numbers in omega (arith, l, x)

  pub outer_reach : (i k : ℕ) → slice_get (keys_at g room.place.canvas) i ≡ Some k → k < length p.numbers.items
  outer_reach i k at = numbers_reach k (box_lives (get g.nodes k) room.place.canvas (F.own.home room.place.canvas i k at))

  pub clocks_reach : (k : ℕ) → IsSome (get g.nodes k) → k < p.timers.end
  clocks_reach k some = let l = live_low k some in let x = T.keys.clocks in omega (arith, l, x)

  pub orders_reach : (c : ℕ) → IsSome (get g.boards c) → c < length p.orders.items
  orders_reach c some = let a = low_canvases c some in let b = T.keys.orders in omega (arith, a, b, boards_end)

  pub outer_once : AreApart (keys_at g room.place.canvas)
  outer_once = F.own.once room.place.canvas

  pub outer_few : length (keys_at g room.place.canvas) < 2 ^ 32
  outer_few =
      let e : length (keys_at g room.place.canvas) ≡ length (keys_before p room.place ++ key ∷ keys_behind p room.place) = ap length more.has in
      let d : length (keys_at p.grove room.place.canvas) ≡ length (keys_before p room.place ++ keys_behind p room.place) = ap length more.had in
      let l = longer (keys_before p room.place) (keys_behind p room.place) key in
      let f = T.few in omega (arith, e, d, l, f)

  pub spots_fit : (top : Bool) → IsEmptyFor (length (part_spots (get g.nodes) (get g.boards) (spot top key))) room.spots.items (vec_len room.spots) (vec_capacity room.spots)
  spots_fit top =
      subst (λ n. IsEmptyFor n room.spots.items (vec_len room.spots) (vec_capacity room.spots))
      (sym (part_length g room.place.canvas key tree stood more.lies lower top (stands_for room) T.part.is_tree)) T.spots

  pub links_reach : (k : ℕ) → IsSome (get g.nodes k) → ReachesKeys p.links (k + 1)
  links_reach k some = let l = live_low k some in let R = T.keys.links in record { into = (let x = R.into in omega (arith, l, x)); from = (let x = R.from in omega (arith, l, x)) }

  -- The list of the boxes that came.

  module _ (top : Bool) (spots : List Spot) (told : spots ≡ part_spots (get g.nodes) (get g.boards) (spot top key)) (at : (i : ℕ) × (slice_get (spots_in_order g) i ≡ Some (spot top key))) where
    pub list : IsPartOf g key spots
    list = is_part g F key (spot top key) spots refl at told

    in_order : keys_of_spots spots ≡ part_keys (get g.nodes) (get g.boards) key
    in_order = ap keys_of_spots told ∙ part_told (get g.nodes) (get g.boards) top key

    -- the list for signal boxes has room for all of them
    fits : length spots ≤ vec_capacity room.signal
    fits =
        let e = ap (λ (ps : List Spot). length ps) told ∙ part_length g room.place.canvas key tree stood more.lies lower top (stands_for room) T.part.is_tree in
        let l = T.all in omega (arith, e, l)

    abbrev keys : List ℕ
    keys = keys_of_spots spots

    pub came : (k : ℕ) → IsTrue (is_among keys k) → IsSome (get g.nodes k)
    came = live p.grove g room.place.canvas key (keys_before p room.place) (keys_behind p room.place) C.forest root more keys list.are

    pub all_live : AllByRecursion (λ k. IsSome (get g.nodes k)) keys
    all_live = all_of (λ k. IsSome (get g.nodes k)) keys came

    new : (k : ℕ) → IsTrue (is_among keys k) → get p.grove.nodes k ≡ None
    new = vacant p.grove g room.place.canvas key (keys_before p room.place) (keys_behind p room.place) C.forest root more keys list.are

    pub small : KindsSmall g
    small k n is = by_test (is_among keys k)
        (λ t.
        let m = uses_all.made k (new k t) (came k t) in
        made_small m.0 (get g.nodes k) n m.3 is
        (seed_small (room.seed ∷ seeds_in room.inside) m.1 m.0 T.small (ap (λ xs. slice_get xs m.1) (uses_all.split ∙ append-nil uses_all.used) ∙ m.2)))
        (λ f. C.small k n (sym (stays p.grove g room.place.canvas key (keys_before p room.place) (keys_behind p room.place) C.forest root more keys list.are k f) ∙ is))

    pub rooms : AreRoomsFor (map (need_at g) keys) room.boxes.items
    rooms = subst (λ ns. AreRoomsFor ns room.boxes.items)
        (sym (ap (λ ps. map (need_at g) (keys_of_spots ps)) told ∙ part_needs g room.place.canvas key tree stood more.lies lower top (stands_for room) T.part.is_tree)) T.boxes

    insides : flat_map (inside_at g) keys ≡ insides_of (stands_for room)
    insides = ap (λ ps. flat_map (inside_at g) (keys_of_spots ps)) told ∙ part_insides g room.place.canvas key tree stood more.lies lower top (stands_for room) T.part.is_tree

    pub order_rooms : AllZip IsOrderRoom (flat_map (inside_at g) keys) room.orders.items
    order_rooms = subst (λ is. AllZip IsOrderRoom is room.orders.items) (sym insides) T.orders

    pub link_rooms : AllZip AreLinkRooms (flat_map (inside_at g) keys) (map (λ v. v.items) room.links.items)
    link_rooms = subst (λ is. AllZip AreLinkRooms is (map (λ v. v.items) room.links.items)) (sym insides) T.links

    pub web_room : (w : Web) (end : ℕ) → HasWebRoom w end (2 * wires_all (insides_of (stands_for room))) (wires_all (insides_of (stands_for room)))
        → HasWebRoom w 0 (2 * wires_all (flat_map (inside_at g) keys)) (wires_all (flat_map (inside_at g) keys))
    web_room w end r =
        let e = ap wires_all insides in
        record { boxes = omega arith; homes = omega arith; ends = (let x = r.ends in omega (arith, x, e)); wires = (let x = r.wires in omega (arith, x, e)) }

    pub bare : (side : Side) (k : ℕ) → IsTrue (is_among keys k) → ports_told p.web side k ≡ []
    bare = none_had p g room.place key C root more keys list.are list.once N

    pub apart : (j k i : ℕ) → IsTrue (is_among keys k) → IsPortOf g j k i → port_told p.web j ≡ None
    apart j k i t R = by (port_told p.web j) refl
      where
        by : (o : Option (ℕ × ℕ)) → port_told p.web j ≡ o → port_told p.web j ≡ None
        by None e = e
        by (Some x) e =
            let S = C.runs.ports.homes j x.0 x.1 e in
            let H = port_stands p.grove S.side x.0 x.1 j S.told in
            let was = box_lives (get p.grove.nodes j) H.canvas (C.forest.own.home H.canvas H.place j H.at) in
            let inside = port_inside p.grove g room.place.canvas key (keys_before p room.place) (keys_behind p room.place) C.forest root more keys list.are j k i t R in
            absurd (not_both (get p.grove.nodes j) (new j inside) was)

    -- a canvas that one of them holds lives
    pub boards : (k c : ℕ) → IsTrue (is_among keys k) → inner_in (get g.nodes k) ≡ Some c → IsSome (get g.boards c)
    boards k c t e = by (get g.boards c) refl
      where
        by : (o : Option Board) → get g.boards c ≡ o → IsSome (get g.boards c)
        by None z = absurd (none-some k (sym (ap holder_in z) ∙ F.inside k c e))
        by (Some b) z = ap is_some z

    pub slots : (k c : ℕ) → IsTrue (is_among keys k) → inner_in (get g.nodes k) ≡ Some c → c < length p.orders.items
    slots k c t e = orders_reach c (boards k c t e)

    -- Rooms of canvases, one by one.

    inside_one : (k c : ℕ) → IsTrue (is_among keys k) → inner_in (get g.nodes k) ≡ Some c → inside_at g k ≡ record { wires = wires_in (get g.boards c); boxes = length (keys_at g c) } ∷ []
    inside_one k c t e = inside_is g k c e (boards k c t e)

    pub lists : (k c : ℕ) → IsTrue (is_among keys k) → inner_in (get g.nodes k) ≡ Some c → length (keys_at g c) ≤ vec_capacity room.signal
    lists k c t e =
        (subst (λ is. AllByRecursion (λ (i : Inside). i.boxes ≤ vec_capacity room.signal) is) (inside_one k c t e)
        (all_flat (λ (i : Inside). i.boxes ≤ vec_capacity room.signal) (inside_at g) keys k (subst (λ is. AllByRecursion (λ (i : Inside). i.boxes ≤ vec_capacity room.signal) is) (sym insides) T.signal) t)).0

    pub few : (k c : ℕ) → IsTrue (is_among keys k) → inner_in (get g.nodes k) ≡ Some c → length (keys_at g c) < 2 ^ 32
    few k c t e =
        let l = (subst (λ is. AllByRecursion (λ (i : Inside). i.boxes < 4294967295) is) (inside_one k c t e)
        (all_flat (λ (i : Inside). i.boxes < 4294967295) (inside_at g) keys k (zipped_few (flat_map (inside_at g) keys) room.orders.items order_rooms) t)).0 in
        omega (arith, l)

    pub owners : (class : Class) (name : ℕ) → length (boxes_owning table (get g.nodes) class name spots) ≢ 0 → HasRoom p.names (Some (class, name)) (length (boxes_owning table (get g.nodes) class name spots))
    owners class name =
        owner_room table class name (get g.nodes) (get g.boards) room.place.canvas (depth_of (get g.boards room.place.canvas)) top (key ∷ []) tree stood (stands_for room) spots p.names T.part.is_tree
        (told ∙ part_stands g room.place.canvas key tree stood more.lies lower top) (T.owners class name)

    -- All of it.

    pub ready : IsReady p room table g key spots
    ready = record {
      more = more;
      stands = stands_whole;
      uses = uses_all;
      kind = kind;
      forest = F;
      alone = alone;
      homes_alone = homes_alone;
      root_free = root_free;
      low = λ k t. below_root k (came k t);
      clock_room = λ k t. clocks_reach k (came k t);
      near = near;
      values_reach = values_reach;
      numbers_reach = numbers_reach;
      outer_reach = outer_reach;
      links_reach = links_reach;
      outer_once = outer_once;
      outer_few = outer_few;
      list = list;
      in_order = in_order;
      fits = fits;
      all_live = all_live;
      small = small;
      rooms = rooms;
      order_rooms = order_rooms;
      link_rooms = link_rooms;
      web_room = web_room;
      bare = bare;
      apart = apart;
      boards = boards;
      slots = slots;
      lists = lists;
      few = few;
      owners = owners;
      loose = loose.loose p g room.place key C root more keys list.are list.once N key ((list.are key).1 (zero, refl));
      loose_inside = loose.loose_inside p g room.place key C root more keys list.are list.once N;
      stands_there = loose.stands_there p g room.place key C root more keys list.are list.once N;
      lacks = loose.lacks p g room.place key C root more keys list.are list.once N;
      wired = wired p g room.place key C root more keys list.are list.once N;
      made = made p g room.place key C root more keys list.are list.once N;
    }
