-- A box that comes, layer by layer.
use Rattle.std.proofs.Common.{◌≡◌, ◌≢◌, ℕ, ℤ, suc, ◌+◌, ◌<◌, ◌≤◌, ◌^◌, Bool, true, false, List, [], ◌∷◌, ◌++◌, length, Option, Some, None, IsSome, refl, sym, ap, ◌∙◌, subst, arith}
use Rattle.std.specs.Prelude.{slice_get, option_map, option_and_then, replicate}
use mathlib.Core.Logic.{⊎_elim}
use Rattle.std.proofs.lemmas.Bool.{cases_eq}
use Rattle.std.proofs.lemmas.Option.{none-some, same_Some}
use Rattle.slab.specs.Slab.{get}
use Rattle.pd_atom.specs.Names.{Names}
use Rattle.pd_object.specs.declared.kinds.Kind.{Kind}
use Rattle.pd_object.specs.declared.kinds.Kind.TheVariants as kind
use Rattle.pd_object.specs.Ports.{IsSmallKind}
use Rattle.pd_kind.specs.States.{silent_block}
use Rattle.pd_name.specs.declared.Class.{Class}
use Rattle.pd_name.specs.Rows.{Row, owners_of}
use Rattle.pd_tree.specs.declared.rows.Sheet.{Sheet}
use Rattle.pd_tree.specs.Ports.{is_made}
use Rattle.pd_tree.specs.Trees.{Cell, Trees, Done, Leaf, Stand, width, stands_of, stand_of}
use Rattle.pd_grove.specs.declared.nodes.Node.{Node}
use Rattle.pd_grove.specs.declared.boards.Board.{Board}
use Rattle.pd_grove.specs.declared.grove.Grove.{Grove}
use Rattle.pd_grove.specs.declared.seeds.Seed.{Seed}
use Rattle.pd_grove.specs.declared.spots.Spot.{Spot}
use Rattle.pd_grove.specs.declared.ports.Side.{Side}
use Rattle.pd_grove.specs.declared.ports.Side.TheVariants.{Inlets, Outlets}
use Rattle.pd_grove.specs.Standing.{node_seen, Stands, depth_of}
use Rattle.pd_grove.specs.Owning.{board_in}
use Rattle.pd_grove.specs.Planting.{seed_stand, stands_ready, one, Uses}
use Rattle.pd_grove.specs.TextOrder.{deep}
use Rattle.pd_grove.specs.Forest.{IsForest}
use Rattle.pd_grove.specs.Grafts.{HasBoxMore, HasPartMore}
use Rattle.pd_grove.proofs.GraftLemmas.{forest_more, keys_had, keys_has}
use Rattle.pd_bind.specs.Naming.{owned_by, owned_by_kind}
use Rattle.pd_bind.specs.Owning.{root_owner, owned_at, owners_in}
use Rattle.pd_owning.specs.Bound.{AreOwnersBut, HasRoom, OthersStay}
use Rattle.pd_web.specs.declared.jacks.Jack.{Jack}
use Rattle.pd_web.specs.declared.web.Web.{Web}
use Rattle.pd_web.specs.Canvases.{keys_at}
use Rattle.pd_web.specs.Changes.{HasRoom as HasWebRoom}
use Rattle.pd_web.specs.Hops.{ports_told}
use Rattle.pd_web.specs.Jacks.{KindsSmall, kind_jacks, jacks_at, made_in}
use Rattle.pd_ports.specs.Boxes.{HasPorts}
use Rattle.pd_ports.specs.Room.{HasLists}
use Rattle.pd_patch.specs.declared.patch.Patch.{Patch}
use Rattle.pd_patch.specs.Numbers.{AreUnder, AreApart, IsOut}
use Rattle.pd_patch.specs.Values.{block_count, first_blocks}
use Rattle.pd_boxes.specs.declared.room.Room.{Room}
use Rattle.pd_boxes.specs.Rows.{NumbersFrom, PutsUnder}
use Rattle.pd_boxes.specs.Room.{TakesBox}
use Rattle.pd_boxes.specs.Put.{node_of, keys_before, keys_behind, CanPut, IsLeaf, HasOwners}
use Rattle.pd_boxes.proofs.AloneLemmas.{leaf_comes}
use Rattle.pd_boxes.proofs.PortLemmas.{jacks_new, made_new, jacks_none}
use Rattle.pd_boxes.proofs.BuiltLemmas.{numbers_more, numbers_stay, owners_come}

-- The box in the tree.

leaf_stand : (s : Seed) → IsLeaf s → (rest : List Seed) → rest ≡ [] → one (seed_stand s) (stands_ready rest) ≡ stands_of (Leaf (seed_stand s).cell Done) ++ []
leaf_stand s leaf rest none =
    ap (λ (ss : List Seed). seed_stand s ∷ stands_ready ss) none
    ∙ ap (λ (x : Option Sheet). record { cell = (seed_stand s).cell; sheet = x; boxes = s.row.boxes } ∷ []) leaf.no_sheet
    ∙ ap (λ (m : ℕ). record { cell = (seed_stand s).cell; sheet = None; boxes = m } ∷ []) leaf.no_boxes

-- what planting a seed says of the boxes that come, where nothing is to come inside
pub leaf_in : (nodes nodes' : ℕ → Option Node) (boards boards' : ℕ → Option Board) (root c k : ℕ) (s : Seed) (rest left : List Seed) (before behind : List ℕ)
    → IsLeaf s → rest ≡ [] → IsForest nodes boards root
    → ((t : Trees) (more : List Stand) → one (seed_stand s) (stands_ready rest) ≡ stands_of t ++ more → width t ≡ 1 → depth_of (boards c) + deep t < 257 → HasPartMore nodes nodes' boards boards' c k before behind)
    → ((t : Trees) (more : List Stand) → one (seed_stand s) (stands_ready rest) ≡ stands_of t ++ more → width t ≡ 1 →
    Stands nodes' boards' c (depth_of (boards c)) (k ∷ []) t × (stands_ready left ≡ more))
    → Uses nodes nodes' (s ∷ rest) left → HasBoxMore nodes nodes' boards boards' c k (node_of c s) before behind
leaf_in nodes nodes' boards boards' root c k s rest left before behind leaf none F part stands U =
    let cell = (seed_stand s).cell in
    let is = leaf_stand s leaf rest none in
    let low = F.shallow c in
    leaf_comes nodes nodes' boards boards' root c k s left cell before behind (part (Leaf cell Done) [] is refl (omega (arith, low))) F
    ((stands (Leaf cell Done) [] is refl).0.0)
    (subst (λ (ss : List Seed). Uses nodes nodes' (s ∷ ss) left) none U)

-- Names.

owner_kind : (names : List Row) (table : Names) (c : Cell) (k : Kind) → HasRoom names (owned_by_kind table true c k) 1 → HasRoom names (owned_by_kind table false c k) 1
owner_kind names table c (kind.Glue g) h = h
owner_kind names table c (kind.Signal s) h = h
owner_kind names table c (kind.Panel p) h = h
owner_kind names table c kind.Canvas h = tt
owner_kind names table c _ h = h

owner_room : (names : List Row) (table : Names) (top : Bool) (c : Cell) → HasRoom names (owned_by table true c) 1 → HasRoom names (owned_by table top c) 1
owner_room names table true c h = h
owner_room names table false c h = owner_kind names table c c.kind h

others_kind : (old new : List Row) (table : Names) (c : Cell) (k : Kind) → OthersStay old new (owned_by_kind table false c k) → OthersStay old new (owned_by_kind table true c k)
others_kind old new table c (kind.Glue g) h = h
others_kind old new table c (kind.Signal s) h = h
others_kind old new table c (kind.Panel p) h = h
others_kind old new table c kind.Canvas h = record { owners = λ class name f. h.owners class name refl; spare = λ class name f. h.spare class name refl }
others_kind old new table c _ h = h

others_top : (old new : List Row) (table : Names) (top : Bool) (c : Cell) → OthersStay old new (owned_by table top c) → OthersStay old new (owned_by table true c)
others_top old new table true c h = h
others_top old new table false c h = others_kind old new table c c.kind h

-- Layers.

pub longer_by_one : (a b : List ℕ) (k : ℕ) → length (a ++ k ∷ b) ≡ suc (length (a ++ b))
longer_by_one [] b k = refl
longer_by_one (x ∷ a) b k = ap suc (longer_by_one a b k)

module _ (p : Patch) (room : Room) (table : Names) (C : CanPut p) (T : TakesBox p room table) (leaf : IsLeaf room.seed) (g : Grove) (key : ℕ) (vacant : key ≡ p.grove.nodes.vacant_key)
    (M : HasBoxMore (get p.grove.nodes) (get g.nodes) (get p.grove.boards) (get g.boards) room.place.canvas key (node_of room.place.canvas room.seed) (keys_before p room.place) (keys_behind p room.place)) where
  pub key_low : key < T.end
  key_low = subst (λ x. x < T.end) (sym vacant) T.keys.next

  pub below_root : key < root_owner
  below_root = let l = key_low in let m = T.keys.low in omega (arith, l, m)

  pub is_live : IsSome (get g.nodes key)
  is_live = subst (λ o. IsSome o) (sym M.is) refl

  pub live_low : (k : ℕ) → IsSome (get g.nodes k) → k < T.end
  live_low k live = ⊎_elim
      (λ (e : k ≡ key). subst (λ x. x < T.end) (sym e) key_low)
      (λ (d : k ≢ key). T.keys.live k (subst (λ o. IsSome o) (M.others k d) live)) (cases_eq k key)

  pub forest : g.root ≡ p.grove.root → IsForest (get g.nodes) (get g.boards) g.root
  forest root = subst (λ (r : ℕ). IsForest (get g.nodes) (get g.boards) r) (sym root)
      (forest_more (get p.grove.nodes) (get g.nodes) (get p.grove.boards) (get g.boards) p.grove.root room.place.canvas key (node_of room.place.canvas room.seed)
      (keys_before p room.place) (keys_behind p room.place) M C.forest)

  pub small : KindsSmall g
  small = λ l m is. ⊎_elim
      (λ (e : l ≡ key). subst (λ (x : Node). IsSmallKind x.kind) (same_Some (node_of room.place.canvas room.seed) m (sym M.is ∙ ap (get g.nodes) (sym e) ∙ is)) leaf.small)
      (λ (d : l ≢ key). C.small l m (sym (M.others l d) ∙ is)) (cases_eq l key)

  pub apart : get g.nodes root_owner ≡ None
  apart = M.others root_owner (λ e. let low = below_root in omega (arith, e, low)) ∙ C.apart

  pub near : (k : ℕ) → IsSome (get g.nodes k) → HasWebRoom p.web (k + 1) 0 0
  near k live =
      let low = live_low k live in
      let w = T.keys.web in
      let boxes = w.boxes in
      let homes = w.homes in
      record { boxes = omega (arith, low, boxes); homes = omega (arith, low, homes); ends = w.ends; wires = w.wires }

  -- the box that came has the ports of its kind
  pub jacks : (side : Side) → jacks_at side g key ≡ kind_jacks side room.seed.row.kind
  jacks = jacks_new p.grove g room.place.canvas key (node_of room.place.canvas room.seed) (keys_before p room.place) (keys_behind p room.place) M

  pub lists : HasLists room.ports (length (jacks_at Inlets g key)) (length (jacks_at Outlets g key))
  lists =
      subst (λ (js : List Jack). HasLists room.ports (length js) (length (jacks_at Outlets g key))) (sym (jacks Inlets))
      (subst (λ (js : List Jack). HasLists room.ports (length (kind_jacks Inlets room.seed.row.kind)) (length js)) (sym (jacks Outlets)) T.ports)

  pub bare : (side : Side) → ports_told p.web side key ≡ []
  bare side = C.runs.ports.ports side key
      ∙ jacks_none p.grove g room.place.canvas key (node_of room.place.canvas room.seed) (keys_before p room.place) (keys_behind p room.place) M side

  pub ports : (w : Web) → HasPorts p.web w key (λ side. jacks_at side g key) (made_in (get g.nodes key)) → HasPorts p.web w key (λ side. kind_jacks side room.seed.row.kind) (is_made room.seed.row.kind)
  ports w P = record {
    ports = λ side. P.ports side ∙ jacks side;
    made = P.made ∙ made_new p.grove g room.place.canvas key (node_of room.place.canvas room.seed) (keys_before p room.place) (keys_behind p room.place) M;
    other_ports = P.other_ports;
    others_made = P.others_made;
    lines = P.lines;
    fans = P.fans;
    feeds = P.feeds;
  }

  owned_here : (spot : Spot) → spot.node ≡ key → owned_at table (get g.nodes) spot ≡ owned_by table spot.is_top (stand_of room.seed.row).cell
  owned_here spot e = ap (option_and_then (λ (c : Cell). owned_by table spot.is_top c)) (ap (λ x. option_map (λ (n : Node). (node_seen n).cell) (get g.nodes x)) e ∙ ap (option_map (λ (n : Node). (node_seen n).cell)) M.is)

  pub owner_fits : (spot : Spot) → spot.node ≡ key → HasRoom p.names (owned_at table (get g.nodes) spot) 1
  owner_fits spot e = subst (λ o. HasRoom p.names o 1) (sym (owned_here spot e)) (owner_room p.names table spot.is_top (stand_of room.seed.row).cell T.owner)

  pub others_own : (names : List Row) (spot : Spot) → spot.node ≡ key → OthersStay p.names names (owned_at table (get g.nodes) spot) → OthersStay p.names names (owned_by table true (stand_of room.seed.row).cell)
  others_own names spot e h = others_top p.names names table spot.is_top (stand_of room.seed.row).cell (subst (λ o. OthersStay p.names names o) (owned_here spot e) h)

  -- the names of a patch with the box are bound as those of the patch were
  pub owners : (names : List Row) (spot : Spot) → spot.node ≡ key → g.root ≡ p.grove.root
      → ((file : List ℕ) → AreOwnersBut p.names table file g (spot.node ∷ []) → AreOwnersBut names table file g [])
      → (file : List ℕ) → HasOwners p table file → (class : Class) (name : ℕ) → owners_of names class name ≡ owners_in table file g class name
  owners names spot e root B file H =
      owners_come p.grove g p.names names table room.place.canvas key (node_of room.place.canvas room.seed) (keys_before p room.place) (keys_behind p room.place) M (forest root) root apart
      (λ file was. B file (subst (λ x. AreOwnersBut p.names table file g (x ∷ [])) (sym e) was)) file H

  has : keys_at g room.place.canvas ≡ keys_before p room.place ++ key ∷ keys_behind p room.place
  has = keys_has (get p.grove.boards) (get g.boards) room.place.canvas (keys_before p room.place ++ keys_behind p room.place) (keys_before p room.place ++ key ∷ keys_behind p room.place) M.keys

  had : keys_at p.grove room.place.canvas ≡ keys_before p room.place ++ keys_behind p room.place
  had = keys_had (get p.grove.boards) (get g.boards) room.place.canvas (keys_before p room.place ++ keys_behind p room.place) (keys_before p room.place ++ key ∷ keys_behind p room.place) M.keys

  pub few : length (keys_at g room.place.canvas) < 2 ^ 32
  few =
      let now = ap length has in
      let was = ap length had in
      let step = longer_by_one (keys_before p room.place) (keys_behind p room.place) key in
      let f = T.few in
      omega (arith, now, was, step, f)

  pub once : AreApart (keys_at g room.place.canvas)
  once = (forest_more (get p.grove.nodes) (get g.nodes) (get p.grove.boards) (get g.boards) p.grove.root room.place.canvas key (node_of room.place.canvas room.seed)
      (keys_before p room.place) (keys_behind p room.place) M C.forest).own.once room.place.canvas

  pub reach : (i k : ℕ) → slice_get (keys_at g room.place.canvas) i ≡ Some k → k < length p.numbers.items
  reach i k at =
      let F = forest_more (get p.grove.nodes) (get g.nodes) (get p.grove.boards) (get g.boards) p.grove.root room.place.canvas key (node_of room.place.canvas room.seed)
      (keys_before p room.place) (keys_behind p room.place) M C.forest in
      let low = live_low k (lies_live (get g.nodes k) (F.own.home room.place.canvas i k at)) in
      let n = T.keys.numbers in
      omega (arith, low, n)
    where
      lies_live : (o : Option Node) → board_in o ≡ Some room.place.canvas → IsSome o
      lies_live None e = absurd (none-some room.place.canvas e)
      lies_live (Some n) e = refl

  pub numbers : (new : List ℕ) → room.place.number ≤ length (keys_at p.grove room.place.canvas) → NumbersFrom p.numbers.items new (keys_at g room.place.canvas) room.place.number → AreUnder new (keys_at g room.place.canvas)
  numbers new within N = subst (λ (ks : List ℕ). AreUnder new ks) (sym has)
      (numbers_more p.numbers.items new (keys_at p.grove room.place.canvas) room.place.number key within (C.runs.numbers room.place.canvas)
      (subst (λ (ks : List ℕ). AreApart ks) has once) (subst (λ (ks : List ℕ). NumbersFrom p.numbers.items new ks room.place.number) has N))

  pub other_numbers : (new : List ℕ) → NumbersFrom p.numbers.items new (keys_at g room.place.canvas) room.place.number → (k : ℕ) → IsOut (keys_at g room.place.canvas) k → slice_get new k ≡ slice_get p.numbers.items k
  other_numbers new N k out = numbers_stay p.numbers.items new (keys_at g room.place.canvas) room.place.number k N out

  pub blocks : (w : Web) (old new : List (List (List ℤ))) → ports_told w Outlets key ≡ kind_jacks Outlets room.seed.row.kind → PutsUnder old new key room.blocks.items → PutsUnder old new key (first_blocks w key)
  blocks w old new told P = record {
    is = P.is ∙ ap (λ (bs : List (List ℤ)). Some bs) (T.blocks ∙ ap (λ (js : List Jack). replicate (block_count js) silent_block) (sym told));
    others = P.others;
  }

  pub value_reach : (vs : ℕ) → T.end ≤ vs → key < vs
  value_reach vs h = let l = key_low in omega (arith, l, h)
