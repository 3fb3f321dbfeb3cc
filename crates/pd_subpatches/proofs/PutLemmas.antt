-- A box that comes with an empty canvas inside, layer by layer.
use Rattle.std.proofs.Common.{◌≡◌, ℕ, ◌+◌, ◌<◌, ◌≤◌, ◌^◌, true, List, [], ◌∷◌, ◌++◌, length, replicate, Option, Some, None, IsSome, refl, sym, ap, ◌∙◌, subst}
use Rattle.std.specs.Prelude.{slice_get}
use Rattle.std.proofs.lemmas.Option.{none-some}
use Rattle.slab.specs.Slab.{get}
use Rattle.pd_atom.specs.Names.{Names}
use Rattle.pd_kind.specs.States.{silent_block}
use Rattle.pd_name.specs.declared.Class.{Class}
use Rattle.pd_name.specs.Rows.{Row, owners_of}
use Rattle.pd_tree.specs.Trees.{Trees, Stand, width, stands_of, stand_of}
use Rattle.pd_grove.specs.declared.grove.Grove.{Grove}
use Rattle.pd_grove.specs.declared.spots.Spot.{Spot}
use Rattle.pd_grove.specs.declared.ports.Side.{Side}
use Rattle.pd_grove.specs.declared.ports.Side.TheVariants.{Inlets, Outlets}
use Rattle.pd_grove.specs.declared.seeds.Seeds.{Seeds}
use Rattle.pd_grove.specs.Planting.{seeds_in, seed_stand, stands_ready, one, Uses}
use Rattle.pd_grove.specs.Standing.{Stands, depth_of}
use Rattle.pd_grove.specs.TextOrder.{deep}
use Rattle.pd_grove.specs.Forest.{IsForest}
use Rattle.pd_grove.specs.Grafts.{HasBoxMore, HasCanvasMore, HasPartMore}
use Rattle.pd_grove.proofs.OpenLemmas.{forest_opened}
use Rattle.pd_bind.specs.Naming.{Owned, owned_by}
use Rattle.pd_bind.specs.Owning.{root_owner, owned_at, owners_in}
use Rattle.pd_owning.specs.Bound.{but, AreOwnersBut, HasRoom, OthersStay}
use Rattle.pd_web.specs.declared.jacks.Jack.{Jack}
use Rattle.pd_web.specs.declared.web.Web.{Web}
use Rattle.pd_web.specs.Canvases.{keys_at}
use Rattle.pd_web.specs.Changes.{HasRoom as HasWebRoom}
use Rattle.pd_web.specs.Homes.{IsPortOf, inner_in as box_in}
use Rattle.pd_web.specs.Hops.{ports_told}
use Rattle.pd_web.specs.Jacks.{KindsSmall, kind_jacks, jacks_at, made_in}
use Rattle.pd_ports.specs.Boxes.{HasPorts}
use Rattle.pd_ports.specs.Room.{HasLists}
use Rattle.pd_patch.specs.declared.patch.Patch.{Patch}
use Rattle.pd_patch.specs.Numbers.{AreUnder, AreApart, IsOut}
use Rattle.pd_patch.specs.Values.{block_count}
use Rattle.pd_boxes.specs.declared.room.Room.{Room}
use Rattle.pd_boxes.specs.Rows.{NumbersFrom}
use Rattle.pd_boxes.specs.Room.{TakesBox}
use Rattle.pd_boxes.specs.Put.{node_of, keys_before, keys_behind, CanPut, IsLeaf, HasOwners}
use Rattle.pd_boxes.proofs.PutLemmas as box
use Rattle.pd_subpatches.specs.Shell.{IsShallow, IsShell}
use Rattle.pd_subpatches.proofs.ShellLemmas.{ShellThere, shell_in}
use Rattle.pd_subpatches.proofs.OpenedLemmas.{between, canvas_came, box_came, no_ports_of, keys_kept, owned_kept, owners_kept, small_kept, live_kept, no_jacks}
use Rattle.pd_subpatches.proofs.LawLemmas.{small_canvas}

-- the same room, for the box alone
abbrev room_alone : Room → Room
room_alone r = record r { seed = record r.seed { row = record r.seed.row { sheet = None } } }

module _ (p : Patch) (room : Room) (table : Names) (C : CanPut p) (T : TakesBox p room table) (S : IsShell room.seed) (low : IsShallow p room.place) (g : Grove) (key : ℕ) (left : Seeds)
    (vacant : key ≡ p.grove.nodes.vacant_key)
    (part : (t : Trees) (more : List Stand) → one (seed_stand room.seed) (stands_ready (seeds_in room.inside)) ≡ stands_of t ++ more → width t ≡ 1 → depth_of (get p.grove.boards room.place.canvas) + deep t < 257
    → HasPartMore (get p.grove.nodes) (get g.nodes) (get p.grove.boards) (get g.boards) room.place.canvas key (keys_before p room.place) (keys_behind p room.place))
    (stands : (t : Trees) (more : List Stand) → one (seed_stand room.seed) (stands_ready (seeds_in room.inside)) ≡ stands_of t ++ more → width t ≡ 1
    → Stands (get g.nodes) (get g.boards) room.place.canvas (depth_of (get p.grove.boards room.place.canvas)) (key ∷ []) t × (stands_ready (seeds_in left) ≡ more))
    (uses : Uses (get p.grove.nodes) (get g.nodes) (room.seed ∷ seeds_in room.inside) (seeds_in left)) where
  -- the box that came, with its canvas
  pub there : ShellThere (get p.grove.nodes) (get g.nodes) (get p.grove.boards) (get g.boards) room.place.canvas key room.seed (keys_before p room.place) (keys_behind p room.place)
  there = shell_in (get p.grove.nodes) (get g.nodes) (get p.grove.boards) (get g.boards) p.grove.root room.place.canvas key room.seed (seeds_in room.inside) (seeds_in left)
      (keys_before p room.place) (keys_behind p room.place) S T.inside C.forest low part stands uses

  leaf : IsLeaf (room_alone room).seed
  leaf = record { no_sheet = refl; no_boxes = S.no_boxes; roomy = S.roomy; small = small_canvas room.seed.row.kind S.canvas }

  abbrev takes : TakesBox p (room_alone room) table
  takes = record { end = T.end; keys = T.keys; grove = T.grove; few = T.few; ports = T.ports; owner = T.owner; orders = T.orders; blocks = T.blocks; inside = T.inside }

  -- the grove before the box got its canvas
  abbrev bare_grove : Grove
  bare_grove = between g key there.canvas (node_of room.place.canvas room.seed)

  came : HasBoxMore (get p.grove.nodes) (get bare_grove.nodes) (get p.grove.boards) (get bare_grove.boards) room.place.canvas key (node_of room.place.canvas room.seed)
      (keys_before p room.place) (keys_behind p room.place)
  came = box_came (get p.grove.nodes) (get p.grove.boards) g room.place.canvas key there.canvas (node_of room.place.canvas room.seed) there.board (keys_before p room.place) (keys_behind p room.place) there.more

  opened : HasCanvasMore (get bare_grove.nodes) (get g.nodes) (get bare_grove.boards) (get g.boards) key there.canvas (node_of room.place.canvas room.seed) there.board
  opened = canvas_came (get p.grove.nodes) (get p.grove.boards) g room.place.canvas key there.canvas (node_of room.place.canvas room.seed) there.board (keys_before p room.place) (keys_behind p room.place) there.more

  same_keys : (x : ℕ) → keys_at g x ≡ keys_at bare_grove x
  same_keys = keys_kept bare_grove g key there.canvas (node_of room.place.canvas room.seed) there.board opened

  pub key_low : key < T.end
  key_low = box.key_low p (room_alone room) table C takes leaf bare_grove key vacant came

  pub below_root : key < root_owner
  below_root = box.below_root p (room_alone room) table C takes leaf bare_grove key vacant came

  pub is_live : IsSome (get g.nodes key)
  is_live = subst (λ o. IsSome o) (sym opened.is) refl

  pub forest : g.root ≡ p.grove.root → IsForest (get g.nodes) (get g.boards) g.root
  forest root = forest_opened (get bare_grove.nodes) (get g.nodes) (get bare_grove.boards) (get g.boards) g.root key there.canvas (node_of room.place.canvas room.seed) there.board opened
      (box.forest p (room_alone room) table C takes leaf bare_grove key vacant came root)

  pub small : KindsSmall g
  small = small_kept bare_grove g key there.canvas (node_of room.place.canvas room.seed) there.board opened (box.small p (room_alone room) table C takes leaf bare_grove key vacant came)

  pub apart : get g.nodes root_owner ≡ None
  apart =
      let none = box.apart p (room_alone room) table C takes leaf bare_grove key vacant came in
      opened.others root_owner (λ e. none-some (node_of room.place.canvas room.seed) (sym none ∙ ap (get bare_grove.nodes) e ∙ opened.was)) ∙ none

  pub near : (k : ℕ) → IsSome (get g.nodes k) → HasWebRoom p.web (k + 1) 0 0
  near k live = box.near p (room_alone room) table C takes leaf bare_grove key vacant came k
      (live_kept bare_grove g key there.canvas (node_of room.place.canvas room.seed) there.board opened k live)

  pub bare : (side : Side) → ports_told p.web side key ≡ []
  bare = box.bare p (room_alone room) table C takes leaf bare_grove key vacant came

  -- the box has no ports
  none : (side : Side) → jacks_at side g key ≡ []
  none = no_jacks bare_grove g key there.canvas (node_of room.place.canvas room.seed) there.board opened

  kind_none : (side : Side) → kind_jacks side room.seed.row.kind ≡ []
  kind_none side = ap (kind_jacks side) S.canvas ∙ no_ports_of side

  pub lists : HasLists room.ports (length (jacks_at Inlets g key)) (length (jacks_at Outlets g key))
  lists =
      subst (λ (js : List Jack). HasLists room.ports (length js) (length (jacks_at Outlets g key))) (kind_none Inlets ∙ sym (none Inlets))
      (subst (λ (js : List Jack). HasLists room.ports (length (kind_jacks Inlets room.seed.row.kind)) (length js)) (kind_none Outlets ∙ sym (none Outlets)) T.ports)

  pub no_home : (j i : ℕ) → IsPortOf g j key i → ⊥
  no_home j i q = none-some j (sym (ap (λ (js : List Jack). box_in (slice_get js i)) (none q.side)) ∙ q.told)

  pub ports : (w : Web) → HasPorts p.web w key (λ side. jacks_at side g key) (made_in (get g.nodes key)) → HasPorts p.web w key (λ side. []) true
  ports w P = record {
    ports = λ side. P.ports side ∙ none side;
    made = P.made ∙ ap made_in opened.is;
    other_ports = P.other_ports;
    others_made = P.others_made;
    lines = P.lines;
    fans = P.fans;
    feeds = P.feeds;
  }

  -- Names.

  same_owned : (spot : Spot) → owned_at table (get g.nodes) spot ≡ owned_at table (get bare_grove.nodes) spot
  same_owned = owned_kept bare_grove g key there.canvas (node_of room.place.canvas room.seed) there.board opened table

  pub owner_fits : (spot : Spot) → spot.node ≡ key → HasRoom p.names (owned_at table (get g.nodes) spot) 1
  owner_fits spot e = subst (λ (o : Option Owned). HasRoom p.names o 1) (sym (same_owned spot)) (box.owner_fits p (room_alone room) table C takes leaf bare_grove key vacant came spot e)

  pub others_own : (names : List Row) (spot : Spot) → spot.node ≡ key → OthersStay p.names names (owned_at table (get g.nodes) spot) → OthersStay p.names names (owned_by table true (stand_of room.seed.row).cell)
  others_own names spot e h = box.others_own p (room_alone room) table C takes leaf bare_grove key vacant came names spot e
      (subst (λ (o : Option Owned). OthersStay p.names names o) (same_owned spot) h)

  same_owners : (file : List ℕ) (class : Class) (name : ℕ) → owners_in table file g class name ≡ owners_in table file bare_grove class name
  same_owners = owners_kept bare_grove g key there.canvas (node_of room.place.canvas room.seed) there.board opened refl table

  -- the names of a patch with the box are bound as those of the patch were
  pub owners : (names : List Row) (spot : Spot) → spot.node ≡ key → g.root ≡ p.grove.root
      → ((file : List ℕ) → AreOwnersBut p.names table file g (spot.node ∷ []) → AreOwnersBut names table file g [])
      → (file : List ℕ) → HasOwners p table file → (class : Class) (name : ℕ) → owners_of names class name ≡ owners_in table file g class name
  owners names spot e root B file H class name =
      box.owners p (room_alone room) table C takes leaf bare_grove key vacant came names spot e root
      (λ file was class name. B file (λ class name. was class name ∙ ap (but (spot.node ∷ [])) (sym (same_owners file class name))) class name ∙ ap (but []) (same_owners file class name))
      file H class name ∙ sym (same_owners file class name)

  -- Numbers and blocks.

  pub few : length (keys_at g room.place.canvas) < 2 ^ 32
  few = subst (λ (ks : List ℕ). length ks < 2 ^ 32) (sym (same_keys room.place.canvas)) (box.few p (room_alone room) table C takes leaf bare_grove key vacant came)

  pub once : AreApart (keys_at g room.place.canvas)
  once = subst AreApart (sym (same_keys room.place.canvas)) (box.once p (room_alone room) table C takes leaf bare_grove key vacant came)

  pub reach : (i k : ℕ) → slice_get (keys_at g room.place.canvas) i ≡ Some k → k < length p.numbers.items
  reach i k at = box.reach p (room_alone room) table C takes leaf bare_grove key vacant came i k (sym (ap (λ (ks : List ℕ). slice_get ks i) (same_keys room.place.canvas)) ∙ at)

  pub numbers : (new : List ℕ) → room.place.number ≤ length (keys_at p.grove room.place.canvas) → NumbersFrom p.numbers.items new (keys_at g room.place.canvas) room.place.number → AreUnder new (keys_at g room.place.canvas)
  numbers new within N = subst (λ (ks : List ℕ). AreUnder new ks) (sym (same_keys room.place.canvas))
      (box.numbers p (room_alone room) table C takes leaf bare_grove key vacant came new within
      (subst (λ (ks : List ℕ). NumbersFrom p.numbers.items new ks room.place.number) (same_keys room.place.canvas) N))

  pub other_numbers : (new : List ℕ) → NumbersFrom p.numbers.items new (keys_at g room.place.canvas) room.place.number → (k : ℕ) → IsOut (keys_at g room.place.canvas) k → slice_get new k ≡ slice_get p.numbers.items k
  other_numbers new N k out = box.other_numbers p (room_alone room) table C takes leaf bare_grove key vacant came new
      (subst (λ (ks : List ℕ). NumbersFrom p.numbers.items new ks room.place.number) (same_keys room.place.canvas) N) k
      (subst (λ (ks : List ℕ). IsOut ks k) (same_keys room.place.canvas) out)

  pub no_blocks : room.blocks.items ≡ []
  no_blocks = T.blocks ∙ ap (λ (js : List Jack). replicate (block_count js) silent_block) (kind_none Outlets)

  pub value_reach : (vs : ℕ) → T.end ≤ vs → key < vs
  value_reach = box.value_reach p (room_alone room) table C takes leaf bare_grove key vacant came
