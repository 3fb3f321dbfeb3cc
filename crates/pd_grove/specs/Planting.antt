-- What planting does.
use Rattle.std.specs.Prelude.{◌≡◌, ◌≢◌, ℕ, ◌^◌, ◌≤◌, List, [], ◌∷◌, ◌++◌, map, Option, Some, None, option_map, IsSome, slice_get, vec_len, vec_capacity}
use Rattle.std.specs.List.{AllByRecursion}
use Rattle.slab.specs.Slab.{Slab, HasRoomFor}
use Rattle.pd_tree.specs.declared.rows.Sheet.{Sheet}
use Rattle.pd_tree.specs.Trees.{Trees, Stand, stand_of}
use Rattle.pd_grove.specs.declared.nodes.Node.{Node}
use Rattle.pd_grove.specs.declared.boards.Board.{Board}
use Rattle.pd_grove.specs.declared.seeds.Seed.{Seed}
use Rattle.pd_grove.specs.declared.seeds.Seeds.{Seeds}
use Rattle.pd_grove.specs.Standing.{BoardSeen, board_seen, HasCell, Stands, depth_of, with_inner}

abbrev pub seeds_in : Seeds → List Seed
seeds_in s = s.items.items

abbrev pub seed_stand : Seed → Stand
seed_stand s = stand_of s.row

abbrev pub stands_ready : List Seed → List Stand
stands_ready seeds = map seed_stand seeds

abbrev pub one : Stand → List Stand → List Stand
one s more = s ∷ more

-- each seed is a box of the tree
abbrev pub SeedsOf : Trees → List Seed → Type 0
SeedsOf t seeds = AllByRecursion (λ s. HasCell t (seed_stand s).cell) seeds

-- a seed's list is empty and has room for the boxes that come into it
abbrev pub IsRoomy : Seed → Type 0
IsRoomy s = (s.room.items ≡ []) × (vec_len s.room ≡ 0) × (s.row.boxes ≤ vec_capacity s.room)

abbrev pub AreRoomy : List Seed → Type 0
AreRoomy seeds = AllByRecursion IsRoomy seeds

-- so many more boxes and canvases take no memory, and their keys are small
pub record HaveRoom (nodes : Slab Node) (boards : Slab Board) (n : ℕ) : Type 0 where
  pub nodes_fit : HasRoomFor nodes n
  pub boards_fit : HasRoomFor boards n
  pub nodes_small : nodes.capacity ≤ 2 ^ 32
  pub boards_small : boards.capacity ≤ 2 ^ 32

-- every box stays, and every canvas but b, which stays under its key
pub record Keeps (nodes nodes' : ℕ → Option Node) (boards boards' : ℕ → Option Board) (b : ℕ) : Type 0 where
  pub nodes_stay : (k : ℕ) → IsSome (nodes k) → nodes' k ≡ nodes k
  pub boards_stay : (k : ℕ) → k ≢ b → IsSome (boards k) → boards' k ≡ boards k
  pub lives : IsSome (boards' b)
  pub depth : depth_of (boards' b) ≡ depth_of (boards b)

abbrev pub with_keys : List ℕ → BoardSeen → BoardSeen
with_keys ks s = record { holder = s.holder; depth = s.depth; sheet = s.sheet; keys = s.keys ++ ks }

-- the canvas b, which lies in d others, has gained these boxes with what they hold
pub record Plants (nodes nodes' : ℕ → Option Node) (boards boards' : ℕ → Option Board) (b d : ℕ) (t : Trees) : Type 0 where
  pub keys : List ℕ
  pub gains : option_map board_seen (boards' b) ≡ option_map (with_keys keys) (option_map board_seen (boards b))
  pub stands : Stands nodes' boards' b d keys t

-- the box k has a new canvas, which lies in d others and has this sheet and these boxes
pub record PlantsInside (nodes nodes' : ℕ → Option Node) (boards boards' : ℕ → Option Board) (k d : ℕ) (s : Sheet) (t : Trees) : Type 0 where
  pub inner : ℕ
  pub keys : List ℕ
  pub node : nodes' k ≡ option_map (with_inner inner) (nodes k)
  pub vacant : boards inner ≡ None
  pub board : option_map board_seen (boards' inner) ≡ Some (record { holder = Some k; depth = d; sheet = s; keys = keys })
  pub stands : Stands nodes' boards' inner d keys t

-- under a key there is the box that this seed becomes, whatever it holds
abbrev pub IsMadeOf : Seed → Option Node → Type 0
IsMadeOf s None = ⊥
IsMadeOf s (Some n) =
    (n.element ≡ s.row.element) × (n.text ≡ s.row.text) × (n.kind ≡ s.row.kind) × (n.fault ≡ s.row.fault) × (n.state ≡ Some s.state)

-- the first seeds were used, and each box that came is made of one of them
pub record Uses (nodes nodes' : ℕ → Option Node) (seeds seeds' : List Seed) : Type 0 where
  pub used : List Seed
  pub split : seeds ≡ used ++ seeds'
  pub made : (k : ℕ) → nodes k ≡ None → IsSome (nodes' k) → (s : Seed) × (i : ℕ) × (slice_get used i ≡ Some s) × IsMadeOf s (nodes' k)
