-- The blocks that signal outlets give, and the signal orders of canvases.
use Rattle.std.specs.Prelude.{◌≡◌, ℕ, ℤ, List, [], map, length, replicate, slice_get, slice_set, slice_index_or, if◌then◌else◌, Option, Some, None, IsSome, option_and_then}
use Rattle.std.specs.List.{list_any}
use Rattle.slab.specs.Slab.{get}
use Rattle.pd_kind.specs.States.{silent_block}
use Rattle.pd_order.specs.Listing.{Listing}
use Rattle.pd_grove.specs.declared.grove.Grove.{Grove}
use Rattle.pd_grove.specs.declared.ports.Side.TheVariants.{Outlets}
use Rattle.pd_web.specs.declared.jacks.Jack.{Jack}
use Rattle.pd_web.specs.declared.web.Web.{Web}
use Rattle.pd_web.specs.Hops.{ports_told}
use Rattle.pd_patch.specs.declared.patch.Patch.{Patch}
use Rattle.pd_patch.specs.Telling.{order_in}

-- the blocks of all boxes: a list for each key, with a block for each outlet
abbrev pub Blocks : Type 0
Blocks = List (List (List ℤ))

abbrev pub blocks_told : Patch → Blocks
blocks_told p = map (λ b. b.items) p.values.items

-- the block of an outlet of the box of a key
abbrev pub block_at : Blocks → ℕ → ℕ → Option (List ℤ)
block_at blocks node outlet = option_and_then (λ own. slice_get own outlet) (slice_get blocks node)

-- another block in its place; where there is none, nothing changes
abbrev pub with_block : Blocks → ℕ → ℕ → List ℤ → Blocks
with_block blocks node outlet block = slice_set blocks node (slice_set (slice_index_or blocks node []) outlet block)

-- silence in place of each block of a box
abbrev pub with_silence : Blocks → ℕ → Blocks
with_silence blocks node = slice_set blocks node (map (λ _. silent_block) (slice_index_or blocks node []))

-- how many blocks a box with these outlets has: one for each, where one of them carries signals
abbrev pub block_count : List Jack → ℕ
block_count outlets = if list_any (λ j. j.is_signal) outlets then length outlets else 0

-- the blocks of a new box
abbrev pub first_blocks : Web → ℕ → List (List ℤ)
first_blocks w node = replicate (block_count (ports_told w Outlets node)) silent_block

-- the boxes of a tree have their first blocks
abbrev pub AreSilent : Grove → Web → Blocks → Type 0
AreSilent g w blocks = (k : ℕ) → IsSome (get g.nodes k) → slice_get blocks k ≡ Some (first_blocks w k)

-- no key but a box's has a block
abbrev pub HasNoOthers : Grove → Blocks → Type 0
HasNoOthers g blocks = (k outlet : ℕ) → get g.nodes k ≡ None → block_at blocks k outlet ≡ None

abbrev pub chain_by : Option Listing → List ℕ
chain_by None = []
chain_by (Some o) = o.chain

abbrev pub stuck_by : Option Listing → List ℕ
stuck_by None = []
stuck_by (Some o) = o.stuck

-- the boxes of a canvas in the order in which they run, and those that are stuck
abbrev pub chain_in : Patch → ℕ → List ℕ
chain_in p canvas = chain_by (order_in p.orders.items canvas)

abbrev pub stuck_in : Patch → ℕ → List ℕ
stuck_in p canvas = stuck_by (order_in p.orders.items canvas)

-- all but the tree and the blocks of outlets stays
pub record SilentRest (old new : Patch) : Type 0 where
  pub web : new.web ≡ old.web
  pub names : new.names ≡ old.names
  pub links : new.links ≡ old.links
  pub orders : new.orders ≡ old.orders
  pub numbers : new.numbers ≡ old.numbers
  pub rate : new.rate ≡ old.rate
  pub timers : new.timers ≡ old.timers
  pub present : new.present ≡ old.present
