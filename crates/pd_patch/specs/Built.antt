-- What a patch has as long as it runs, and what it has at first alone.
use Rattle.std.specs.Prelude.{◌≡◌, ◌<◌, ◌^◌, ℕ, ℤ, List, [], map, length, replicate, slice_get, Some, None, IsSome, option_map}
use Rattle.slab.specs.Slab.{get}
use Rattle.pd_atom.specs.Names.{Names}
use Rattle.pd_clock.specs.declared.times.Rate.{Rate}
use Rattle.pd_name.specs.declared.Class.{Class}
use Rattle.pd_name.specs.Rows.{owners_of}
use Rattle.pd_grove.specs.declared.grove.Grove.{Grove}
use Rattle.pd_grove.specs.declared.ports.Side.{Side}
use Rattle.pd_grove.specs.declared.ports.Side.TheVariants.{Outlets}
use Rattle.pd_grove.specs.States.{NodesFresh}
use Rattle.pd_grove.specs.Owning.{AreOwn}
use Rattle.pd_bind.specs.Owning.{owners_in, root_owner}
use Rattle.pd_web.specs.declared.web.Web.{Web}
use Rattle.pd_web.specs.Jacks.{jacks_at, made_in}
use Rattle.pd_web.specs.Sockets.{made_at}
use Rattle.pd_web.specs.Hops.{ports_told, port_told}
use Rattle.pd_web.specs.Homes.{IsPortOf}
use Rattle.pd_web.specs.Canvases.{keys_at}
use Rattle.pd_patch.specs.declared.patch.Patch.{Patch}
use Rattle.pd_patch.specs.Numbers.{AreUnder}
use Rattle.pd_patch.specs.Linked.{HasLinks, StayInside}
use Rattle.pd_patch.specs.Orders.{AreOrdered}
use Rattle.pd_patch.specs.Values.{Blocks, AreSilent, HasNoOthers, block_count, blocks_told}

-- how many values each block of a box has
abbrev pub block_sizes : List (List ℤ) → List ℕ
block_sizes own = map (λ (block : List ℤ). length block) own

-- each box of a tree has as many blocks as its outlets ask for, of 64 values each
abbrev pub HaveBlocks : Grove → Web → Blocks → Type 0
HaveBlocks g w blocks = (k : ℕ) → IsSome (get g.nodes k) → option_map block_sizes (slice_get blocks k) ≡ Some (replicate (block_count (ports_told w Outlets k)) 64)

-- each box has its ports, and a port box stands for one of the box around it
pub record HasPorts (g : Grove) (w : Web) : Type 0 where
  pub ports : (side : Side) (k : ℕ) → ports_told w side k ≡ jacks_at side g k
  pub made : (k : ℕ) → made_at w.sockets.items k ≡ made_in (get g.nodes k)
  pub homes : (j k i : ℕ) → port_told w j ≡ Some (k, i) → IsPortOf g j k i
  pub homes_found : (j k i : ℕ) → IsPortOf g j k i → IsSome (port_told w j)

-- What a patch has as long as it runs: boxes that lie in one canvas each, with keys below 2^32, and their ports; under each name its owners, in text order; wires that
-- stay in their canvases, the signal wires as links, and the signal order of each canvas; each box's number; of each box as many blocks of 64 values as its outlets ask for, and none under another key; and room
-- for one clock of each box.
pub record IsBuilt (p : Patch) (names : Names) (file : List ℕ) (rate : Rate) : Type 0 where
  pub own : AreOwn (get p.grove.nodes) (get p.grove.boards)
  pub keys : (k : ℕ) → IsSome (get p.grove.nodes k) → k < 2 ^ 32
  pub ports : HasPorts p.grove p.web
  pub owners : (class : Class) (name : ℕ) → owners_of p.names class name ≡ owners_in names file p.grove class name
  pub apart : get p.grove.nodes root_owner ≡ None
  pub inside : StayInside p.grove p.web
  pub linked : HasLinks p.web p.links
  pub orders : AreOrdered p.grove p.web p.orders.items
  pub numbers : (c : ℕ) → AreUnder p.numbers.items (keys_at p.grove c)
  pub blocks : HaveBlocks p.grove p.web (blocks_told p)
  pub no_others : HasNoOthers p.grove (blocks_told p)
  pub room : (k : ℕ) → IsSome (get p.grove.nodes k) → k < p.timers.end
  pub same_rate : p.rate ≡ rate

-- what it has at first alone: no clock, the first states, and silent blocks
pub record IsAtStart (p : Patch) (rate : Rate) : Type 0 where
  pub clocks : p.timers.clocks.clocks ≡ []
  pub states : NodesFresh rate 0 (get p.grove.nodes)
  pub blocks : AreSilent p.grove p.web (blocks_told p)
