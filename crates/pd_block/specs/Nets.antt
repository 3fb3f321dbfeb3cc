-- What a block of samples leaves as it is in a patch, and what it changes.
use Rattle.std.specs.Prelude.{ℕ, ◌==◌, List, Option, None, option_map, if◌then◌else◌}
use Rattle.std.specs.declared.vec.Vec.{Vec}
use Rattle.std.specs.declared.alloc.Global.{Global}
use Rattle.slab.specs.Slab.{get}
use Rattle.slab.specs.Slab.{Slab}
use Rattle.pd_clock.specs.declared.times.Rate.{Rate}
use Rattle.pd_clock.specs.Queue.{Clock}
use Rattle.pd_object.specs.declared.kinds.Kind.{Kind}
use Rattle.pd_kind.specs.declared.states.State.{State}
use Rattle.pd_name.specs.Rows.{Row}
use Rattle.pd_order.specs.Listing.{Listing}
use Rattle.pd_grove.specs.declared.nodes.Node.{Node}
use Rattle.pd_grove.specs.declared.boards.Board.{Board}
use Rattle.pd_grove.specs.Telling.{kind_in, inner_in, state_in, with_state}
use Rattle.pd_web.specs.declared.web.Web.{Web}
use Rattle.pd_links.specs.declared.links.Links.{Links}
use Rattle.pd_patch.specs.declared.patch.Patch.{Patch}
use Rattle.pd_patch.specs.Telling.{order_in}
use Rattle.pd_patch.specs.Values.{Blocks, blocks_told, chain_by, stuck_by}

-- What stays: the boxes by their keys, without what they keep; the canvases; the wires, and the signal wires as links; who owns the names;
-- the signal orders and the numbers of the boxes; the rate; the clocks, and for how many boxes there is room for one.
pub record Net : Type 0 where
  pub nodes : ℕ → Option Node
  pub boards : Slab Board
  pub root : ℕ
  pub web : Web
  pub links : Links
  pub owners : List Row
  pub orders : Vec (Option Listing) Global
  pub numbers : Vec ℕ Global
  pub rate : Rate
  pub clocks : List Clock
  pub end : ℕ

-- What changes: what the boxes keep, by their keys, and the blocks of their outlets.
pub record Sound : Type 0 where
  pub states : ℕ → Option State
  pub blocks : Blocks

-- a box without what it keeps
abbrev pub bare : Option Node → Option Node
bare o = option_map (with_state None) o

abbrev pub net_of : Patch → Net
net_of p = record {
  nodes = λ k. bare (get p.grove.nodes k);
  boards = p.grove.boards;
  root = p.grove.root;
  web = p.web;
  links = p.links;
  owners = p.names;
  orders = p.orders;
  numbers = p.numbers;
  rate = p.rate;
  clocks = p.timers.clocks.clocks;
  end = p.timers.end;
}

-- the same but for the clocks
abbrev pub with_clocks : Net → List Clock → Net
with_clocks net clocks = record {
  nodes = net.nodes;
  boards = net.boards;
  root = net.root;
  web = net.web;
  links = net.links;
  owners = net.owners;
  orders = net.orders;
  numbers = net.numbers;
  rate = net.rate;
  clocks = clocks;
  end = net.end;
}

abbrev pub states_of : Patch → ℕ → Option State
states_of p k = state_in (get p.grove.nodes k)

abbrev pub sound_of : Patch → Sound
sound_of p = record { states = states_of p; blocks = blocks_told p }

abbrev pub kind_at : Net → ℕ → Option Kind
kind_at net k = kind_in (net.nodes k)

-- the canvas that a box holds
abbrev pub inner_at : Net → ℕ → Option ℕ
inner_at net k = inner_in (net.nodes k)

-- the boxes of a canvas in the order in which they run, and those that are stuck
abbrev pub chain_at : Net → ℕ → List ℕ
chain_at net canvas = chain_by (order_in net.orders.items canvas)

abbrev pub stuck_at : Net → ℕ → List ℕ
stuck_at net canvas = stuck_by (order_in net.orders.items canvas)

-- the same but for one key
abbrev pub set_at : {A : Type 0} → (ℕ → A) → ℕ → A → ℕ → A
set_at f k a j = if j == k then a else f j
