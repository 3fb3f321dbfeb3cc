-- What the messages of an event leave as it is, and what they change.
use Rattle.std.specs.Prelude.{ℕ, ◌==◌, List, Option, None, option_map, if◌then◌else◌}
use Rattle.std.specs.declared.vec.Vec.{Vec}
use Rattle.std.specs.declared.alloc.Global.{Global}
use Rattle.slab.specs.Slab.{get}
use Rattle.slab.specs.Slab.{Slab}
use Rattle.pd_atom.specs.Names.{Names}
use Rattle.pd_clock.specs.declared.times.Rate.{Rate}
use Rattle.pd_clock.specs.Queue.{Clock}
use Rattle.pd_kind.specs.declared.states.State.{State}
use Rattle.pd_name.specs.Rows.{Row}
use Rattle.pd_order.specs.Listing.{Listing}
use Rattle.pd_grove.specs.declared.nodes.Node.{Node}
use Rattle.pd_grove.specs.declared.boards.Board.{Board}
use Rattle.pd_grove.specs.Telling.{state_in, with_state}
use Rattle.pd_web.specs.declared.web.Web.{Web}
use Rattle.pd_links.specs.declared.links.Links.{Links}
use Rattle.pd_queue.specs.Queue.{Waiting}
use Rattle.pd_patch.specs.declared.patch.Patch.{Patch}
use Rattle.pd_patch.specs.Values.{Blocks, blocks_told}

-- What stays: the boxes by their keys, without what they keep; the canvases; the wires, and the signal wires as links; who owns the names;
-- the signal orders and the numbers of the boxes; the blocks of their outlets; the rate; and for how many boxes there is room for a clock.
pub record Net : Type 0 where
  pub nodes : ℕ → Option Node
  pub boards : Slab Board
  pub root : ℕ
  pub web : Web
  pub links : Links
  pub owners : List Row
  pub orders : Vec (Option Listing) Global
  pub numbers : Vec ℕ Global
  pub blocks : Blocks
  pub rate : Rate
  pub end : ℕ

-- What changes: what the boxes keep, by their keys; the clocks; the table of names; and the edits that canvases were asked for.
pub record Kept : Type 0 where
  pub states : ℕ → Option State
  pub clocks : List Clock
  pub names : Names
  pub queue : Waiting

-- a box without what it keeps
abbrev pub bare : Option Node → Option Node
bare o = option_map (with_state None) o

abbrev pub net_of : Patch → Net
net_of p = record {
  nodes = λ k. bare (get p.grove.nodes k);
  boards = p.grove.boards;
  root = p.grove.root;
  web = p.web;
  links = p.links;
  owners = p.names;
  orders = p.orders;
  numbers = p.numbers;
  blocks = blocks_told p;
  rate = p.rate;
  end = p.timers.end;
}

-- what the boxes keep, by their keys
abbrev pub states_of : Patch → ℕ → Option State
states_of p k = state_in (get p.grove.nodes k)

abbrev pub kept_of : Patch → Names → Waiting → Kept
kept_of p names queue = record {
  states = states_of p;
  clocks = p.timers.clocks.clocks;
  names = names;
  queue = queue;
}

-- the same but for one key
abbrev pub set_at : {A : Type 0} → (ℕ → A) → ℕ → A → ℕ → A
set_at f k a j = if j == k then a else f j
