-- Clocks and blocks in time.
use Rattle.std.specs.Prelude.{◌≡◌, ℕ, zero, suc, ◌+◌, ◌-◌, min, max, nat_lt, nat_le, List, [], ◌∷◌, Option, Some, None, if◌then◌else◌}
use Rattle.std.specs.declared.vec.Vec.{Vec}
use Rattle.std.specs.declared.alloc.Global.{Global}
use Rattle.pd_clock.specs.Queue.{Clock}
use Rattle.pd_links.specs.declared.links.Links.{Links}
use Rattle.pd_order.specs.Listing.{Listing}
use Rattle.pd_web.specs.declared.web.Web.{Web}
use Rattle.pd_wiring.specs.Changes.{CanRewire}
use Rattle.pd_mix.specs.Samples.{block_bytes}
use Rattle.pd_made.specs.Tallies.{tallied}
use Rattle.pd_hearing.specs.Worlds.{Net}
use Rattle.pd_patch.specs.declared.patch.Patch.{Patch}
use Rattle.pd_block.specs.Nets as block
use Rattle.pd_block.specs.Blocks.{Played, block_of}
use Rattle.pd_stage.specs.Items.{heard}
use Rattle.pd_stage.specs.Stages.{Stage, Passage, still, followed_by}
use Rattle.pd_stage.specs.Events.{event, Firing}

-- a block of 64 samples has so many units
abbrev pub block_units : ℕ
block_units = 64000000000

-- at most so many clocks fire between two blocks
abbrev pub most_fired : ℕ
most_fired = 10000

-- the earlier of two clocks, the one that was set first where their times are the same
abbrev pub earlier : Clock → Option Clock → Clock
earlier c None = c
earlier c (Some d) = if nat_lt d.time c.time then d else c

-- the first that was set among the clocks of the least time
abbrev pub first_clock : List Clock → Option Clock
first_clock [] = None
first_clock (c ∷ cs) = Some (earlier c (first_clock cs))

-- the clocks without it
abbrev pub off_or_on : Clock → Option Clock → List Clock → List Clock → List Clock
off_or_on c None off on = off
off_or_on c (Some d) off on = if nat_lt d.time c.time then on else off

abbrev pub taken_off : List Clock → List Clock
taken_off [] = []
taken_off (c ∷ cs) = off_or_on c (first_clock cs) cs (c ∷ taken_off cs)

-- it, where its time is below a limit
abbrev pub if_below : ℕ → Option Clock → Option Clock
if_below limit None = None
if_below limit (Some c) = if nat_lt c.time limit then Some c else None

abbrev pub next_clock : ℕ → List Clock → Option Clock
next_clock limit cs = if_below limit (first_clock cs)

-- with other clocks
abbrev pub with_taken : Stage → List Clock → Stage
with_taken s clocks = record {
  file = s.file;
  net = s.net;
  states = s.states;
  clocks = clocks;
  names = s.names;
  base = s.base;
  time = s.time;
  block_end = s.block_end;
  fired = s.fired;
  tally = s.tally;
  ahead = s.ahead;
}

-- one more clock has fired; time never goes back
abbrev pub with_fired : Stage → ℕ → Stage
with_fired s time = record {
  file = s.file;
  net = s.net;
  states = s.states;
  clocks = s.clocks;
  names = s.names;
  base = s.base;
  time = max s.time time;
  block_end = s.block_end;
  fired = s.fired + 1;
  tally = s.tally;
  ahead = s.ahead;
}

-- a clock that was taken off fires
abbrev pub fires_at : Stage → ℕ → ℕ → Passage
fires_at s time owner = event (with_fired s time) (Firing owner)

abbrev pub fires : Stage → Clock → Passage
fires s c = fires_at (with_taken s (taken_off s.clocks)) c.time c.owner

abbrev pub fires_or_not : Stage → (Stage → Passage) → Option Clock → Passage
fires_or_not s rest None = still s
fires_or_not s rest (Some c) = followed_by (fires s c) rest

-- the clocks below a limit fire, so many at most
unfoldable pub fires_below : ℕ → ℕ → Stage → Passage
fires_below zero limit s = still s
fires_below (suc n) limit s = fires_or_not s (fires_below n limit) (next_clock limit s.clocks)

-- until there have been 10,000 since the last block
abbrev pub clocks_fire : ℕ → Stage → Passage
clocks_fire limit s = fires_below (most_fired - s.fired) limit s

-- the blocks of outlets are these
abbrev pub with_blocks : Net → Played → Net
with_blocks net p = record {
  nodes = net.nodes;
  boards = net.boards;
  root = net.root;
  web = net.web;
  links = net.links;
  owners = net.owners;
  orders = net.orders;
  numbers = net.numbers;
  blocks = p.sound.blocks;
  rate = net.rate;
  end = net.end;
}

-- what a block of samples finds
abbrev pub block_net : Stage → block.Net
block_net s = record {
  nodes = s.net.nodes;
  boards = s.net.boards;
  root = s.net.root;
  web = s.net.web;
  links = s.net.links;
  owners = s.net.owners;
  orders = s.net.orders;
  numbers = s.net.numbers;
  rate = s.net.rate;
  clocks = s.clocks;
  end = s.net.end;
}

-- the patch with other wires, their links, and orders
abbrev pub with_wires : Patch → Web → Links → Vec (Option Listing) Global → Patch
with_wires p web links orders = record p { web = web; links = links; orders = orders }

-- All of a patch is as it was once, but its clocks, what its boxes keep, the blocks of their outlets, and its wires with their links and
-- orders, and these are sound.
pub record IsStageOf (p : Patch) (s : Stage) : Type 0 where
  pub web : Web
  pub links : Links
  pub orders : Vec (Option Listing) Global
  pub net : block_net s ≡ block.with_clocks (block.net_of (with_wires p web links orders)) s.clocks
  pub rewires : CanRewire (with_wires p web links orders)

abbrev pub sound_at : Stage → block.Sound
sound_at s = record { states = s.states; blocks = s.net.blocks }

-- the boxes run for the block that comes next
abbrev pub played_at : Stage → Played
played_at s = block_of (block_net s) (sound_at s) (s.block_end - block_units)

-- no time is greater than the greatest number of 128 bits
abbrev pub most_time : ℕ
most_time = 340282366920938463463374607431768211455

-- the block has run: the time is raised to its end, the next one ends one block later, and its samples are added up
abbrev pub with_played : Stage → Played → Stage
with_played s p = record {
  file = s.file;
  net = with_blocks s.net p;
  states = p.sound.states;
  clocks = s.clocks;
  names = s.names;
  base = s.base;
  time = max s.time s.block_end;
  block_end = min (s.block_end + block_units) most_time;
  fired = 0;
  tally = tallied s.tally (block_bytes p.out);
  ahead = s.ahead;
}

abbrev pub sounding : Stage → Played → Passage
sounding s p = record { stage = with_played s p; items = heard (block_bytes p.out); edits = [] }

-- its samples are written
unfoldable pub block_sounds : Stage → Passage
block_sounds s = sounding s (played_at s)

-- a block: the clocks below its end fire, and it runs
abbrev pub block_runs : Stage → Passage
block_runs s = followed_by (clocks_fire s.block_end s) block_sounds

-- Each block that ends by a time runs. The number bounds the recursion: more than the units to that time are enough.
unfoldable pub blocks_run : ℕ → ℕ → Stage → Passage
blocks_run zero to s = still s
blocks_run (suc n) to s = if nat_le s.block_end to then followed_by (block_runs s) (blocks_run n to) else still s

-- the time is raised where it is below
abbrev pub with_time : ℕ → Stage → Stage
with_time to s = record {
  file = s.file;
  net = s.net;
  states = s.states;
  clocks = s.clocks;
  names = s.names;
  base = s.base;
  time = max s.time to;
  block_end = s.block_end;
  fired = s.fired;
  tally = s.tally;
  ahead = s.ahead;
}

abbrev pub time_is : ℕ → Stage → Passage
time_is to s = still (with_time to s)

-- the clocks below a time fire, and then it is that time
abbrev pub comes_to : ℕ → Stage → Passage
comes_to to s = followed_by (clocks_fire to s) (time_is to)

-- to a time: each block that ends by it, and then the clocks below it
abbrev pub advanced : ℕ → Stage → Passage
advanced to s = followed_by (blocks_run (to + 1) to s) (comes_to to)

-- the block runs that began before the present time
abbrev pub finished : Stage → Passage
finished s = if nat_lt s.block_end (s.time + block_units) then block_runs s else still s
