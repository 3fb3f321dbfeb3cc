-- A block of samples of a whole patch.
use Rattle.std.specs.Prelude.{ℕ, zero, suc, ℤ, pos, nat_le, nat_lt, List, [], ◌∷◌, length, slice_get, slice_set, slice_index_or, Option, Some, None, option_map, option_and_then, if◌then◌else◌}
use Rattle.pd_num.specs.Scale.{billionths, sum_of}
use Rattle.pd_object.specs.declared.kinds.Channel.{Channel}
use Rattle.pd_object.specs.declared.kinds.Channel.TheVariants.{Left, Right, Neither}
use Rattle.pd_object.specs.declared.kinds.Kind.{Kind}
use Rattle.pd_object.specs.declared.kinds.Kind.TheVariants as kind
use Rattle.pd_object.specs.declared.kinds.Signal.TheVariants as signal
use Rattle.pd_kind.specs.declared.states.State.{State}
use Rattle.pd_kind.specs.States.{silent_block}
use Rattle.pd_kind.specs.Tables.{table_of, block_begun}
use Rattle.pd_name.specs.declared.Class.{Class}
use Rattle.pd_name.specs.declared.Class.TheVariants as class
use Rattle.pd_name.specs.Rows.{Row, owners_of}
use Rattle.pd_signal.specs.Samples.{zip_with}
use Rattle.pd_turn.specs.declared.sizes.Few.{Few}
use Rattle.pd_turn.specs.declared.sorts.Manner.{Manner}
use Rattle.pd_turn.specs.declared.sorts.Manner.TheVariants.{Own, Beside, Table, Dac, Inlet, Outlet, Never}
use Rattle.pd_turn.specs.Held.{held_of}
use Rattle.pd_turn.specs.Sizes.{few_of}
use Rattle.pd_turn.specs.Rows.{Ran, still, own_ran, table_ran, table_name, manner_of}
use Rattle.pd_turn.specs.Pairs.{Pair, no_line, ran_alone, pair_of}
use Rattle.pd_web.specs.declared.web.Web.{Web}
use Rattle.pd_web.specs.Hops.{port_told}
use Rattle.pd_patch.specs.declared.patch.Patch.{Patch}
use Rattle.pd_patch.specs.Walking.{table_named}
use Rattle.pd_patch.specs.Values.{Blocks, with_block, with_silence}
use Rattle.pd_block.specs.Inlets.{inlet_block, inlet_blocks, steady}
use Rattle.pd_block.specs.Nets.{Net, Sound, kind_at, inner_at, chain_at, stuck_at, set_at}

-- what a block makes of a patch: what the boxes keep, the blocks of their outlets, and the two channels
pub record Played : Type 0 where
  pub sound : Sound
  pub out : List (List ℤ)

abbrev pub played : Sound → List (List ℤ) → Played
played s out = record { sound = s; out = out }

-- a box has run: it keeps this, and this is the block of its outlet
abbrev pub left_by : Sound → ℕ → Ran → Sound
left_by s node r = record { states = set_at s.states node (Some r.state); blocks = with_block s.blocks node 0 r.block }

-- a box that needs nothing of another one; one whose ports aren't few keeps what it kept, and is silent
abbrev pub own_with : Web → Blocks → ℕ → ℕ → Kind → State → Option Few → Ran
own_with web blocks start node k st None = still st
own_with web blocks start node k st (Some few) = own_ran start k st (inlet_blocks web blocks node few.inlets st)

abbrev pub own_in : Web → Blocks → ℕ → ℕ → Option Kind → State → Ran
own_in web blocks start node None st = still st
own_in web blocks start node (Some k) st = own_with web blocks start node k st (few_of k)

abbrev pub own_by : Net → ℕ → Sound → ℕ → Option Kind → Option State → Sound
own_by net start s node k None = s
own_by net start s node k (Some st) = left_by s node (own_in net.web s.blocks start node k st)

-- the values of a table, none where it isn't there
abbrev pub values_in : Option (List ℤ) → List ℤ
values_in None = []
values_in (Some values) = values

abbrev pub table_of_owner : (ℕ → Option State) → Option ℕ → List ℤ
table_of_owner states owner = values_in (option_and_then (λ k. option_and_then table_of (states k)) owner)

-- the values of the first table of the name, looked for among the other boxes
abbrev pub table_beside : List Row → (ℕ → Option State) → ℕ → Option Kind → List ℤ
table_beside owners states node k =
    table_of_owner (set_at states node None) (option_and_then (λ name. slice_get (owners_of owners class.Table name) 0) (option_and_then table_name k))

-- the same, told by a patch
abbrev pub table_told : Patch → Option Kind → List ℤ
table_told p k = values_in (option_and_then (table_named p) (option_and_then table_name k))

abbrev pub table_with : Web → Blocks → ℕ → Kind → State → List ℤ → Option Few → Ran
table_with web blocks node k st table None = still st
table_with web blocks node k st table (Some few) = table_ran k st (inlet_blocks web blocks node few.inlets st) table

abbrev pub table_in : Web → Blocks → ℕ → Option Kind → State → List ℤ → Ran
table_in web blocks node None st table = still st
table_in web blocks node (Some k) st table = table_with web blocks node k st table (few_of k)

abbrev pub table_by : Net → Sound → ℕ → Option Kind → Option State → Sound
table_by net s node k None = s
table_by net s node k (Some st) = left_by s node (table_in net.web s.blocks node k st (table_beside net.owners s.states node k))

-- the other box that a box of a kind looks at: the first of its name
abbrev pub first_owner : List Row → Class → Option ℕ → Option ℕ
first_owner owners c name = option_and_then (λ n. slice_get (owners_of owners c n) 0) name

abbrev pub owner_of : List Row → Kind → Option ℕ
owner_of owners (kind.Signal (signal.Receive spelling name)) = first_owner owners class.Bus name
owner_of owners (kind.Signal (signal.Throw name)) = first_owner owners class.Catch name
owner_of owners (kind.Signal (signal.Delread name time)) = first_owner owners class.Delay name
owner_of owners k = None

-- one channel gains a block, limited after each sum
abbrev pub added : Channel → List ℤ → List (List ℤ) → List (List ℤ)
added Left block out = slice_set out 0 (zip_with (sum_of billionths) (slice_index_or out 0 []) block)
added Right block out = slice_set out 1 (zip_with (sum_of billionths) (slice_index_or out 1 []) block)
added Neither block out = out

-- a `dac~`: what comes to each inlet is added to that one's channel
abbrev pub dac_from : Web → Blocks → ℕ → State → ℕ → List Channel → List (List ℤ) → List (List ℤ)
dac_from web blocks node st i [] out = out
dac_from web blocks node st i (c ∷ cs) out =
    dac_from web blocks node st (suc i) cs (added c (inlet_block web blocks node i (held_of st i)) out)

-- it has at most 1,024 of them
abbrev pub dac_of : Web → Blocks → ℕ → State → List Channel → List (List ℤ) → List (List ℤ)
dac_of web blocks node st channels out = if nat_le (length channels) 1024 then dac_from web blocks node st 0 channels out else out

abbrev pub channels_of : Kind → List Channel
channels_of (kind.Signal (signal.Dac channels)) = channels
channels_of _ = []

abbrev pub dac_with : Web → Blocks → ℕ → Kind → Option State → List (List ℤ) → List (List ℤ)
dac_with web blocks node k None out = out
dac_with web blocks node k (Some st) out = dac_of web blocks node st (channels_of k) out

abbrev pub dac_in : Web → Blocks → ℕ → Option Kind → Option State → List (List ℤ) → List (List ℤ)
dac_in web blocks node None st out = out
dac_in web blocks node (Some k) st out = dac_with web blocks node k st out

abbrev pub dac_by : Net → Played → ℕ → Option Kind → Option State → Played
dac_by net p node k st = record { sound = p.sound; out = dac_in net.web p.sound.blocks node k st p.out }

-- the number that the first inlet of a box holds
abbrev pub held_by : Option State → ℤ
held_by None = pos 0
held_by (Some st) = held_of st 0

-- an `inlet~` gives what comes to its port of the box around, and in the root canvas the number that it holds
abbrev pub port_block : Web → Blocks → Option (ℕ × ℕ) → ℤ → List ℤ
port_block web blocks None held = steady held
port_block web blocks (Some port) held = inlet_block web blocks port.0 port.1 held

abbrev pub inlet_by : Net → Sound → ℕ → Sound
inlet_by net s node =
    record { states = s.states; blocks = with_block s.blocks node 0 (port_block net.web s.blocks (port_told net.web node) (held_by (s.states node))) }

-- what comes to an `outlet~` is what its port of the box around gives
abbrev pub given_at : Blocks → Option (ℕ × ℕ) → List ℤ → Blocks
given_at blocks None block = blocks
given_at blocks (Some port) block = with_block blocks port.0 port.1 block

abbrev pub outlet_by : Net → Sound → ℕ → Sound
outlet_by net s node =
    record { states = s.states; blocks = given_at s.blocks (port_told net.web node) (inlet_block net.web s.blocks node 0 (held_by (s.states node))) }

-- beside another box
abbrev pub still_beside : State → State → Pair
still_beside st other = record { ran = still st; other = other }

abbrev pub pair_few : Web → Blocks → ℕ → Kind → State → State → Option Few → Pair
pair_few web blocks node k st other None = still_beside st other
pair_few web blocks node k st other (Some few) = pair_of k st (inlet_blocks web blocks node few.inlets st) other

abbrev pub pair_in : Web → Blocks → ℕ → Option Kind → State → State → Pair
pair_in web blocks node None st other = still_beside st other
pair_in web blocks node (Some k) st other = pair_few web blocks node k st other (few_of k)

-- beside none
abbrev pub alone_few : Web → Blocks → ℕ → Kind → State → Option Few → Ran
alone_few web blocks node k st None = still st
alone_few web blocks node k st (Some few) = ran_alone k st (inlet_blocks web blocks node few.inlets st) no_line

abbrev pub alone_in : Web → Blocks → ℕ → Option Kind → State → Ran
alone_in web blocks node None st = still st
alone_in web blocks node (Some k) st = alone_few web blocks node k st (few_of k)

-- what a box keeps and gives, and what has become of the other boxes
pub record Aside : Type 0 where
  pub ran : Ran
  pub sound : Sound

-- the other box keeps this
abbrev pub with_other : Sound → ℕ → State → Sound
with_other s owner st = record { states = set_at s.states owner (Some st); blocks = s.blocks }

-- the first box of the name that a box looks for
abbrev pub owner_in : List Row → Option Kind → Option ℕ
owner_in owners k = option_and_then (owner_of owners) k

-- beside a box that keeps this, or beside none
abbrev pub aside_alone : Web → Sound → ℕ → Option Kind → State → Aside
aside_alone web s node k st = record { ran = alone_in web s.blocks node k st; sound = s }

abbrev pub aside_pair : Sound → ℕ → Pair → Aside
aside_pair s owner p = record { ran = p.ran; sound = with_other s owner p.other }

abbrev pub aside_owner : Web → Sound → ℕ → Option Kind → State → ℕ → Option State → Aside
aside_owner web s node k st owner None = aside_alone web s node k st
aside_owner web s node k st owner (Some other) = aside_pair s owner (pair_in web s.blocks node k st other)

abbrev pub aside_found : Web → Sound → ℕ → Option Kind → State → Option ℕ → Aside
aside_found web s node k st None = aside_alone web s node k st
aside_found web s node k st (Some owner) = aside_owner web s node k st owner (s.states owner)

-- a box beside the first box of the name that it looks for, while its own state is out
abbrev pub aside_by : Net → Sound → ℕ → Option Kind → State → Aside
aside_by net s node k st = aside_found net.web s node k st (owner_in net.owners k)

abbrev pub with_none : Sound → ℕ → Sound
with_none s node = record { states = set_at s.states node None; blocks = s.blocks }

abbrev pub left_aside : ℕ → Aside → Sound
left_aside node a = left_by a.sound node a.ran

abbrev pub beside_by : Net → Sound → ℕ → Option Kind → Option State → Sound
beside_by net s node k None = s
beside_by net s node k (Some st) = left_aside node (aside_by net (with_none s node) node k st)

-- a box that holds no canvas runs
abbrev pub ran_as : Net → ℕ → Played → ℕ → Option Kind → Manner → Played
ran_as net start p node k Own = record { sound = own_by net start p.sound node k (p.sound.states node); out = p.out }
ran_as net start p node k Beside = record { sound = beside_by net p.sound node k (p.sound.states node); out = p.out }
ran_as net start p node k Table = record { sound = table_by net p.sound node k (p.sound.states node); out = p.out }
ran_as net start p node k Dac = dac_by net p node k (p.sound.states node)
ran_as net start p node k Inlet = record { sound = inlet_by net p.sound node; out = p.out }
ran_as net start p node k Outlet = record { sound = outlet_by net p.sound node; out = p.out }
ran_as net start p node k Never = p

abbrev pub manner_by : Option Kind → Manner
manner_by None = Never
manner_by (Some k) = manner_of k

unfoldable pub ran_plain : Net → ℕ → Played → ℕ → Played
ran_plain net start p node = ran_as net start p node (kind_at net node) (manner_by (kind_at net node))

-- one after another
abbrev pub each : {P : Type 0} → (P → ℕ → P) → P → List ℕ → P
each one p [] = p
each one p (x ∷ xs) = each one (one p x) xs

-- one that may be there
abbrev pub next : {P : Type 0} → (P → ℕ → P) → P → Option ℕ → P
next one p None = p
next one p (Some x) = one p x

-- the outlets of a box give 0
abbrev pub silenced : Sound → ℕ → Sound
silenced s node = record { states = s.states; blocks = with_silence s.blocks node }

-- a box runs: where it holds a canvas, that does
abbrev pub ran_box : Net → ℕ → (Played → ℕ → Played) → Played → ℕ → Option ℕ → Played
ran_box net start inside p node None = ran_plain net start p node
ran_box net start inside p node (Some inner) = inside (played (silenced p.sound node) p.out) inner

abbrev pub ran_one : Net → ℕ → (Played → ℕ → Played) → Played → ℕ → Played
ran_one net start inside p node = ran_box net start inside p node (inner_at net node)

-- the boxes of a canvas: the stuck ones give 0 and keep what they keep, and the others run down the chain
abbrev pub down_chain : Net → ℕ → (Played → ℕ → Played) → Played → ℕ → Played
down_chain net start inside p canvas = each (ran_one net start inside) (played (each silenced p.sound (stuck_at net canvas)) p.out) (chain_at net canvas)

-- A canvas runs, with the canvases in its boxes in their place. The number bounds how deep canvases lie in one another.
unfoldable pub ran_canvas : Net → ℕ → ℕ → Played → ℕ → Played
ran_canvas net start zero p canvas = p
ran_canvas net start (suc levels) p canvas = down_chain net start (ran_canvas net start levels) p canvas

-- a delay line has not been written in the block that begins; keys of boxes are below 2^32
abbrev pub line_begun : ℕ → Option State → Option State
line_begun k st = if nat_lt k 4294967296 then option_map block_begun st else st

abbrev pub begun_at : Sound → ℕ → Sound
begun_at s k = record { states = set_at s.states k (line_begun k (s.states k)); blocks = s.blocks }

abbrev pub begun_box : Sound → ℕ → Sound
begun_box s k = record { states = set_at s.states k (option_map block_begun (s.states k)); blocks = s.blocks }

abbrev pub begun : Sound → Sound
begun s = record { states = λ k. line_begun k (s.states k); blocks = s.blocks }

-- The block of a patch that starts at a time: down the root's chain, over two channels of silence. With the root so many canvases may lie
-- in one another.
abbrev pub block_within : ℕ → Net → Sound → ℕ → Played
block_within levels net s start = ran_canvas net start levels (played (begun s) (silent_block ∷ silent_block ∷ [])) net.root

-- More than 256 never do, so that any greater number gives the same block.
unfoldable pub block_of : Net → Sound → ℕ → Played
block_of net s start = block_within 257 net s start
