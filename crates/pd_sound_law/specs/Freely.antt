-- A block of samples in which nothing that a patch in order has is looked at: each box runs its own row, down the signal orders.
use Rattle.std.specs.Prelude.{ℕ, zero, suc, ℤ, List, [], ◌∷◌, map, slice_index_or, Option, Some, None, option_map, unwrap_or, if◌then◌else◌}
use Rattle.std.specs.List.{range_with_len}
use Rattle.pd_object.specs.declared.kinds.Channel.{Channel}
use Rattle.pd_object.specs.declared.kinds.Kind.{Kind}
use Rattle.pd_object.specs.declared.kinds.Kind.TheVariants as kind
use Rattle.pd_object.specs.Ports.{ports_of}
use Rattle.pd_kind.specs.declared.states.State.{State}
use Rattle.pd_kind.specs.declared.states.State.TheVariants.{Bare}
use Rattle.pd_kind.specs.States.{silent_block}
use Rattle.pd_kind.specs.Tables.{shared_of, with_shared, block_begun}
use Rattle.pd_signal.specs.Rows.{run_of}
use Rattle.pd_vline.specs.Taken.{left_by_run, state_at}
use Rattle.pd_turn.specs.declared.sorts.Manner.{Manner}
use Rattle.pd_turn.specs.declared.sorts.Manner.TheVariants.{Own, Beside, Table, Dac, Inlet, Outlet, Never}
use Rattle.pd_turn.specs.Held.{held_of}
use Rattle.pd_turn.specs.Rows.{Ran, ran, silent_outs, values_from, tone_ran, table_ran, manner_of}
use Rattle.pd_turn.specs.Pairs.{RanWith, no_line, line_at, ran_alone, with_values}
use Rattle.pd_grove.specs.declared.ports.Side.TheVariants.{Outlets}
use Rattle.pd_web.specs.declared.web.Hop.{Hop}
use Rattle.pd_web.specs.declared.web.Web.{Web}
use Rattle.pd_web.specs.Hops.{jack_told, signal_in, feed_hops, port_told}
use Rattle.pd_patch.specs.Values.{Blocks, with_block}
use Rattle.pd_block.specs.Inlets.{gathered, steady}
use Rattle.pd_block.specs.Nets.{Net, Sound, kind_at, inner_at, chain_at, stuck_at}
use Rattle.pd_block.specs.Blocks.{Played, played, left_by, table_beside, owner_of, added, channels_of, given_at, Aside, with_other, with_none, left_aside, each, silenced}

-- the block of an outlet
abbrev pub block_from : Blocks → ℕ → ℕ → List ℤ
block_from blocks node outlet = slice_index_or (slice_index_or blocks node []) outlet []

-- what a wire brings: the block of the outlet from which it comes, where that carries signals
abbrev pub carried : Web → Blocks → Hop → Option (List ℤ)
carried web blocks hop = if signal_in (jack_told web Outlets hop.node hop.port) then Some (block_from blocks hop.node hop.port) else None

-- the sum of what wires bring, in their order
abbrev pub sum_along : Web → Blocks → Option (List ℤ) → List Hop → Option (List ℤ)
sum_along web blocks sum [] = sum
sum_along web blocks sum (hop ∷ hops) = sum_along web blocks (gathered sum (carried web blocks hop)) hops

-- what comes to an inlet: the sum of its signal wires, and without one the number that it holds
abbrev pub sum_at : Web → Blocks → ℕ → ℕ → ℤ → List ℤ
sum_at web blocks node inlet held = unwrap_or (sum_along web blocks None (feed_hops web node inlet)) (steady held)

-- what comes to all signal inlets of a box of a kind that keeps this
abbrev pub sums_at : Web → Blocks → ℕ → Kind → State → List (List ℤ)
sums_at web blocks node k st = map (λ i. sum_at web blocks node i (held_of st i)) (range_with_len 0 (ports_of k).signal_inlets)

-- what a box keeps: each one keeps something
abbrev pub kept_by : Sound → ℕ → State
kept_by s node = unwrap_or (s.states node) Bare

-- what comes to a box
abbrev pub sums_of : Net → Sound → ℕ → Kind → List (List ℤ)
sums_of net s node k = sums_at net.web s.blocks node k (kept_by s node)

-- a `vline~` gives its value at each of the block's samples
abbrev pub vline_row : ℕ → State → Ran
vline_row start st = record { state = left_by_run start st; block = values_from (state_at st) start }

-- the row of a box that needs nothing of another one
abbrev pub own_row : ℕ → Kind → State → List (List ℤ) → Ran
own_row start (kind.Tone t) st ins = tone_ran (kind.Tone t) st ins
own_row start kind.Vline st ins = vline_row start st
own_row start k st ins = ran (run_of k st ins (silent_outs (ports_of k).signal_outlets)).state (run_of k st ins (silent_outs (ports_of k).signal_outlets)).outs

abbrev pub own_run : Net → ℕ → Sound → ℕ → Kind → Sound
own_run net start s node k = left_by s node (own_row start k (kept_by s node) (sums_of net s node k))

-- beside the values of the first table of its name
abbrev pub table_run : Net → Sound → ℕ → Kind → Sound
table_run net s node k = left_by s node (table_ran k (kept_by s node) (sums_of net s node k) (table_beside net.owners s.states node (Some k)))

-- the values that a box shares
abbrev pub shares : State → List ℤ
shares st = unwrap_or (shared_of st) []

-- a box that keeps this, beside one that keeps that
abbrev pub with_its : Kind → State → List (List ℤ) → State → RanWith
with_its k st ins other = with_values k st ins (line_at other) (shares other)

-- beside the first box of the name that it looks for, whose values it may change, or beside none where there is none of that name
abbrev pub beside_found : Sound → Kind → State → List (List ℤ) → Option ℕ → Aside
beside_found s k st ins None = record { ran = ran_alone k st ins no_line; sound = s }
beside_found s k st ins (Some owner) =
    record {
      ran = (with_its k st ins (kept_by s owner)).ran;
      sound = with_other s owner (with_shared (kept_by s owner) (with_its k st ins (kept_by s owner)).values);
    }

abbrev pub beside_run : Net → Sound → ℕ → Kind → Sound
beside_run net s node k = left_aside node (beside_found (with_none s node) k (kept_by s node) (sums_of net s node k) (owner_of net.owners k))

-- a `dac~`: what comes to each inlet is added to that one's channel
abbrev pub dac_sums : Web → Blocks → ℕ → State → ℕ → List Channel → List (List ℤ) → List (List ℤ)
dac_sums web blocks node st i [] out = out
dac_sums web blocks node st i (c ∷ cs) out = dac_sums web blocks node st (suc i) cs (added c (sum_at web blocks node i (held_of st i)) out)

abbrev pub dac_run : Net → Played → ℕ → Kind → Played
dac_run net p node k = record { sound = p.sound; out = dac_sums net.web p.sound.blocks node (kept_by p.sound node) 0 (channels_of k) p.out }

-- an `inlet~` gives what comes to its port of the box around, and in the root canvas the number that it holds
abbrev pub port_sum : Web → Blocks → Option (ℕ × ℕ) → ℤ → List ℤ
port_sum web blocks None held = steady held
port_sum web blocks (Some port) held = sum_at web blocks port.0 port.1 held

abbrev pub inlet_run : Net → Sound → ℕ → Sound
inlet_run net s node =
    record { states = s.states; blocks = with_block s.blocks node 0 (port_sum net.web s.blocks (port_told net.web node) (held_of (kept_by s node) 0)) }

-- what comes to an `outlet~` is what its port of the box around gives
abbrev pub outlet_run : Net → Sound → ℕ → Sound
outlet_run net s node =
    record { states = s.states; blocks = given_at s.blocks (port_told net.web node) (sum_at net.web s.blocks node 0 (held_of (kept_by s node) 0)) }

-- a box runs that holds no canvas
abbrev pub run_as : Net → ℕ → Played → ℕ → Kind → Manner → Played
run_as net start p node k Own = record { sound = own_run net start p.sound node k; out = p.out }
run_as net start p node k Beside = record { sound = beside_run net p.sound node k; out = p.out }
run_as net start p node k Table = record { sound = table_run net p.sound node k; out = p.out }
run_as net start p node k Dac = dac_run net p node k
run_as net start p node k Inlet = record { sound = inlet_run net p.sound node; out = p.out }
run_as net start p node k Outlet = record { sound = outlet_run net p.sound node; out = p.out }
run_as net start p node k Never = p

abbrev pub run_kind : Net → ℕ → Played → ℕ → Option Kind → Played
run_kind net start p node None = p
run_kind net start p node (Some k) = run_as net start p node k (manner_of k)

-- where it holds a canvas, that does
abbrev pub run_box : Net → ℕ → (Played → ℕ → Played) → Played → ℕ → Option ℕ → Played
run_box net start inside p node None = run_kind net start p node (kind_at net node)
run_box net start inside p node (Some inner) = inside (played (silenced p.sound node) p.out) inner

abbrev pub run_one : Net → ℕ → (Played → ℕ → Played) → Played → ℕ → Played
run_one net start inside p node = run_box net start inside p node (inner_at net node)

-- The boxes of a canvas: the stuck ones give 0 and keep what they keep, and the others run down the chain. The number bounds how deep canvases
-- lie in one another.
unfoldable pub run_canvas : Net → ℕ → ℕ → Played → ℕ → Played
run_canvas net start zero p canvas = p
run_canvas net start (suc levels) p canvas =
    each (run_one net start (run_canvas net start levels)) (played (each silenced p.sound (stuck_at net canvas)) p.out) (chain_at net canvas)

-- no delay line has been written in the block that begins
abbrev pub all_begun : Sound → Sound
all_begun s = record { states = λ k. option_map block_begun (s.states k); blocks = s.blocks }

-- The block that starts at a time: the boxes run down the root's chain, over two channels of silence. With the root at most so many canvases lie
-- in one another.
unfoldable pub free_block : ℕ → Net → Sound → ℕ → Played
free_block levels net s start = run_canvas net start levels (played (all_begun s) (silent_block ∷ silent_block ∷ [])) net.root
