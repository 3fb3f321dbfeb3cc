-- Of each kind: its ports are few where it runs of its own, beside another box or beside a table, and it doesn't look at its own kind.
use Rattle.std.proofs.Common.{arith, ◌≡◌, ◌≤◌, ◌^◌, ℕ, ℤ, List, [], length, Option, Some, None, option_map, unwrap_or, refl, sym, ap, true≢false}
use Rattle.pd_clock.specs.declared.times.Rate.TheVariants.{R44100}
use Rattle.pd_object.specs.declared.kinds.Kind.{Kind}
use Rattle.pd_object.specs.declared.kinds.Kind.TheVariants as kind
use Rattle.pd_object.specs.declared.kinds.Signal.{Signal}
use Rattle.pd_object.specs.declared.kinds.Signal.TheVariants as signal
use Rattle.pd_object.specs.declared.kinds.Tone.{Tone}
use Rattle.pd_object.specs.declared.kinds.Tone.TheVariants as tone
use Rattle.pd_object.specs.Ports.{Ports, ports_of, signal_ports, tone_ports, IsSmallSignal}
use Rattle.pd_kind.specs.declared.states.State.{State}
use Rattle.pd_kind.specs.declared.states.State.TheVariants as state
use Rattle.pd_kind.specs.Fit.{blank}
use Rattle.pd_kind.specs.States.{start_of, signal_start}
use Rattle.pd_kind.specs.Tables.{shared_of}
use Rattle.pd_vline.specs.Rows.{IsOpen}
use Rattle.pd_turn.specs.declared.sizes.Few.{Few}
use Rattle.pd_turn.specs.declared.sorts.Manner.{Manner}
use Rattle.pd_turn.specs.declared.sorts.Manner.TheVariants.{Own, Beside, Table, Dac, Inlet, Outlet, Never}
use Rattle.pd_turn.specs.Sizes.{few_of_tone, few_of_signal, few_of}
use Rattle.pd_turn.specs.Rows.{signal_manner, manner_of, vline_ran, own_ran}
use Rattle.pd_block.specs.Blocks.{channels_of}
use Rattle.pd_channels_law.specs.Channels.{HasFewChannels}
use Rattle.pd_sized.specs.Kinds.{blank_of}
use Rattle.pd_sized.specs.Sizes.{HasSizes, LooksAtSignal, LooksAt, Finds}
use Rattle.pd_sized.proofs.TurnLemmas.{own_whole, line_whole}
use Rattle.pd_sized.proofs.ServeLemmas.{goes_on}
use Rattle.pd_ends_law.proofs.OpenLemmas.{is_line}
use Rattle.pd_sound_law.specs.Freely.{vline_row, own_row, shares}
use Rattle.pd_sound_law.specs.Ready.{HasRow}

-- the ports of a kind
abbrev pub few_by : Ports → Option Few
few_by ports = Some (record { inlets = ports.signal_inlets; outlets = ports.signal_outlets })

few_tone : (t : Tone) → few_of_tone t ≡ few_by (tone_ports t)
few_tone (tone.Phasor z) = refl
few_tone (tone.Osc z) = refl
few_tone tone.Noise = refl

few_signal : (g : Signal) → HasRow (signal_manner g) → few_of_signal g ≡ few_by (signal_ports g)
few_signal (signal.Sig z) h = refl
few_signal (signal.Operation o None) h = refl
few_signal (signal.Operation o (Some right)) h = refl
few_signal (signal.Function f) h = refl
few_signal (signal.Clip low high) h = refl
few_signal signal.Line h = refl
few_signal signal.Samphold h = refl
few_signal (signal.Lop hertz) h = refl
few_signal (signal.Hip hertz) h = refl
few_signal (signal.Delwrite name time) h = refl
few_signal (signal.Delread name time) h = refl
few_signal (signal.Send w name) h = refl
few_signal (signal.Receive w name) h = refl
few_signal (signal.Throw name) h = refl
few_signal (signal.Catch name) h = refl
few_signal signal.Snapshot h = refl
few_signal (signal.Tabread name) h = refl
few_signal (signal.Dac channels) h = absurd h
few_signal signal.Inlet h = absurd h
few_signal signal.Outlet h = absurd h

pub few_ports : (k : Kind) → HasRow (manner_of k) → few_of k ≡ few_by (ports_of k)
few_ports (kind.Tone t) h = few_tone t
few_ports kind.Vline h = refl
few_ports (kind.Signal g) h = few_signal g h
few_ports k h = absurd h

-- a `vline~` that has run no later block runs
line_freely : (start : ℕ) (s : State) → start ≤ 2 ^ 101 → IsOpen start s → blank s ≡ blank_of kind.Vline → vline_ran start s ≡ vline_row start s
line_freely start (state.Vline r) top h e = line_whole [] r start top h
line_freely start s top h e = absurd (true≢false (sym (ap is_line e)))

-- what has its sizes, and has run no later block, does what its row says
pub own_freely : (start : ℕ) (k : Kind) (s : State) (ins : List (List ℤ)) → HasSizes s → start ≤ 2 ^ 101 → IsOpen start s → blank s ≡ blank_of k → own_ran start k s ins ≡ own_row start k s ins
own_freely start (kind.Tone t) s ins z top h e = refl
own_freely start kind.Vline s ins z top h e = line_freely start s top h e
own_freely start k s ins z top h e = own_whole k s ins z

-- what a box looks at shares values
shared_signal : (g : Signal) (s : State) → LooksAtSignal g s → shared_of s ≡ Some (shares s)
shared_signal (signal.Receive w name) (state.SignalSend held block) l = refl
shared_signal (signal.Throw name) (state.Catch sum) l = refl
shared_signal (signal.Delread name time) (state.Delwrite held values next ran) l = refl
shared_signal g s l = absurd l

pub shared_there : (k : Kind) (s : State) → LooksAt k s → shared_of s ≡ Some (shares s)
shared_there (kind.Signal g) s l = shared_signal g s l
shared_there k s l = absurd l

-- a box has few channels
few_signals : (g : Signal) → IsSmallSignal g → length (channels_of (kind.Signal g)) ≤ 1024
few_signals (signal.Dac channels) h = h
few_signals g h = omega arith

pub few_channels : (k : Kind) → HasFewChannels k → length (channels_of k) ≤ 1024
few_channels (kind.Signal g) h = few_signals g h
few_channels k h = omega arith

-- no box looks at what its own kind keeps
blind_signal : (g : Signal) → LooksAtSignal g (signal_start g R44100) → ⊥
blind_signal (signal.Receive w name) l = l
blind_signal (signal.Throw name) l = l
blind_signal (signal.Delread name time) l = l
blind_signal g l = absurd l

blind_start : (k : Kind) → LooksAt k (start_of k R44100) → ⊥
blind_start (kind.Signal g) l = blind_signal g l
blind_start k l = absurd l

pub not_itself : (k : Kind) (o : Option State) → option_map blank o ≡ Some (blank_of k) → Finds k o → ⊥
not_itself k o e f =
    let g : Finds k (Some (start_of k R44100)) = goes_on k (λ _. o) (λ _. Some (start_of k R44100)) 0 (λ _. sym e) f in
    blind_start k g.1
