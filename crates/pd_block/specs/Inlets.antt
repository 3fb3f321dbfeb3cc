-- What comes to a signal inlet.
use Rattle.std.specs.Prelude.{ℕ, ℤ, List, [], ◌∷◌, map, replicate, take, Option, Some, None, unwrap_or, if◌then◌else◌}
use Rattle.std.specs.List.{range_with_len}
use Rattle.pd_num.specs.Scale.{billionths, signal_of, sum_of}
use Rattle.pd_kind.specs.declared.states.State.{State}
use Rattle.pd_signal.specs.Samples.{zip_with}
use Rattle.pd_grove.specs.declared.ports.Side.TheVariants.{Outlets}
use Rattle.pd_web.specs.declared.web.Hop.{Hop}
use Rattle.pd_web.specs.declared.web.Web.{Web}
use Rattle.pd_web.specs.Hops.{jack_told, signal_in, feed_hops}
use Rattle.pd_patch.specs.Values.{Blocks, block_at}
use Rattle.pd_turn.specs.Held.{held_of}

-- what a wire brings: the block of the outlet from which it comes, where that carries signals
abbrev pub brought : Web → Blocks → Hop → Option (List ℤ)
brought web blocks hop = if signal_in (jack_told web Outlets hop.node hop.port) then block_at blocks hop.node hop.port else None

-- a block more, limited after the sum
abbrev pub gathered : Option (List ℤ) → Option (List ℤ) → Option (List ℤ)
gathered sum None = sum
gathered None (Some block) = Some block
gathered (Some sum) (Some block) = Some (zip_with (sum_of billionths) sum block)

-- the sum of what wires bring, in their order
abbrev pub sum_from : Web → Blocks → Option (List ℤ) → List Hop → Option (List ℤ)
sum_from web blocks sum [] = sum
sum_from web blocks sum (hop ∷ hops) = sum_from web blocks (gathered sum (brought web blocks hop)) hops

-- the first 65,536 wires of an inlet; a patch has no more
unfoldable pub wires_to : Web → ℕ → ℕ → List Hop
wires_to web node inlet = take 65536 (feed_hops web node inlet)

-- a number in each sample
unfoldable pub steady : ℤ → List ℤ
steady number = replicate 64 (signal_of number)

-- what comes to an inlet: the sum of its signal wires by source, outlet and fan-out, and without one the number that it holds
abbrev pub inlet_block : Web → Blocks → ℕ → ℕ → ℤ → List ℤ
inlet_block web blocks node inlet held = unwrap_or (sum_from web blocks None (wires_to web node inlet)) (steady held)

-- what comes to the first so many inlets of a box that keeps this
abbrev pub inlet_blocks : Web → Blocks → ℕ → ℕ → State → List (List ℤ)
inlet_blocks web blocks node count s = map (λ i. inlet_block web blocks node i (held_of s i)) (range_with_len 0 count)
