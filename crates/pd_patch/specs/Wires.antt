-- The keys of wires.
use Rattle.std.specs.Prelude.{ℕ, slice_get, Option, option_and_then}
use Rattle.slab.specs.Slab.{get}
use Rattle.pd_grove.specs.Telling.{keys_in}
use Rattle.pd_web.specs.Hops.{fan_keys}
use Rattle.pd_patch.specs.declared.patch.Patch.{Patch}

-- the key of the wire at a place in the fan-out of an outlet of a box of a canvas
abbrev pub wire_in : Patch → ℕ → ℕ → ℕ → ℕ → Option ℕ
wire_in p canvas source outlet place = option_and_then (λ k. slice_get (fan_keys p.web k outlet) place) (slice_get (keys_in (get p.grove.boards canvas)) source)
