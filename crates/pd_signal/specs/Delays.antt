-- What a `delread~` reads from the ring of a `delwrite~`.
use Rattle.std.specs.Prelude.{ℕ, ℤ, ◌+◌, ◌-◌, Bool, min, max, List, length, if◌then◌else◌}
use Rattle.pd_clock.specs.declared.times.Rate.{Rate}
use Rattle.pd_kind.specs.States.{line_length}
use Rattle.pd_kind.specs.declared.tables.Line.{Line}
use Rattle.pd_signal.specs.Rings.{places_back, read_from}

-- How far back from the place of the next sample a reader begins, whose delay is so many samples. The delay is at most the line's length, and
-- at least a block where the writer hasn't run in this block; where it has, the block that it wrote is added.
abbrev pub way_back : ℕ → Bool → ℕ → ℕ
way_back n ran delay = if ran then min delay (n - 64) + 64 else max (min delay (n - 64)) 64

-- what a `delread~` of this delay in milliseconds gives
abbrev pub delayed : List ℤ → Line → Rate → ℤ → List ℤ
delayed ring line rate time = read_from ring (places_back (length ring) line.next (way_back (length ring) line.ran (line_length rate time)))
