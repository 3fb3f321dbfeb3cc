-- What samples add up to on the way.
use Rattle.std.specs.Prelude.{◌≡◌, ℕ, List, ◌++◌}
use Rattle.pd_made.specs.Tallies.{nothing, tallied}
use Rattle.pd_stage.specs.Items.{samples_of}
use Rattle.pd_stage.specs.Stages.{Stage, Passage}

-- Of a part of a run from a stage, the samples are added up to those before it, where that stage has added up these.
abbrev pub AddsUp : Stage → Passage → Type 0
AddsUp s p = (before : List ℕ) → s.tally ≡ tallied nothing before → p.stage.tally ≡ tallied nothing (before ++ samples_of p.items)
