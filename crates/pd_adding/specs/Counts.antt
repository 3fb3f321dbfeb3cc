-- Counts of a patch with boxes that come.
use Rattle.std.specs.Prelude.{◌≤◌, ◌+◌, ◌-◌, ℕ, length}
use Rattle.pd_atom.specs.Names.{Names}
use Rattle.pd_clock.specs.declared.times.Rate.{Rate}
use Rattle.pd_tree.specs.Trees.{Trees, weight, zeros_in}
use Rattle.pd_fit.specs.Fitting.{wires_inside}
use Rattle.pd_growth.specs.Steps.{Stock, zeros_from}
use Rattle.pd_patch.specs.Sounds.{sound_of}
use Rattle.pd_adding.specs.declared.counts.Counts.{Counts}

-- the counts are within the limits of a patch, whose greatest `$0` is 1,000,000,000
pub record AreWithin (n : Counts) : Type 0 where
  pub boxes : n.boxes ≤ 16384
  pub wires : n.wires ≤ 65536
  pub sound : n.sound ≤ 16777216
  pub zeros : n.next_zero ≤ 1000000001

-- with these boxes besides: the wires inside them that fit, and a `$0` for each abstraction
abbrev pub with_boxes : Rate → Trees → Counts → Counts
with_boxes rate t n = record {
  boxes = n.boxes + weight t;
  wires = n.wires + wires_inside t;
  sound = n.sound + sound_of rate t;
  next_zero = n.next_zero + length (zeros_in t);
}

-- with so many boxes less, which keep so many values of tables, arrays and delay lines, and with so many wires
abbrev pub counts_less : Counts → ℕ → ℕ → ℕ → Counts
counts_less n boxes values wires = record { boxes = n.boxes - boxes; wires = wires; sound = n.sound - values; next_zero = n.next_zero }

-- what growth has at hand then: these names, each `$0` that is left, and room for the boxes that there may still be
abbrev pub stock_by : Names → Counts → Stock
stock_by names n = record { names = names; zeros = zeros_from n.next_zero; room = 16384 - n.boxes }
