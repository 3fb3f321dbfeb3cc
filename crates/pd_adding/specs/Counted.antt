-- What is counted of a patch, so that no edit counts it anew.
use Rattle.std.specs.Prelude.{◌≡◌, ◌<◌, ◌≤◌, ℕ, ◌+◌, max, List, [], ◌∷◌, Option, Some, None}
use Rattle.std.specs.List.{AllByRecursion}
use Rattle.pd_clock.specs.declared.times.Rate.{Rate}
use Rattle.pd_kind.specs.States.{size_of}
use Rattle.pd_tree.specs.Trees.{Cell, Tree, weight, zeros_of}
use Rattle.pd_grove.specs.Standing.{GroveStands}
use Rattle.pd_grove.specs.TextOrder.{deep}
use Rattle.pd_web.specs.Changes.{wires_told}
use Rattle.pd_patch.specs.declared.patch.Patch.{Patch}
use Rattle.pd_patch.specs.Sounds.{sound_of}
use Rattle.pd_adding.specs.declared.counts.Counts.{Counts}

-- The counts are those of a patch: of the tree that stands in it the boxes and the values of tables, arrays and delay lines, its wires, and
-- a `$0` above all that it has.
pub record AreCounted (n : Counts) (p : Patch) : Type 0 where
  pub tree : Tree
  pub stands : GroveStands p.grove tree.sheet tree.boxes
  pub boxes : n.boxes ≡ weight tree.boxes
  pub wires : n.wires ≡ wires_told p.web
  pub sound : n.sound ≡ sound_of p.rate tree.boxes
  pub zeros : AllByRecursion (λ zero. zero < n.next_zero) (zeros_of tree)

-- A tree is within the limits of a patch, inside whose root at most 256 canvases lie in one another, and whose greatest `$0` is
-- 1,000,000,000.
pub record IsLimited (rate : Rate) (t : Tree) : Type 0 where
  pub shallow : deep t.boxes ≤ 256
  pub boxes : weight t.boxes ≤ 16384
  pub sound : sound_of rate t.boxes ≤ 16777216
  pub zeros : AllByRecursion (λ zero. zero ≤ 1000000000) (zeros_of t)

-- the number after the greatest of these, 0 where there are none
abbrev pub next_above : List ℕ → ℕ
next_above [] = 0
next_above (z ∷ zs) = max (z + 1) (next_above zs)

-- how many values of tables, arrays and delay lines a box keeps; 0 where there is none
abbrev pub sound_seen : Rate → Option Cell → ℕ
sound_seen rate None = 0
sound_seen rate (Some c) = size_of c.kind rate

abbrev pub sound_among : Rate → List (Option Cell) → ℕ
sound_among rate [] = 0
sound_among rate (c ∷ cells) = sound_seen rate c + sound_among rate cells

-- the counts with the wires that a patch has now
abbrev pub with_wires : ℕ → Counts → Counts
with_wires wires n = record { boxes = n.boxes; wires = wires; sound = n.sound; next_zero = n.next_zero }
