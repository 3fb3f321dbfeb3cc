-- How many values the boxes of a patch keep as tables, arrays and delay lines.
use Rattle.std.specs.Prelude.{ℕ, ◌+◌, List, [], ◌∷◌}
use Rattle.pd_clock.specs.declared.times.Rate.{Rate}
use Rattle.pd_kind.specs.States.{size_of}
use Rattle.pd_tree.specs.declared.rows.Row.{Row}
use Rattle.pd_tree.specs.Trees.{Trees, Done, Leaf, Holder}

abbrev pub sound_in : Rate → List Row → ℕ
sound_in r [] = 0
sound_in r (row ∷ rows) = size_of row.kind r + sound_in r rows

-- how many the boxes of a tree keep
abbrev pub sound_of : Rate → Trees → ℕ
sound_of r Done = 0
sound_of r (Leaf c rest) = size_of c.kind r + sound_of r rest
sound_of r (Holder c s inner rest) = size_of c.kind r + (sound_of r inner + sound_of r rest)
