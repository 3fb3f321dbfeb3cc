-- The boxes of each canvas stand in the order of their labels.
use Rattle.std.specs.Prelude.{ℕ}
use Rattle.slab.specs.Slab.{get}
use Rattle.pd_label.specs.Labels.{label_of as label_in}
pub use Rattle.pd_grove.specs.Keys.{AreLabelled, HaveLabels}
use Rattle.pd_grove.specs.declared.grove.Grove.{Grove}

abbrev pub IsLabelled : Grove → Type 0
IsLabelled g = AreLabelled g.labels (get g.boards)

-- the label of a box
abbrev pub label_of : Grove → ℕ → ℕ
label_of g k = label_in g.labels k
