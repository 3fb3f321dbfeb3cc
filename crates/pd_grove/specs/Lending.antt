-- What a grove ends as, where one of its boxes is lent.
use Rattle.std.specs.Prelude.{ℕ, Option}
use Rattle.std.specs.Borrow.{LendsIf, Fml, MutBor}
use Rattle.slab.specs.Slab.{with_value}
use Rattle.pd_grove.specs.contracts.nodes.Node.{the_row as node_row}
use Rattle.pd_grove.specs.contracts.grove.Grove.{the_row}
use Rattle.pd_grove.specs.declared.nodes.Node.{Node}
use Rattle.pd_grove.specs.declared.grove.Grove.{Grove}

-- the grove with this box under a key
abbrev pub with_node : Grove → ℕ → Node → Grove
with_node g k n = record g { nodes = with_value g.nodes k n }

-- the grove ends with what was last written to the box, and as it was where there is none
abbrev pub lends_node : MutBor Grove → ℕ → Option (MutBor Node) → Fml
lends_node s k r = LendsIf the_row node_row s r (with_node s.now k) s.now
