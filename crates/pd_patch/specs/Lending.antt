-- What a patch ends as, where one of its boxes is lent.
use Rattle.std.specs.Prelude.{ℕ, Option}
use Rattle.std.specs.Borrow.{LendsIf, Fml, MutBor}
use Rattle.pd_grove.specs.contracts.nodes.Node.{the_row as node_row}
use Rattle.pd_grove.specs.declared.nodes.Node.{Node}
use Rattle.pd_grove.specs.Lending.{with_node}
use Rattle.pd_patch.specs.contracts.patch.Patch.{the_row}
use Rattle.pd_patch.specs.declared.patch.Patch.{Patch}

-- the patch with this box under a key
abbrev pub with_box : Patch → ℕ → Node → Patch
with_box p k n = record p { grove = with_node p.grove k n }

-- the patch ends with what was last written to the box, and as it was where there is none
abbrev pub lends_box : MutBor Patch → ℕ → Option (MutBor Node) → Fml
lends_box s k r = LendsIf the_row node_row s r (with_box s.now k) s.now
