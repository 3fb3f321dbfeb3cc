-- The first states of boxes.
use Rattle.std.specs.Prelude.{◌≡◌, ℕ, List, Option, Some}
use Rattle.std.specs.List.{AllByRecursion}
use Rattle.pd_clock.specs.declared.times.Rate.{Rate}
use Rattle.pd_object.specs.Ports.{IsSmallKind}
use Rattle.pd_kind.specs.States.{start_of}
use Rattle.pd_kind.specs.Tables.{started}
use Rattle.pd_tree.specs.declared.rows.Row.{Row}
use Rattle.pd_grove.specs.declared.nodes.Node.{Node}
use Rattle.pd_grove.specs.declared.seeds.Seed.{Seed}

-- every row, seed or box has a kind with no more ports than a text can give it
abbrev pub AreSmall : List Row → Type 0
AreSmall rows = AllByRecursion (λ r. IsSmallKind r.kind) rows

abbrev pub SeedsSmall : List Seed → Type 0
SeedsSmall seeds = AllByRecursion (λ s. IsSmallKind s.row.kind) seeds

abbrev pub NodesSmall : (ℕ → Option Node) → Type 0
NodesSmall nodes = (k : ℕ) (n : Node) → nodes k ≡ Some n → IsSmallKind n.kind

-- a box keeps what its kind keeps at first, and a `timer` is reset now
abbrev pub IsFresh : Rate → ℕ → Seed → Type 0
IsFresh rate now s = s.state ≡ started (start_of s.row.kind rate) now

abbrev pub AreFresh : Rate → ℕ → List Seed → Type 0
AreFresh rate now seeds = AllByRecursion (IsFresh rate now) seeds

-- every box keeps what its kind keeps at first, and a `timer` is reset now
abbrev pub NodesFresh : Rate → ℕ → (ℕ → Option Node) → Type 0
NodesFresh rate now nodes = (k : ℕ) (n : Node) → nodes k ≡ Some n → n.state ≡ Some (started (start_of n.kind rate) now)
