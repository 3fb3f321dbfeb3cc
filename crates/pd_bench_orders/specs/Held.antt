-- The ends and wires that a benchmark of wires keeps.
use Rattle.std.specs.Prelude.{ℕ, ◌<◌, ◌≤◌, List}
use Rattle.pd_order.specs.Graph.{tally}
use Rattle.pd_wire.specs.Book.{Book, IsEnd, IsWire}

-- the outlets and the inlet are live ends, and the wires in hand are live and differ
pub record AreLive (b : Book) (out : List ℕ) (into : ℕ) (keys : List ℕ) : Type 0 where
  pub outlets : (e : ℕ) → 0 < tally e out → IsEnd b e
  pub inlet : IsEnd b into
  pub held : (k : ℕ) → 0 < tally k keys → IsWire b k
  pub apart : (k : ℕ) → tally k keys ≤ 1
