-- When no `vline~` has run a block that ends after a time.
use Rattle.std.specs.Prelude.{ℕ, Option, IfSome}
use Rattle.pd_object.specs.declared.kinds.Kind.{Kind}
use Rattle.pd_kind.specs.declared.states.State.{State}
use Rattle.pd_vline.specs.Rows.{IsOpen}
use Rattle.pd_grove.specs.Telling.{kind_in}
use Rattle.pd_hearing.specs.Worlds.{Net}

-- each box
pub record AreOpen (time : ℕ) (states : ℕ → Option State) : Type 0 where
  pub each : (k : ℕ) → IfSome (states k) (IsOpen time)

-- the kinds of the boxes to which messages come
abbrev pub kinds_in : Net → ℕ → Option Kind
kinds_in net k = kind_in (net.nodes k)
