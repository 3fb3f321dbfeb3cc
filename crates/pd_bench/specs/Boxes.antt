-- Kinds of boxes that can be made.
use Rattle.pd_atom.specs.Names.{Names}
use Rattle.pd_object.specs.declared.kinds.Kind.{Kind}
use Rattle.pd_object.specs.Ports.{IsSmallKind}
use Rattle.pd_glue.specs.Rows.{HasTexts}

-- the kind's lists are small, and the atoms of its text are of every table
pub record IsFit (k : Kind) : Type 0 where
  pub small : IsSmallKind k
  pub texts : (names : Names) → HasTexts names k
