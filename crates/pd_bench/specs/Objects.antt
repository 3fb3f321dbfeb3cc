-- Objects that can be made.
use Rattle.pd_object.specs.Ports.{IsSmallKind}
use Rattle.pd_bench.specs.declared.objects.Object.{Object}

-- no list of either kind is long
pub record HasSmallKinds (o : Object) : Type 0 where
  pub own : IsSmallKind o.kind
  pub other : IsSmallKind o.other
