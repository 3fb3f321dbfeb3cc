-- Boxes that are outlets of their canvas.
use Rattle.std.specs.Prelude.{Bool, true, false, Option, Some}
use Rattle.pd_object.specs.declared.kinds.Kind.{Kind}
use Rattle.pd_object.specs.declared.kinds.Kind.TheVariants as kind
use Rattle.pd_object.specs.declared.kinds.Glue.{Glue}
use Rattle.pd_object.specs.declared.kinds.Glue.TheVariants as glue
use Rattle.pd_object.specs.declared.kinds.Side.{Side}
use Rattle.pd_object.specs.declared.kinds.Side.TheVariants as side

abbrev pub is_outlet_side : Side → Bool
is_outlet_side side.Outlet = true
is_outlet_side s = false

abbrev pub is_outlet_glue : Glue → Bool
is_outlet_glue (glue.Port s) = is_outlet_side s
is_outlet_glue g = false

abbrev pub is_outlet_kind : Kind → Bool
is_outlet_kind (kind.Glue g) = is_outlet_glue g
is_outlet_kind k = false

-- a box that is an outlet of its canvas
abbrev pub is_outlet : Option Kind → Bool
is_outlet (Some k) = is_outlet_kind k
is_outlet o = false
