-- What an edit asks of a box that stands.
use Rattle.std.specs.Prelude.{Bool, false, ◌||◌, is_some, Option, Some, None}
use Rattle.pd_grove.specs.declared.nodes.Node.{Node}
use Rattle.pd_grove.specs.declared.ports.Side.TheVariants.{Inlets, Outlets}
use Rattle.pd_grove.specs.Ports.{port_signal}

-- whether a box is a port of its canvas
abbrev pub is_port_in : Option Node → Bool
is_port_in None = false
is_port_in (Some n) = is_some (port_signal Inlets n.kind) || is_some (port_signal Outlets n.kind)
