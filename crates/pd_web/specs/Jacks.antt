-- Which ports a box under a key has.
use Rattle.std.specs.Prelude.{ℕ, zero, suc, Bool, true, false, nat_lt, List, [], ◌∷◌, ◌++◌, map, Option, Some, None}
use Rattle.slab.specs.Slab.{get}
use Rattle.pd_object.specs.declared.kinds.Kind.{Kind}
use Rattle.pd_tree.specs.Ports.{Sockets, sockets_of, is_made}
use Rattle.pd_grove.specs.declared.nodes.Node.{Node}
use Rattle.pd_grove.specs.declared.grove.Grove.{Grove}
use Rattle.pd_grove.specs.declared.ports.Side.{Side}
use Rattle.pd_grove.specs.declared.ports.Side.TheVariants.{Inlets, Outlets}
use Rattle.pd_grove.specs.declared.ports.PortSpot.{PortSpot}
use Rattle.pd_grove.specs.Ports.{ports_among}
use Rattle.pd_grove.specs.States.{NodesSmall}
use Rattle.pd_grove.specs.Telling.{keys_in}
use Rattle.pd_web.specs.declared.jacks.Jack.{Jack}

-- every box has a kind with no more ports than a text can give it
abbrev pub KindsSmall : Grove → Type 0
KindsSmall g = NodesSmall (get g.nodes)

-- a port that no box is
abbrev pub plain_jack : Bool → Jack
plain_jack b = record { is_signal = b; inner = None }

-- a port that a box is
abbrev pub spot_jack : PortSpot → Jack
spot_jack p = record { is_signal = p.is_signal; inner = Some p.node }

-- of so many ports, whether each carries signals, where the first some do
abbrev pub marks : ℕ → ℕ → List Bool
marks first zero = []
marks first (suc n) = marks first n ++ nat_lt n first ∷ []

abbrev pub on_side : Side → Sockets → List Bool
on_side Inlets s = s.inlets
on_side Outlets s = s.outlets

-- the ports of a box that holds no canvas
abbrev pub kind_jacks : Side → Kind → List Jack
kind_jacks side k = map plain_jack (on_side side (sockets_of k))

-- the ports of a box that holds the canvas of a key
abbrev pub canvas_jacks : Side → Grove → ℕ → List Jack
canvas_jacks side g c = map spot_jack (ports_among side (get g.nodes) (keys_in (get g.boards c)))

abbrev pub jacks_by : Side → Grove → Kind → Option ℕ → List Jack
jacks_by side g k None = kind_jacks side k
jacks_by side g k (Some c) = canvas_jacks side g c

abbrev pub jacks_in : Side → Grove → Option Node → List Jack
jacks_in side g None = []
jacks_in side g (Some n) = jacks_by side g n.kind n.inner

-- the ports of the box of a key on a side
abbrev pub jacks_at : Side → Grove → ℕ → List Jack
jacks_at side g k = jacks_in side g (get g.nodes k)

abbrev pub made_by : Kind → Option ℕ → Bool
made_by k None = is_made k
made_by k (Some c) = true

-- whether the box is made, as each that holds a canvas is
abbrev pub made_in : Option Node → Bool
made_in None = false
made_in (Some n) = made_by n.kind n.inner
