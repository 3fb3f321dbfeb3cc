-- The signal boxes and the signal wires of canvases, and their orders.
use Rattle.std.specs.Prelude.{◌≡◌, ℕ, zero, suc, Bool, true, false, List, [], ◌∷◌, ◌++◌, length, map, filter, if◌then◌else◌, ◌||◌, Option, Some, None, is_some}
use Rattle.std.specs.List.{flat_map}
use Rattle.slab.specs.Slab.{get}
use Rattle.pd_object.specs.declared.kinds.Kind.{Kind}
use Rattle.pd_object.specs.declared.kinds.Kind.TheVariants as kind
use Rattle.pd_order.specs.Graph.{IsOrder}
use Rattle.pd_order.specs.Listing.{Listing}
use Rattle.pd_chain.specs.declared.graph.SignalWire.{SignalWire}
use Rattle.pd_chain.specs.Wires.{graph_of}
use Rattle.pd_grove.specs.declared.nodes.Node.{Node}
use Rattle.pd_grove.specs.declared.boards.Board.{Board}
use Rattle.pd_grove.specs.declared.grove.Grove.{Grove}
use Rattle.pd_grove.specs.declared.ports.Side.TheVariants.{Inlets, Outlets}
use Rattle.pd_web.specs.declared.web.Hop.{Hop}
use Rattle.pd_web.specs.declared.web.Web.{Web}
use Rattle.pd_web.specs.Hops.{ports_told, jack_told, signal_in, fan_hops}
use Rattle.pd_patch.specs.Telling.{order_in}

-- the boxes of these kinds stand in the signal order
abbrev pub is_signal : Kind → Bool
is_signal (kind.Tone t) = true
is_signal (kind.Signal s) = true
is_signal kind.Vline = true
is_signal _ = false

-- so do those that hold canvases
abbrev pub is_signal_node : Option Node → Bool
is_signal_node None = false
is_signal_node (Some n) = is_some n.inner || is_signal n.kind

-- those of the boxes that stand in the signal order
abbrev pub signal_among : Grove → List ℕ → List ℕ
signal_among g keys = filter (λ k. is_signal_node (get g.nodes k)) keys

-- whether a wire leads to an inlet that carries signals
abbrev pub is_heard : Web → Hop → Bool
is_heard w h = signal_in (jack_told w Inlets h.node h.port)

abbrev pub wire_to : ℕ → Hop → SignalWire
wire_to source h = record { source = source; sink = h.node }

-- the signal wires among those of a box that lead to these inlets
abbrev pub wires_by : Web → ℕ → List Hop → List SignalWire
wires_by w source hops = map (wire_to source) (filter (is_heard w) hops)

abbrev pub hop_wires : Web → ℕ → Option Hop → List SignalWire
hop_wires w source None = []
hop_wires w source (Some h) = wires_by w source (h ∷ [])

-- the signal wires from an outlet, where that carries signals
abbrev pub wires_from : Web → ℕ → ℕ → List SignalWire
wires_from w source outlet = if signal_in (jack_told w Outlets source outlet) then wires_by w source (fan_hops w source outlet) else []

-- those from the first so many outlets
abbrev pub wires_below : Web → ℕ → ℕ → List SignalWire
wires_below w source zero = []
wires_below w source (suc n) = wires_below w source n ++ wires_from w source n

-- those from all outlets of a box
abbrev pub box_wires : Web → ℕ → List SignalWire
box_wires w source = wires_below w source (length (ports_told w Outlets source))

-- the signal wires that leave boxes
abbrev pub signal_wires_among : Web → List ℕ → List SignalWire
signal_wires_among w keys = flat_map (box_wires w) keys

-- the order of a canvas whose boxes have these keys is that of its signal boxes by its signal wires
abbrev pub IsChain : Grove → Web → List ℕ → Option Listing → Type 0
IsChain g w keys None = ⊥
IsChain g w keys (Some o) = IsOrder (graph_of keys (signal_wires_among w (signal_among g keys))) (signal_among g keys) o.chain o.stuck

-- a canvas that lives has its order, and no other has one
abbrev pub HasOrder : Grove → Web → Option Board → Option Listing → Type 0
HasOrder g w None o = o ≡ None
HasOrder g w (Some b) o = IsChain g w b.nodes.items o

abbrev pub AreOrdered : Grove → Web → List (Option Listing) → Type 0
AreOrdered g w orders = (c : ℕ) → HasOrder g w (get g.boards c) (order_in orders c)
