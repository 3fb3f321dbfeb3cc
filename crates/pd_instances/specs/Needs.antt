-- What the boxes of a list in text order need where they come into a running patch, before they have keys.
use Rattle.std.specs.Prelude.{◌≡◌, ℕ, ◌+◌, ◌-◌, ◌<◌, ◌≤◌, ◌^◌, ◌==◌, Bool, true, false, ◌||◌, cond, List, [], ◌∷◌, ◌++◌, map, length, take, drop, replicate, filter, slice_get, Option, Some, None, vec_len, vec_capacity}
use Rattle.std.specs.List.{AllZip}
use Rattle.slab.specs.Slab.{get}
use Rattle.pd_object.specs.declared.kinds.Kind.{Kind}
use Rattle.pd_canvas.specs.declared.wires.Wire.{Wire}
use Rattle.pd_kind.specs.States.{silent_block}
use Rattle.pd_order.specs.Listing.{Listing}
use Rattle.pd_links.specs.declared.opening.LinkRoom.{LinkRoom}
use Rattle.pd_tree.specs.declared.rows.Sheet.{Sheet}
use Rattle.pd_tree.specs.Ports.{inlet_signal, outlet_signal}
use Rattle.pd_tree.specs.Trees.{Cell, Trees, Done, Leaf, Holder, Stand, width}
use Rattle.pd_grove.specs.declared.boards.Board.{Board}
use Rattle.pd_grove.specs.declared.grove.Grove.{Grove}
use Rattle.pd_grove.specs.declared.ports.Side.TheVariants.{Inlets, Outlets}
use Rattle.pd_grove.specs.Telling.{inner_in}
use Rattle.pd_web.specs.Jacks.{kind_jacks, jacks_at}
use Rattle.pd_ports.specs.Room.{HasLists}
use Rattle.pd_patch.specs.Values.{block_count}
use Rattle.pd_placing.specs.Room.{TakesMore}
use Rattle.pd_instances.specs.declared.needs.PortCount.{PortCount}
use Rattle.pd_instances.specs.declared.needs.Need.{Need}
use Rattle.pd_instances.specs.declared.room.BoxRoom.{BoxRoom}

-- Ports of canvases.

abbrev pub one_if : Option Bool → ℕ
one_if None = 0
one_if (Some b) = 1

abbrev pub carries : Option Bool → Bool
carries None = false
carries (Some b) = b

-- the ports that a box of a kind is of the canvas around
abbrev pub port_of : Kind → PortCount
port_of k = record { inlets = one_if (inlet_signal k); outlets = one_if (outlet_signal k); is_signal = carries (outlet_signal k) }

abbrev pub no_port : PortCount
no_port = record { inlets = 0; outlets = 0; is_signal = false }

abbrev pub plus : PortCount → PortCount → PortCount
plus n m = record { inlets = n.inlets + m.inlets; outlets = n.outlets + m.outlets; is_signal = n.is_signal || m.is_signal }

-- how many ports boxes are of the canvas around
abbrev pub sum_of : List PortCount → PortCount
sum_of [] = no_port
sum_of (n ∷ ns) = plus n (sum_of ns)

-- what a box needs: so many inlets and outlets, and so many blocks
abbrev pub leaf_need : Kind → Need
leaf_need k = record { inlets = length (kind_jacks Inlets k); outlets = length (kind_jacks Outlets k); blocks = block_count (kind_jacks Outlets k) }

abbrev pub holder_need : PortCount → Need
holder_need n = record { inlets = n.inlets; outlets = n.outlets; blocks = cond n.is_signal n.outlets 0 }

-- Boxes of a list, from the last one to the first: each that holds a canvas takes the boxes of that canvas off.

abbrev pub stacked_on : Cell → Option Sheet → ℕ → List PortCount → List PortCount
stacked_on c None n ns = port_of c.kind ∷ ns
stacked_on c (Some s) n ns = port_of c.kind ∷ drop n ns

abbrev pub need_on : Cell → Option Sheet → ℕ → List PortCount → Need
need_on c None n ns = leaf_need c.kind
need_on c (Some s) n ns = holder_need (sum_of (take n ns))

-- the ports that those boxes are that lie in no other one of the list
abbrev pub stacked : List Stand → List PortCount
stacked [] = []
stacked (s ∷ ss) = stacked_on s.cell s.sheet s.boxes (stacked ss)

-- what each box of the list needs
abbrev pub needs_of : List Stand → List Need
needs_of [] = []
needs_of (s ∷ ss) = need_on s.cell s.sheet s.boxes (stacked ss) ∷ needs_of ss

-- The same of the boxes of a tree.

abbrev pub ports_in : Trees → List PortCount
ports_in Done = []
ports_in (Leaf c rest) = port_of c.kind ∷ ports_in rest
ports_in (Holder c s inner rest) = port_of c.kind ∷ ports_in rest

abbrev pub needs_in : Trees → List Need
needs_in Done = []
needs_in (Leaf c rest) = leaf_need c.kind ∷ needs_in rest
needs_in (Holder c s inner rest) = holder_need (sum_of (ports_in inner)) ∷ (needs_in inner ++ needs_in rest)

-- what the box of a key needs that stands
abbrev pub need_at : Grove → ℕ → Need
need_at g k = record { inlets = length (jacks_at Inlets g k); outlets = length (jacks_at Outlets g k); blocks = block_count (jacks_at Outlets g k) }

-- room for such a box
pub record IsRoomFor (n : Need) (room : BoxRoom) : Type 0 where
  pub lists : HasLists room.ports n.inlets n.outlets
  pub blocks : room.blocks.items ≡ replicate n.blocks silent_block

abbrev pub AreRoomsFor : List Need → List BoxRoom → Type 0
AreRoomsFor needs rooms = AllZip IsRoomFor needs rooms

-- Canvases that boxes hold.

-- a canvas that comes: its wires, and how many boxes it has
pub record Inside : Type 0 where
  pub wires : List Wire
  pub boxes : ℕ

abbrev pub inside_with : List Wire → ℕ → Inside
inside_with ws n = record { wires = ws; boxes = n }

abbrev pub inside_of : Option Sheet → ℕ → List Inside
inside_of None n = []
inside_of (Some s) n = record { wires = s.wires; boxes = n } ∷ []

abbrev pub insides_of : List Stand → List Inside
insides_of [] = []
insides_of (s ∷ ss) = inside_of s.sheet s.boxes ++ insides_of ss

abbrev pub insides_in : Trees → List Inside
insides_in Done = []
insides_in (Leaf c rest) = insides_in rest
insides_in (Holder c s inner rest) = record { wires = s.wires; boxes = width inner } ∷ (insides_in inner ++ insides_in rest)

abbrev pub inside_seen : Option Board → List Inside
inside_seen None = []
inside_seen (Some b) = record { wires = b.sheet.wires; boxes = length b.nodes.items } ∷ []

abbrev pub inside_held : Grove → Option ℕ → List Inside
inside_held g None = []
inside_held g (Some c) = inside_seen (get g.boards c)

-- the canvas that the box of a key holds
abbrev pub inside_at : Grove → ℕ → List Inside
inside_at g k = inside_held g (inner_in (get g.nodes k))

-- how many wires come from the box of a number, and to it
abbrev pub count_from : List Wire → ℕ → ℕ
count_from ws n = length (filter (λ (w : Wire). w.source == n) ws)

abbrev pub count_to : List Wire → ℕ → ℕ
count_to ws n = length (filter (λ (w : Wire). w.sink == n) ws)

-- room for so many signal wires from a box, and to it
pub record IsLinkRoom (from to : ℕ) (room : LinkRoom) : Type 0 where
  pub no_from : room.from.items ≡ []
  pub no_into : room.into.items ≡ []
  pub from_fits : from ≤ vec_capacity room.from - vec_len room.from
  pub into_fits : to ≤ vec_capacity room.into - vec_len room.into

-- room for the wires of each box of a canvas
pub record AreLinkRooms (inside : Inside) (rooms : List LinkRoom) : Type 0 where
  pub all : length rooms ≡ inside.boxes
  pub few : length inside.wires + 1 < 2 ^ 32
  pub each : (n : ℕ) (room : LinkRoom) → slice_get rooms n ≡ Some room → IsLinkRoom (count_from inside.wires n) (count_to inside.wires n) room

-- an order of no boxes, with room for those of a canvas
pub record IsOrderRoom (inside : Inside) (o : Listing) : Type 0 where
  pub chain : o.chain ≡ []
  pub stuck : o.stuck ≡ []
  pub spots : o.spots ≡ []
  pub takes : TakesMore o inside.boxes

-- how many wires the canvases have
abbrev pub wires_all : List Inside → ℕ
wires_all [] = 0
wires_all (i ∷ is) = length i.wires + wires_all is
