-- What is left to do: which tasks there are, and those that a send leads to.
use Rattle.std.specs.Prelude.{ℕ, Bool, true, ◌==◌, not, ◌&&◌, List, [], ◌∷◌, ◌++◌, map, Option, Some, None, is_some, if◌then◌else◌}
use Rattle.pd_atom.specs.Names.{Names}
use Rattle.pd_atom.specs.declared.Atom.{Atom}
use Rattle.pd_atom.specs.declared.Atom.TheVariants.{Symbol}
use Rattle.pd_name.specs.Rows.{owners_of}
use Rattle.pd_name.specs.declared.Class.TheVariants.{Receiver}
use Rattle.pd_kind.specs.declared.messages.Target.{Target}
use Rattle.pd_kind.specs.declared.messages.Target.TheVariants as target
use Rattle.pd_kind.specs.Rows.{Send}
use Rattle.pd_say.specs.declared.lines.Line.TheVariants as line
use Rattle.pd_say.specs.Lines.{text_of}
use Rattle.pd_bind.specs.declared.owners.Owner.{Owner}
use Rattle.pd_bind.specs.declared.owners.Owner.TheVariants as owner
use Rattle.pd_bind.specs.Owning.{root_owner, box_or_canvas}
use Rattle.pd_grove.specs.Telling.{kind_in, inner_in}
use Rattle.pd_grove.specs.declared.ports.Side.TheVariants.{Inlets}
use Rattle.pd_web.specs.declared.web.Hop.{Hop}
use Rattle.pd_web.specs.declared.web.Web.{Web}
use Rattle.pd_web.specs.Hops.{fan_hops, jack_told, port_told}
use Rattle.pd_web.specs.Homes.{inner_in as port_in}
use Rattle.pd_hearing.specs.Worlds.{Net}
use Rattle.pd_hearing.specs.Outlets.{is_outlet}
use Rattle.pd_hearing.specs.Guards.{is_name}

-- What is done next. A message comes to an inlet of a box, at a depth; a message comes to a canvas by its name; a box is resumed; or it is
-- said that nobody hears at a name, which costs nothing.
pub data Task : Type 0 where
  Deliver : (depth node inlet selector : ℕ) → List Atom → Task
  Ask : (depth canvas selector : ℕ) → List Atom → Task
  Resume : (depth node : ℕ) → Task
  Nobody : (name : ℕ) → Task

-- where a wire leads: a wire into a box that holds a canvas leads to the box of that port
abbrev pub lands : ℕ → ℕ → Option ℕ → ℕ × ℕ
lands node port None = (node, port)
lands node port (Some inner) = (inner, 0)

abbrev pub end_of : Web → Hop → ℕ × ℕ
end_of web hop = lands hop.node hop.port (port_in (jack_told web Inlets hop.node hop.port))

abbrev pub delivery : ℕ → ℕ → List Atom → ℕ × ℕ → Task
delivery depth selector atoms place = Deliver depth place.0 place.1 selector atoms

-- a message goes along wires, in order
abbrev pub along : Web → ℕ → ℕ → List Atom → List Hop → List Task
along web depth selector atoms hops = map (λ hop. delivery depth selector atoms (end_of web hop)) hops

-- what an owner of a name is: a box, or the canvas that it holds; the greatest number is the root canvas
abbrev pub owner_told : Net → ℕ → Owner
owner_told net k = if k == root_owner then owner.Canvas net.root else box_or_canvas k (inner_in (net.nodes k))

abbrev pub arrival : ℕ → ℕ → List Atom → Owner → Task
arrival depth selector atoms (owner.Node node) = Deliver depth node 0 selector atoms
arrival depth selector atoms (owner.Canvas canvas) = Ask depth canvas selector atoms

-- a message comes to owners of a name, in order
abbrev pub to_owners : Net → ℕ → ℕ → List Atom → List ℕ → List Task
to_owners net depth selector atoms owners = map (λ k. arrival depth selector atoms (owner_told net k)) owners

-- where nobody hears, a loud send says so
abbrev pub unless_heard : Bool → ℕ → List ℕ → List Task
unless_heard true name [] = Nobody name ∷ []
unless_heard loud name owners = []

-- a message to the receivers of a name
abbrev pub to_name : Net → ℕ → ℕ → List Atom → ℕ → Bool → List Task
to_name net depth selector atoms name loud =
    let owners = owners_of net.owners Receiver name in to_owners net depth selector atoms owners ++ unless_heard loud name owners

abbrev pub fan_at : Web → Option (ℕ × ℕ) → List Hop
fan_at web None = []
fan_at web (Some place) = fan_hops web place.0 place.1

-- The wires of an outlet. Those of a box that is an outlet of its canvas are the wires of that outlet of the box around it.
unfoldable pub wires_from : Net → ℕ → ℕ → List Hop
wires_from net node outlet = if is_outlet (kind_in (net.nodes node)) then fan_at net.web (port_told net.web node) else fan_hops net.web node outlet

-- an outlet of the root canvas leads nowhere
unfoldable pub leads_out : Net → ℕ → Bool
leads_out net node = is_outlet (kind_in (net.nodes node)) && not (is_some (port_told net.web node))

abbrev pub sent_to : Net → ℕ → ℕ → ℕ → List Atom → Target → List Task
sent_to net depth node selector atoms (target.Outlet outlet) = along net.web depth selector atoms (wires_from net node outlet)
sent_to net depth node selector atoms (target.Name name loud) = to_name net depth selector atoms name loud

-- the deliveries of a send, in order
abbrev pub sent : Net → ℕ → ℕ → Send → List Task
sent net depth node s = sent_to net depth node s.selector s.atoms s.target

-- after the sends, a box that asked for it is resumed
abbrev pub again_after : ℕ → ℕ → Bool → List Task
again_after depth node again = if again then Resume depth node ∷ [] else []

abbrev pub nobody_text : Names → ℕ → List ℕ
nobody_text names name = if is_name names name then text_of names (line.NoObject (Symbol name)) else []
