-- The tree of a running patch as it stands: with what boxes keep that a save writes, and with the wires that there are.
use Rattle.std.specs.Prelude.{◌≡◌, ℕ, ℤ, true, List, [], ◌∷◌, ◌++◌, take, Option, Some, None, option_and_then}
use Rattle.slab.specs.Slab.{get}
use Rattle.pd_atom.specs.declared.Atom.{Atom}
use Rattle.pd_object.specs.declared.kinds.Kind.{Kind}
use Rattle.pd_object.specs.declared.kinds.Kind.TheVariants as kind
use Rattle.pd_object.specs.declared.kinds.Glue.TheVariants as glue
use Rattle.pd_object.specs.declared.kinds.Panel.TheVariants as panel
use Rattle.pd_object.specs.declared.kinds.Toggle.{Toggle}
use Rattle.pd_kind.specs.declared.states.State.{State}
use Rattle.pd_kind.specs.Tables.{saved_of}
use Rattle.pd_canvas.specs.Arrays.{is_saved}
use Rattle.pd_canvas.specs.Pages.{Shape, Obj, Msg, Sub, Array, Head}
use Rattle.pd_tree.specs.declared.rows.Sheet.{Sheet}
use Rattle.pd_tree.specs.Trees.{Cell, Trees, Done, Leaf, Holder, Tree}
use Rattle.pd_grove.specs.declared.nodes.Node.{Node}
use Rattle.pd_grove.specs.declared.boards.Board.{Board}
use Rattle.pd_grove.specs.declared.grove.Grove.{Grove}
use Rattle.pd_grove.specs.Telling.{inner_in, keys_in, state_in}
use Rattle.pd_grove.specs.TextOrder.{keys_inside}
use Rattle.pd_web.specs.declared.web.Web.{Web}
use Rattle.pd_present.specs.Contents.{present_head, present_values}
use Rattle.pd_present.specs.Presents.{wires_among}
use Rattle.pd_regrowth_law.specs.Filling.{last_two, turned}
use Rattle.pd_regrowth_law.specs.Rewiring.{with_wires}

-- a message box with the text of its head
abbrev pub message_now : Head → Cell
message_now h = record { head = h; text = h.text; kind = kind.Glue (glue.Message h.text); fault = None }

-- an array with these values
abbrev pub array_now : List Atom → List ℤ → Head → Cell
array_now text values h = record { head = h; text = text; kind = kind.Glue (glue.Array text values); fault = None }

-- the kind of a toggle with this value and this other value
abbrev pub kind_turned : ℤ × ℤ → Kind → Kind
kind_turned v (kind.Panel (panel.Tgl t)) = kind.Panel (panel.Tgl (turned v.0 v.1 t))
kind_turned v k = k

-- an object as it is, or a toggle with this value and this other value at the end of its text
abbrev pub object_now : Option (ℤ × ℤ) → Cell → Head → Cell
object_now None c h = c
object_now (Some v) c h = record { head = h; text = take 13 c.text ++ last_two v.0 v.1; kind = kind_turned v c.kind; fault = None }

abbrev pub cell_by : Shape → Option State → Cell → Head → Cell
cell_by Msg s c h = message_now h
cell_by (Array values) s c h = array_now c.text (present_values (is_saved c.head.text) s values) h
cell_by Obj s c h = object_now (option_and_then saved_of s) c h
cell_by form s c h = c

-- a box with what it keeps: a message box with its text, an array that is saved with its values, a toggle with both of its values
abbrev pub cell_now : Option State → Cell → Cell
cell_now s c = cell_by c.head.form s c (present_head s c.head)

-- a subpatch with this canvas, and an abstraction with its own
abbrev pub holder_now : Shape → Cell → Sheet → Trees → Sheet → Trees → Trees → Trees
holder_now Sub c sheet inner now boxes rest = Holder c now boxes rest
holder_now form c sheet inner now boxes rest = Holder c sheet inner rest

-- The boxes of a canvas that have these keys, with what they keep; so in its subpatches, which have the wires that there are. What lies in
-- abstractions is as it grew.
abbrev pub boxes_now : Web → List ℕ → (ℕ → Option Node) → (ℕ → Option Board) → List ℕ → Trees → Trees
boxes_now web numbers nodes boards [] t = t
boxes_now web numbers nodes boards (k ∷ ks) Done = Done
boxes_now web numbers nodes boards (k ∷ ks) (Leaf c rest) =
    Leaf (cell_now (state_in (nodes k)) c) (boxes_now web numbers nodes boards ks rest)
boxes_now web numbers nodes boards (k ∷ ks) (Holder c sheet inner rest) =
    holder_now c.head.form c sheet inner (with_wires (wires_among web numbers (keys_inside boards (inner_in (nodes k)))) sheet)
    (boxes_now web numbers nodes boards (keys_inside boards (inner_in (nodes k))) inner)
    (boxes_now web numbers nodes boards ks rest)

-- the patch whose tree grew as this one, as it stands
abbrev pub tree_now : Grove → Web → List ℕ → Tree → Tree
tree_now g web numbers t = record {
  sheet = with_wires (wires_among web numbers (keys_in (get g.boards g.root))) t.sheet;
  boxes = boxes_now web numbers (get g.nodes) (get g.boards) (keys_in (get g.boards g.root)) t.boxes;
}

-- only a toggle whose text is whole keeps values that are saved
abbrev pub TurnsWhole : Kind → Option State → Type 0
TurnsWhole k s = (v : ℤ × ℤ) → option_and_then saved_of s ≡ Some v → (t : Toggle) × (k ≡ kind.Panel (panel.Tgl t)) × (t.is_whole ≡ true)

-- What a save writes of what boxes keep is their own: both values of a toggle whose text is whole, and nothing of a box that holds a canvas.
pub record AreSavable (nodes : ℕ → Option Node) : Type 0 where
  pub toggles : (k : ℕ) (n : Node) → nodes k ≡ Some n → TurnsWhole n.kind n.state
  pub canvases : (k : ℕ) (n : Node) (h : Head) → nodes k ≡ Some n → n.kind ≡ kind.Canvas → present_head n.state h ≡ h

-- a message box and an array are made of their heads
abbrev pub IsMade : Shape → Cell → Type 0
IsMade Msg c = c ≡ message_now c.head
IsMade (Array values) c = c ≡ array_now c.text values c.head
IsMade form c = Unit {0}

-- boxes that hold no canvas are made so, and those that hold one have the kind of canvases
abbrev pub AreMade : Trees → Type 0
AreMade Done = Unit {0}
AreMade (Leaf c rest) = IsMade c.head.form c × AreMade rest
AreMade (Holder c sheet inner rest) = (c.kind ≡ kind.Canvas) × AreMade inner × AreMade rest
