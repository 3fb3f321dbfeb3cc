-- Room for a subpatch that gets another text.
use Rattle.std.specs.Prelude.{◌≡◌, ℕ, true, Some}
use Rattle.slab.specs.Slab.{get}
use Rattle.pd_atom.specs.Names.{Names}
use Rattle.pd_object.specs.declared.kinds.Kind.TheVariants as kind
use Rattle.pd_canvas.specs.Views.{entry_of}
use Rattle.pd_tree.specs.declared.rows.Row.{Row}
use Rattle.pd_grove.specs.declared.nodes.Node.{Node}
use Rattle.pd_grove.specs.Refits.{with_text}
use Rattle.pd_grove.specs.Standing.{node_seen}
use Rattle.pd_grove.specs.TextOrder.{is_sub}
use Rattle.pd_bind.specs.Naming.{owned_by}
use Rattle.pd_owning.specs.Bound.{HasRoom}
use Rattle.pd_patch.specs.declared.patch.Patch.{Patch}
use Rattle.pd_renaming.specs.declared.room.NameRoom.{NameRoom}

-- the row is that of a subpatch
pub record IsSubpatch (r : Row) : Type 0 where
  pub sub : is_sub (entry_of r.element).head.form ≡ true
  pub canvas : r.kind ≡ kind.Canvas

-- the box of the room's key gets its text without taking memory: there is room for one more owner of the name at which it hears then
pub record TakesName (p : Patch) (room : NameRoom) (table : Names) : Type 0 where
  pub owner : (n : Node) → get p.grove.nodes room.key ≡ Some n → HasRoom p.names (owned_by table true (node_seen (with_text room.written room.text n)).cell) 1

-- which box gets another text, and which: that of the row
pub record IsFor (room : NameRoom) (at : ℕ) (r : Row) : Type 0 where
  pub key : room.key ≡ at
  pub written : room.written ≡ r.element.text
  pub text : room.text ≡ r.text
