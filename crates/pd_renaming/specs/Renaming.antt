-- A subpatch of the patch's own document that gets another text, and keeps what it holds.
use Rattle.std.specs.Prelude.{◌≡◌, ℕ, true, List, Some}
use Rattle.slab.specs.Slab.{get}
use Rattle.pd_atom.specs.declared.Atom.{Atom}
use Rattle.pd_atom.specs.Names.{Names}
use Rattle.pd_object.specs.declared.kinds.Kind.TheVariants as kind
use Rattle.pd_canvas.specs.Views.{entry_of}
use Rattle.pd_bind.specs.Naming.{owned_by}
use Rattle.pd_grove.specs.declared.nodes.Node.{Node}
use Rattle.pd_grove.specs.Refits.{with_text, Alters}
use Rattle.pd_grove.specs.Standing.{node_seen}
use Rattle.pd_grove.specs.TextOrder.{is_sub}
use Rattle.pd_patch.specs.declared.patch.Patch.{Patch}
use Rattle.pd_boxes.specs.Put.{CanPut, HasOwners}
use Rattle.pd_refitting.specs.Refits.{OthersStay}

-- Under the key stands this box, a subpatch.
pub record CanRename (p : Patch) (key : ℕ) (n : Node) : Type 0 where
  pub can : CanPut p
  pub is : get p.grove.nodes key ≡ Some n
  pub sub : is_sub (entry_of n.element).head.form ≡ true
  pub canvas : n.kind ≡ kind.Canvas

-- all but the tree and the owners of names stays
pub record StaysButNames (p q : Patch) : Type 0 where
  pub web : q.web ≡ p.web
  pub timers : q.timers ≡ p.timers
  pub links : q.links ≡ p.links
  pub orders : q.orders ≡ p.orders
  pub numbers : q.numbers ≡ p.numbers
  pub values : q.values ≡ p.values
  pub rate : q.rate ≡ p.rate
  pub present : q.present ≡ p.present

-- The box has this text, as the document has it and with its dollars replaced. It is among the owners of the name at which it hears now, and no owner of
-- the one at which it heard. What it holds stays, and all else.
pub record IsRenamed (p q : Patch) (table : Names) (key : ℕ) (n : Node) (written text : List Atom) : Type 0 where
  pub box : Alters p.grove q.grove key (with_text written text)
  pub owners : (file : List ℕ) → HasOwners p table file → HasOwners q table file
  pub other_owners : OthersStay p.names q.names (owned_by table true (node_seen n).cell) (owned_by table true (node_seen (with_text written text n)).cell)
  pub rest : StaysButNames p q
  pub can : CanPut q
