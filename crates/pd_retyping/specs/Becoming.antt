-- A box that is to become another one, and one that did.
use Rattle.std.specs.Prelude.{◌≡◌, ◌⊎◌, ◌≤◌, ◌+◌, ℕ, true, List, length, Some, None, Err}
use Rattle.slab.specs.Slab.{get}
use Rattle.pd_atom.specs.declared.Atom.{Atom}
use Rattle.pd_atom.specs.Names.{Names}
use Rattle.pd_object.specs.declared.kinds.Kind.{Kind}
use Rattle.pd_object.specs.declared.kinds.Kind.TheVariants as kind
use Rattle.pd_canvas.specs.Pages.{Sub}
use Rattle.pd_canvas.specs.Views.{entry_of}
use Rattle.pd_tree.specs.declared.rows.Sheet.{Sheet}
use Rattle.pd_tree.specs.Trees.{Cell, Done, Holder, Trees}
use Rattle.pd_grove.specs.declared.nodes.Node.{Node}
use Rattle.pd_grove.specs.declared.seeds.Seed.{Seed}
use Rattle.pd_grove.specs.TextOrder.{is_sub}
use Rattle.pd_web.specs.Changes.{Meet}
use Rattle.pd_patch.specs.declared.patch.Patch.{Patch}
use Rattle.pd_wiring.specs.declared.refusals.EditRefusal.{EditRefusal}
use Rattle.pd_wiring.specs.declared.refusals.EditRefusal.TheVariants.{NoDocument, NoMemory}
use Rattle.pd_boxes.specs.Room.{SameButRoom}
use Rattle.pd_boxes.specs.Put.{CanPut, IsLeaf}
use Rattle.pd_taking.specs.Loosening.{Loosens}
use Rattle.pd_refitting.specs.Refits.{IsPlainIn, CanRefit, IsRefitted, refit_looks}
use Rattle.pd_renaming.specs.Renaming.{CanRename, IsRenamed}
use Rattle.pd_misfits.specs.declared.wires.BoxWire.{BoxWire}
use Rattle.pd_misfits.specs.Misfits.{misfits, turning}
use Rattle.pd_turning.specs.Returns.{PutsBack}
use Rattle.pd_misfits.specs.Shedding.{AreWiresAt, Sheds}
use Rattle.pd_adding.specs.declared.adding.Grown.{Grown}
use Rattle.pd_adding.specs.Growing.{Added}
use Rattle.pd_adding.specs.Adding.{IsAdded}
use Rattle.pd_retyping.specs.declared.asking.Plan.{Plan}
use Rattle.pd_retyping.specs.Asking.{keeps_inside, settled_text, retyping, put_instead}
use Rattle.pd_retyping.specs.Retypes.{IsChosen, CanBecome, CanTakeText}

-- the box that is to become another one, and the edit that would put what it becomes
pub record IsPlanned (names : Names) (p : Patch) (path : List ℕ) (number : ℕ) (text : List Atom) (plan : Plan) : Type 0 where
  pub node : Node
  pub chosen : IsChosen p path number plan.canvas plan.key node
  pub keeps : plan.keeps ≡ keeps_inside (entry_of node.element) (settled_text names text)
  pub edit : plan.edit ≡ put_instead (entry_of node.element) text

-- why there is no such plan
abbrev pub IsUnplanned : Names → Patch → List ℕ → ℕ → List Atom → EditRefusal → Type 0
IsUnplanned names p path number text why =
    (why ≡ NoMemory) ⊎ (retyping names p path number text ≡ Err why)

-- a box without a canvas can become one of this kind in its place
pub record IsAlike (p : Patch) (n : Node) (k : Kind) : Type 0 where
  pub bare : n.inner ≡ None
  pub plain : IsPlainIn p n.board n.kind
  pub stays_plain : IsPlainIn p n.board k

-- A box without a canvas can become that of the seed, and these are the wires at it that don't fit then, and those that turn.
pub record CanMake (p : Patch) (key : ℕ) (n : Node) (s : Seed) (gone turned : List BoxWire) : Type 0 where
  pub can : CanPut p
  pub meet : Meet p.web
  pub is : get p.grove.nodes key ≡ Some n
  pub alike : IsAlike p n s.row.kind
  pub leaf : IsLeaf s
  pub gone_are : gone ≡ misfits p n.board key s.row.kind
  pub wires : AreWiresAt p.web key gone
  pub turned_are : turned ≡ turning p n.board key s.row.kind
  pub turning_wires : AreWiresAt p.web key turned

-- The wires at the box of a key that don't fit that of a seed went, and those that turn; then it became that one, and these came back.
pub record Remakes (old new : Patch) (table : Names) (key : ℕ) (n : Node) (s : Seed) (gone turned : List BoxWire) (steps steps' : ℕ) : Type 0 where
  pub loose : Patch
  pub between : ℕ
  pub loosens : Loosens old loose key steps between
  pub sheds : Sheds old.web loose.web gone
  pub went : length loosens.gone ≡ length gone
  pub free : Patch
  pub freed : ℕ
  pub frees : Loosens loose free key between freed
  pub out : Sheds loose.web free.web turned
  pub as_many : length frees.gone ≡ length turned
  pub could : CanRefit free key n s
  pub fitted : Patch
  pub refit : IsRefitted free fitted table key n s
  pub placed : ℕ
  pub looks : placed ≤ freed + refit_looks n.kind s.row.kind
  pub back : PutsBack loose.web fitted new key turned placed steps'

-- room was set aside, and then it was done
pub record MakesOther (old new : Patch) (table : Names) (key : ℕ) (n : Node) (s : Seed) (gone turned : List BoxWire) (steps steps' : ℕ) : Type 0 where
  pub ready : Patch
  pub room : SameButRoom old ready
  pub made : Remakes ready new table key n s gone turned steps steps'

-- The box stays: memory was wanting, and there may be more room; or it can't become what grew yet, and the patch stays.
abbrev pub StaysItself : Patch → Patch → ℕ → Node → Added → EditRefusal → Type 0
StaysItself old new key n a why =
    ((why ≡ NoMemory) × (CanBecome old key n a × SameButRoom old new)) ⊎ ((why ≡ NoDocument) × ((new ≡ old) × (CanBecome old key n a → ⊥)))

-- what grew aside is this, with these names
pub record HasGrown (g : Grown) (names : Names) : Type 0 where
  pub added : Added
  pub is : IsAdded g added
  pub names_are : added.known.names ≡ names

-- one box that is a subpatch without boxes and could be made
pub record IsBareSub (t : Trees) : Type 0 where
  pub cell : Cell
  pub sheet : Sheet
  pub single : t ≡ Holder cell sheet Done Done
  pub form : cell.head.form ≡ Sub
  pub canvas : cell.kind ≡ kind.Canvas
  pub whole : cell.fault ≡ None

-- a box that holds a canvas can take the text of what grew
pub record OffersText (n : Node) (a : Added) : Type 0 where
  pub was_canvas : n.kind ≡ kind.Canvas
  pub was_whole : n.fault ≡ None
  pub bare : IsBareSub a.boxes

-- the box of a key is a subpatch, and can take the text of what grew
pub record IsTaking (p : Patch) (key : ℕ) (g : Grown) : Type 0 where
  pub can : CanPut p
  pub node : Node
  pub is : get p.grove.nodes key ≡ Some node
  pub sub : is_sub (entry_of node.element).head.form ≡ true
  pub added : Added
  pub grown : IsAdded g added
  pub gives : OffersText node added

-- room was set aside, and then the subpatch got the text of what grew
pub record GotText (old new : Patch) (table : Names) (key : ℕ) (n : Node) (a : Added) : Type 0 where
  pub gives : OffersText n a
  pub ready : Patch
  pub room : SameButRoom old ready
  pub could : CanRename ready key n
  pub renamed : IsRenamed ready new table key n gives.bare.cell.head.text gives.bare.cell.text
  pub goes_on : CanPut new

-- The box stays: memory was wanting, and there may be more room; or it can neither become what grew yet nor take its text, and the patch stays.
abbrev pub StaysAsItWas : Names → List Atom → Patch → Patch → ℕ → Node → Added → EditRefusal → Type 0
StaysAsItWas names text old new key n a why =
    ((why ≡ NoMemory) × ((CanBecome old key n a ⊎ CanTakeText names text n a) × SameButRoom old new))
    ⊎ ((why ≡ NoDocument) × ((new ≡ old) × ((CanBecome old key n a → ⊥) × (CanTakeText names text n a → ⊥))))
