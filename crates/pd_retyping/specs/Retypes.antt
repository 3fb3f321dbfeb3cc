-- A box that an edit makes another one in a canvas of a running patch.
use Rattle.std.proofs.Common.{inl, inr}
use Rattle.std.specs.Prelude.{◌≡◌, ◌⊎◌, ◌≤◌, ◌+◌, ℕ, true, false, List, [], length, Some, None, Result, Ok, Err, slice_get, Option}
use Rattle.std.specs.List.{All}
use Rattle.slab.specs.Slab.{get}
use Rattle.pd_io.specs.declared.files.FileRow.{FileRow}
use Rattle.pd_atom.specs.declared.Atom.{Atom}
use Rattle.pd_atom.specs.Names.{IsTable, Names}
use Rattle.pd_atom.specs.Atoms.{IsOf}
use Rattle.pd_clock.specs.Queue.{Clock, without}
use Rattle.pd_clock.specs.declared.times.Rate.{Rate}
use Rattle.pd_kind.specs.States.{size_of}
use Rattle.pd_canvas.specs.Edits.{retyped}
use Rattle.pd_canvas.specs.Views.{entry_of}
use Rattle.pd_object.specs.declared.kinds.Kind.TheVariants as kind
use Rattle.pd_canvas.specs.Pages.{Entry, Sub}
use Rattle.pd_tree.specs.declared.rows.Sheet.{Sheet}
use Rattle.pd_tree.specs.Trees.{Cell, Done, Holder, Leaf, stand_of}
use Rattle.pd_growth.specs.Suits.{RowSuits}
use Rattle.pd_gather.specs.Gather.{Known, AreProper}
use Rattle.pd_grove.specs.declared.nodes.Node.{Node}
use Rattle.pd_grove.specs.declared.seeds.Seed.{Seed}
use Rattle.pd_grove.specs.OwnPaths.{sub_reached}
use Rattle.pd_grove.specs.States.{IsFresh}
use Rattle.pd_web.specs.Canvases.{keys_at}
use Rattle.pd_web.specs.Changes.{wires_told}
use Rattle.pd_patch.specs.declared.patch.Patch.{Patch}
use Rattle.pd_wiring.specs.declared.refusals.EditRefusal.{EditRefusal}
use Rattle.pd_wiring.specs.declared.refusals.EditRefusal.TheVariants.{NoDocument, ShelfFault, NoMemory}
use Rattle.pd_boxes.specs.Room.{SameButRoom}
use Rattle.pd_boxes.specs.Put.{CanPut, IsLeaf}
use Rattle.pd_taking.specs.Loosening.{Loosens}
pub use Rattle.pd_taking.specs.Loosening.{looks_for}
use Rattle.pd_refitting.specs.Refits.{IsPlainIn, CanRefit, IsRefitted}
pub use Rattle.pd_refitting.specs.Refits.{refit_looks}
pub use Rattle.pd_misfits.specs.declared.wires.BoxWire.{BoxWire}
use Rattle.pd_misfits.specs.Misfits.{misfits, turning}
use Rattle.pd_misfits.specs.Shedding.{Sheds}
use Rattle.pd_turning.specs.Returns.{looks_back, PutsBack}
use Rattle.pd_renaming.specs.Renaming.{CanRename, IsRenamed}
use Rattle.pd_adding.specs.declared.counts.Counts.{Counts}
use Rattle.pd_adding.specs.Counts.{counts_less}
use Rattle.pd_adding.specs.Boxes.{CanBeWritten, settled_edit, box_put}
use Rattle.pd_adding.specs.Growing.{Added}
use Rattle.pd_adding.specs.Adding.{ComesTo, GrewWith}
use Rattle.pd_retyping.specs.declared.retyping.RetypedBox.{RetypedBox}
use Rattle.pd_retyping.specs.Asking.{takes_text_so, keeps_inside, settled_text, retyping, IsRetyping, put_instead}

-- the counts of a patch without a box that holds no canvas
abbrev pub counts_but : Rate → Node → Counts → Counts
counts_but rate n c = counts_less c 1 (size_of n.kind rate) c.wires

-- the path leads to this canvas, whose box of the number has this key and can have another text
pub record IsChosen (p : Patch) (path : List ℕ) (number canvas key : ℕ) (n : Node) : Type 0 where
  pub leads : sub_reached p.grove (Some p.grove.root) path ≡ Some canvas
  pub at : slice_get (keys_at p.grove canvas) number ≡ Some key
  pub is : get p.grove.nodes key ≡ Some n
  pub takes : takes_text_so (entry_of n.element) ≡ true

-- What the box becomes comes to this, by what the shelf gives, which is what it holds, where it tells that, in order, for each file that growing it
-- asks for and of which nothing is known: it grows among the boxes that stay, as an edit would put it. `n` are the counts of the patch, and `name` is its file name.
pub record RetypesToBy (holds : Option (List FileRow)) (p : Patch) (n : Counts) (name path : List ℕ) (number : ℕ) (text : List Atom) (k : Known) (r : Result Added EditRefusal) : Type 0 where
  pub canvas : ℕ
  pub key : ℕ
  pub node : Node
  pub chosen : IsChosen p path number canvas key node
  pub comes : ComesTo holds p (counts_but p.rate node n) name path (put_instead (entry_of node.element) text) k r

-- the same whatever the shelf holds
abbrev pub RetypesTo : Patch → Counts → (name path : List ℕ) → (number : ℕ) → (text : List Atom) → Known → Result Added EditRefusal → Type 0
RetypesTo = RetypesToBy None

-- The box of the key holds no canvas, and what grew is one box that holds none. Neither is a port of a box around.
pub record CanBecome (p : Patch) (key : ℕ) (n : Node) (a : Added) : Type 0 where
  pub cell : Cell
  pub single : a.boxes ≡ Leaf cell Done
  pub bare : n.inner ≡ None
  pub plain : IsPlainIn p n.board n.kind
  pub stays_plain : IsPlainIn p n.board cell.kind

-- The wires at the box of a key that don't fit what grew went, each with the mend that the order of its canvas needs, and then those that fit it, but become
-- signal wires with it or cease to be such. Then the box became what grew, with the others, and keeps what its kind keeps at first; and the wires that turn came back
-- where they were, each with its mend. All else of the patch stays, but that there is more room. Signal wires were looked at for these mends, and for the place of
-- the new box in the order of its canvas.
pub record HasBecome (old new : Patch) (now key : ℕ) (n : Node) (a : Added) (gone : List BoxWire) (steps steps' : ℕ) : Type 0 where
  pub can : CanBecome old key n a
  pub gone_are : gone ≡ misfits old n.board key can.cell.kind
  pub ready : Patch
  pub room : SameButRoom old ready
  pub loose : Patch
  pub between : ℕ
  pub loosens : Loosens ready loose key steps between
  pub sheds : Sheds old.web loose.web gone
  pub went : length loosens.gone ≡ length gone
  pub turned : List BoxWire
  pub turned_are : turned ≡ turning old n.board key can.cell.kind
  pub free : Patch
  pub freed : ℕ
  pub frees : Loosens loose free key between freed
  pub out : Sheds loose.web free.web turned
  pub as_many : length frees.gone ≡ length turned
  pub seed : Seed
  pub is_row : stand_of seed.row ≡ record { cell = can.cell; sheet = None; boxes = 0 }
  pub suits : RowSuits a.known.names seed.row
  pub leaf : IsLeaf seed
  pub fresh : IsFresh old.rate now seed
  pub could : CanRefit free key n seed
  pub fitted : Patch
  pub refit : IsRefitted free fitted a.known.names key n seed
  pub placed : ℕ
  pub looks : placed ≤ freed + refit_looks n.kind can.cell.kind
  pub back : PutsBack loose.web fitted new key turned placed steps'
  pub goes_on : CanPut new

-- A subpatch takes the text of what grew, a subpatch without boxes, and keeps what it holds. Both could be made.
pub record CanTakeText (names : Names) (text : List Atom) (n : Node) (a : Added) : Type 0 where
  pub kept : keeps_inside (entry_of n.element) (settled_text names text) ≡ true
  pub was_canvas : n.kind ≡ kind.Canvas
  pub was_whole : n.fault ≡ None
  pub cell : Cell
  pub sheet : Sheet
  pub single : a.boxes ≡ Holder cell sheet Done Done
  pub form : cell.head.form ≡ Sub
  pub canvas : cell.kind ≡ kind.Canvas
  pub whole : cell.fault ≡ None

-- It has the text of what grew now, and hears at the name that this gives it. All else of the patch stays, but that there is more room, and no signal wire was
-- looked at.
pub record TakesText (old new : Patch) (names : Names) (text : List Atom) (key : ℕ) (n : Node) (a : Added) (gone : List BoxWire) (steps steps' : ℕ) : Type 0 where
  pub can : CanTakeText names text n a
  pub none_gone : gone ≡ []
  pub ready : Patch
  pub room : SameButRoom old ready
  pub could : CanRename ready key n
  pub renamed : IsRenamed ready new a.known.names key n can.cell.head.text can.cell.text
  pub looks : steps' ≡ steps
  pub goes_on : CanPut new

-- The box became what grew, or took its text.
abbrev pub Becomes : (old new : Patch) (names : Names) (text : List Atom) (now key : ℕ) (n : Node) (a : Added) (gone : List BoxWire) (steps steps' : ℕ) → Type 0
Becomes old new names text now key n a gone steps steps' =
    HasBecome old new now key n a gone steps steps' ⊎ TakesText old new names text key n a gone steps steps'

module _ {old new : Patch} {names : Names} {text : List Atom} {now key : ℕ} {n : Node} {a : Added} {gone : List BoxWire} {steps steps' : ℕ} where
  -- the box as it stands in a tree then
  abbrev pub cell_become : Becomes old new names text now key n a gone steps steps' → Cell
  cell_become (inl x) = x.can.cell
  cell_become (inr x) = x.can.cell

  -- clocks then: a box that became another one has none
  abbrev pub clocks_become : Becomes old new names text now key n a gone steps steps' → List Clock → List Clock
  clocks_become (inl x) clocks = without key clocks
  clocks_become (inr x) clocks = clocks

  -- no more signal wires were looked at than the mends for the wires that went or turned take, and the place of a new box in the order of its canvas
  abbrev pub looks_become : (canvas : ℕ) → Becomes old new names text now key n a gone steps steps' → ℕ
  looks_become canvas (inl x) =
      looks_for canvas x.loosens.gone x.loose + (looks_for canvas x.frees.gone x.free + (refit_looks n.kind x.can.cell.kind + looks_back canvas x.back.tightens.back new))
  looks_become canvas (inr x) = 0

-- counts with another number of wires
abbrev pub with_wires : Counts → ℕ → Counts
with_wires c wires = record { boxes = c.boxes; wires = wires; sound = c.sound; next_zero = c.next_zero }

-- An edit made a box another one, with this known after it: `k` was known before it, `n` were the counts of the patch, and it is this time. The
-- documents that were found before it are proper. What the box became grew where the files were known for which it asked, from what an edit would
-- have put: the box which a document gets, but that of a subpatch that keeps what it holds an empty one grew.
pub record RetypesBoxBy (holds : Option (List FileRow)) (old new : Patch) (n : Counts) (name path : List ℕ) (number : ℕ) (text : List Atom) (now : ℕ) (k after : Known) (steps steps' : ℕ) (b : RetypedBox) : Type 0 where
  pub node : Node
  pub chosen : IsChosen old path number b.canvas b.key node
  pub is : retyping k.names old path number text ≡ Ok (b.canvas, (b.key, retyped (settled_text k.names text) (entry_of node.element)))
  pub entry : Entry
  pub new_entry : box_put (settled_edit k.names (put_instead (entry_of node.element) text)) ≡ Some entry
  pub same_head : entry.head ≡ (retyped (settled_text k.names text) (entry_of node.element)).head
  pub same_entry : keeps_inside (entry_of node.element) (settled_text k.names text) ≡ false → entry ≡ retyped (settled_text k.names text) (entry_of node.element)
  pub table : IsTable k.names
  pub found : AreProper k.names k.files
  pub is_known : All (IsOf k.names) text
  pub written : CanBeWritten k.names entry
  pub added : Added
  pub comes : ComesTo holds old (counts_but old.rate node n) name path (put_instead (entry_of node.element) text) k (Ok added)
  pub files : Known
  pub grew : GrewWith old (counts_but old.rate node n) name path (put_instead (entry_of node.element) text) k files added
  pub became : Becomes old new k.names text now b.key node added b.gone.items steps steps'
  pub canvas : b.canvas ≡ added.canvas
  pub counts : b.counts ≡ with_wires added.counts (wires_told new.web)
  pub known_is : after ≡ added.known
  pub table_after : IsTable after.names

abbrev pub RetypesBox : Patch → Patch → Counts → (name path : List ℕ) → (number : ℕ) → (text : List Atom) → (now : ℕ) → (k after : Known) → (steps steps' : ℕ) → RetypedBox → Type 0
RetypesBox = RetypesBoxBy None

-- an edit comes to a box that can't become what grew yet
pub record IsNotYetBy (holds : Option (List FileRow)) (p : Patch) (n : Counts) (name path : List ℕ) (number : ℕ) (text : List Atom) (k : Known) : Type 0 where
  pub added : Added
  pub comes : RetypesToBy holds p n name path number text k (Ok added)
  pub other : CanBecome p comes.key comes.node added → ⊥
  pub no_text : CanTakeText k.names text comes.node added → ⊥

-- Why an edit makes no box another one: memory was wanting; or there is no such box, or a reason against its text; or the folder gave no file for
-- which growing asks; or growing comes to this refusal; or the text names what the table hasn't, or such a box isn't made another one yet.
abbrev pub IsRefusedBy : Option (List FileRow) → Patch → Counts → List ℕ → List ℕ → ℕ → List Atom → Known → EditRefusal → Type 0
IsRefusedBy holds p n name path number text k why =
    (why ≡ NoMemory) ⊎ ((retyping k.names p path number text ≡ Err why) ⊎ (((why ≡ ShelfFault) × IsRetyping (retyping k.names p path number text)) ⊎
    (RetypesToBy holds p n name path number text k (Err why) ⊎
    ((why ≡ NoDocument) × ((All (IsOf k.names) text → ⊥) ⊎ IsNotYetBy holds p n name path number text k)))))

abbrev pub IsRefused : Patch → Counts → List ℕ → List ℕ → ℕ → List Atom → Known → EditRefusal → Type 0
IsRefused = IsRefusedBy None

-- the box could become what grew or take its text, and memory was wanting
pub record IsShortOfRoomBy (holds : Option (List FileRow)) (old new : Patch) (n : Counts) (name path : List ℕ) (number : ℕ) (text : List Atom) (k : Known) : Type 0 where
  pub added : Added
  pub comes : RetypesToBy holds old n name path number text k (Ok added)
  pub can : CanBecome old comes.key comes.node added ⊎ CanTakeText k.names text comes.node added
  pub room : SameButRoom old new
  pub goes_on : CanPut new

abbrev pub IsShortOfRoom : Patch → Patch → Counts → List ℕ → List ℕ → ℕ → List Atom → Known → Type 0
IsShortOfRoom = IsShortOfRoomBy None

-- it is refused for this, and the patch stays; or the box could become another, memory was wanting, and there may be more room
abbrev pub IsNotRetypedBy : Option (List FileRow) → Patch → Patch → Counts → List ℕ → List ℕ → ℕ → List Atom → Known → EditRefusal → Type 0
IsNotRetypedBy holds old new n name path number text k why =
    ((new ≡ old) × IsRefusedBy holds old n name path number text k why) ⊎ ((why ≡ NoMemory) × IsShortOfRoomBy holds old new n name path number text k)
