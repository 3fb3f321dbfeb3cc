-- A box that an edit puts into a canvas of a running patch.
use Rattle.std.specs.Prelude.{◌≡◌, ◌⊎◌, ◌<◌, ◌≤◌, ◌+◌, ℕ, List, ◌∷◌, length, Option, Some, None, Ok, Err, IfSome}
use Rattle.std.specs.List.{AllByRecursion}
use Rattle.slab.specs.Slab.{get}
use Rattle.pd_io.specs.declared.files.FileRow.{FileRow}
use Rattle.pd_atom.specs.Names.{IsTable}
use Rattle.pd_canvas.specs.declared.edits.Edit.{Edit}
use Rattle.pd_canvas.specs.Pages.{Sub}
use Rattle.pd_object.specs.declared.kinds.Kind.TheVariants as kind
use Rattle.pd_tree.specs.declared.rows.Sheet.{Sheet}
use Rattle.pd_tree.specs.Trees.{Cell, Trees, Done, Leaf, Holder, stand_of, stands_of}
use Rattle.pd_growth.specs.Suits.{RowSuits}
use Rattle.pd_gather.specs.Gather.{Known, AreProper}
use Rattle.pd_grove.specs.declared.ports.Side.{Side}
use Rattle.pd_grove.specs.declared.seeds.Seed.{Seed}
use Rattle.pd_grove.specs.Planting.{one, seed_stand, stands_ready}
use Rattle.pd_grove.specs.Standing.{depth_of}
use Rattle.pd_grove.specs.States.{AreFresh, IsFresh, SeedsSmall}
use Rattle.pd_grove.specs.Telling.{inner_in}
use Rattle.pd_grove.specs.TextOrder.{deep}
use Rattle.pd_owning.specs.Parts.{part_keys}
use Rattle.pd_web.specs.Canvases.{keys_at}
use Rattle.pd_patch.specs.declared.patch.Patch.{Patch}
use Rattle.pd_wiring.specs.declared.refusals.EditRefusal.{EditRefusal}
use Rattle.pd_wiring.specs.declared.refusals.EditRefusal.TheVariants.{NoDocument, ShelfFault, NoMemory}
use Rattle.pd_boxes.specs.declared.room.Place.{Place}
use Rattle.pd_boxes.specs.Room.{SameButRoom}
use Rattle.pd_boxes.specs.Put.{CanPut, IsLeaf, IsNoPort, IsPut}
use Rattle.pd_following.specs.Ports.{CanPutPort, IsPortAt, IsPortPut}
use Rattle.pd_instances.specs.Part.{looks_of, IsPartPut}
use Rattle.pd_subpatches.specs.Shell.{IsShallow, IsShell, IsShellPut}
use Rattle.pd_adding.specs.declared.counts.Counts.{Counts}
use Rattle.pd_adding.specs.Boxes.{IsKnown, CanBeWritten, settled_edit, box_put}
use Rattle.pd_adding.specs.Coming.{coming, IsComing}
use Rattle.pd_adding.specs.Growing.{Added}
use Rattle.pd_adding.specs.Adding.{ComesTo, GrewWith}
use Rattle.pd_putting.specs.declared.adding.NewBox.{NewBox}

-- where it comes: at a number of a canvas
abbrev pub place_at : ℕ → ℕ → Place
place_at canvas number = record { canvas = canvas; number = number }

-- behind the boxes of the canvas
abbrev pub last_place : Patch → ℕ → Place
last_place p canvas = record { canvas = canvas; number = length (keys_at p.grove canvas) }

-- What grew is one box without a canvas, and no port of a box around.
pub record IsPlainAt (p : Patch) (number : ℕ) (a : Added) : Type 0 where
  pub cell : Cell
  pub single : a.boxes ≡ Leaf cell Done
  pub no_port : IsNoPort p (place_at a.canvas number) cell.kind

-- What grew is one subpatch without boxes, which isn't too deep. An abstraction is none, though its file may have no boxes: it has a `$0` of its own.
pub record IsSubAt (p : Patch) (number : ℕ) (a : Added) : Type 0 where
  pub cell : Cell
  pub sheet : Sheet
  pub single : a.boxes ≡ Holder cell sheet Done Done
  pub form : cell.head.form ≡ Sub
  pub canvas : cell.kind ≡ kind.Canvas
  pub shallow : IsShallow p (place_at a.canvas number)

-- What grew is one box without a canvas, and it is a port of the box around, on this side.
pub record IsPortHere (p : Patch) (number : ℕ) (a : Added) : Type 0 where
  pub cell : Cell
  pub single : a.boxes ≡ Leaf cell Done
  pub holder : ℕ
  pub side : Side
  pub at : IsPortAt p.grove (place_at a.canvas number) cell.kind holder side

-- What grew is one box with a canvas in it and whatever lies in that, and isn't too deep for the place.
pub record IsHolder (p : Patch) (a : Added) : Type 0 where
  pub cell : Cell
  pub sheet : Sheet
  pub inner : Trees
  pub single : a.boxes ≡ Holder cell sheet inner Done
  pub canvas : cell.kind ≡ kind.Canvas
  pub shallow : depth_of (get p.grove.boards a.canvas) + deep a.boxes < 257

-- What grew is one of these, as any box that grows is where it isn't too deep for its place.
abbrev pub CanComeAt : Patch → ℕ → Added → Type 0
CanComeAt p number a = IsPlainAt p number a ⊎ (IsSubAt p number a ⊎ (IsPortHere p number a ⊎ IsHolder p a))

-- What grew came in at a number of its canvas, under this key, and keeps what its kind keeps at first. All else of the patch stays, but that
-- there is more room.
pub record IsBoxPutAt (old new : Patch) (number now : ℕ) (a : Added) (key : ℕ) : Type 0 where
  pub plain : IsPlainAt old number a
  pub ready : Patch
  pub room : SameButRoom old ready
  pub seed : Seed
  pub is_row : stand_of seed.row ≡ record { cell = plain.cell; sheet = None; boxes = 0 }
  pub suits : RowSuits a.known.names seed.row
  pub leaf : IsLeaf seed
  pub fresh : IsFresh old.rate now seed
  pub put : IsPut ready new a.known.names (place_at a.canvas number) seed key
  pub goes_on : CanPut new

-- The same of a subpatch without boxes.
pub record IsSubPutAt (old new : Patch) (number now : ℕ) (a : Added) (key : ℕ) : Type 0 where
  pub sub : IsSubAt old number a
  pub ready : Patch
  pub room : SameButRoom old ready
  pub seed : Seed
  pub is_row : stand_of seed.row ≡ record { cell = sub.cell; sheet = Some sub.sheet; boxes = 0 }
  pub suits : RowSuits a.known.names seed.row
  pub shell : IsShell seed
  pub fresh : IsFresh old.rate now seed
  pub put : IsShellPut ready new a.known.names (place_at a.canvas number) seed key
  pub goes_on : CanPut new

-- The same of a port box: the box around has the port that it is.
pub record IsPortBoxPutAt (old new : Patch) (number now : ℕ) (a : Added) (key : ℕ) : Type 0 where
  pub port : IsPortHere old number a
  pub ready : Patch
  pub room : SameButRoom old ready
  pub seed : Seed
  pub is_row : stand_of seed.row ≡ record { cell = port.cell; sheet = None; boxes = 0 }
  pub suits : RowSuits a.known.names seed.row
  pub fresh : IsFresh old.rate now seed
  pub could : CanPutPort ready (place_at a.canvas number) seed port.holder port.side
  pub put : IsPortPut ready new a.known.names (place_at a.canvas number) seed key port.holder port.side
  pub goes_on : CanPut new

-- The same of a box with all that lies in it: each box of it keeps what its kind keeps at first.
pub record IsPartBoxPutAt (old new : Patch) (number now : ℕ) (a : Added) (key : ℕ) : Type 0 where
  pub holder : IsHolder old a
  pub ready : Patch
  pub room : SameButRoom old ready
  pub seed : Seed
  pub seeds : List Seed
  pub are_rows : one (seed_stand seed) (stands_ready seeds) ≡ stands_of a.boxes
  pub suit : AllByRecursion (λ (s : Seed). RowSuits a.known.names s.row) (seed ∷ seeds)
  pub small : SeedsSmall (seed ∷ seeds)
  pub fresh : AreFresh old.rate now (seed ∷ seeds)
  pub steps : ℕ
  pub steps' : ℕ
  pub put : IsPartPut ready new a.known.names (place_at a.canvas number) seed seeds key steps steps'
  pub goes_on : CanPut new

-- what grew came in
abbrev pub HasComeAt : Patch → Patch → ℕ → ℕ → Added → ℕ → Type 0
HasComeAt old new number now a key =
    IsBoxPutAt old new number now a key ⊎ (IsSubPutAt old new number now a key ⊎ (IsPortBoxPutAt old new number now a key ⊎ IsPartBoxPutAt old new number now a key))

-- ---- as the last box of its canvas

abbrev pub next_number : Patch → Added → ℕ
next_number p a = length (keys_at p.grove a.canvas)

abbrev pub IsPlain : Patch → Added → Type 0
IsPlain p a = IsPlainAt p (next_number p a) a

abbrev pub IsSub : Patch → Added → Type 0
IsSub p a = IsSubAt p (next_number p a) a

abbrev pub IsPort : Patch → Added → Type 0
IsPort p a = IsPortHere p (next_number p a) a

abbrev pub CanCome : Patch → Added → Type 0
CanCome p a = CanComeAt p (next_number p a) a

abbrev pub IsBoxPut : Patch → Patch → ℕ → Added → ℕ → Type 0
IsBoxPut old new now a key = IsBoxPutAt old new (next_number old a) now a key

abbrev pub IsSubPut : Patch → Patch → ℕ → Added → ℕ → Type 0
IsSubPut old new now a key = IsSubPutAt old new (next_number old a) now a key

abbrev pub IsPortBoxPut : Patch → Patch → ℕ → Added → ℕ → Type 0
IsPortBoxPut old new now a key = IsPortBoxPutAt old new (next_number old a) now a key

abbrev pub IsPartBoxPut : Patch → Patch → ℕ → Added → ℕ → Type 0
IsPartBoxPut old new now a key = IsPartBoxPutAt old new (next_number old a) now a key

abbrev pub HasCome : Patch → Patch → ℕ → Added → ℕ → Type 0
HasCome old new now a key = HasComeAt old new (next_number old a) now a key

-- a box with all that lies in it, in text order
abbrev pub keys_within : Patch → ℕ → List ℕ
keys_within p key = part_keys (get p.grove.nodes) (get p.grove.boards) key

-- The most looks at signal wires that it takes to put a box that holds a canvas: those for its place in the order of the canvas around, and those for the
-- orders of the canvases in it. A box that holds none takes no look.
abbrev pub looks_with : Patch → ℕ → Option ℕ → ℕ
looks_with p key None = 0
looks_with p key (Some canvas) = 8 + looks_of p.grove p.links (keys_within p key)

abbrev pub put_looks : Patch → ℕ → ℕ
put_looks p key = looks_with p key (inner_in (get p.grove.nodes key))

-- A box that an edit names came in at this number, with this known after it, as what grew: `k` was known before it, `n` were the counts of the patch,
-- and it is this time. The documents that were found before it are proper. It grew where the files were known for which it asked.
pub record AddsBoxAt (old new : Patch) (number : ℕ) (n : Counts) (name path : List ℕ) (now : ℕ) (e : Edit) (k after : Known) (b : NewBox) : Type 0 where
  pub added : Added
  pub within : number ≤ length (keys_at old.grove added.canvas)
  pub table : IsTable k.names
  pub found : AreProper k.names k.files
  pub is_known : IsKnown k.names e
  pub written : IfSome (box_put (settled_edit k.names e)) (CanBeWritten k.names)
  pub comes : ComesTo None old n name path e k (Ok added)
  pub files : Known
  pub grew : GrewWith old n name path e k files added
  pub put : HasComeAt old new number now added b.key
  pub canvas : b.canvas ≡ added.canvas
  pub counts : b.counts ≡ added.counts
  pub known_is : after ≡ added.known
  pub table_after : IsTable after.names

-- An edit put a box, with this known after it, as what grew: `k` was known before it, `n` were the counts of the patch, and it is this time. The
-- documents that were found before it are proper. It grew where the files were known for which it asked, by what the shelf holds, where it tells that.
pub record AddsBoxBy (holds : Option (List FileRow)) (old new : Patch) (n : Counts) (name path : List ℕ) (now : ℕ) (e : Edit) (k after : Known) (b : NewBox) : Type 0 where
  pub added : Added
  pub table : IsTable k.names
  pub found : AreProper k.names k.files
  pub is_known : IsKnown k.names e
  pub written : IfSome (box_put (settled_edit k.names e)) (CanBeWritten k.names)
  pub comes : ComesTo holds old n name path e k (Ok added)
  pub files : Known
  pub grew : GrewWith old n name path e k files added
  pub put : HasCome old new now added b.key
  pub canvas : b.canvas ≡ added.canvas
  pub counts : b.counts ≡ added.counts
  pub known_is : after ≡ added.known
  pub table_after : IsTable after.names

-- the same whatever the shelf holds
abbrev pub AddsBox : Patch → Patch → Counts → (name path : List ℕ) → (now : ℕ) → Edit → (k after : Known) → NewBox → Type 0
AddsBox = AddsBoxBy None

-- Why an edit that puts a box is refused: memory was wanting; or the folder gave no file for which growing the box asks; or it comes to this refusal;
-- or its text names what the table hasn't. No box is refused for what it is.
abbrev pub IsNotPutBy : Option (List FileRow) → Patch → Counts → List ℕ → List ℕ → Edit → Known → EditRefusal → Type 0
IsNotPutBy holds p n name path e k why =
    (why ≡ NoMemory) ⊎ (((why ≡ ShelfFault) × IsComing (coming k.names p path e)) ⊎ (ComesTo holds p n name path e k (Err why) ⊎
    ((why ≡ NoDocument) × (IsKnown k.names e → ⊥))))

abbrev pub IsNotPut : Patch → Counts → List ℕ → List ℕ → Edit → Known → EditRefusal → Type 0
IsNotPut = IsNotPutBy None

-- the box could come, and memory was wanting to put it
pub record IsShortOfRoomBy (holds : Option (List FileRow)) (old new : Patch) (n : Counts) (name path : List ℕ) (e : Edit) (k : Known) : Type 0 where
  pub added : Added
  pub comes : ComesTo holds old n name path e k (Ok added)
  pub can_come : CanCome old added
  pub room : SameButRoom old new
  pub goes_on : CanPut new

abbrev pub IsShortOfRoom : Patch → Patch → Counts → List ℕ → List ℕ → Edit → Known → Type 0
IsShortOfRoom = IsShortOfRoomBy None

-- it is refused for this, and the patch stays; or the box could come, memory was wanting to put it, and there may be more room
abbrev pub IsNotAddedBy : Option (List FileRow) → Patch → Patch → Counts → List ℕ → List ℕ → Edit → Known → EditRefusal → Type 0
IsNotAddedBy holds old new n name path e k why =
    ((new ≡ old) × IsNotPutBy holds old n name path e k why) ⊎ ((why ≡ NoMemory) × IsShortOfRoomBy holds old new n name path e k)

abbrev pub IsNotAdded : Patch → Patch → Counts → List ℕ → List ℕ → Edit → Known → EditRefusal → Type 0
IsNotAdded = IsNotAddedBy None
