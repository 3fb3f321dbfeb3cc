-- What an edit may come to.
use Rattle.std.specs.Prelude.{◌≡◌, ◌⊎◌, ℕ, ℤ, List, [], ◌∷◌, Option, Some, None, Ok, Err}
use Rattle.std.specs.List.{AllByRecursion}
use Rattle.pd_atom.specs.Names.{IsTable, Extends}
use Rattle.pd_atom.specs.declared.Atom.{Atom}
use Rattle.pd_canvas.specs.declared.edits.Edit.{Edit}
use Rattle.pd_canvas.specs.declared.edits.Edit.TheVariants as edit
use Rattle.pd_doc.specs.Writing.{text_of}
use Rattle.pd_io.specs.declared.files.FileRow.{FileRow}
use Rattle.pd_io.specs.Rows.{stored}
use Rattle.pd_gather.specs.Gather.{Known, known}
use Rattle.pd_web.specs.Changes.{wires_told, Meet}
use Rattle.pd_patch.specs.declared.patch.Patch.{Patch}
use Rattle.pd_patch.specs.Document.{present_document}
use Rattle.pd_reload_law.specs.Wires.{StandOnce}
use Rattle.pd_wiring.specs.Changes.{CanRewire, SameButRoom}
use Rattle.pd_wiring.specs.Plans.{Plan, planned, IsRewired, most_looks}
use Rattle.pd_wiring.specs.declared.refusals.EditRefusal.{EditRefusal}
use Rattle.pd_wiring.specs.declared.refusals.EditRefusal.TheVariants as refusal
use Rattle.pd_boxes.specs.Put.{CanPut}
use Rattle.pd_adding.specs.Counts.{AreWithin}
use Rattle.pd_putting.specs.Adds.{put_looks, AddsBoxBy, IsNotPutBy, IsShortOfRoomBy}
use Rattle.pd_putting.specs.declared.adding.NewBox.{NewBox}
use Rattle.pd_deleting.specs.Deletes as deleting
use Rattle.pd_deleting.specs.Deletes.{going, without_all, part_gone, looks_gone, DeletesBox}
use Rattle.pd_deleting.specs.declared.deleting.OldBox.{OldBox}
use Rattle.pd_shifting.specs.Moves as shifting
use Rattle.pd_shifting.specs.Moves.{moving, MovesBox}
use Rattle.pd_shifting.specs.declared.shifting.MovedBox.{MovedBox}
use Rattle.pd_retyping.specs.Retypes as retyping
use Rattle.pd_retyping.specs.Retypes.{clocks_become, looks_become, RetypesBoxBy}
use Rattle.pd_retyping.specs.declared.retyping.RetypedBox.{RetypedBox}
use Rattle.pd_say.specs.declared.refusals.Why.{Why}
use Rattle.pd_say.specs.declared.refusals.Why.TheVariants as why
use Rattle.pd_hearing.specs.Worlds.{Net, net_of, states_of}
use Rattle.pd_stage.specs.Choices.{Base, base_of, Wanted, Edits, Asks, Saves, Undoes, Redoes, Made, Choice, Refuses, Lacks, Makes}
use Rattle.pd_stage.specs.Stages.{Stage, Taken}
use Rattle.pd_stage.specs.Lines.{deleted_text, loads_inside, loops_text, moved_text, put_text, retyped_text}

-- the reason that a line tells
abbrev pub why_of : EditRefusal → Why
why_of refusal.NoDocument = why.NoDocument
why_of refusal.NoCanvas = why.NoCanvas
why_of (refusal.NoBox number) = why.NoBox number
why_of (refusal.NoPort number port outlet) = why.NoPort number port outlet
why_of refusal.NoWire = why.NoWire
why_of refusal.SignalIntoControl = why.SignalIntoControl
why_of refusal.TextTooLong = why.TextTooLong
why_of refusal.TooDeep = why.TooDeep
why_of refusal.ShelfFault = why.ShelfFault
why_of refusal.SymbolsFull = why.SymbolsFull
why_of refusal.TooManyBoxes = why.TooManyBoxes
why_of refusal.TooManyWires = why.TooManyWires
why_of refusal.TooMuchSound = why.TooMuchSound
why_of refusal.NoMemory = why.NoMemory

-- A patch stands at a stage: what messages leave as it is, and what its boxes keep. Its wires can be changed, boxes can come and go, and each
-- wire stands at both of its ports.
pub record StandsAt (p : Patch) (s : Stage) : Type 0 where
  pub net : s.net ≡ net_of p
  pub states : s.states ≡ states_of p
  pub puts : CanPut p
  pub meet : Meet p.web

-- what is known at a stage
abbrev pub known_at : Stage → Known
known_at s = known s.base.files s.names

-- the same with another number of wires
abbrev pub with_wire_count : Base → ℕ → Base
with_wire_count b wires = base_of b.files (record b.counts { wires = wires })

-- an edit of wires that was planned is made: what the boxes keep, the clocks and the names stay, and a loop of its canvas is told
pub record IsMade (s : Stage) (path : List ℕ) (e : Edit) (m : Made) : Type 0 where
  pub old : Patch
  pub new : Patch
  pub canvas : ℕ
  pub stands : StandsAt old s
  pub rewired : IsRewired old new path e canvas
  pub net : m.net ≡ net_of new
  pub states : m.states ≡ s.states
  pub clocks : m.clocks ≡ s.clocks
  pub names : m.names ≡ s.names
  pub base : m.base ≡ with_wire_count s.base (wires_told new.web)
  pub lines : m.lines ≡ loops_text new canvas
  pub files : m.files ≡ []
  pub loads : m.loads ≡ []
  pub looks : m.looks ≡ most_looks rewired.plan old new

-- it is refused for the reason that it is planned to be
pub record IsRefusedFor (s : Stage) (path : List ℕ) (e : Edit) (reason : Why) : Type 0 where
  pub patch : Patch
  pub cause : EditRefusal
  pub stands : StandsAt patch s
  pub is_planned : planned patch path e ≡ Err cause
  pub reason_is : reason ≡ why_of cause

-- it is planned, and memory was wanting
pub record IsShort (s : Stage) (path : List ℕ) (e : Edit) (net : Net) : Type 0 where
  pub old : Patch
  pub new : Patch
  pub plan : Plan
  pub stands : StandsAt old s
  pub is_planned : planned old path e ≡ Ok plan
  pub same : SameButRoom old new
  pub rewires : CanRewire new
  pub net_is : net ≡ net_of new

abbrev pub IsRewiringLawful : Stage → List ℕ → Edit → Choice → Type 0
IsRewiringLawful s path e (Refuses reason) = IsRefusedFor s path e reason
IsRewiringLawful s path e (Lacks net) = IsShort s path e net
IsRewiringLawful s path e (Makes m) = IsMade s path e m

-- An edit put a box with all that lies in it, as it grew by what the folder holds, where it tells that: all other boxes keep what they kept, the clocks stay, names and files go on, and the counts stay within the
-- limits of a patch. It is told why boxes could not be made, which wires in it don't fit, and loops of its canvas, of the one around where it is a port of
-- that, and of those in it. The load boxes that lie in it are loaded. It looks at no more signal wires than its place in the order of its canvas and
-- the orders of the canvases in it take.
pub record IsPutInBy (holds : Option (List FileRow)) (s : Stage) (path : List ℕ) (e : Edit) (m : Made) : Type 0 where
  pub old : Patch
  pub new : Patch
  pub after : Known
  pub box : NewBox
  pub stands : StandsAt old s
  pub adds : AddsBoxBy holds old new s.base.counts s.file path s.time e (known_at s) after box
  pub net : m.net ≡ net_of new
  pub states : m.states ≡ states_of new
  pub clocks : m.clocks ≡ s.clocks
  pub names : m.names ≡ after.names
  pub more : Extends s.names m.names
  pub base : m.base ≡ base_of after.files box.counts
  pub within : AreWithin m.base.counts
  pub lines : m.lines ≡ put_text m.names new box.key box.canvas
  pub files : m.files ≡ []
  pub loads : m.loads ≡ loads_inside new box.key
  pub looks : m.looks ≡ put_looks new box.key

-- the same whatever the folder holds
abbrev pub IsPutIn : Stage → List ℕ → Edit → Made → Type 0
IsPutIn = IsPutInBy None

-- no box is put, for this reason
pub record IsUnputBy (holds : Option (List FileRow)) (s : Stage) (path : List ℕ) (e : Edit) (reason : Why) : Type 0 where
  pub patch : Patch
  pub cause : EditRefusal
  pub stands : StandsAt patch s
  pub refused : IsNotPutBy holds patch s.base.counts s.file path e (known_at s) cause
  pub reason_is : reason ≡ why_of cause

abbrev pub IsUnput : Stage → List ℕ → Edit → Why → Type 0
IsUnput = IsUnputBy None

-- a box could be put, and memory was wanting
pub record IsUnputForRoomBy (holds : Option (List FileRow)) (s : Stage) (path : List ℕ) (e : Edit) (net : Net) : Type 0 where
  pub old : Patch
  pub new : Patch
  pub stands : StandsAt old s
  pub short : IsShortOfRoomBy holds old new s.base.counts s.file path e (known_at s)
  pub net_is : net ≡ net_of new

abbrev pub IsUnputForRoom : Stage → List ℕ → Edit → Net → Type 0
IsUnputForRoom = IsUnputForRoomBy None

abbrev pub IsPutLawfulBy : Option (List FileRow) → Stage → List ℕ → Edit → Choice → Type 0
IsPutLawfulBy holds s path e (Refuses reason) = IsUnputBy holds s path e reason
IsPutLawfulBy holds s path e (Lacks net) = IsUnputForRoomBy holds s path e net
IsPutLawfulBy holds s path e (Makes m) = IsPutInBy holds s path e m

abbrev pub IsPutLawful : Stage → List ℕ → Edit → Choice → Type 0
IsPutLawful = IsPutLawfulBy None

-- An edit took a box out with all that lay in it and with its wires, and from the box around the port that it was: all other boxes keep what they kept, and
-- their clocks; names and files stay, the counts stay within the limits of a patch, and it is told which wires went with the port, and a loop of its
-- canvas, and of the one around where it was a port. It looks at no more signal wires than the mends for the wires that went.
pub record IsTakenOut (s : Stage) (path : List ℕ) (number : ℕ) (m : Made) : Type 0 where
  pub old : Patch
  pub new : Patch
  pub box : OldBox
  pub steps : ℕ
  pub steps' : ℕ
  pub stands : StandsAt old s
  pub deletes : DeletesBox old new s.base.counts s.names path number steps steps' box
  pub net : m.net ≡ net_of new
  pub states : m.states ≡ states_of new
  pub clocks : m.clocks ≡ without_all (part_gone old new s.base.counts s.names path number steps steps' box deletes) s.clocks
  pub names : m.names ≡ s.names
  pub base : m.base ≡ base_of s.base.files box.counts
  pub within : AreWithin m.base.counts
  pub lines : m.lines ≡ deleted_text new box.canvas box.around box.gone.items
  pub files : m.files ≡ []
  pub loads : m.loads ≡ []
  pub looks : m.looks ≡ looks_gone old new s.base.counts s.names path number steps steps' box deletes

-- no box goes, for this reason
pub record IsLeftIn (s : Stage) (path : List ℕ) (number : ℕ) (reason : Why) : Type 0 where
  pub patch : Patch
  pub cause : EditRefusal
  pub stands : StandsAt patch s
  pub refused : going patch path number ≡ Err cause
  pub reason_is : reason ≡ why_of cause

-- a box could go, and memory was wanting
pub record IsLeftInForRoom (s : Stage) (path : List ℕ) (number : ℕ) (net : Net) : Type 0 where
  pub old : Patch
  pub new : Patch
  pub stands : StandsAt old s
  pub short : deleting.IsShortOfRoom old new path number
  pub rewires : CanRewire new
  pub net_is : net ≡ net_of new

abbrev pub IsTakingLawful : Stage → List ℕ → ℕ → Choice → Type 0
IsTakingLawful s path number (Refuses reason) = IsLeftIn s path number reason
IsTakingLawful s path number (Lacks net) = IsLeftInForRoom s path number net
IsTakingLawful s path number (Makes m) = IsTakenOut s path number m

-- An edit moved a box in its canvas, and the ports of the box around where it is one of them: what the boxes keep, their clocks, names, files and counts
-- stay, and a loop of its canvas is told, and of the one around where ports there changed places. It looks at no signal wire.
pub record IsMovedTo (s : Stage) (path : List ℕ) (number : ℕ) (x y : ℤ) (m : Made) : Type 0 where
  pub old : Patch
  pub new : Patch
  pub box : MovedBox
  pub stands : StandsAt old s
  pub moves : MovesBox old new path number x y box
  pub net : m.net ≡ net_of new
  pub states : m.states ≡ states_of new
  pub clocks : m.clocks ≡ s.clocks
  pub names : m.names ≡ s.names
  pub base : m.base ≡ s.base
  pub lines : m.lines ≡ moved_text new box.canvas box.around
  pub files : m.files ≡ []
  pub loads : m.loads ≡ []
  pub looks : m.looks ≡ 0

-- no box moves, for this reason
pub record IsLeftAt (s : Stage) (path : List ℕ) (number : ℕ) (reason : Why) : Type 0 where
  pub patch : Patch
  pub cause : EditRefusal
  pub stands : StandsAt patch s
  pub refused : moving patch path number ≡ Err cause
  pub reason_is : reason ≡ why_of cause

-- a port box could move, and memory was wanting
pub record IsLeftAtForRoom (s : Stage) (path : List ℕ) (number : ℕ) (net : Net) : Type 0 where
  pub old : Patch
  pub new : Patch
  pub stands : StandsAt old s
  pub short : shifting.IsShortOfRoom old new path number
  pub rewires : CanRewire new
  pub net_is : net ≡ net_of new

abbrev pub IsMovingLawful : Stage → List ℕ → ℕ → (x y : ℤ) → Choice → Type 0
IsMovingLawful s path number x y (Refuses reason) = IsLeftAt s path number reason
IsMovingLawful s path number x y (Lacks net) = IsLeftAtForRoom s path number net
IsMovingLawful s path number x y (Makes m) = IsMovedTo s path number x y m

-- An edit made a box another one, as it grew by what the folder holds, where it tells that, or a subpatch took its text and kept what it holds: all other boxes keep what they kept, and their clocks; names and files
-- go on, the counts stay within the limits of a patch, and it is told why the box could not be made, which wires didn't fit any more and went, and a loop of
-- its canvas. It looks at no more signal wires than the mends for the wires that went, and than a new box in the order of its canvas takes.
pub record IsRetypedToBy (holds : Option (List FileRow)) (s : Stage) (path : List ℕ) (number : ℕ) (text : List Atom) (m : Made) : Type 0 where
  pub old : Patch
  pub new : Patch
  pub after : Known
  pub box : RetypedBox
  pub steps : ℕ
  pub steps' : ℕ
  pub stands : StandsAt old s
  pub retypes : RetypesBoxBy holds old new s.base.counts s.file path number text s.time (known_at s) after steps steps' box
  pub net : m.net ≡ net_of new
  pub states : m.states ≡ states_of new
  pub clocks : m.clocks ≡ clocks_become retypes.became s.clocks
  pub names : m.names ≡ after.names
  pub more : Extends s.names m.names
  pub base : m.base ≡ base_of after.files box.counts
  pub within : AreWithin m.base.counts
  pub lines : m.lines ≡ retyped_text m.names new box.key box.canvas box.gone.items
  pub files : m.files ≡ []
  pub loads : m.loads ≡ []
  pub looks : m.looks ≡ looks_become box.canvas retypes.became

-- the same whatever the folder holds
abbrev pub IsRetypedTo : Stage → List ℕ → ℕ → List Atom → Made → Type 0
IsRetypedTo = IsRetypedToBy None

-- no box becomes another one, for this reason
pub record IsUnretypedBy (holds : Option (List FileRow)) (s : Stage) (path : List ℕ) (number : ℕ) (text : List Atom) (reason : Why) : Type 0 where
  pub patch : Patch
  pub cause : EditRefusal
  pub stands : StandsAt patch s
  pub refused : retyping.IsRefusedBy holds patch s.base.counts s.file path number text (known_at s) cause
  pub reason_is : reason ≡ why_of cause

abbrev pub IsUnretyped : Stage → List ℕ → ℕ → List Atom → Why → Type 0
IsUnretyped = IsUnretypedBy None

-- a box could become another one, and memory was wanting
pub record IsUnretypedForRoomBy (holds : Option (List FileRow)) (s : Stage) (path : List ℕ) (number : ℕ) (text : List Atom) (net : Net) : Type 0 where
  pub old : Patch
  pub new : Patch
  pub stands : StandsAt old s
  pub short : retyping.IsShortOfRoomBy holds old new s.base.counts s.file path number text (known_at s)
  pub net_is : net ≡ net_of new

abbrev pub IsUnretypedForRoom : Stage → List ℕ → ℕ → List Atom → Net → Type 0
IsUnretypedForRoom = IsUnretypedForRoomBy None

abbrev pub IsRetypingLawfulBy : Option (List FileRow) → Stage → List ℕ → ℕ → List Atom → Choice → Type 0
IsRetypingLawfulBy holds s path number text (Refuses reason) = IsUnretypedBy holds s path number text reason
IsRetypingLawfulBy holds s path number text (Lacks net) = IsUnretypedForRoomBy holds s path number text net
IsRetypingLawfulBy holds s path number text (Makes m) = IsRetypedToBy holds s path number text m

abbrev pub IsRetypingLawful : Stage → List ℕ → ℕ → List Atom → Choice → Type 0
IsRetypingLawful = IsRetypingLawfulBy None

-- an edit of the patch's own document: wires and boxes come and go, and boxes move and become others
abbrev pub IsEditLawfulBy : Option (List FileRow) → Stage → List ℕ → Edit → Choice → Type 0
IsEditLawfulBy holds s path (edit.Connect v) c = IsRewiringLawful s path (edit.Connect v) c
IsEditLawfulBy holds s path (edit.Disconnect v) c = IsRewiringLawful s path (edit.Disconnect v) c
IsEditLawfulBy holds s path (edit.Delete number) c = IsTakingLawful s path number c
IsEditLawfulBy holds s path (edit.Retype number text) c = IsRetypingLawfulBy holds s path number text c
IsEditLawfulBy holds s path (edit.Move number x y) c = IsMovingLawful s path number x y c
IsEditLawfulBy holds s path e c = IsPutLawfulBy holds s path e c

abbrev pub IsEditLawful : Stage → List ℕ → Edit → Choice → Type 0
IsEditLawful = IsEditLawfulBy None

-- The patch's document is put under the name of its file, by a table of names; each wire of the patch stands once; and all else stays.
pub record IsSaved (s : Stage) (m : Made) : Type 0 where
  pub patch : Patch
  pub stands : StandsAt patch s
  pub table : IsTable s.names
  pub once : StandOnce patch.web
  pub net : m.net ≡ s.net
  pub states : m.states ≡ s.states
  pub clocks : m.clocks ≡ s.clocks
  pub names : m.names ≡ s.names
  pub base : m.base ≡ s.base
  pub lines : m.lines ≡ []
  pub files : m.files ≡ (s.file, text_of s.names (present_document patch)) ∷ []
  pub loads : m.loads ≡ []
  pub looks : m.looks ≡ 0

abbrev pub IsSaveLawful : Stage → Choice → Type 0
IsSaveLawful s (Refuses reason) = (reason ≡ why.ShelfFault) ⊎ (reason ≡ why.NoMemory)
IsSaveLawful s (Lacks net) = ⊥
IsSaveLawful s (Makes m) = IsSaved s m

-- what is asked for comes to this: an edit that a message asked for comes to the same as one of a command; there are no drafts of abstractions, and
-- nothing to undo or redo
abbrev pub MayComeBy : Option (List FileRow) → Wanted → Stage → Choice → Type 0
MayComeBy holds (Edits None path e) s c = IsEditLawfulBy holds s path e c
MayComeBy holds (Edits (Some document) path e) s c = c ≡ Refuses why.NoDocument
MayComeBy holds (Asks path e) s c = IsEditLawfulBy holds s path e c
MayComeBy holds (Saves None) s c = IsSaveLawful s c
MayComeBy holds (Saves (Some document)) s c = c ≡ Refuses why.NoDocument
MayComeBy holds Undoes s c = c ≡ Refuses why.NothingToUndo
MayComeBy holds Redoes s c = c ≡ Refuses why.NothingToRedo

abbrev pub MayCome : Wanted → Stage → Choice → Type 0
MayCome = MayComeBy None

abbrev pub IsLawful : Taken → Type 0
IsLawful t = MayCome t.wanted t.found t.choice

-- each edit may come to what it came to, whatever the folder holds
abbrev pub AreLawful : List Taken → Type 0
AreLawful edits = AllByRecursion IsLawful edits

-- what a folder holds once files were put, where it tells that
abbrev pub held_with : List (List ℕ × List ℕ) → Option (List FileRow) → Option (List FileRow)
held_with [] held = held
held_with (file ∷ files) held = held_with files (stored file.0 file.1 held)

-- and where something was refused: after a save that it failed to take it isn't told any more
abbrev pub held_failing : Wanted → Why → Option (List FileRow) → Option (List FileRow)
held_failing (Saves document) why.ShelfFault held = None
held_failing wanted reason held = held

-- what it holds behind an edit
abbrev pub held_on : Wanted → Choice → Option (List FileRow) → Option (List FileRow)
held_on wanted (Refuses reason) held = held_failing wanted reason held
held_on wanted (Lacks net) held = held
held_on wanted (Makes m) held = held_with m.files held

-- and behind some
abbrev pub held_behind : List Taken → Option (List FileRow) → Option (List FileRow)
held_behind [] held = held
held_behind (t ∷ edits) held = held_behind edits (held_on t.wanted t.choice held)

-- each edit comes to what it may by what the folder holds when it comes, where it tells that
abbrev pub GoByFolder : Option (List FileRow) → List Taken → Type 0
GoByFolder held [] = Unit {0}
GoByFolder held (t ∷ edits) = MayComeBy held t.wanted t.found t.choice × GoByFolder (held_on t.wanted t.choice held) edits
