-- How a patch opens: its file is fetched and read, the files of its abstractions are gathered, it grows, the lines of growth are said, and
-- its load boxes send.
use Rattle.std.specs.Prelude.{◌≡◌, ◌⊎◌, ℕ, List, [], Option, Result, Ok, Err, IfSome}
use Rattle.pd_io.specs.Rows.{held_at}
use Rattle.pd_io.specs.declared.files.FileRow.{FileRow}
use Rattle.pd_atom.specs.Names.{Names, IsTable, first_names}
use Rattle.pd_canvas.specs.Pages.{Page}
use Rattle.pd_canvas.specs.Proper.{IsProper}
use Rattle.pd_clock.specs.declared.times.Rate.{Rate}
use Rattle.pd_doc.specs.declared.refusal.DocRefusal.{DocRefusal}
use Rattle.pd_doc.specs.Reading.{document_of}
use Rattle.pd_library.specs.Files.{answer_in}
use Rattle.pd_made.specs.Tallies.{nothing}
use Rattle.pd_library.specs.declared.answers.Answer.{Answer}
use Rattle.pd_tree.specs.Trees.{Tree}
use Rattle.pd_growth.specs.declared.growing.Stop.TheVariants as stop
use Rattle.pd_growth.specs.Steps.{Step, beginning}
use Rattle.pd_growth.specs.Growth.{grown}
use Rattle.pd_gather.specs.declared.fetching.Fetch.{Fetch}
use Rattle.pd_gather.specs.declared.fetching.Fetch.TheVariants as fetch
use Rattle.pd_gather.specs.Fetching.{given}
use Rattle.pd_gather.specs.Gather.{Known, Gathered, Full, known, Gathers, AreProper}
use Rattle.pd_grove.specs.TextOrder.{keys_in_order}
use Rattle.pd_patch.specs.declared.patch.Patch.{Patch}
use Rattle.pd_patch.specs.Grown.{IsFresh, IsTree, Ends, HasManyWires, HasMuchSound}
use Rattle.pd_patch.specs.Report.{notices_in, loads_among}
use Rattle.pd_hearing.specs.Worlds.{net_of, states_of}
use Rattle.pd_engine.specs.declared.refusals.OpenRefusal.{OpenRefusal}
use Rattle.pd_engine.specs.declared.refusals.OpenRefusal.TheVariants.{Absent, Bad, ShelfFault, WriteFault, NoMemory}
use Rattle.pd_engine.specs.declared.refusals.BadCause.{BadCause}
use Rattle.pd_engine.specs.declared.refusals.BadCause.TheVariants as cause
use Rattle.pd_adding.specs.Counts.{AreWithin}
use Rattle.pd_adding.specs.Counted.{AreCounted}
use Rattle.pd_stage.specs.Choices.{Base, Choice}
use Rattle.pd_stage.specs.Stages.{Stage, Passage, saying, joined}
use Rattle.pd_stage.specs.Leads.{sinks, Comes, Stops as PartStops}
use Rattle.pd_stage.specs.Events.{event, Loading}
use Rattle.pd_engine.specs.Refusals.{unread}
use Rattle.pd_engine.specs.Remarks.{remarks_text}
use Rattle.pd_stage.specs.Times.{block_units}

-- a patch that has just grown from the file of this name, with these names, and what edits go on from: the time is 0, the first block is to come, no
-- sample is added up, and the edits to come lead to this
abbrev pub first_stage : List ℕ → Patch → Names → Base → List Choice → Stage
first_stage file p names base ahead = record {
  file = file;
  net = net_of p;
  states = states_of p;
  clocks = p.timers.clocks.clocks;
  names = names;
  base = base;
  time = 0;
  block_end = block_units;
  fired = 0;
  tally = nothing;
  ahead = ahead;
}

-- these lines are said, and then these boxes are loaded
abbrev pub loaded : Stage → List ℕ → List ℕ → Passage
loaded s lines boxes = joined (saying s lines) (event s (Loading boxes))

-- a patch that has grown opens, with these names
abbrev pub opening : Patch → Names → Stage → Passage
opening p names s = loaded s (remarks_text names p (notices_in p.grove p.web p.orders.items)) (loads_among p.grove (keys_in_order p.grove))

abbrev pub opened : List ℕ → Patch → Names → Base → List Choice → Passage
opened file p names base ahead = opening p names (first_stage file p names base ahead)

-- The growth of a document, the files being known.
abbrev pub growth_of : List ℕ → Page → Known → Step Tree
growth_of name d k = grown (answer_in k.files) name d (beginning k.names 1001)

-- what is known of files, by the names of abstractions
abbrev pub Files : Type 0
Files = List (ℕ × Answer)

-- Of a document with its names the files that it asks for are gathered, and then this is known.
abbrev pub GathersAll : Option (List FileRow) → List ℕ → Page → Names → Known → Type 0
GathersAll holds name d names k = Gathers holds name d (known [] names) (Gathered k)

-- where a patch has grown, edits go on from the files that were gathered, and from the counts of its tree, which are within the limits of a patch
pub record IsFirst (base : Base) (files : Files) (p : Patch) (t : Tree) : Type 0 where
  pub files_are : base.files ≡ files
  pub counted : AreCounted base.counts p
  pub tree_is : counted.tree ≡ t
  pub within : AreWithin base.counts

-- A document with its names grows into this patch, with these names, and edits go on from this. The document and the files that were gathered are
-- proper in the table of names that gathering left.
pub record Grows (holds : Option (List FileRow)) (name : List ℕ) (rate : Rate) (d : Page) (names : Names) (p : Patch) (names' : Names) (base : Base) : Type 0 where
  pub files : Known
  pub gathers : GathersAll holds name d names files
  pub table : IsTable files.names
  pub proper : IsProper files.names d
  pub found : AreProper files.names files.files
  pub tree : IsTree p names' rate (growth_of name d files)
  pub fresh : IsFresh p names' name rate
  pub first : IsFirst base files.files p tree.tree

-- A document with its names opens as an engine that stands at this stage. Its lines were taken; the folder holds what it held, and counts so many faults.
pub record Opens (holds : Option (List FileRow)) (name : List ℕ) (rate : Rate) (d : Page) (names : Names) (s : List Choice → Stage) (lines lines' : Option (List ℕ)) (faults faults' : ℕ) : Type 0 where
  pub patch : Patch
  pub table : Names
  pub base : Base
  pub grows : Grows holds name rate d names patch table base
  pub says : (looks : ℕ) (samples : Option (List ℕ)) →
      Comes (opening patch table) (first_stage name patch table base) s (sinks lines samples looks holds faults) (sinks lines' samples looks holds faults')

-- The table of names is full while the files are gathered, or the folder failed, or memory was wanting.
abbrev pub IsUngathered : Option (List FileRow) → List ℕ → Page → Names → OpenRefusal → Type 0
IsUngathered holds name d names Absent = ⊥
IsUngathered holds name d names (Bad number why) =
    (number ≡ 0) × (why ≡ cause.SymbolsFull) × Gathers holds name d (known [] names) Full
IsUngathered holds name d names ShelfFault = Unit {0}
IsUngathered holds name d names WriteFault = ⊥
IsUngathered holds name d names NoMemory = Unit {0}

-- Why growth stops. The names of growth find room in the table once all files are gathered.
abbrev pub Stops : Step Tree → Rate → BadCause → Type 0
Stops s rate cause.BadRecord = ⊥
Stops s rate cause.DataStructure = ⊥
Stops s rate cause.TooDeep = ⊥
Stops s rate cause.TooLong = ⊥
Stops s rate cause.TooManyBoxes = Ends s stop.TooManyBoxes
Stops s rate cause.TooManyWires = HasManyWires s
Stops s rate cause.TooMuchSound = HasMuchSound s rate
Stops s rate cause.SymbolsFull = ⊥

-- a limit of growth is met, or memory was wanting
abbrev pub IsUngrown : Step Tree → Rate → OpenRefusal → Type 0
IsUngrown s rate Absent = ⊥
IsUngrown s rate (Bad number why) = (number ≡ 0) × Stops s rate why
IsUngrown s rate ShelfFault = ⊥
IsUngrown s rate WriteFault = ⊥
IsUngrown s rate NoMemory = Unit {0}

-- the files are gathered, and the document doesn't grow
pub record StopsGrowing (holds : Option (List FileRow)) (name : List ℕ) (rate : Rate) (d : Page) (names : Names) (e : OpenRefusal) : Type 0 where
  pub files : Known
  pub gathers : GathersAll holds name d names files
  pub ungrown : IsUngrown (growth_of name d files) rate e

-- the document grows, and only a first part of the lines is taken
pub record BreaksOff (holds : Option (List FileRow)) (name : List ℕ) (rate : Rate) (d : Page) (names : Names) (lines lines' : Option (List ℕ)) (faults faults' : ℕ) (e : OpenRefusal) : Type 0 where
  pub patch : Patch
  pub table : Names
  pub base : Base
  pub grows : Grows holds name rate d names patch table base
  pub took : (looks : ℕ) (samples : Option (List ℕ)) →
      PartStops (opening patch table) (first_stage name patch table base) (sinks lines samples looks holds faults) (sinks lines' samples looks holds faults')
  pub is : e ≡ WriteFault

-- why a document with its names doesn't open
abbrev pub IsRefused : Option (List FileRow) → List ℕ → Rate → Page → Names → (lines lines' : Option (List ℕ)) → (faults faults' : ℕ) → OpenRefusal → Type 0
IsRefused holds name rate d names lines lines' faults faults' e =
    IsUngathered holds name d names e ⊎ (StopsGrowing holds name rate d names e ⊎ BreaksOff holds name rate d names lines lines' faults faults' e)

-- the document of a text and its names, or why the patch doesn't open
abbrev pub text_read : Result (Page × Names) DocRefusal → Result (Page × Names) OpenRefusal
text_read (Ok r) = Ok r
text_read (Err e) = Err (unread e)

-- why a text that reads so isn't read
abbrev pub IsUnreadText : Result (Page × Names) DocRefusal → OpenRefusal → Type 0
IsUnreadText r Absent = ⊥
IsUnreadText r (Bad number why) = text_read r ≡ Err (Bad number why)
IsUnreadText r ShelfFault = ⊥
IsUnreadText r WriteFault = ⊥
IsUnreadText r NoMemory = Unit {0}

-- the same of a file as the shelf gives it
abbrev pub file_read : Names → Fetch → Result (Page × Names) OpenRefusal
file_read names fetch.Absent = Err Absent
file_read names fetch.TooLong = Err (Bad 0 cause.TooLong)
file_read names (fetch.Found bytes) = text_read (document_of names bytes)

-- The file of a name reads so. It is what the shelf holds, where it tells that.
pub record Reads (holds : Option (List FileRow)) (name : List ℕ) (names : Names) (r : Result (Page × Names) OpenRefusal) : Type 0 where
  pub file : Fetch
  pub held : IfSome holds (λ rows. file ≡ given (held_at name rows))
  pub reads : file_read names file ≡ r

-- why the file of a name isn't read
abbrev pub IsUnread : Option (List FileRow) → List ℕ → Names → OpenRefusal → Type 0
IsUnread holds name names Absent = Reads holds name names (Err Absent)
IsUnread holds name names (Bad number why) = Reads holds name names (Err (Bad number why))
IsUnread holds name names ShelfFault = Unit {0}
IsUnread holds name names WriteFault = ⊥
IsUnread holds name names NoMemory = Unit {0}

-- the file of a name is read, and opens as an engine that stands at this stage
pub record OpensFile (holds : Option (List FileRow)) (name : List ℕ) (rate : Rate) (s : List Choice → Stage) (lines lines' : Option (List ℕ)) (faults faults' : ℕ) : Type 0 where
  pub document : Page
  pub names : Names
  pub reads : Reads holds name first_names (Ok (document, names))
  pub opens : Opens holds name rate document names s lines lines' faults faults'

-- the file of a name is read, and its document doesn't open
pub record IsReadRefused (holds : Option (List FileRow)) (name : List ℕ) (rate : Rate) (lines lines' : Option (List ℕ)) (faults faults' : ℕ) (e : OpenRefusal) : Type 0 where
  pub document : Page
  pub names : Names
  pub reads : Reads holds name first_names (Ok (document, names))
  pub refused : IsRefused holds name rate document names lines lines' faults faults' e

-- why the file of a name doesn't open
abbrev pub IsFileRefused : Option (List FileRow) → List ℕ → Rate → (lines lines' : Option (List ℕ)) → (faults faults' : ℕ) → OpenRefusal → Type 0
IsFileRefused holds name rate lines lines' faults faults' e = IsUnread holds name first_names e ⊎ IsReadRefused holds name rate lines lines' faults faults' e
