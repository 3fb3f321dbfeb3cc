-- When a run is sure to come to its end.
use Rattle.std.specs.Prelude.{◌≡◌, ◌≤◌, ◌⊎◌, ℕ, List, Option, Some, None, Ok, IfSome}
use Rattle.pd_io.specs.Faults.{Rose}
use Rattle.pd_io.specs.declared.files.FileRow.{FileRow}
use Rattle.pd_atom.specs.Names.{Names, first_names}
use Rattle.pd_canvas.specs.Pages.{Page}
use Rattle.pd_clock.specs.declared.times.Rate.{Rate}
use Rattle.pd_clock.specs.Rates.{samples}
use Rattle.pd_feed.specs.Script.{script_of}
use Rattle.pd_tree.specs.Trees.{Tree}
use Rattle.pd_fit.specs.Fitting.{wires_fitting}
use Rattle.pd_growth.specs.Steps.{Stock, gives}
use Rattle.pd_gather.specs.Gather.{Known}
use Rattle.pd_patch.specs.Sounds.{sound_of}
use Rattle.pd_patch.specs.declared.patch.Patch.{Patch}
use Rattle.pd_words.specs.Grammar.{Asked}
use Rattle.pd_again_law.specs.Runs.{Base, Choice, AreLawful, GoByFolder, Reads, Grows, GathersAll, growth_of, free_ways}
use Rattle.pd_play.specs.Runs.{Whole}
use Rattle.pd_play.specs.declared.status.Status.{Status}
use Rattle.pd_play.specs.declared.status.Status.TheVariants.{Done, NoMemory}
use Rattle.pd_faithful.specs.Scripts.{played_by}

-- the files that a document asks for are gathered from those that are held, and with them it grows within the limits
pub record GrowsWithin (rows : List FileRow) (name : List ℕ) (rate : Rate) (d : Page) (names : Names) : Type 0 where
  pub files : Known
  pub gathers : GathersAll (Some rows) name d names files
  pub tree : Tree
  pub after : Stock
  pub step : growth_of name d files ≡ gives tree after
  pub few_wires : wires_fitting tree.sheet tree.boxes ≤ 65536
  pub few_values : sound_of rate tree.boxes ≤ 16777216

-- A patch is held that reads and grows within the limits, and in its run, whatever its edits lawfully come to by what is held, the script is commands
-- up to its end, or up to an `end`.
pub record IsPlayable (rows : List FileRow) (name : List ℕ) (rate : Rate) (script : List ℕ) : Type 0 where
  pub document : Page
  pub names : Names
  pub reads : Reads (Some rows) name first_names (Ok (document, names))
  pub within : GrowsWithin rows name rate document names
  pub commands : (p : Patch) (table : Names) (base : Base) (edits : List Choice) → Grows (Some rows) name rate document names p table base
      → AreLawful (played_by free_ways name p table base edits (samples rate) Whole (script_of 0 0 script)).passage.edits
      → GoByFolder (Some rows) (played_by free_ways name p table base edits (samples rate) Whole (script_of 0 0 script)).passage.edits
      → (played_by free_ways name p table base edits (samples rate) Whole (script_of 0 0 script)).status ≡ Done

-- no count of faults rose in the call
pub record NoneRose (folder folder' read read' lines lines' pcm pcm' : ℕ) : Type 0 where
  pub folder_stays : Rose folder folder' → ⊥
  pub script_stays : Rose read read' → ⊥
  pub lines_stay : Rose lines lines' → ⊥
  pub samples_stay : Rose pcm pcm' → ⊥

-- The folder and the source of the script tell what they hold, and that can be played.
pub record IsHeldPlayable (holds : Option (List FileRow)) (name : List ℕ) (rate : Rate) (left : Option (List ℕ)) : Type 0 where
  pub rows : List FileRow
  pub script : List ℕ
  pub held : holds ≡ Some rows
  pub told : left ≡ Some script
  pub playable : IsPlayable rows name rate script

-- What the words ask for can be played to its end: the patch of a file name where it can be played by the script, and a made patch always.
abbrev pub CanEnd : Option ℕ → Option (List FileRow) → List ℕ → Rate → Option (List ℕ) → Type 0
CanEnd None holds name rate left = IsHeldPlayable holds name rate left
CanEnd (Some n) holds name rate left = Unit {0}

-- For words that ask for what can be played to its end, and without a fault, the run is done but where memory is short.
abbrev pub Completes : Option Asked → Option (List FileRow) → Option (List ℕ) → Status → (folder folder' read read' lines lines' pcm pcm' : ℕ) → Type 0
Completes asked holds left status folder folder' read read' lines lines' pcm pcm' =
    IfSome asked (λ a. (rate : Rate) → samples rate ≡ a.rate → CanEnd a.make holds a.patch rate left →
    NoneRose folder folder' read read' lines lines' pcm pcm' → (status ≡ Done) ⊎ (status ≡ NoMemory))
