-- A patch that was played with nothing passed over.
use Rattle.std.specs.Prelude.{◌≡◌, ◌⊎◌, ℕ, List, Option, Some, None, Ok, IfSome}
use Rattle.pd_atom.specs.Names.{Names, first_names}
use Rattle.pd_canvas.specs.Pages.{Page}
use Rattle.pd_clock.specs.declared.times.Rate.{Rate}
use Rattle.pd_clock.specs.Rates.{samples}
use Rattle.pd_feed.specs.Script.{script_of}
use Rattle.pd_feed.specs.Feed.{IsAtEnd}
use Rattle.pd_patch.specs.declared.patch.Patch.{Patch}
use Rattle.pd_made.specs.Documents.{made_document}
use Rattle.pd_made.specs.Scripts.{made_script}
use Rattle.pd_again_law.specs.Runs.{Base, Stage, Taken, choices_of, AreLawful, GoByFolder, Sinks, Reads, Grows, free_ways}
use Rattle.pd_again_law.specs.Again.{AreAgain}
use Rattle.pd_words.specs.Grammar.{Asked}
use Rattle.pd_play.specs.Runs.{Ending, Broken}
use Rattle.pd_play.specs.Ending.{no_line}
use Rattle.pd_play.specs.Made.{made_names, summary_line}
use Rattle.pd_play.specs.Refusing.{IsMadeRefusal}
use Rattle.pd_play.specs.Patches.{Tells, IsScript, Refuses, RefusesBy}
use Rattle.pd_play.specs.declared.status.Status.{Status}
use Rattle.pd_play.specs.declared.status.Status.TheVariants.{Done}
use Rattle.pd_faithful.specs.Scripts.{played_by}

-- A document with its names grows into a patch. All lines, samples and files that are put, from where the patch opens through the last line, are
-- those of the run of the script in which each box does with each message what its object's definition says, and in which the edits come to what
-- the log tells, each lawfully, and by what the folder holds when it comes: what it held at the beginning, with the files that were saved until then.
-- Each save of it puts a text that opens again as the patch that was saved. It is done only where nothing is left of the script, where that is told, or
-- where an `end` is met.
pub record PlaysGrown (document : Page) (names : Names) (name : List ℕ) (closing : Stage → List ℕ) (rate : Rate) (status : Status) (left left' : Option (List ℕ)) (read read' : ℕ) (old new : Sinks) : Type 0 where
  pub patch : Patch
  pub table : Names
  pub base : Base
  pub grows : Grows old.held name rate document names patch table base
  pub ending : Ending
  pub bytes : List ℕ
  pub is_script : IsScript ending bytes left left' read read'
  pub edits : List Taken
  pub lawful : AreLawful edits
  pub by_folder : GoByFolder old.held edits
  pub again : AreAgain grows.files.files name rate edits
  pub tells : Tells name closing (played_by free_ways name patch table base (choices_of edits) (samples rate) ending (script_of 0 0 bytes)) edits status old new
  pub over : status ≡ Done → IsAtEnd left' ⊎ ((played_by free_ways name patch table base (choices_of edits) (samples rate) Broken (script_of 0 0 bytes)).status ≡ Done)

-- the file of the name reads as a document, and this is played so by the script
pub record PlaysFreely (name : List ℕ) (rate : Rate) (status : Status) (left left' : Option (List ℕ)) (read read' : ℕ) (old new : Sinks) : Type 0 where
  pub document : Page
  pub names : Names
  pub reads : Reads old.held name first_names (Ok (document, names))
  pub plays : PlaysGrown document names name no_line rate status left left' read read' old new

-- the made patch of n voices is played so by its own script, which no source fails to give, and its last line tells what that came to
abbrev pub PlaysMadeFreely : ℕ → List ℕ → Rate → Status → Option (List ℕ) → Sinks → Sinks → Type 0
PlaysMadeFreely n name rate status left' old new =
    PlaysGrown (made_document made_names n) made_names name (summary_line n) rate status (Some (made_script n)) left' 0 0 old new

-- what the words ask for: the patch of a file name, or a made one; or it doesn't open
abbrev pub PlaysByFreely : Option ℕ → List ℕ → Rate → Status → Option (List ℕ) → Option (List ℕ) → ℕ → ℕ → ℕ → ℕ → Sinks → Sinks → Type 0
PlaysByFreely None name rate status left left' read read' faults faults' old new =
    Refuses name rate status left left' faults faults' old new ⊎ PlaysFreely name rate status left left' read read' old new
PlaysByFreely (Some n) name rate status left left' read read' faults faults' old new =
    RefusesBy (IsMadeRefusal n old.held name rate) name status None None faults faults' old new
    ⊎ ((left' : Option (List ℕ)) × PlaysMadeFreely n name rate status left' old new)

-- what the words ask for is played so at their rate
abbrev pub PlaysAskedFreely : Option Asked → Status → Option (List ℕ) → Option (List ℕ) → ℕ → ℕ → ℕ → ℕ → Sinks → Sinks → Type 0
PlaysAskedFreely asked status left left' read read' faults faults' old new =
    IfSome asked (λ a. (rate : Rate) → samples rate ≡ a.rate → PlaysByFreely a.make a.patch rate status left left' read read' faults faults' old new)
