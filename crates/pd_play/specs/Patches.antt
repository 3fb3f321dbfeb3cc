-- A patch that was played by a script, and the line that tells how that ended: the one of a file name by a script that is read, or a made one by its own.
use Rattle.std.specs.Prelude.{◌≡◌, ◌≤◌, ◌⊎◌, ℕ, List, Option, Some, None, IfSome}
use Rattle.pd_io.specs.Faults.{Rose}
use Rattle.pd_io.specs.Stream.{with_front}
use Rattle.pd_io.specs.declared.files.FileRow.{FileRow}
use Rattle.pd_clock.specs.declared.times.Rate.{Rate}
use Rattle.pd_clock.specs.Rates.{samples}
use Rattle.pd_feed.specs.Script.{script_of}
use Rattle.pd_feed.specs.Feed.{IsAtEnd}
use Rattle.pd_stage.specs.Choices.{Choice}
use Rattle.pd_stage.specs.Stages.{Stage, Taken, choices_of, saying, joined}
use Rattle.pd_stage.specs.Lawful.{AreLawful, GoByFolder}
use Rattle.pd_stage.specs.Leads.{Sinks, sinks}
use Rattle.pd_engine.specs.Opening.{Opens, OpensFile}
use Rattle.pd_made.specs.Documents.{made_document}
use Rattle.pd_made.specs.Scripts.{made_script}
use Rattle.pd_words.specs.Grammar.{Asked}
use Rattle.pd_play.specs.Ending.{no_line, last_line}
use Rattle.pd_play.specs.Made.{made_names, summary_line}
use Rattle.pd_play.specs.Refusing.{IsRefusal, IsMadeRefusal}
use Rattle.pd_play.specs.Telling.{told, Answers}
use Rattle.pd_play.specs.Runs.{Point, Run, Ending, Whole, Broken, run_of, MeetsEnd}
use Rattle.pd_play.specs.Playing.{unread, Plays, Ends}
use Rattle.pd_play.specs.declared.status.Status.{Status}
use Rattle.pd_play.specs.declared.status.Status.TheVariants.{Done}

-- a patch that was opened, with no record read
abbrev pub start : Stage → ℕ → Point
start stage rate = record { stage = stage; rate = rate; number = 0; time = 0 }

-- a run with its last line
abbrev pub with_line : List ℕ → (Stage → List ℕ) → Run → Run
with_line name closing run =
    record { status = run.status; passage = joined run.passage (saying run.passage.stage (last_line name closing run.status run.passage.stage)) }

-- how a run ends with its last line, and which edits were taken in it
abbrev pub Tells : List ℕ → (Stage → List ℕ) → Run → List Taken → Status → Sinks → Sinks → Type 0
Tells name closing run edits status old new = Plays (with_line name closing run) edits status old new

-- A script is all that its source has left, where it tells that. Where the source failed, it is what the source gave until then.
abbrev pub IsScript : Ending → List ℕ → Option (List ℕ) → Option (List ℕ) → ℕ → ℕ → Type 0
IsScript Whole bytes left left' faults faults' = IfSome left (λ b. b ≡ bytes)
IsScript Broken bytes left left' faults faults' = (left ≡ with_front bytes left') × Rose faults faults'

-- A patch that was opened is played by a script. Its edits came to what the log tells, and each is lawful, by what the folder held when it came. It is
-- done only where nothing is left of the script, where that is told, or where an `end` is met.
pub record PlaysScript (name : List ℕ) (closing : Stage → List ℕ) (begin : List Choice → Point) (status : Status) (left left' : Option (List ℕ)) (read read' : ℕ) (old new : Sinks) : Type 0 where
  pub ending : Ending
  pub bytes : List ℕ
  pub is_script : IsScript ending bytes left left' read read'
  pub edits : List Taken
  pub lawful : AreLawful edits
  pub by_folder : GoByFolder old.held edits
  pub tells : Tells name closing (run_of ending (script_of 0 0 bytes) (begin (choices_of edits))) edits status old new
  pub over : status ≡ Done → IsAtEnd left' ⊎ MeetsEnd (script_of 0 0 bytes) (begin (choices_of edits))

-- from where a patch was opened, with no record read
abbrev pub started : (List Choice → Stage) → ℕ → List Choice → Point
started stage rate m = start (stage m) rate

-- once a patch was opened: its lines were taken, no sample was written, and the folder holds what it held, with so many faults
abbrev pub once_open : Sinks → Option (List ℕ) → ℕ → Sinks
once_open old printed faults = sinks printed old.samples old.looks old.held faults

-- how a patch opens: its engine then stands at this stage, its lines were taken, and the folder counts so many faults
abbrev pub Opening : Type 1
Opening = (List Choice → Stage) → (lines lines' : Option (List ℕ)) → (faults faults' : ℕ) → Type 0

-- It opens so, and from there it is played.
pub record PlaysFrom (opening : Opening) (name : List ℕ) (closing : Stage → List ℕ) (rate : Rate) (status : Status) (left left' : Option (List ℕ)) (read read' : ℕ) (old new : Sinks) : Type 0 where
  pub stage : List Choice → Stage
  pub printed : Option (List ℕ)
  pub faults : ℕ
  pub counted : old.faults ≤ faults
  pub opens : opening stage old.lines printed old.faults faults
  pub plays : PlaysScript name closing (started stage (samples rate)) status left left' read read' (once_open old printed faults) new

-- It doesn't open, for this cause, and then the line that tells of it follows. No script is read, no sample written, and no file put.
pub record RefusesBy (Refusal : (lines lines' : Option (List ℕ)) → (faults faults' : ℕ) → Status → Type 0) (name : List ℕ) (status : Status) (left left' : Option (List ℕ)) (faults faults' : ℕ) (old new : Sinks) : Type 0 where
  pub why : Status
  pub printed : Option (List ℕ)
  pub refused : Refusal old.lines printed old.faults new.faults why
  pub tells : Answers (told name why) status printed new.lines faults faults'
  pub unread : left' ≡ left
  pub silent : new.samples ≡ old.samples
  pub held : new.held ≡ old.held

-- the patch of a file name opens and is played, or it doesn't open
abbrev pub PlaysOpened : List ℕ → Rate → Status → Option (List ℕ) → Option (List ℕ) → ℕ → ℕ → Sinks → Sinks → Type 0
PlaysOpened name rate status left left' read read' old new = PlaysFrom (OpensFile old.held name rate) name no_line rate status left left' read read' old new

abbrev pub Refuses : List ℕ → Rate → Status → Option (List ℕ) → Option (List ℕ) → ℕ → ℕ → Sinks → Sinks → Type 0
Refuses name rate status left left' faults faults' old new = RefusesBy (IsRefusal old.held name rate) name status left left' faults faults' old new

-- the patch of the name is played, where these are the faults of the lines
abbrev pub PlaysPatch : List ℕ → Rate → Status → Option (List ℕ) → Option (List ℕ) → ℕ → ℕ → ℕ → ℕ → Sinks → Sinks → Type 0
PlaysPatch name rate status left left' read read' faults faults' old new =
    Refuses name rate status left left' faults faults' old new ⊎ PlaysOpened name rate status left left' read read' old new

-- the made patch of so many voices opens under a file name
abbrev pub OpensMade : ℕ → Option (List FileRow) → List ℕ → Rate → Opening
OpensMade n holds name rate stage lines lines' faults faults' = Opens holds name rate (made_document made_names n) made_names stage lines lines' faults faults'

-- it is played by its own script, which no source fails to give, and its last line tells what that came to
abbrev pub PlaysMadeOpened : ℕ → List ℕ → Rate → Status → Option (List ℕ) → Sinks → Sinks → Type 0
PlaysMadeOpened n name rate status left' old new = PlaysFrom (OpensMade n old.held name rate) name (summary_line n) rate status (Some (made_script n)) left' 0 0 old new

abbrev pub PlaysMade : ℕ → List ℕ → Rate → Status → ℕ → ℕ → Sinks → Sinks → Type 0
PlaysMade n name rate status faults faults' old new =
    RefusesBy (IsMadeRefusal n old.held name rate) name status None None faults faults' old new ⊎ ((left' : Option (List ℕ)) × PlaysMadeOpened n name rate status left' old new)

-- what the words ask for: the patch of a file name, by a script; or a made patch, and then nothing of the script is read
abbrev pub PlaysBy : Option ℕ → List ℕ → Rate → Status → Option (List ℕ) → Option (List ℕ) → ℕ → ℕ → ℕ → ℕ → Sinks → Sinks → Type 0
PlaysBy None name rate status left left' read read' faults faults' old new = PlaysPatch name rate status left left' read read' faults faults' old new
PlaysBy (Some n) name rate status left left' read read' faults faults' old new = PlaysMade n name rate status faults faults' old new

-- what the words ask for is played at their rate
abbrev pub PlaysAsked : Option Asked → Status → Option (List ℕ) → Option (List ℕ) → ℕ → ℕ → ℕ → ℕ → Sinks → Sinks → Type 0
PlaysAsked asked status left left' read read' faults faults' old new =
    IfSome asked (λ a. (rate : Rate) → samples rate ≡ a.rate → PlaysBy a.make a.patch rate status left left' read read' faults faults' old new)

-- ---- before the line

-- it didn't open
pub record NotOpened (Refusal : (lines lines' : Option (List ℕ)) → (faults faults' : ℕ) → Status → Type 0) (status : Status) (left left' : Option (List ℕ)) (old new : Sinks) : Type 0 where
  pub refused : Refusal old.lines new.lines old.faults new.faults status
  pub unread : left' ≡ left
  pub silent : new.samples ≡ old.samples
  pub held : new.held ≡ old.held

-- it opened, and the script was run; where it is done, it stands here
pub record Opened (opening : Opening) (rate : Rate) (status : Status) (to : List Choice → Point) (left left' : Option (List ℕ)) (read read' : ℕ) (old new : Sinks) : Type 0 where
  pub stage : List Choice → Stage
  pub printed : Option (List ℕ)
  pub faults : ℕ
  pub counted : old.faults ≤ faults
  pub opens : opening stage old.lines printed old.faults faults
  pub ends : Ends unread (started stage (samples rate)) status to left left' read read' (once_open old printed faults) new

abbrev pub Runs : List ℕ → Rate → Status → Option (List ℕ) → Option (List ℕ) → ℕ → ℕ → Sinks → Sinks → Type 0
Runs name rate status left left' read read' old new =
    NotOpened (IsRefusal old.held name rate) status left left' old new
    ⊎ ((to : List Choice → Point) × Opened (OpensFile old.held name rate) rate status to left left' read read' old new)
