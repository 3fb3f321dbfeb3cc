-- What a run was played as: its status, and what the sinks took of it, with the files that were put.
use Rattle.std.specs.Prelude.{◌≡◌, ◌≤◌, ◌⊎◌, ℕ, List, [], ◌++◌, Option, Some, None, IfSome}
use Rattle.pd_io.specs.Faults.{Rose}
use Rattle.pd_io.specs.Stream.{with_front}
use Rattle.pd_clock.specs.declared.times.Rate.{Rate}
use Rattle.pd_clock.specs.Rates.{samples}
use Rattle.pd_feed.specs.Feed.{Feed, IsAtEnd, script_ahead}
use Rattle.pd_feed.specs.declared.feed.Fed.{Fed}
use Rattle.pd_feed.specs.declared.feed.Fed.TheVariants as fed
use Rattle.pd_stage.specs.Items.{Item}
use Rattle.pd_stage.specs.Choices.{Choice}
use Rattle.pd_stage.specs.Stages.{Taken, choices_of}
use Rattle.pd_stage.specs.Lawful.{AreLawful, GoByFolder}
use Rattle.pd_stage.specs.Leads.{Sinks, Took, Begins}
use Rattle.pd_engine.specs.Stages.{stage_at}
use Rattle.pd_play.specs.Runs.{Point, Run, Ending, Whole, Broken, run_after, counted, record_run, end_run, run_of, MeetsEnd}
use Rattle.pd_play.specs.declared.status.Status.{Status}
use Rattle.pd_play.specs.declared.status.Status.TheVariants.{Done, WriteFault}
use Rattle.pd_play.specs.declared.session.Session.{Session}

-- nothing read
abbrev pub unread : Feed
unread = record { passed = 0; blank = 0; bytes = []; last = [] }

-- where a session stands, where the edits to come lead to this
abbrev pub point_at : Session → List Choice → Point
point_at s m = record { stage = stage_at s.engine m; rate = samples s.rate; number = s.number; time = s.time }

-- no record was read, and the time is 0
pub record Starts (s : Session) (rate : Rate) : Type 0 where
  pub rate_is : s.rate ≡ rate
  pub number_is : s.number ≡ 0
  pub time_is : s.time ≡ 0
  pub feed_is : s.feed ≡ unread

-- the engine may have changed, and the room for a command
pub record StaysBut (old new : Session) : Type 0 where
  pub feed : new.feed ≡ old.feed
  pub rate : new.rate ≡ old.rate
  pub number : new.number ≡ old.number
  pub time : new.time ≡ old.time

-- each record has a byte at least, and a script has 1,073,741,824 at most
pub record IsCounted (number : ℕ) (feed : Feed) : Type 0 where
  pub passed : number ≤ feed.passed
  pub within : feed.passed ≤ 1073741824

-- all of a run was taken, lines, samples and files that are put, these edits were taken on the way, and it ended so
pub record Played (run : Run) (edits : List Taken) (status : Status) (old new : Sinks) : Type 0 where
  pub status_is : status ≡ run.status
  pub edits_are : run.passage.edits ≡ edits
  pub took : Took old new run.passage.items edits

-- a sink failed: of what happens in a run, lines, samples and files in their order, the first items were taken, and these edits were taken until then
pub record Cut (run : Run) (edits : List Taken) (status : Status) (old new : Sinks) : Type 0 where
  pub status_is : status ≡ WriteFault
  pub items : List Item
  pub begins : Begins items edits run.passage
  pub took : Took old new items edits

abbrev pub Plays : Run → List Taken → Status → Sinks → Sinks → Type 0
Plays run edits status old new = Played run edits status old new ⊎ Cut run edits status old new

-- a part of a script's run, by what the edits to come lead to, and by the rest of the run
abbrev pub Part : Type 0
Part = List Choice → (Point → Run) → Run

-- Of a run that begins so, a part was played. Whatever the rest is, and whatever more the edits to come lead to, it goes on from this point.
pub record GoesOn (run : Part) (to : List Choice → Point) (old new : Sinks) : Type 0 where
  pub items : List Item
  pub edits : List Taken
  pub same : (more : List Choice) (rest : Point → Run) → run (choices_of edits ++ more) rest ≡ run_after items edits (rest (to more))
  pub took : Took old new items edits
  pub lawful : AreLawful edits
  pub by_folder : GoByFolder old.held edits

-- it was played to an end by a status, and where it is done, it stands here
pub record IsPlayed (run : Part) (status : Status) (to : List Choice → Point) (old new : Sinks) : Type 0 where
  pub edits : List Taken
  pub plays : (more : List Choice) (rest : Point → Run) → Plays (run (choices_of edits ++ more) rest) edits status old new
  pub stands : status ≡ Done → (more : List Choice) (rest : Point → Run) → (run (choices_of edits ++ more) rest).passage.stage ≡ (to more).stage
  pub lawful : AreLawful edits
  pub by_folder : GoByFolder old.held edits

-- it goes on, or it ends by a status
abbrev pub Leads : Option Status → Part → (List Choice → Point) → Sinks → Sinks → Type 0
Leads None run to old new = GoesOn run to old new
Leads (Some status) run to old new = IsPlayed run status to old new

-- what the answer of the feed leads to, where this is the record
abbrev pub fed_run : Fed → List ℕ → Point → (Point → Run) → Run
fed_run fed.Record text p rest = record_run text (counted p) rest
fed_run fed.End text p rest = end_run Whole fed.End p
fed_run fed.TooLong text p rest = end_run Whole fed.TooLong p
fed_run fed.Unfinished text p rest = end_run Whole fed.Unfinished p

-- the run from a point, of the bytes at hand and those that come
abbrev pub ahead : Ending → Feed → Point → List ℕ → Run
ahead ending feed p more = run_of ending (script_ahead feed more) p

-- a part of the run ahead was played, with bytes that the source gave
pub record Moves (feed : Feed) (p : List Choice → Point) (feed' : Feed) (p' : List Choice → Point) (left left' : Option (List ℕ)) (old new : Sinks) : Type 0 where
  pub given : List ℕ
  pub came : left ≡ with_front given left'
  pub items : List Item
  pub edits : List Taken
  pub same : (ending : Ending) (bytes : List ℕ) (more : List Choice) → ahead ending feed (p (choices_of edits ++ more)) (given ++ bytes) ≡ run_after items edits (ahead ending feed' (p' more) bytes)
  pub took : Took old new items edits
  pub lawful : AreLawful edits
  pub by_folder : GoByFolder old.held edits

-- The bytes that are still to come: all that the source has left, where it tells that; or none, where it failed.
abbrev pub EndsBy : Ending → List ℕ → Option (List ℕ) → ℕ → ℕ → Type 0
EndsBy Whole more left faults faults' = IfSome left (λ bytes. bytes ≡ more)
EndsBy Broken more left faults faults' = (more ≡ []) × Rose faults faults'

-- The run ahead was played to its end: that of the bytes that the source gave, and of those that are still to come. It is done only at the end of
-- what the source has, or where it meets an `end`, and then it stands here.
pub record Ends (feed : Feed) (p : List Choice → Point) (status : Status) (to : List Choice → Point) (left left' : Option (List ℕ)) (faults faults' : ℕ) (old new : Sinks) : Type 0 where
  pub given : List ℕ
  pub came : left ≡ with_front given left'
  pub ending : Ending
  pub more : List ℕ
  pub by : EndsBy ending more left' faults faults'
  pub edits : List Taken
  pub plays : (m : List Choice) → Plays (ahead ending feed (p (choices_of edits ++ m)) (given ++ more)) edits status old new
  pub lawful : AreLawful edits
  pub by_folder : GoByFolder old.held edits
  pub stands : status ≡ Done → (m : List Choice) → (ahead ending feed (p (choices_of edits ++ m)) (given ++ more)).passage.stage ≡ (to m).stage
  pub over : status ≡ Done → IsAtEnd left' ⊎ ((m : List Choice) → MeetsEnd (script_ahead feed (given ++ more)) (p (choices_of edits ++ m)))

-- one step of the run ahead
abbrev pub Steps : Option Status → Feed → (List Choice → Point) → Feed → (List Choice → Point) → Option (List ℕ) → Option (List ℕ) → ℕ → ℕ → Sinks → Sinks → Type 0
Steps None feed p feed' p' left left' faults faults' old new = Moves feed p feed' p' left left' old new
Steps (Some status) feed p feed' p' left left' faults faults' old new = Ends feed p status p' left left' faults faults' old new
