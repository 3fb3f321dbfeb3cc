-- What the laws of scripts and of whole plays say.
use Rattle.std.specs.Prelude.{◌≡◌, ℕ, List, Option}
use Rattle.pd_io.specs.declared.files.FileRow.{FileRow}
use Rattle.pd_atom.specs.Names.{Names}
use Rattle.pd_canvas.specs.Pages.{Page}
use Rattle.pd_clock.specs.declared.times.Rate.{Rate}
use Rattle.pd_clock.specs.Rates.{samples}
use Rattle.pd_feed.specs.Script.{Script as Text}
use Rattle.pd_patch.specs.declared.patch.Patch.{Patch}
use Rattle.pd_again_law.specs.Runs.{Base, Choice, AreLawful, Sinks, Stage, Grows, OpensFile, opened, own_ways, free_ways}
use Rattle.pd_play.specs.Runs.{Point, Ending, behind, run_of}
use Rattle.pd_play.specs.Patches.{start, PlaysOpened, PlaysMadeOpened}
use Rattle.pd_play.specs.declared.status.Status.{Status}
use Rattle.pd_faithful.specs.Scripts.{run_of_by, played_by}
use Rattle.pd_faithful.specs.Points.{most_units, IsSteadyAt, IsStepped}
use Rattle.pd_faithful.specs.Whole.{PlaysFreely, PlaysMadeFreely}

-- with pd_engine's own events and blocks the run of a script is pd_play's
abbrev pub ScriptsAreByEvents : Type 0
ScriptsAreByEvents = (ending : Ending) (text : Text) (p : Point) → run_of_by own_ways ending text p ≡ run_of ending text p

-- from a steady point the run of a script in which each edit is lawful is steps in order, and then its end
abbrev pub ScriptsAreSteps : Type 0
ScriptsAreSteps = (ending : Ending) (text : Text) (p : Point) → IsSteadyAt p →
    AreLawful (run_of ending text p).passage.edits → IsStepped most_units p.stage (run_of ending text p)

-- from a steady point the run of a script in which each edit is lawful is the one in which no message is passed over
abbrev pub ScriptsPassNothingOver : Type 0
ScriptsPassNothingOver = (ending : Ending) (text : Text) (p : Point) → IsSteadyAt p →
    AreLawful (run_of ending text p).passage.edits → run_of_by free_ways ending text p ≡ run_of ending text p

-- a patch that opens from a file opens at a steady point
abbrev pub FilesOpenSteadily : Type 0
FilesOpenSteadily = (holds : Option (List FileRow)) (name : List ℕ) (rate : Rate) (s : List Choice → Stage)
    (lines lines' : Option (List ℕ)) (faults faults' : ℕ) (edits : List Choice) → OpensFile holds name rate s lines lines' faults faults' →
    IsSteadyAt (start (s edits) (samples rate))

-- all from where a patch opens to the end of its script, where each edit is lawful, is the run in which no message is passed over
abbrev pub RunsPassNothingOver : Type 0
RunsPassNothingOver = (holds : Option (List FileRow)) (name : List ℕ) (rate : Rate) (d : Page) (names table : Names) (p : Patch) (base : Base)
    (edits : List Choice) (ending : Ending) (text : Text) → Grows holds name rate d names p table base →
    let run = behind (opened name p table base edits) (run_of ending text (start (opened name p table base edits).stage (samples rate))) in
    AreLawful run.passage.edits → played_by free_ways name p table base edits (samples rate) ending text ≡ run

-- what a play of a file's patch puts, where the patch opens, is a run in which no message is passed over
abbrev pub PlaysPassNothingOver : Type 0
PlaysPassNothingOver = (name : List ℕ) (rate : Rate) (status : Status) (left left' : Option (List ℕ)) (read read' : ℕ) (old new : Sinks) →
    PlaysOpened name rate status left left' read read' old new → PlaysFreely name rate status left left' read read' old new

-- so is what a play of a made patch puts
abbrev pub MadePlaysPassNothingOver : Type 0
MadePlaysPassNothingOver = (n : ℕ) (name : List ℕ) (rate : Rate) (status : Status) (left' : Option (List ℕ)) (old new : Sinks) →
    PlaysMadeOpened n name rate status left' old new → PlaysMadeFreely n name rate status left' old new
