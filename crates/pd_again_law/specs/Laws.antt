-- What the laws of saves say.
use Rattle.std.specs.Prelude.{◌≡◌, ◌⊎◌, ◌+◌, ◌≤◌, ◌^◌, ℕ, List, Option, None}
use Rattle.slab.specs.Slab.{get}
use Rattle.pd_io.specs.declared.files.FileRow.{FileRow}
use Rattle.pd_atom.specs.Names.{Names, IsTable}
use Rattle.pd_canvas.specs.declared.edits.Edit.{Edit}
use Rattle.pd_canvas.specs.declared.edits.Edit.TheVariants as edit
use Rattle.pd_canvas.specs.Pages.{Page}
use Rattle.pd_clock.specs.declared.times.Rate.{Rate}
use Rattle.pd_grove.specs.Telling.{inner_in}
use Rattle.pd_patch.specs.declared.patch.Patch.{Patch}
use Rattle.pd_steady.specs.PassedOn.{IsSub, TakesPort, Base, Made, Choice, Makes, StandsAt, IsPutIn, IsTakenOut, AreLawful, Stage, followed_by, block_units, Grows, opened}
use Rattle.pd_reload_law.specs.Wires.{StandOnce}
use Rattle.pd_steady.specs.Runs.{own_ways}
use Rattle.pd_steady.specs.Steps.{Step, AreSteps, steps_by, run_by}
use Rattle.pd_again_law.specs.Again.{BringsNoNumber, KeepsNumbers, Reopens, AreAgain}

-- each save of a run from where a patch opens to its end, in which each edit is lawful, opens again as the patch that was saved
abbrev pub SavesOpenAgain : Type 0
SavesOpenAgain = (holds : Option (List FileRow)) (name : List ℕ) (rate : Rate) (d : Page) (names table : Names) (p : Patch) (base : Base) (most : ℕ)
    (steps : List Step) (ahead : List Choice) → (grows : Grows holds name rate d names p table base) → most + block_units ≤ 2 ^ 101 →
    AreSteps most steps (opened name p table base ahead).stage → AreLawful (run_by own_ways name p table base ahead steps).edits →
    AreAgain grows.files.files name rate (run_by own_ways name p table base ahead steps).edits

-- each patch that stands between two steps of such a run has a text that opens again as that patch
abbrev pub StagesOpenAgain : Type 0
StagesOpenAgain = (holds : Option (List FileRow)) (name : List ℕ) (rate : Rate) (d : Page) (names table : Names) (p : Patch) (base : Base) (most : ℕ)
    (steps : List Step) (ahead : List Choice) → (grows : Grows holds name rate d names p table base) → most ≤ 2 ^ 101 →
    AreSteps most steps (opened name p table base ahead).stage →
    let run = followed_by (opened name p table base ahead) (steps_by own_ways steps) in
    AreLawful run.edits → (q : Patch) → StandsAt q run.stage → IsTable run.stage.names → StandOnce q.web →
    Reopens grows.files.files name rate run.edits run.stage q

-- an edit that took a box out that holds no canvas, or a port of the box around, took no `$0` number away
abbrev pub BareBoxesLeaveNumbers : Type 0
BareBoxesLeaveNumbers = (s : Stage) (path : List ℕ) (number : ℕ) (m : Made) →
    ((x : IsTakenOut s path number m) → (inner_in (get x.old.grove.nodes x.box.key) ≡ None) ⊎ TakesPort x.old x.new s.base.counts s.names path number x.steps x.steps' x.box) →
    KeepsNumbers s path (edit.Delete number) (Makes m)

-- an edit that put a box that holds no canvas, or a subpatch without boxes, brought no `$0` number
abbrev pub BareBoxesBringNoNumber : Type 0
BareBoxesBringNoNumber = (s : Stage) (path : List ℕ) (e : Edit) (m : Made) →
    ((x : IsPutIn s path e m) → (inner_in (get x.new.grove.nodes x.box.key) ≡ None) ⊎ IsSub x.old x.adds.added) → BringsNoNumber s path e (Makes m)
