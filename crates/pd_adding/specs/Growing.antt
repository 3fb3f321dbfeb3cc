-- What a box grows to in a canvas of the patch's own document, and whether there is room for it.
use Rattle.std.specs.Prelude.{◌≡◌, ◌≢◌, ℕ, ◌+◌, nat_lt, if◌then◌else◌, List, [], Option, Result, Ok, Err}
use Rattle.std.specs.declared.vec.Vec.{Vec}
use Rattle.std.specs.declared.alloc.Global.{Global}
use Rattle.pd_io.specs.declared.files.FileRow.{FileRow}
use Rattle.pd_atom.specs.Names.{Names}
use Rattle.pd_clock.specs.declared.times.Rate.{Rate}
use Rattle.pd_canvas.specs.Pages.{Entry}
use Rattle.pd_library.specs.declared.answers.Answer.{Answer}
use Rattle.pd_library.specs.Files.{answer_in}
use Rattle.pd_tree.specs.declared.rows.Row.{Row}
use Rattle.pd_tree.specs.Trees.{Trees}
use Rattle.pd_fit.specs.Fitting.{wires_inside}
use Rattle.pd_growth.specs.declared.growing.Stop.{Stop}
use Rattle.pd_growth.specs.declared.growing.Stop.TheVariants as stop
use Rattle.pd_growth.specs.Steps.{Stock, Step}
use Rattle.pd_growth.specs.Growth.{box_grown, around_root, without_ending}
use Rattle.pd_growth.specs.Growing.{inside_grown, HasGrown}
use Rattle.pd_gather.specs.declared.refusal.BoxRefusal.{BoxRefusal}
use Rattle.pd_gather.specs.declared.refusal.BoxRefusal.TheVariants as gather
use Rattle.pd_gather.specs.Gather.{Known, known, Gathering, Asks, Gathered, Full, asked_of, GathersBy}
use Rattle.pd_patch.specs.Sounds.{sound_of}
use Rattle.pd_wiring.specs.declared.refusals.EditRefusal.{EditRefusal}
use Rattle.pd_wiring.specs.declared.refusals.EditRefusal.TheVariants.{ShelfFault, SymbolsFull, TooManyBoxes, TooManyWires, TooMuchSound, NoMemory}
use Rattle.pd_adding.specs.declared.counts.Counts.{Counts}
use Rattle.pd_adding.specs.Counts.{with_boxes, stock_by}

-- what comes: into which canvas, what the box grew to with what it holds, what is known after it, and the counts with it
pub record Added : Type 0 where
  pub canvas : ℕ
  pub boxes : Trees
  pub known : Known
  pub counts : Counts

-- A box grows in a canvas of the patch's own document, inside which so many canvases may lie in one another, where this is known: as any
-- box of that canvas, but from the counts. `own` is the patch's `$0`, and `name` its file name.
unfoldable pub growth_of : ℕ → Counts → List ℕ → ℕ → Entry → Known → Step Trees
growth_of own n name left e k =
    box_grown (answer_in k.files) (without_ending name) left (inside_grown (answer_in k.files) (without_ending name) left) (around_root own) e (stock_by k.names n)

-- with what grew there would be this many wires, and this many values of tables, arrays and delay lines
abbrev pub totalled : Rate → Counts → ℕ → Known → Trees → Result Added EditRefusal
totalled rate n canvas k t =
    if nat_lt 65536 (n.wires + wires_inside t) then Err TooManyWires else
    if nat_lt 16777216 (n.sound + sound_of rate t) then Err TooMuchSound else
    Ok (record { canvas = canvas; boxes = t; known = k; counts = with_boxes rate t n })

-- why an edit is refused whose growth ends so: a file of which nothing is known is one that the shelf doesn't give
abbrev pub refusal_by : Stop → EditRefusal
refusal_by stop.SymbolsFull = SymbolsFull
refusal_by stop.TooManyBoxes = TooManyBoxes
refusal_by (stop.Lacks s) = ShelfFault
refusal_by stop.NoMemory = NoMemory

abbrev pub grown_to : Rate → Counts → ℕ → Known → Result Trees Stop → Result Added EditRefusal
grown_to rate n canvas k (Err why) = Err (refusal_by why)
grown_to rate n canvas k (Ok t) = totalled rate n canvas k t

-- where all files are gathered for which the box asks, or not
abbrev pub gathered_to : Rate → Counts → ℕ → (Known → Step Trees) → Gathering → Result Added EditRefusal
gathered_to rate n canvas grows (Asks s k) = Err ShelfFault
gathered_to rate n canvas grows Full = Err SymbolsFull
gathered_to rate n canvas grows (Gathered k) = grown_to rate n canvas (known k.files (grows k).stock.names) (grows k).answer

-- the refusal of an edit whose box is refused
abbrev pub box_refusal : BoxRefusal → EditRefusal
box_refusal gather.TooManyBoxes = TooManyBoxes
box_refusal gather.ShelfFault = ShelfFault
box_refusal gather.SymbolsFull = SymbolsFull
box_refusal gather.NoMemory = NoMemory

-- the files are gathered for which a box asks that grows so, and then it grows to these rows, with this stock after it
pub record GrowsTo (holds : Option (List FileRow)) (grows : Known → Step Trees) (k : Known) (files : List (ℕ × Answer)) (rows : Vec Row Global) (w : Stock) : Type 0 where
  pub names : Names
  pub gathers : GathersBy holds (asked_of grows) k (Gathered (known files names))
  pub gives : HasGrown 1 [] rows.items w (grows (known files names))

-- gathering comes to what the edit is refused for, in whichever canvas
pub record Refused (holds : Option (List FileRow)) (grows : Known → Step Trees) (k : Known) (why : EditRefusal) : Type 0 where
  pub last : Gathering
  pub gathers : GathersBy holds (asked_of grows) k last
  pub comes : (rate : Rate) (n : Counts) (canvas : ℕ) → gathered_to rate n canvas grows last ≡ Err why

-- the same but for what hangs on the shelf and on memory
abbrev pub EndsFor : Option (List FileRow) → (Known → Step Trees) → Known → EditRefusal → Type 0
EndsFor holds grows k why = why ≢ NoMemory → why ≢ ShelfFault → Refused holds grows k why
