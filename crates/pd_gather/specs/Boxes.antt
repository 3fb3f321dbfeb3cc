-- Boxes that grow one at a time, and the files that they lack.
use Rattle.std.specs.Prelude.{◌≡◌, ℕ, List, [], Option, None, Result, Ok, Err}
use Rattle.std.specs.declared.vec.Vec.{Vec}
use Rattle.std.specs.declared.alloc.Global.{Global}
use Rattle.pd_io.specs.declared.files.FileRow.{FileRow}
use Rattle.pd_atom.specs.Names.{Names}
use Rattle.pd_canvas.specs.Pages.{Entry}
use Rattle.pd_library.specs.declared.answers.Answer.{Answer}
use Rattle.pd_library.specs.Files.{answer_in}
use Rattle.pd_tree.specs.declared.rows.Row.{Row}
use Rattle.pd_tree.specs.Trees.{Trees}
use Rattle.pd_growth.specs.declared.growing.Stop.{Stop}
use Rattle.pd_growth.specs.declared.growing.Stop.TheVariants as stop
use Rattle.pd_growth.specs.declared.supply.Supply.{Supply}
use Rattle.pd_growth.specs.Steps.{Stock, Step, ends}
use Rattle.pd_growth.specs.Growth.{box_grown, around_root, without_ending}
use Rattle.pd_growth.specs.Growing.{stock, around_of, inside_grown, HasGrown}
use Rattle.pd_gather.specs.declared.boxes.Site.{Site}
use Rattle.pd_gather.specs.declared.boxes.Trial.{Trial}
use Rattle.pd_gather.specs.declared.boxes.Trial.TheVariants.{Grown, Lacks, TooMany}
use Rattle.pd_gather.specs.declared.refusal.GatherRefusal.{GatherRefusal}
use Rattle.pd_gather.specs.declared.refusal.GatherRefusal.TheVariants.{SymbolsFull, NoMemory}
use Rattle.pd_gather.specs.Gather.{Known, Gathering, Gathered, known, asked_of, GathersBy}

-- a box grows at its site from these numbers and this room, where this is known
unfoldable pub box_growth : Site → Entry → Supply → Known → Step Trees
box_growth site e supply k =
    box_grown (answer_in k.files) site.root.now site.left (inside_grown (answer_in k.files) site.root.now site.left) (around_of site.scope) e (stock k.names supply)

abbrev pub box_asked : Site → Entry → Supply → Known → Gathering
box_asked site e supply = asked_of (box_growth site e supply)

-- the same of a box of the patch's own root
abbrev pub root_box_growth : List ℕ → Entry → Supply → Known → Step Trees
root_box_growth name e supply k =
    box_grown (answer_in k.files) (without_ending name) 255 (inside_grown (answer_in k.files) (without_ending name) 255) (around_root 1001) e (stock k.names supply)

-- growth ends so, with this table of names
pub record StopsSo {A : Type 0} (e : Stop) (table : Names) (s : Step A) : Type 0 where
  pub after : Stock
  pub step : s ≡ ends e after
  pub names : table ≡ after.names

-- what is told where growth ended so
abbrev pub trial_of : Stop → Result Trial GatherRefusal
trial_of (stop.Lacks name) = Ok (Lacks name)
trial_of stop.TooManyBoxes = Ok TooMany
trial_of stop.SymbolsFull = Err SymbolsFull
trial_of stop.NoMemory = Err NoMemory

-- What growing a box once tells: that it grew to these rows, or which file it lacks, or that there is no room for it. The supply is less
-- only where it grew.
abbrev pub Tells : Trial → List (ℕ × Answer) → Names → Supply → Supply → Step Trees → Type 0
Tells (Grown rows) files table old new s = HasGrown 1 [] rows.items (stock table new) s
Tells (Lacks name) files table old new s = StopsSo (stop.Lacks name) table s × (new ≡ old) × (answer_in files name ≡ None)
Tells TooMany files table old new s = StopsSo stop.TooManyBoxes table s × (new ≡ old)

-- The files for which a box asks are gathered, and then it grows to these rows, with this stock after it.
pub record GathersBox (holds : Option (List FileRow)) (site : Site) (e : Entry) (supply : Supply) (k : Known) (files : List (ℕ × Answer)) (rows : Vec Row Global) (w : Stock) : Type 0 where
  pub names : Names
  pub gathers : GathersBy holds (box_asked site e supply) k (Gathered (known files names))
  pub grows : HasGrown 1 [] rows.items w (box_growth site e supply (known files names))

-- The files for which a box asks are gathered, and then there is no room for it.
pub record GathersInVain (holds : Option (List FileRow)) (site : Site) (e : Entry) (supply : Supply) (k : Known) : Type 0 where
  pub last : Known
  pub table : Names
  pub gathers : GathersBy holds (box_asked site e supply) k (Gathered last)
  pub stops : StopsSo stop.TooManyBoxes table (box_growth site e supply last)
