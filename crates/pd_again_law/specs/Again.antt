-- What the text of a patch that was saved opens as.
use Rattle.std.specs.Prelude.{◌≡◌, ◌+◌, ◌++◌, ℕ, List, [], ◌∷◌, Some, None, Ok, is_some}
use Rattle.std.specs.List.{AllByRecursion}
use Rattle.pd_atom.specs.Names.{Names}
use Rattle.pd_canvas.specs.declared.edits.Edit.{Edit}
use Rattle.pd_canvas.specs.declared.edits.Edit.TheVariants as edit
use Rattle.pd_canvas.specs.Pages.{Page}
use Rattle.pd_clock.specs.declared.times.Rate.{Rate}
use Rattle.pd_name.specs.declared.Class.{Class}
use Rattle.pd_doc.specs.Reading.{document_of}
use Rattle.pd_doc.specs.Writing.{text_of}
use Rattle.pd_library.specs.Files.{answer_in}
use Rattle.pd_library.specs.declared.answers.Answer.{Answer}
use Rattle.pd_tree.specs.Trees.{Tree, weight, zeros_in, zeros_of}
use Rattle.pd_growth.specs.Steps.{Stock, Step, gives, zeros_from}
use Rattle.pd_growth.specs.Growth.{grown}
use Rattle.pd_gather.specs.Gather.{GoesOn, known}
use Rattle.pd_grove.specs.Standing.{GroveStands}
use Rattle.pd_grove.specs.Telling.{reached}
use Rattle.pd_patch.specs.declared.patch.Patch.{Patch}
use Rattle.pd_patch.specs.Document.{present_document}
use Rattle.pd_patch.specs.Grown.{IsTree, IsFresh, HasCause}
use Rattle.pd_patch.specs.declared.refusal.GrowRefusal.{GrowRefusal}
use Rattle.pd_patch.specs.declared.refusal.GrowRefusal.TheVariants.{NoMemory}
use Rattle.pd_regrowth_law.specs.Regrowth.{stock}
use Rattle.pd_reload_law.specs.Reloading.{RunsAs}
use Rattle.pd_reload_law.specs.Saving.{tree_now}
use Rattle.pd_alike_law.specs.Alike.{HaveSameOwners}
use Rattle.pd_inside_law.specs.Inside.{IsSameCanvas}
use Rattle.pd_taking_law.specs.Takes.{taken_at}
use Rattle.pd_steady.specs.PassedOn.{Wanted, Edits, Asks, Saves, Choice, Makes, Stage, Taken, IsPutIn, IsTakenOut, IsSaved, growth_of}

-- The second patch stands as the first one does: as this tree, with no name more, and each name has the same owners, by their places in text order.
-- A path leads to a canvas in both or in neither, in abstractions too, and the second has there the same ports; the same wires, at each outlet and
-- at each inlet in the same order; and boxes of the same numbers that run, in the same order, or are stuck.
pub record IsSamePatch (p : Patch) (now : Tree) (names : Names) (q : Patch) (names' : Names) : Type 0 where
  pub tree : GroveStands q.grove now.sheet now.boxes
  pub table : names' ≡ names
  pub owners : (class : Class) (name : ℕ) → HaveSameOwners p q class name
  pub canvases : (path : List ℕ) → is_some (reached q.grove (Some q.grove.root) path) ≡ is_some (reached p.grove (Some p.grove.root) path)
  pub alike : (path : List ℕ) (c d : ℕ) → reached p.grove (Some p.grove.root) path ≡ Some c → reached q.grove (Some q.grove.root) path ≡ Some d → IsSameCanvas p c q d

-- growth from a document under the `$0` numbers that a tree has, with whatever numbers and room there are besides
abbrev pub grown_alike : List (ℕ × Answer) → List ℕ → Page → Names → Tree → List ℕ → ℕ → Step Tree
grown_alike files name page names t more room = grown (answer_in files) name page (stock names (zeros_of t ++ more) (weight t.boxes + room))

-- Growth comes to the tree that the patch is by now, with this at hand after it: each patch that stands as what grows is the same patch. It is refused for
-- want of memory alone.
pub record GrowsAgain (grows : Step Tree) (rest : Stock) (name : List ℕ) (rate : Rate) (t : Tree) (p : Patch) (names : Names) : Type 0 where
  pub tree : grows ≡ gives (tree_now p.grove p.web p.numbers.items t) rest
  pub same : (q : Patch) (names' : Names) → IsTree q names' rate grows → IsFresh q names' name rate → IsSamePatch p (tree_now p.grove p.web p.numbers.items t) names q names'
  pub refused : (why : GrowRefusal) → HasCause why grows rate → why ≡ NoMemory

-- The patch stands as the tree t. Its text reads back as its document with no name more. From this, with these files and with the `$0` numbers of t,
-- whatever numbers and room there are besides, the tree grows that the patch is by now. So it does as a file that is opened grows, whose `$0`
-- numbers are those from 1001 on, where t has just the first of these.
pub record OpensAgain (files : List (ℕ × Answer)) (name : List ℕ) (rate : Rate) (t : Tree) (p : Patch) (names : Names) (text : List ℕ) : Type 0 where
  pub stands : RunsAs p.grove t
  pub page : Page
  pub reads : document_of names text ≡ Ok (page, names)
  pub is_now : page ≡ present_document p
  pub room_left : ℕ
  pub opened : (numbers_left : List ℕ) → zeros_from 1001 ≡ zeros_of t ++ numbers_left →
      GrowsAgain (growth_of name page (known files names)) (stock names numbers_left room_left) name rate t p names
  pub alike : (more : List ℕ) (room : ℕ) → GrowsAgain (grown_alike files name page names t more room) (stock names more room) name rate t p names

-- where the edit took the box of this number out, no `$0` number went with it
abbrev pub TakesNoNumber : Stage → List ℕ → ℕ → Choice → Type 0
TakesNoNumber s path number (Makes m) = (x : IsTakenOut s path number m) (t : Tree) → RunsAs x.old.grove t → zeros_of (taken_at path number t) ≡ zeros_of t
TakesNoNumber s path number c = Unit {0}

-- where the edit put a box, none came with it
abbrev pub BringsNoNumber : Stage → List ℕ → Edit → Choice → Type 0
BringsNoNumber s path e (Makes m) = (x : IsPutIn s path e m) → zeros_in x.adds.added.boxes ≡ []
BringsNoNumber s path e c = Unit {0}

-- neither took it any `$0` number nor brought it one
abbrev pub KeepsNumbers : Stage → List ℕ → Edit → Choice → Type 0
KeepsNumbers s path (edit.Delete number) c = TakesNoNumber s path number c
KeepsNumbers s path e c = BringsNoNumber s path e c

abbrev pub LeavesNumbers : Wanted → Stage → Choice → Type 0
LeavesNumbers (Edits None path e) s c = KeepsNumbers s path e c
LeavesNumbers (Asks path e) s c = KeepsNumbers s path e c
LeavesNumbers wanted s c = Unit {0}

-- so it is of all these edits
abbrev pub AllLeaveNumbers : List Taken → Type 0
AllLeaveNumbers edits = AllByRecursion (λ taken. LeavesNumbers taken.wanted taken.found taken.choice) edits

-- A patch that stands at a stage opens again from its text, with the files that are known there: those that were known where the patch opened, with what
-- boxes that came or became others have asked for behind them. Where the edits before took no `$0` number away and brought none, the numbers of its tree are
-- the first ones from 1001 on.
pub record Reopens (library : List (ℕ × Answer)) (name : List ℕ) (rate : Rate) (before : List Taken) (s : Stage) (p : Patch) : Type 0 where
  pub tree : Tree
  pub files : GoesOn library s.base.files
  pub again : OpensAgain s.base.files name rate tree p s.names (text_of s.names (present_document p))
  pub numbers : AllLeaveNumbers before → (numbers_left : List ℕ) × (zeros_from 1001 ≡ zeros_of tree ++ numbers_left)

-- a save that was made behind these edits put a text that opens again as the patch that was saved
abbrev pub SavedOpensAgain : List (ℕ × Answer) → List ℕ → Rate → List Taken → Wanted → Taken → Choice → Type 0
SavedOpensAgain library name rate before (Saves None) taken (Makes m) = (saved : IsSaved taken.found m) → Reopens library name rate before taken.found saved.patch
SavedOpensAgain library name rate before wanted taken c = Unit {0}

-- so does each save of these edits, behind those with the last of them first
abbrev pub AreAgainBehind : List (ℕ × Answer) → List ℕ → Rate → List Taken → List Taken → Type 0
AreAgainBehind library name rate before [] = Unit {0}
AreAgainBehind library name rate before (taken ∷ edits) =
    SavedOpensAgain library name rate before taken.wanted taken taken.choice × AreAgainBehind library name rate (taken ∷ before) edits

-- so does each save of the edits of a run
abbrev pub AreAgain : List (ℕ × Answer) → List ℕ → Rate → List Taken → Type 0
AreAgain library name rate edits = AreAgainBehind library name rate [] edits
