-- What an edit that is asked for comes to. Whether it is made or refused can hang on memory, so that it is no function of what the edit
-- finds: a run goes by what its edits come to, one after the other.
use Rattle.std.specs.Prelude.{ℕ, List, [], ◌∷◌, Option}
use Rattle.pd_atom.specs.Names.{Names}
use Rattle.pd_canvas.specs.declared.edits.Edit.{Edit}
use Rattle.pd_clock.specs.Queue.{Clock}
use Rattle.pd_kind.specs.declared.states.State.{State}
use Rattle.pd_say.specs.Lines.{refusal_text}
use Rattle.pd_say.specs.declared.refusals.Request.{Request}
use Rattle.pd_say.specs.declared.refusals.Request.TheVariants as request
use Rattle.pd_say.specs.declared.refusals.Why.{Why}
use Rattle.pd_say.specs.declared.refusals.Why.TheVariants.{NoMemory, ShelfFault}
use Rattle.pd_library.specs.declared.answers.Answer.{Answer}
use Rattle.pd_hearing.specs.Worlds.{Net}
use Rattle.pd_adding.specs.declared.counts.Counts.{Counts}

-- what is asked for: an edit of the canvas at a path of a document, where no name stands for the root one; one that a message asked for, of the
-- canvas at a path of the root document; that a document is saved; that the last edit is taken back, or made again
pub data Wanted : Type 0 where
  Edits : (document : Option ℕ) → (path : List ℕ) → Edit → Wanted
  Asks : (path : List ℕ) → Edit → Wanted
  Saves : (document : Option ℕ) → Wanted
  Undoes : Wanted
  Redoes : Wanted

-- the word for it in a line
abbrev pub request_of : Wanted → Request
request_of (Edits document path edit) = request.Edit
request_of (Asks path edit) = request.Edit
request_of (Saves document) = request.Save
request_of Undoes = request.Undo
request_of Redoes = request.Redo

-- what edits go on from: what is known of files, by the names of abstractions, and the counts of the patch
pub record Base : Type 0 where
  pub files : List (ℕ × Answer)
  pub counts : Counts

abbrev pub base_of : List (ℕ × Answer) → Counts → Base
base_of files counts = record { files = files; counts = counts }

-- what is made: how the patch stands after it, with its table of names; what later edits go on from; the lines that tell of it; the files that are put; the boxes
-- that are loaded behind it; and at how many signal wires it looks at the most
pub record Made : Type 0 where
  pub net : Net
  pub states : ℕ → Option State
  pub clocks : List Clock
  pub names : Names
  pub base : Base
  pub lines : List ℕ
  pub files : List (List ℕ × List ℕ)
  pub loads : List ℕ
  pub looks : ℕ

-- it is refused, for this reason; or for want of memory, after which there may be more room; or it is made
pub data Choice : Type 0 where
  Refuses : Why → Choice
  Lacks : Net → Choice
  Makes : Made → Choice

-- what the first of the edits to come leads to: where it isn't told, memory is wanting
abbrev pub first_choice : List Choice → Choice
first_choice [] = Refuses NoMemory
first_choice (c ∷ cs) = c

-- and those behind it
abbrev pub later : List Choice → List Choice
later [] = []
later (c ∷ cs) = cs

-- the lines of an edit
abbrev pub text_of_choice : Wanted → Choice → List ℕ
text_of_choice wanted (Refuses why) = refusal_text (request_of wanted) why
text_of_choice wanted (Lacks net) = refusal_text (request_of wanted) NoMemory
text_of_choice wanted (Makes m) = m.lines

-- the boxes that are loaded behind it: none where it is refused
abbrev pub loads_of_choice : Choice → List ℕ
loads_of_choice (Refuses why) = []
loads_of_choice (Lacks net) = []
loads_of_choice (Makes m) = m.loads

-- its looks at signal wires: where it is refused there are none
abbrev pub looks_of_choice : Choice → ℕ
looks_of_choice (Refuses why) = 0
looks_of_choice (Lacks net) = 0
looks_of_choice (Makes m) = m.looks

-- it is refused for a fault of the folder, or not
abbrev pub faults_of_why : Why → ℕ
faults_of_why ShelfFault = 1
faults_of_why _ = 0

abbrev pub faults_of_choice : Choice → ℕ
faults_of_choice (Refuses why) = faults_of_why why
faults_of_choice (Lacks net) = 0
faults_of_choice (Makes m) = 0
