-- What an edit of the patch's own document comes to.
use Rattle.std.specs.Prelude.{◌≡◌, ◌≤◌, ◌+◌, ◌⊎◌, ℕ, true, List, [], ◌∷◌, slice_get, Some, None, Result, Ok, Err}
use Rattle.std.specs.List.{AllByRecursion}
use Rattle.pd_atom.specs.declared.Atom.{Atom}
use Rattle.pd_canvas.specs.declared.edits.Edit.{Edit}
use Rattle.pd_canvas.specs.declared.edits.Edit.TheVariants as edit
use Rattle.pd_queue.specs.Entries.{wire_edit}
use Rattle.pd_queue.specs.Queue.{Waiting}
use Rattle.pd_script.specs.Edits.{puts_box}
use Rattle.pd_patch.specs.declared.patch.Patch.{Patch}
use Rattle.pd_say.specs.Lines.{refusal_text}
use Rattle.pd_say.specs.declared.refusals.Request.TheVariants as request
use Rattle.pd_wiring.specs.Changes.{SameButRoom}
use Rattle.pd_wiring.specs.Plans.{Plan, planned, IsRewired, most_looks}
use Rattle.pd_wiring.specs.declared.refusals.EditRefusal.{EditRefusal}
use Rattle.pd_wiring.specs.declared.refusals.EditRefusal.TheVariants.{NoMemory}
use Rattle.pd_say.specs.declared.refusals.Why.{Why}
use Rattle.pd_say.specs.declared.refusals.Why.TheVariants as why
use Rattle.pd_stage.specs.Choices.{Wanted, Edits, Asks, Saves, Undoes, Redoes, Choice, loads_of_choice}
use Rattle.pd_walk.specs.declared.walker.Budget.{Budget}
use Rattle.pd_walk.specs.Outcome.{all_loaded}
use Rattle.pd_stage.specs.Stages.{Stage, Taken, Passage}
use Rattle.pd_stage.specs.Events.{Left, edit_taken, loaded_by, asked_by, edit_event}
use Rattle.pd_stage.specs.Leads.{Sinks, Leads, BreaksOff, Comes, Stops}
use Rattle.pd_stage.specs.Lawful.{why_of}
use Rattle.pd_stage.specs.Lines.{loops_text}
use Rattle.pd_engine.specs.Commands.{first_outcome}
use Rattle.pd_engine.specs.declared.refusals.Outcome.{Outcome}
use Rattle.pd_engine.specs.declared.refusals.Outcome.TheVariants.{Done, Refused}

-- it was made, in the canvas of a key, with so many looks
pub record Makes (old new : Patch) (path : List ℕ) (e : Edit) (canvas looks looks' : ℕ) : Type 0 where
  pub rewired : IsRewired old new path e canvas
  pub few_looks : looks' ≤ looks + most_looks rewired.plan old new

-- it is planned, and memory was wanting
pub record Lacks (old new : Patch) (path : List ℕ) (e : Edit) (why : EditRefusal) : Type 0 where
  pub short : why ≡ NoMemory
  pub plan : Plan
  pub is_planned : planned old path e ≡ Ok plan
  pub same : SameButRoom old new

-- it is refused as it is planned to be, and nothing changed
pub record Refuses (old new : Patch) (path : List ℕ) (e : Edit) (why : EditRefusal) : Type 0 where
  pub is_planned : planned old path e ≡ Err why
  pub same : new ≡ old

-- an edit of a patch came to this, and the looks to that
abbrev pub EditsTo : Patch → Patch → List ℕ → Edit → Result ℕ EditRefusal → (looks looks' : ℕ) → Type 0
EditsTo old new path e (Ok canvas) looks looks' = Makes old new path e canvas looks looks'
EditsTo old new path e (Err why) looks looks' = (looks' ≡ looks) × (Lacks old new path e why ⊎ Refuses old new path e why)

-- the lines of it, where the patch is this
abbrev pub edit_text : Patch → Result ℕ EditRefusal → List ℕ
edit_text p (Ok canvas) = loops_text p canvas
edit_text p (Err why) = refusal_text request.Edit (why_of why)

-- what it answers
abbrev pub edit_outcome : Result ℕ EditRefusal → Outcome
edit_outcome (Ok canvas) = Done
edit_outcome (Err why) = Refused why

-- the boxes that are loaded behind the first of these edits
abbrev pub first_loads : List Taken → List ℕ
first_loads [] = []
first_loads (t ∷ edits) = loads_of_choice t.choice

-- what is asked for was taken, this is answered, and these boxes are to be loaded behind it
pub record IsTakenSo (wanted : Wanted) (outcome : Outcome) (loads : List ℕ) (from to : List Choice → Stage) (old new : Sinks) : Type 0 where
  pub comes : Comes (edit_taken wanted) from to old new
  pub answer : outcome ≡ first_outcome comes.edits
  pub loads_are : loads ≡ first_loads comes.edits

-- what is asked for was taken, with all that follows from it, and this is answered
pub record IsEvent (wanted : Wanted) (outcome : Outcome) (from to : List Choice → Stage) (old new : Sinks) : Type 0 where
  pub comes : Comes (edit_event wanted) from to old new
  pub answer : outcome ≡ first_outcome comes.edits

-- what is left of an event that may still have so many deliveries, and in which these edits were asked for so far
abbrev pub left_of : Budget → Waiting → Left
left_of budget asked = record { budget = budget; asked = asked }

-- boxes were loaded with what was left of an event, and the rest goes on with what is left now
abbrev pub IsLoadedSo : List ℕ → (l l' : Left) → (from to : List Choice → Stage) → (old new : Sinks) → Type 0
IsLoadedSo boxes l l' from to old new = (rest : Left → Stage → Passage) → Leads (λ m. loaded_by all_loaded boxes l rest (from m)) (λ m. rest l' (to m)) old new

abbrev pub IsLoadedPart : List ℕ → Left → (from : List Choice → Stage) → (old new : Sinks) → Type 0
IsLoadedPart boxes l from old new = (rest : Left → Stage → Passage) → Stops (loaded_by all_loaded boxes l rest) from old new

-- the same of the edit at a place of those that were asked for, with the boxes that are loaded behind it
abbrev pub IsAskedSo : ℕ → (l l' : Left) → (from to : List Choice → Stage) → (old new : Sinks) → Type 0
IsAskedSo place l l' from to old new =
    (rest : Left → Stage → Passage) → Leads (λ m. asked_by all_loaded rest l (from m) (slice_get l.asked place)) (λ m. rest l' (to m)) old new

abbrev pub IsAskedPart : ℕ → Left → (from : List Choice → Stage) → (old new : Sinks) → Type 0
IsAskedPart place l from old new = (rest : Left → Stage → Passage) → BreaksOff (λ m. asked_by all_loaded rest l (from m) (slice_get l.asked place)) old new

-- an edit of the patch's own document was taken, this is answered, and these boxes are to be loaded behind it
abbrev pub IsEdited : List ℕ → Edit → Outcome → List ℕ → (List Choice → Stage) → (List Choice → Stage) → Sinks → Sinks → Type 0
IsEdited path e outcome loads from to old new = IsTakenSo (Edits None path e) outcome loads from to old new

-- an edit of the canvas at a path of the patch's own document, which a command or a message asks for
abbrev pub IsOwn : Wanted → List ℕ → Edit → Type 0
IsOwn wanted path e = (wanted ≡ Edits None path e) ⊎ (wanted ≡ Asks path e)

-- an edit that gives a box another text
abbrev pub IsRetype : Edit → Type 0
IsRetype e = (number : ℕ) × (text : List Atom) × (e ≡ edit.Retype number text)

-- what a message can ask a canvas for: where it is no edit of wires, it puts a box
abbrev pub CanBeAsked : Edit → Type 0
CanBeAsked e = wire_edit e ≡ None → puts_box e ≡ true

abbrev pub AreAskedFor : Waiting → Type 0
AreAskedFor waiting = AllByRecursion (λ asked. CanBeAsked asked.1) waiting

-- the patch's own document was saved, or not, and this is answered
abbrev pub IsSavedSo : Outcome → (List Choice → Stage) → (List Choice → Stage) → Sinks → Sinks → Type 0
IsSavedSo outcome from to old new = IsTakenSo (Saves None) outcome [] from to old new

-- what is refused for a reason whatever the patch is: what another document than the patch's own is asked, an undo and a redo
abbrev pub IsAlwaysRefused : Wanted → Why → Type 0
IsAlwaysRefused (Edits None path e) reason = ⊥
IsAlwaysRefused (Edits (Some document) path e) reason = reason ≡ why.NoDocument
IsAlwaysRefused (Asks path e) reason = ⊥
IsAlwaysRefused (Saves None) reason = ⊥
IsAlwaysRefused (Saves (Some document)) reason = reason ≡ why.NoDocument
IsAlwaysRefused Undoes reason = reason ≡ why.NothingToUndo
IsAlwaysRefused Redoes reason = reason ≡ why.NothingToRedo
