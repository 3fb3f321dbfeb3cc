-- What a part of a run has come to. Both sides are functions of what the edits to come lead to: so far they led to what the log tells,
-- whatever more follows.
use Rattle.std.specs.Prelude.{◌≡◌, ◌≤◌, ◌+◌, ◌⊎◌, ℕ, List, ◌++◌, Option}
use Rattle.pd_io.specs.Rows.{KeptOrUntold}
use Rattle.pd_io.specs.Stream.{grown}
use Rattle.pd_io.specs.declared.files.FileRow.{FileRow}
use Rattle.pd_stage.specs.Items.{Item, lines_of, samples_of, held_after, IsFront}
use Rattle.pd_stage.specs.Choices.{Choice}
use Rattle.pd_stage.specs.Stages.{Stage, Taken, choices_of, looks_of, faults_of, Passage, still, after}
use Rattle.pd_stage.specs.Lawful.{held_behind, AreLawful, GoByFolder}

-- what two sinks have taken and what a folder holds, where they tell it, the faults of the folder, and the looks so far
pub record Sinks : Type 0 where
  pub lines : Option (List ℕ)
  pub samples : Option (List ℕ)
  pub looks : ℕ
  pub held : Option (List FileRow)
  pub faults : ℕ

abbrev pub sinks : Option (List ℕ) → Option (List ℕ) → ℕ → Option (List FileRow) → ℕ → Sinks
sinks lines samples looks held faults = record { lines = lines; samples = samples; looks = looks; held = held; faults = faults }

-- a count rose by so many at least, or has come to its last value
abbrev pub RoseBy : ℕ → ℕ → ℕ → Type 0
RoseBy n old new = (old + n ≤ new) ⊎ (18446744073709551615 ≤ new)

-- Both sinks took what is for them of these items, and the folder the files that were put, where it still tells what it holds: what these edits leave in it,
-- where they tell that. There were no more looks than those of these edits, and no more of these were refused for a fault of the folder than it counted.
pub record Took (old new : Sinks) (items : List Item) (edits : List Taken) : Type 0 where
  pub lines_are : new.lines ≡ grown old.lines (lines_of items)
  pub samples_are : new.samples ≡ grown old.samples (samples_of items)
  pub few_looks : new.looks ≤ old.looks + looks_of edits
  pub held_are : KeptOrUntold (held_after items old.held) new.held
  pub leaves : KeptOrUntold new.held (held_behind edits old.held)
  pub few_faults : RoseBy (faults_of edits) old.faults new.faults

-- Of a whole, these items and edits came first, and this is the rest. The sinks took the items, and each edit is lawful, by what the folder held.
pub record Leads (whole rest : List Choice → Passage) (old new : Sinks) : Type 0 where
  pub items : List Item
  pub edits : List Taken
  pub same : (more : List Choice) → whole (choices_of edits ++ more) ≡ after items edits (rest more)
  pub took : Took old new items edits
  pub lawful : AreLawful edits
  pub by_folder : GoByFolder old.held edits

-- a passage begins with these items and edits
pub record Begins (items : List Item) (edits : List Taken) (p : Passage) : Type 0 where
  pub front : IsFront items p.items
  pub rest : List Taken
  pub edits_are : p.edits ≡ edits ++ rest

-- A whole broke off: of what happens in it, the first items were taken, the lines among them by one sink and the samples by the other. So
-- nothing was taken before what comes first. Each edit so far is lawful, by what the folder held.
pub record BreaksOff (whole : List Choice → Passage) (old new : Sinks) : Type 0 where
  pub items : List Item
  pub edits : List Taken
  pub begins : (more : List Choice) → Begins items edits (whole (choices_of edits ++ more))
  pub took : Took old new items edits
  pub lawful : AreLawful edits
  pub by_folder : GoByFolder old.held edits

-- a part of a run has come from one standing to another
abbrev pub Comes : (Stage → Passage) → (List Choice → Stage) → (List Choice → Stage) → Sinks → Sinks → Type 0
Comes part from to old new = Leads (λ ahead. part (from ahead)) (λ ahead. still (to ahead)) old new

-- a part of a run from one standing broke off
abbrev pub Stops : (Stage → Passage) → (List Choice → Stage) → Sinks → Sinks → Type 0
Stops part from old new = BreaksOff (λ ahead. part (from ahead)) old new

-- the same of a part that says lines and sounds blocks, whatever the folder holds
abbrev pub Sounds : (Stage → Passage) → (List Choice → Stage) → (List Choice → Stage) → (lines lines' samples samples' : Option (List ℕ)) → (looks looks' : ℕ) → Type 0
Sounds part from to lines lines' samples samples' looks looks' =
    (held : Option (List FileRow)) (faults : ℕ) → Comes part from to (sinks lines samples looks held faults) (sinks lines' samples' looks' held faults)

abbrev pub SoundsPart : (Stage → Passage) → (List Choice → Stage) → (lines lines' samples samples' : Option (List ℕ)) → (looks looks' : ℕ) → Type 0
SoundsPart part from lines lines' samples samples' looks looks' =
    (held : Option (List FileRow)) (faults : ℕ) → Stops part from (sinks lines samples looks held faults) (sinks lines' samples' looks' held faults)

-- the same of a part that says lines alone, whatever samples were taken
abbrev pub Says : (Stage → Passage) → (List Choice → Stage) → (List Choice → Stage) → (lines lines' : Option (List ℕ)) → (looks looks' : ℕ) → Type 0
Says part from to lines lines' looks looks' = (samples : Option (List ℕ)) → Sounds part from to lines lines' samples samples looks looks'

abbrev pub SaysPart : (Stage → Passage) → (List Choice → Stage) → (lines lines' : Option (List ℕ)) → (looks looks' : ℕ) → Type 0
SaysPart part from lines lines' looks looks' = (samples : Option (List ℕ)) → SoundsPart part from lines lines' samples samples looks looks'
