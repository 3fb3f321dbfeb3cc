-- A run and the line that tells of its status.
use Rattle.std.proofs.Common.{◌≡◌, ◌≤◌, ◌⊎◌, inl, inr, ℕ, List, [], ◌∷◌, ◌++◌, Option, Some, None, refl, sym, ap, ◌∙◌, subst, arith}
use Rattle.std.specs.Prelude.{IfSome}
use Rattle.std.proofs.lemmas.List.{append-nil}
use Rattle.pd_io.specs.Stream.{grown, with_front, TookPart}
use Rattle.pd_feed.specs.Script.{Script as Text, script_of}
use Rattle.pd_feed.specs.Feed.{IsAtEnd}
use Rattle.pd_say.proofs.GatheringLemmas.{printed_nothing}
use Rattle.pd_stage.specs.Items.{said}
use Rattle.pd_stage.specs.Choices.{Choice}
use Rattle.pd_stage.specs.Stages.{Stage, Taken, choices_of, saying}
use Rattle.pd_stage.specs.Leads.{Sinks, Begins}
use Rattle.pd_stage.proofs.ItemLemmas.{said-append}
use Rattle.pd_stage.proofs.LeadLemmas.{begins_after, begins_more}
use Rattle.pd_io.specs.declared.files.FileRow.{FileRow}
use Rattle.pd_clock.specs.declared.times.Rate.{Rate}
use Rattle.pd_clock.specs.declared.times.Rate.TheVariants as hz
use Rattle.pd_clock.specs.Rates.{samples}
use Rattle.pd_engine.specs.declared.refusals.OpenRefusal.TheVariants as opening
use Rattle.pd_words.specs.Shown.{asked}
use Rattle.pd_words.specs.declared.reading.Words.{Words}
use Rattle.pd_play.specs.Refusing.{IsRefusal, IsMadeRefusal}
use Rattle.pd_words.specs.Grammar.{Asked}
use Rattle.pd_play.specs.Ending.{status_line, no_line, last_line}
use Rattle.pd_play.specs.Telling.{Outcome, told, ends_with, Answers}
use Rattle.pd_play.specs.Runs.{Point, Run, Ending, Whole, Broken, run_of, MeetsEnd}
use Rattle.pd_play.specs.Playing.{unread, Played, Cut, Plays, EndsBy, Ends}
use Rattle.pd_play.proofs.CauseLemmas.{rose_on}
use Rattle.pd_play.proofs.TookLemmas.{with_lines, took_line, took_no_line}
use Rattle.pd_play.specs.Patches.{started, with_line, once_open, Tells, IsScript, PlaysScript, PlaysPatch, PlaysMade, PlaysBy, PlaysAsked, Runs}
use Rattle.pd_play.specs.declared.status.Status.{Status}
use Rattle.pd_play.specs.declared.status.Status.TheVariants.{Done, Usage, PatchAbsent, PatchBad, ScriptBad, ReadFault, WriteFault, ShelfFault, NoMemory}

grown_nothing : (t t' : Option (List ℕ)) → t' ≡ grown t [] → t' ≡ t
grown_nothing t t' e = e ∙ sym (printed_nothing t [] refl)

first_is_nil : (a b : List ℕ) → [] ≡ a ++ b → a ≡ []
first_is_nil [] b e = refl
first_is_nil (x ∷ a) b e = absurd (cc)

part_of_nothing : (t t' : Option (List ℕ)) → TookPart t t' [] → t' ≡ t
part_of_nothing t t' took = grown_nothing t t' (took.is ∙ ap (λ (x : List ℕ). grown t x) (first_is_nil took.part took.begins.rest took.begins.is))

-- ---- the last line

-- the line of a patch of a file name is that of its status
line_is : (name : List ℕ) (status : Status) (s : Stage) → last_line name no_line status s ≡ status_line name status
unfolding last_line status_line
line_is name Done s = refl
line_is name Usage s = refl
line_is name PatchAbsent s = refl
line_is name (PatchBad number cause) s = refl
line_is name (ScriptBad number) s = refl
line_is name ReadFault s = refl
line_is name WriteFault s = refl
line_is name ShelfFault s = refl
line_is name NoMemory s = refl

-- only where a run is done does its line hang on the stage
line_at : (name : List ℕ) (closing : Stage → List ℕ) (status : Status) (s r : Stage) → (status ≡ Done → r ≡ s) → last_line name closing status s ≡ last_line name closing status r
unfolding last_line
line_at name closing Done s r e = sym (ap closing (e refl))
line_at name closing Usage s r e = refl
line_at name closing PatchAbsent s r e = refl
line_at name closing (PatchBad number cause) s r e = refl
line_at name closing (ScriptBad number) s r e = refl
line_at name closing ReadFault s r e = refl
line_at name closing WriteFault s r e = refl
line_at name closing ShelfFault s r e = refl
line_at name closing NoMemory s r e = refl

pub with_text : (status how : Status) (text line : List ℕ) (t t' : Option (List ℕ)) (before now : ℕ) → text ≡ line
    → Answers (record { status = how; lines = text }) status t t' before now → Answers (record { status = how; lines = line }) status t t' before now
with_text status how text line t t' before now e h = subst (λ (l : List ℕ). Answers (record { status = how; lines = l }) status t t' before now) e h

ends_told : (name : List ℕ) (how status : Status) (s : Stage) (t t' : Option (List ℕ)) (before now : ℕ) → Answers (told name how) status t t' before now
    → Answers (ends_with name no_line how s) status t t' before now
ends_told name how status s t t' before now h = with_text status how (status_line name how) (last_line name no_line how s) t t' before now (sym (line_is name how s)) h

-- where no line can be written there is none
write_fault_told : (name : List ℕ) (closing : Stage → List ℕ) (s : Stage) (status : Status) (t t' : Option (List ℕ)) (before now : ℕ) → Answers (ends_with name closing WriteFault s) status t t' before now →
    (status ≡ WriteFault) × (t' ≡ t)
unfolding last_line status_line
write_fault_told name closing s status t t' before now (inl h) = (h.0, grown_nothing t t' h.1)
write_fault_told name closing s status t t' before now (inr h) = (h.0, part_of_nothing t t' h.2)

module _ (name : List ℕ) (closing : Stage → List ℕ) (run : Run) (edits : List Taken) (status how : Status) (x y : Sinks) (t : Option (List ℕ)) (before now : ℕ) where
  abbrev line : List ℕ
  line = last_line name closing run.status run.passage.stage

  short_told : (s : Stage) → Cut run edits how x y → Answers (ends_with name closing how s) status y.lines t before now → Tells name closing run edits status x (with_lines y t)
  short_told s h a =
      let w = write_fault_told name closing s status y.lines t before now (subst (λ (q : Status). Answers (ends_with name closing q s) status y.lines t before now) h.status_is a) in
      inr (record {
        status_is = w.0;
        items = h.items;
        begins = begins_more h.items edits run.passage (saying run.passage.stage line) h.begins;
        took = took_no_line x y t h.items edits h.took w.1;
      })

  all_told : Played run edits how x y → Answers (ends_with name closing run.status run.passage.stage) status y.lines t before now
      → Tells name closing run edits status x (with_lines y t)
  all_told h (inl a) =
      inl (record {
        status_is = a.0;
        edits_are = append-nil run.passage.edits ∙ h.edits_are;
        took = took_line x y t run.passage.items edits line h.took a.1;
      })
  all_told h (inr a) =
      let s : Stage = run.passage.stage in
      let took = a.2 in
      let first : Begins (said took.part) [] (saying s line) =
      record { front = record { rest = said took.begins.rest; is = ap said took.begins.is ∙ said-append took.part took.begins.rest }; rest = []; edits_are = refl } in
      inr (record {
        status_is = a.0;
        items = run.passage.items ++ said took.part;
        begins = subst (λ (l : List Taken). Begins (run.passage.items ++ said took.part) l (with_line name closing run).passage) (append-nil run.passage.edits ∙ h.edits_are)
            (begins_after run.passage.items (said took.part) run.passage.edits [] (saying s line) first);
        took = took_line x y t run.passage.items edits took.part h.took took.is;
      })

  run_told : (s : Stage) → (how ≡ Done → run.passage.stage ≡ s) → Plays run edits how x y → Answers (ends_with name closing how s) status y.lines t before now
      → Tells name closing run edits status x (with_lines y t)
  run_told s stands (inl h) a =
      all_told h
      (subst (λ (q : Status). Answers (ends_with name closing q run.passage.stage) status y.lines t before now) h.status_is
      (with_text status how (last_line name closing how s) (last_line name closing how run.passage.stage) y.lines t before now (line_at name closing how s run.passage.stage stands) a))
  run_told s stands (inr h) a = short_told s h a

-- what was given, and what is still to come
script_whole : (given more : List ℕ) (left left' : Option (List ℕ)) → left ≡ with_front given left' → IfSome left' (λ b. b ≡ more) →
    IfSome left (λ b. b ≡ given ++ more)
script_whole given more left None came is = subst (λ (o : Option (List ℕ)). IfSome o (λ b. b ≡ given ++ more)) (sym came) tt
script_whole given more left (Some rest) came is =
    subst (λ (o : Option (List ℕ)). IfSome o (λ b. b ≡ given ++ more)) (sym came) (ap (λ (l : List ℕ). given ++ l) is)

is_script : (ending : Ending) (given more : List ℕ) (left left' : Option (List ℕ)) (read read' : ℕ) → left ≡ with_front given left' →
    EndsBy ending more left' read read' → IsScript ending (given ++ more) left left' read read'
is_script Whole given more left left' read read' came by = script_whole given more left left' came by
is_script Broken given more left left' read read' came by =
    (came ∙ ap (λ (l : List ℕ). with_front l left') (sym (append-nil given) ∙ ap (λ (l : List ℕ). given ++ l) (sym by.0)), by.1)

-- a run that is done was done before its line
told_done : (o : Outcome) (status : Status) (t t' : Option (List ℕ)) (x y : ℕ) → Answers o status t t' x y → status ≡ Done → o.status ≡ Done
told_done o status t t' x y (inl h) e = sym h.0 ∙ e
told_done o status t t' x y (inr h) e = let no : WriteFault ≡ Done = sym h.0 ∙ e in absurd (cc)

-- memory was short before the line that tells of it
pub told_short : (o : Outcome) (status : Status) (t t' : Option (List ℕ)) (x y : ℕ) → Answers o status t t' x y → status ≡ NoMemory → o.status ≡ NoMemory
told_short o status t t' x y (inl h) e = sym h.0 ∙ e
told_short o status t t' x y (inr h) e = let no : WriteFault ≡ NoMemory = sym h.0 ∙ e in absurd (cc)

-- where an `end` is met whatever more follows, it is met where nothing does
over_told : (text : Text) (begin : List Choice → Point) (edits : List Taken) (left : Option (List ℕ)) → IsAtEnd left ⊎ ((m : List Choice) → MeetsEnd text (begin (choices_of edits ++ m)))
    → IsAtEnd left ⊎ MeetsEnd text (begin (choices_of edits))
over_told text begin edits left (inl h) = inl h
over_told text begin edits left (inr h) = inr (subst (λ (c : List Choice). MeetsEnd text (begin c)) (append-nil (choices_of edits)) (h []))

pub script_told : (name : List ℕ) (closing : Stage → List ℕ) (begin to : List Choice → Point) (status how : Status) (left left' : Option (List ℕ)) (read read' : ℕ) (x y : Sinks) (t : Option (List ℕ)) (before now : ℕ)
    → Ends unread begin how to left left' read read' x y → Answers (ends_with name closing how (to []).stage) status y.lines t before now
    → PlaysScript name closing begin status left left' read read' x (with_lines y t)
script_told name closing begin to status how left left' read read' x y t before now e a =
    let text : Text = script_of 0 0 (e.given ++ e.more) in
    let run : List Choice → Run = λ c. run_of e.ending text (begin c) in
    let same : choices_of e.edits ++ [] ≡ choices_of e.edits = append-nil (choices_of e.edits) in
    record {
      ending = e.ending;
      bytes = e.given ++ e.more;
      is_script = is_script e.ending e.given e.more left left' read read' e.came e.by;
      edits = e.edits;
      lawful = e.lawful;
      by_folder = e.by_folder;
      tells = run_told name closing (run (choices_of e.edits)) e.edits status how x y t before now (to []).stage
          (λ d. ap (λ (c : List Choice). (run c).passage.stage) (sym same) ∙ e.stands d [])
          (subst (λ (c : List Choice). Plays (run c) e.edits how x y) same (e.plays [])) a;
      over = λ d. over_told text begin e.edits left' (e.over (told_done (ends_with name closing how (to []).stage) status y.lines t before now a d));
    }

pub answers_on : (o : Outcome) (status : Status) (t t' : Option (List ℕ)) (x y z : ℕ) → x ≤ y → Answers o status t t' y z → Answers o status t t' x z
answers_on o status t t' x y z l (inl h) = inl h
answers_on o status t t' x y z l (inr h) = inr (h.0, rose_on x y z l h.1, h.2)

plays_told : (name : List ℕ) (rate : Rate) (status how : Status) (left left' : Option (List ℕ)) (read read' : ℕ) (x y : Sinks) (t : Option (List ℕ)) (before now : ℕ)
    → Runs name rate how left left' read read' x y → Answers (told name how) status y.lines t before now → PlaysPatch name rate status left left' read read' before now x (with_lines y t)
plays_told name rate status how left left' read read' x y t before now (inl h) a =
    inl (record { why = how; printed = y.lines; refused = h.refused; tells = a; unread = h.unread; silent = h.silent; held = h.held })
plays_told name rate status how left left' read read' x y t before now (inr (to, h)) a =
    inr (record {
      stage = h.stage;
      printed = h.printed;
      faults = h.faults;
      counted = h.counted;
      opens = h.opens;
      plays = script_told name no_line (started h.stage (samples rate)) to status how left left' read read' (once_open x h.printed h.faults) y t before now h.ends
          (ends_told name how status (to []).stage y.lines t before now a);
    })

pub patch_told : (name : List ℕ) (rate : Rate) (status how : Status) (left left' : Option (List ℕ)) (read read' : ℕ) (x y : Sinks) (t : Option (List ℕ)) (before between now : ℕ) → before ≤ between
    → Runs name rate how left left' read read' x y → Answers (told name how) status y.lines t between now → PlaysPatch name rate status left left' read read' before now x (with_lines y t)
patch_told name rate status how left left' read read' x y t before between now l h a =
    plays_told name rate status how left left' read read' x y t before now h (answers_on (told name how) status y.lines t before between now l a)

-- the same under the same name
pub patch_as : (n m : List ℕ) (rate : Rate) (status : Status) (left left' : Option (List ℕ)) (read read' before now : ℕ) (x y : Sinks) → n ≡ m
    → PlaysPatch n rate status left left' read read' before now x y → PlaysPatch m rate status left left' read read' before now x y
patch_as n m rate status left left' read read' before now x y e h = subst (λ (name : List ℕ). PlaysPatch name rate status left left' read read' before now x y) e h

pub made_as : (voices : ℕ) (n m : List ℕ) (rate : Rate) (status : Status) (before now : ℕ) (x y : Sinks) → n ≡ m
    → PlaysMade voices n rate status before now x y → PlaysMade voices m rate status before now x y
made_as voices n m rate status before now x y e h = subst (λ (name : List ℕ). PlaysMade voices name rate status before now x y) e h

-- there is no memory to open the patch with
no_memory : (holds : Option (List FileRow)) (name : List ℕ) (rate : Rate) (t : Option (List ℕ)) (f f' : ℕ) → IsRefusal holds name rate t t f f' NoMemory
no_memory holds name rate t f f' = record { refusal = opening.NoMemory; status_is = refl; refused = inl tt; quiet = λ _. refl }

pub no_made_memory : (n : ℕ) (holds : Option (List FileRow)) (name : List ℕ) (rate : Rate) (t : Option (List ℕ)) (f f' : ℕ) → IsMadeRefusal n holds name rate t t f f' NoMemory
no_made_memory n holds name rate t f f' = record { refusal = opening.NoMemory; status_is = refl; refused = inl tt; quiet = λ _. refl }

-- there is no memory for the words
short_words : (make : Option ℕ) (name : List ℕ) (rate : Rate) (status : Status) (left : Option (List ℕ)) (read : ℕ) (x : Sinks) (t : Option (List ℕ)) (before now : ℕ)
    → Answers (told [] NoMemory) status x.lines t before now → PlaysBy make name rate status left left read read before now x (with_lines x t)
unfolding status_line
short_words None name rate status left read x t before now a =
    inl (record { why = NoMemory; printed = x.lines; refused = no_memory x.held name rate x.lines x.faults x.faults; tells = a; unread = refl; silent = refl; held = refl })
short_words (Some n) name rate status left read x t before now a =
    inl (record { why = NoMemory; printed = x.lines; refused = no_made_memory n x.held name rate x.lines x.faults x.faults; tells = a; unread = refl; silent = refl; held = refl })

pub words_told : (o : Option Asked) (status : Status) (left : Option (List ℕ)) (read : ℕ) (x : Sinks) (t : Option (List ℕ)) (before now : ℕ) → Answers (told [] NoMemory) status x.lines t before now
    → PlaysAsked o status left left read read before now x (with_lines x t)
words_told None status left read x t before now a = tt
words_told (Some a₀) status left read x t before now a = λ rate _. short_words a₀.make a₀.patch rate status left read x t before now a

-- no two rates have as many samples
same_rate : (a b : Rate) → samples a ≡ samples b → a ≡ b
same_rate hz.R44100 hz.R44100 e = refl
same_rate hz.R44100 hz.R48000 e = absurd (omega (arith, e))
same_rate hz.R44100 hz.R88200 e = absurd (omega (arith, e))
same_rate hz.R44100 hz.R96000 e = absurd (omega (arith, e))
same_rate hz.R48000 hz.R44100 e = absurd (omega (arith, e))
same_rate hz.R48000 hz.R48000 e = refl
same_rate hz.R48000 hz.R88200 e = absurd (omega (arith, e))
same_rate hz.R48000 hz.R96000 e = absurd (omega (arith, e))
same_rate hz.R88200 hz.R44100 e = absurd (omega (arith, e))
same_rate hz.R88200 hz.R48000 e = absurd (omega (arith, e))
same_rate hz.R88200 hz.R88200 e = refl
same_rate hz.R88200 hz.R96000 e = absurd (omega (arith, e))
same_rate hz.R96000 hz.R44100 e = absurd (omega (arith, e))
same_rate hz.R96000 hz.R48000 e = absurd (omega (arith, e))
same_rate hz.R96000 hz.R88200 e = absurd (omega (arith, e))
same_rate hz.R96000 hz.R96000 e = refl

-- the words ask for this
pub asked_plays : (o : Option Asked) (w : Words) (status : Status) (left left' : Option (List ℕ)) (read read' before now : ℕ) (x y : Sinks) → Some (asked w) ≡ o →
    PlaysBy w.make w.patch.now w.rate status left left' read read' before now x y → PlaysAsked o status left left' read read' before now x y
asked_plays o w status left left' read read' before now x y e h =
    subst (λ (a : Option Asked). PlaysAsked a status left left' read read' before now x y) e
    (λ rate is. subst (λ (r : Rate). PlaysBy w.make w.patch.now r status left left' read read' before now x y) (same_rate w.rate rate (sym is)) h)
