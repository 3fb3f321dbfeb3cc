-- A made patch: why its run ends, and what it leads to.
use Rattle.std.proofs.Common.{◌≡◌, ◌≢◌, ◌≤◌, ◌⊎◌, inl, inr, ℕ, Bool, true, false, List, length, Option, Some, Result, Ok, Err, refl, sym, ap, subst, ◌∙◌, arith}
use Rattle.std.specs.Prelude.{nat_lt}
use Rattle.std.proofs.lemmas.Bool.{ltb-true, ltb-false}
use Rattle.pd_io.specs.Faults.{Rose}
use Rattle.pd_io.specs.declared.files.FileRow.{FileRow}
use Rattle.pd_atom.specs.Names.{Names, first_names}
use Rattle.pd_canvas.specs.Pages.{Page}
use Rattle.pd_clock.specs.declared.times.Rate.{Rate}
use Rattle.pd_clock.specs.Rates.{samples}
use Rattle.pd_stage.specs.Choices.{Choice}
use Rattle.pd_stage.specs.Stages.{Stage}
use Rattle.pd_stage.specs.Leads.{Sinks}
use Rattle.pd_engine.specs.Opening.{Opens, IsRefused}
use Rattle.pd_engine.specs.declared.refusals.OpenRefusal.{OpenRefusal}
use Rattle.pd_engine.specs.declared.refusals.OpenRefusal.TheVariants as opening
use Rattle.pd_made.specs.Documents.{made_document}
use Rattle.pd_made.specs.Scripts.{made_script}
use Rattle.pd_made.specs.Summaries.{summary_text}
use Rattle.pd_made.specs.declared.summary.Summary.{Summary}
use Rattle.pd_play.specs.Causes.{HasOpenCauses, HasRunCauses, HasMadeCauses, HasCauses}
use Rattle.pd_play.specs.Ending.{is_end, last_line, opened_as}
use Rattle.pd_play.specs.Made.{made_names, summary_at, summary_line}
use Rattle.pd_play.specs.Refusing.{IsMadeRefusal}
use Rattle.pd_play.specs.Patches.{started, OpensMade, PlaysScript}
use Rattle.pd_play.specs.Telling.{Outcome, told, done_with, ends_with, Answers}
use Rattle.pd_play.specs.declared.status.Status.{Status}
use Rattle.pd_play.specs.declared.status.Status.TheVariants.{Done, Usage, PatchAbsent, PatchBad, ScriptBad, ReadFault, WriteFault, ShelfFault, NoMemory}
use Rattle.pd_play.proofs.CauseLemmas.{rose_on}
use Rattle.pd_play.proofs.PatchLemmas.{with_text}

-- a source that never fails
pub never_rose : Rose 0 0 → ⊥
never_rose (inl h) = omega (arith, h)
never_rose (inr h) = omega (arith, h)

-- a count that rose and didn't fall
rose_by : (a c : ℕ) (t : Bool) → nat_lt a c ≡ t → a ≤ 18446744073709551615 → 18446744073709551615 ≤ c → Rose a c
rose_by a c true e l m = inl (ltb-true a c e)
rose_by a c false e l m = let k : c ≤ a = ltb-false a c e in inr (omega (arith, k, l, m))

rose_more : (a b c : ℕ) → a ≤ b → b ≤ c → Rose a b → Rose a c
rose_more a b c l m (inl h) = inl (omega (arith, m, h))
rose_more a b c l m (inr h) = rose_by a c (nat_lt a c) refl (omega (arith, l, h)) (omega (arith, m, h))

either_more : (a b c : ℕ) (P : Type 0) → a ≤ b → b ≤ c → Rose a b ⊎ P → Rose a c ⊎ P
either_more a b c P l m (inl h) = inl (rose_more a b c l m h)
either_more a b c P l m (inr h) = inr h

-- a run that ended so, and then its last line
pub run_causes : (folder folder' lines mid now pcm pcm' : ℕ) (how status : Status) (o : Outcome) (t t' : Option (List ℕ)) → HasRunCauses 0 0 lines mid pcm pcm' (Some how) → o.status ≡ how
    → mid ≤ now → Answers o status t t' mid now → HasMadeCauses folder folder' lines now pcm pcm' status
run_causes folder folder' lines mid now pcm pcm' how status o t t' h is l (inl a) =
    let ends : (s : Status) → status ≡ s → ◌≡◌ {A = Option Status} (Some how) (Some s) = λ s e. ap (λ (q : Status). Some q) (sym (a.0 ∙ is) ∙ e) in
    record {
      shelf = λ e. absurd (h.shelf (ends ShelfFault e));
      write = λ e. either_more lines mid now (Rose pcm pcm') h.lines_counted l (h.write (ends WriteFault e));
      read = λ e. never_rose (h.read (ends ReadFault e));
      usage = λ e. h.usage (ends Usage e);
    }
run_causes folder folder' lines mid now pcm pcm' how status o t t' h is l (inr a) =
    record {
      shelf = λ e. let no : WriteFault ≡ ShelfFault = sym a.0 ∙ e in absurd (cc);
      write = λ e. inl (rose_on lines mid now h.lines_counted a.1);
      read = λ e. let no : WriteFault ≡ ReadFault = sym a.0 ∙ e in cc;
      usage = λ e. let no : WriteFault ≡ Usage = sym a.0 ∙ e in cc;
    }

-- it didn't open, and then the line of its status
pub open_causes : {T : Type 0} (r : Result T Status) (folder folder' lines mid now pcm : ℕ) (why status : Status) (o : Outcome) (t t' : Option (List ℕ)) → r ≡ Err why
    → HasOpenCauses folder folder' lines mid r → o.status ≡ why → mid ≤ now → Answers o status t t' mid now → HasMadeCauses folder folder' lines now pcm pcm status
open_causes r folder folder' lines mid now pcm why status o t t' err h is l (inl a) =
    let same : (s : Status) → status ≡ s → r ≡ Err s = λ s e. err ∙ ap (λ (q : Status). Err q) (sym (a.0 ∙ is) ∙ e) in
    record {
      shelf = λ e. h.shelf (same ShelfFault e);
      write = λ e. inl (rose_more lines mid now h.lines_counted l (h.write (same WriteFault e)));
      read = λ e. h.read (same ReadFault e);
      usage = λ e. h.usage (same Usage e);
    }
open_causes r folder folder' lines mid now pcm why status o t t' err h is l (inr a) =
    record {
      shelf = λ e. let no : WriteFault ≡ ShelfFault = sym a.0 ∙ e in absurd (cc);
      write = λ e. inl (rose_on lines mid now h.lines_counted a.1);
      read = λ e. let no : WriteFault ≡ ReadFault = sym a.0 ∙ e in cc;
      usage = λ e. let no : WriteFault ≡ Usage = sym a.0 ∙ e in cc;
    }

first_more : (l m n : ℕ) (P : Type 0) → l ≤ m → Rose m n ⊎ P → Rose l n ⊎ P
first_more l m n P a (inl h) = inl (rose_on l m n a h)
first_more l m n P a (inr h) = inr h

-- it was opened before, and so counts had risen by then
pub later_causes : (f folder folder' l lines lines' pcm pcm' : ℕ) (status : Status) → f ≤ folder → l ≤ lines → HasMadeCauses folder folder' lines lines' pcm pcm' status
    → HasMadeCauses f folder' l lines' pcm pcm' status
later_causes f folder folder' l lines lines' pcm pcm' status a b h = record {
  shelf = λ e. rose_on f folder folder' a (h.shelf e);
  write = λ e. first_more l lines lines' (Rose pcm pcm') b (h.write e);
  read = h.read;
  usage = h.usage;
}

-- the same of a patch of a file name, whose script a source gives
pub played_causes : (folder folder' script script' l lines lines' pcm pcm' : ℕ) (status : Status) → l ≤ lines → HasRunCauses script script' lines lines' pcm pcm' (Some status)
    → HasCauses folder folder' script script' l lines' pcm pcm' status
played_causes folder folder' script script' l lines lines' pcm pcm' status a h =
    let ends : (s : Status) → status ≡ s → ◌≡◌ {A = Option Status} (Some status) (Some s) = λ s e. ap (λ (q : Status). Some q) e in
    record {
      shelf = λ e. absurd (h.shelf (ends ShelfFault e));
      read = λ e. h.read (ends ReadFault e);
      write = λ e. first_more l lines lines' (Rose pcm pcm') a (h.write (ends WriteFault e));
    }

-- there was no memory to make it with
pub short_causes : (folder lines now pcm : ℕ) (status : Status) (o : Outcome) (t t' : Option (List ℕ)) → o.status ≡ NoMemory → Answers o status t t' lines now
    → HasMadeCauses folder folder lines now pcm pcm status
short_causes folder lines now pcm status o t t' is (inl a) =
    let same : (s : Status) → status ≡ s → NoMemory ≡ s = λ s e. sym (a.0 ∙ is) ∙ e in
    record {
      shelf = λ e. let no : NoMemory ≡ ShelfFault = same ShelfFault e in absurd (cc);
      write = λ e. let no : NoMemory ≡ WriteFault = same WriteFault e in absurd (cc);
      read = λ e. let no : NoMemory ≡ ReadFault = same ReadFault e in cc;
      usage = λ e. let no : NoMemory ≡ Usage = same Usage e in cc;
    }
short_causes folder lines now pcm status o t t' is (inr a) =
    record {
      shelf = λ e. let no : WriteFault ≡ ShelfFault = sym a.0 ∙ e in absurd (cc);
      write = λ e. inl a.1;
      read = λ e. let no : WriteFault ≡ ReadFault = sym a.0 ∙ e in cc;
      usage = λ e. let no : WriteFault ≡ Usage = sym a.0 ∙ e in cc;
    }

-- what opened wasn't refused
not_refused : {T : Type 0} (s : T) (e : Status) → ◌≡◌ {A = Result T Status} (Ok s) (Err e) → ⊥
not_refused s e same = cc

pub opened_well : {T : Type 0} (s : T) (folder folder' lines lines' : ℕ) → folder ≤ folder' → lines ≤ lines' → HasOpenCauses {T = T} folder folder' lines lines' (Ok s)
opened_well s folder folder' lines lines' a b = record {
  shelf = λ e. absurd (not_refused s ShelfFault e);
  write = λ e. absurd (not_refused s WriteFault e);
  read = λ e. not_refused s ReadFault e;
  usage = λ e. not_refused s Usage e;
  folder_counted = a;
  lines_counted = b;
}

-- a document opens as the made patch that it is
pub opens_made : (n : ℕ) (holds : Option (List FileRow)) (name : List ℕ) (rate : Rate) (d : Page) (names : Names) (s : List Choice → Stage) (t t' : Option (List ℕ)) (f f' : ℕ)
    → d ≡ made_document made_names n → names ≡ made_names → Opens holds name rate d names s t t' f f' → OpensMade n holds name rate s t t' f f'
opens_made n holds name rate d names s t t' f f' is brought h =
    subst (λ (m : Names). Opens holds name rate (made_document made_names n) m s t t' f f') brought (subst (λ (p : Page). Opens holds name rate p names s t t' f f') is h)

pub refuses_made : (n : ℕ) (holds : Option (List FileRow)) (name : List ℕ) (rate : Rate) (d : Page) (names : Names) (t t' : Option (List ℕ)) (f f' : ℕ) (e : OpenRefusal) (status : Status)
    → d ≡ made_document made_names n → names ≡ made_names → status ≡ opened_as e → IsRefused holds name rate d names t t' f f' e → (e ≢ opening.WriteFault → t' ≡ t)
    → IsMadeRefusal n holds name rate t t' f f' status
refuses_made n holds name rate d names t t' f f' e status is brought so h quiet = record {
  refusal = e;
  status_is = so;
  refused = subst (λ (m : Names). IsRefused holds name rate (made_document made_names n) m t t' f f' e) brought (subst (λ (p : Page). IsRefused holds name rate p names t t' f f' e) is h);
  quiet = quiet;
}

pub few_first : (names : Names) → names ≡ first_names → length names ≤ 65533
few_first names e = let count : length names ≡ 6 = ap (λ (n : Names). length n) e in omega (arith, count)

-- from where it opened, it is played by its script at its rate
pub made_plays : (n : ℕ) (name : List ℕ) (stage : List Choice → Stage) (r rate : Rate) (status : Status) (script left : List ℕ) (left' : Option (List ℕ)) (x y : Sinks) → r ≡ rate → left ≡ script → script ≡ made_script n
    → PlaysScript name (summary_line n) (started stage (samples r)) status (Some left) left' 0 0 x y → PlaysScript name (summary_line n) (started stage (samples rate)) status (Some (made_script n)) left' 0 0 x y
made_plays n name stage r rate status script left left' x y same is made h =
    subst (λ (b : List ℕ). PlaysScript name (summary_line n) (started stage (samples rate)) status (Some b) left' 0 0 x y) (is ∙ made)
    (subst (λ (q : Rate). PlaysScript name (summary_line n) (started stage (samples q)) status (Some left) left' 0 0 x y) same h)

-- ---- the last line

pub done_told : (n : ℕ) (name : List ℕ) (how status : Status) (summary : Summary) (s : Stage) (t t' : Option (List ℕ)) (x y : ℕ) → is_end how ≡ true → summary ≡ summary_at n s
    → Answers (done_with summary) status t t' x y → Answers (ends_with name (summary_line n) how s) status t t' x y
unfolding last_line
done_told n name Done status summary s t t' x y e is h =
    with_text status Done (summary_text summary) (summary_text (summary_at n s)) t t' x y (ap (λ (m : Summary). summary_text m) is) h
done_told n name Usage status summary s t t' x y e is h = absurd (cc)
done_told n name PatchAbsent status summary s t t' x y e is h = absurd (cc)
done_told n name (PatchBad number cause) status summary s t t' x y e is h = absurd (cc)
done_told n name (ScriptBad number) status summary s t t' x y e is h = absurd (cc)
done_told n name ReadFault status summary s t t' x y e is h = absurd (cc)
done_told n name WriteFault status summary s t t' x y e is h = absurd (cc)
done_told n name ShelfFault status summary s t t' x y e is h = absurd (cc)
done_told n name NoMemory status summary s t t' x y e is h = absurd (cc)

pub undone_told : (name : List ℕ) (closing : Stage → List ℕ) (how status : Status) (s : Stage) (t t' : Option (List ℕ)) (x y : ℕ) → is_end how ≡ false
    → Answers (told name how) status t t' x y → Answers (ends_with name closing how s) status t t' x y
unfolding last_line
undone_told name closing Done status s t t' x y e h = absurd (cc)
undone_told name closing Usage status s t t' x y e h = h
undone_told name closing PatchAbsent status s t t' x y e h = h
undone_told name closing (PatchBad number cause) status s t t' x y e h = h
undone_told name closing (ScriptBad number) status s t t' x y e h = h
undone_told name closing ReadFault status s t t' x y e h = h
undone_told name closing WriteFault status s t t' x y e h = h
undone_told name closing ShelfFault status s t t' x y e h = h
undone_told name closing NoMemory status s t t' x y e h = h
