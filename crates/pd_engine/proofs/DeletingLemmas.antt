-- What is told of a box that an edit deletes, or of why none is deleted.
use Rattle.std.proofs.Common.{◌≡◌, arith, ℕ, List, [], refl, sym, ◌∙◌, ap, subst, inl, inr, slice_get, Option, Some, None, Result, Ok, Err, OnErr, OnOk, IfOk}
use Rattle.std.proofs.lemmas.Result.{on_err_weaker}
use Rattle.pd_io.specs.Stream.{grown, TookPart}
use Rattle.pd_io.specs.declared.files.FileRow.{FileRow}
use Rattle.pd_atom.specs.Names.{Names}
use Rattle.pd_canvas.specs.declared.edits.Edit.{Edit}
use Rattle.pd_canvas.specs.declared.edits.Edit.TheVariants as edit
use Rattle.pd_library.specs.declared.answers.Answer.{Answer}
use Rattle.pd_made.specs.declared.tally.Tally.{Tally}
use Rattle.pd_script.specs.Edits.{deleted}
use Rattle.pd_grove.specs.declared.grove.Grove.{Grove}
use Rattle.pd_grove.specs.OwnPaths.{sub_reached}
use Rattle.pd_web.specs.Canvases.{keys_at}
use Rattle.pd_patch.specs.declared.patch.Patch.{Patch}
use Rattle.pd_wiring.specs.declared.refusals.EditRefusal.{EditRefusal}
use Rattle.pd_wiring.specs.Changes.{CanRewire}
use Rattle.pd_adding.specs.declared.counts.Counts.{Counts}
use Rattle.pd_adding.specs.Counts.{AreWithin}
use Rattle.pd_stage.specs.PassedOn.{OldBox, going, going_in, going_box, looks_gone, DeletesBox, IsNotDeleted}
use Rattle.pd_hearing.specs.Worlds.{net_of, states_of}
use Rattle.pd_stage.specs.Choices.{base_of, Wanted, Edits, Made, Choice, faults_of_why}
use Rattle.pd_stage.specs.Choices as stage
use Rattle.pd_stage.specs.Stages.{Stage}
use Rattle.pd_stage.specs.Lawful.{why_of, StandsAt, IsTakenOut}
use Rattle.pd_stage.specs.Lines.{deleted_text}
use Rattle.pd_stage.specs.Leads.{sinks, SaysPart}
use Rattle.pd_stage.specs.Events.{edit_taken}
use Rattle.pd_engine.specs.declared.refusals.Outcome.{Outcome}
use Rattle.pd_engine.specs.declared.refusals.Outcome.TheVariants.{Done}
use Rattle.pd_engine.specs.Edits.{edit_text, edit_outcome, IsEdited}
use Rattle.pd_engine.proofs.ClockLemmas.{stage_with}
use Rattle.pd_engine.proofs.LostLemmas.{clocks_left, few_looks}
use Rattle.pd_engine.proofs.RewireLemmas.{IsReady}
use Rattle.pd_engine.proofs.MakingLemmas.{Told, told_so, told_part, outcome_by, both_ok, room_wires}

-- ---- the edit that deletes a box

pub is_delete : (e : Edit) (number : ℕ) → deleted e ≡ Some number → e ≡ edit.Delete number
is_delete (edit.Delete n) number is = cc
is_delete (edit.Connect v) number is = cc
is_delete (edit.Disconnect v) number is = cc
is_delete (edit.Retype n text) number is = cc
is_delete (edit.Move n x y) number is = cc
is_delete (edit.Obj x y text) number is = cc
is_delete (edit.Msg x y text) number is = cc
is_delete (edit.Comment x y text) number is = cc
is_delete (edit.FloatBox x y text) number is = cc
is_delete (edit.SymbolBox x y text) number is = cc
is_delete (edit.Sub x y name) number is = cc

-- ---- no box is left in for a fault of the folder

abbrev Faultless : Result (ℕ × ℕ) EditRefusal → Type 0
Faultless (Ok box) = Unit {0}
Faultless (Err cause) = faults_of_why (why_of cause) ≡ 0

box_goes : (g : Grove) (canvas number : ℕ) (o : Option ℕ) → Faultless (going_box g canvas number o)
box_goes g canvas number None = refl
box_goes g canvas number (Some key) = tt

goes_from : (g : Grove) (number : ℕ) (o : Option ℕ) → Faultless (going_in g number o)
goes_from g number None = refl
goes_from g number (Some canvas) = box_goes g canvas number (slice_get (keys_at g canvas) number)

faultless : (p : Patch) (path : List ℕ) (number : ℕ) (cause : EditRefusal) → going p path number ≡ Err cause → faults_of_why (why_of cause) ≡ 0
faultless p path number cause is = subst Faultless is (goes_from p.grove number (sub_reached p.grove (Some p.grove.root) path))

-- ---- what it comes to

module _ (path : List ℕ) (number : ℕ) (file : List ℕ) (names : Names) (files : List (ℕ × Answer)) (counts : Counts) (time block_end fired : ℕ) (tally : Tally) (old new : Patch)
    (ready : IsReady old) where
  abbrev pub wanted : Wanted
  wanted = Edits None path (edit.Delete number)

  abbrev from : List Choice → Stage
  from = stage_with file old names (base_of files counts) time block_end fired tally

  stands : StandsAt old (from [])
  stands = record { net = refl; states = refl; puts = ready.puts; meet = ready.meet }

  -- it went
  module _ (b : OldBox) (steps steps' : ℕ) (d : DeletesBox old new counts names path number steps steps' b) (within : AreWithin b.counts) where
    abbrev pub told : List ℕ
    told = deleted_text new b.canvas b.around b.gone.items

    abbrev gone : Made
    gone = record {
      net = net_of new;
      states = states_of new;
      clocks = new.timers.clocks.clocks;
      names = names;
      base = base_of files b.counts;
      lines = told;
      files = [];
      loads = [];
      looks = looks_gone old new counts names path number steps steps' b d;
    }

    gone_is : IsTakenOut (from []) path number gone
    gone_is = record {
      old = old;
      new = new;
      box = b;
      steps = steps;
      steps' = steps';
      stands = stands;
      deletes = d;
      net = refl;
      states = refl;
      clocks = clocks_left old new counts names path number steps steps' b d;
      names = refl;
      base = refl;
      within = within;
      lines = refl;
      files = refl;
      loads = refl;
      looks = refl;
    }

    pub gone_told : (holds : Option (List FileRow)) → Told holds wanted (from []) (stage_with file new names (base_of files b.counts) time block_end fired tally) told Done steps steps'
    gone_told holds = record {
      came = record { choice = stage.Makes gone; may = gone_is; text_is = refl; stage = λ m. refl; answer = refl; loads_are = refl };
      few = (refl, refl, few_looks old new counts names path number steps steps' b d);
    }

  -- it was refused
  abbrev left : List Choice → Stage
  left = stage_with file new names (base_of files counts) time block_end fired tally

  pub left_told : (cause : EditRefusal) (steps steps' : ℕ) → steps' ≡ steps → CanRewire new → IsNotDeleted old new path number cause
      → (holds : Option (List FileRow)) → Told holds wanted (from []) left (edit_text new (Err cause)) (edit_outcome (Err cause)) steps steps'
  left_told cause steps steps' looks rewires (inl d) holds = record {
    came = record {
      choice = stage.Refuses (why_of cause);
      may = record { patch = old; cause = cause; stands = stands; refused = d.1; reason_is = refl };
      text_is = refl;
      stage = λ m. ap (λ (p : Patch). stage_with file p names (base_of files counts) time block_end fired tally m) (sym d.0);
      answer = outcome_by cause;
      loads_are = refl;
    };
    few = (refl, faultless old path number cause d.1, omega (arith, looks));
  }
  left_told cause steps steps' looks rewires (inr d) holds = record {
    came = record {
      choice = stage.Lacks (net_of new);
      may = record { old = old; new = new; stands = stands; short = d.1; rewires = rewires; net_is = refl };
      text_is = ap (λ (c : EditRefusal). edit_text new (Err c)) (sym d.0);
      stage = λ m. room_wires file names (base_of files counts) time block_end fired tally old new d.1.room m;
      answer = ap (λ (c : EditRefusal). edit_outcome (Err c)) (sym d.0);
      loads_are = refl;
    };
    few = (refl, refl, omega (arith, looks));
  }

  -- it was told, and this is answered; names are as before
  module _ {E : Type 0} (r : Result Outcome E) (t t' : Option (List ℕ)) (to : List Choice → Stage) (names' : Names) (same : names' ≡ names) (counts' : Counts) (text : List ℕ) (outcome : Outcome) (k k' : ℕ)
      (told : (holds : Option (List FileRow)) → Told holds wanted (from []) (stage_with file new names (base_of files counts') time block_end fired tally) text outcome k k')
      (stays : to ≡ stage_with file new names' (base_of files counts') time block_end fired tally) where
    abbrev there : List Choice → Stage
    there = stage_with file new names (base_of files counts') time block_end fired tally

    leads : to ≡ there
    leads = stays ∙ ap (λ (n : Names). stage_with file new n (base_of files counts') time block_end fired tally) same

    so : (o : Outcome) → t' ≡ grown t text → o ≡ outcome → (samples : Option (List ℕ)) (held : Option (List FileRow)) (faults : ℕ)
        → IsEdited path (edit.Delete number) o [] from to (sinks t samples k held faults) (sinks t' samples k' held faults)
    so o said answer samples held faults =
        subst (λ (x : List Choice → Stage). IsEdited path (edit.Delete number) o [] from x (sinks t samples k held faults) (sinks t' samples k' held faults)) (sym leads)
        (subst (λ (x : Outcome). IsEdited path (edit.Delete number) x [] from there (sinks t samples k held faults) (sinks t' samples k' held faults)) (sym answer)
        (told_so wanted (from []) there text outcome t t' samples k k' held faults (told held) said))

    pub deleted_so : OnOk r (t' ≡ grown t text) → IfOk r (λ o. o ≡ outcome)
        → IfOk r (λ o. (samples : Option (List ℕ)) (held : Option (List FileRow)) (faults : ℕ) → IsEdited path (edit.Delete number) o [] from to (sinks t samples k held faults) (sinks t' samples k' held faults))
    deleted_so said is = both_ok r (λ o a b samples held faults. so o a b samples held faults) said is

    pub deleted_part : OnErr r (TookPart t t' text) → OnErr r (SaysPart (edit_taken wanted) from t t' k k')
    deleted_part part = on_err_weaker r (λ a samples held faults. told_part wanted (from []) there text outcome t t' samples k k' held faults (told held) a) part
