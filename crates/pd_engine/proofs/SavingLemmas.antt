-- What a save of the patch's own document comes to.
use Rattle.std.proofs.Common.{◌≡◌, ◌≤◌, arith, ℕ, List, [], ◌∷◌, refl, sym, ◌∙◌, subst, inl, inr, Option, None}
use Rattle.pd_io.specs.Faults.{Rose}
use Rattle.pd_io.specs.Rows.{KeptOrUntold, stored}
use Rattle.pd_io.specs.Stream.{grown, TookPart}
use Rattle.pd_io.specs.declared.files.FileRow.{FileRow}
use Rattle.pd_io.specs.declared.shelves.ShelfError.{ShelfError}
use Rattle.pd_io.specs.declared.shelves.ShelfError.TheVariants as shelf
use Rattle.pd_atom.specs.Names.{Names, IsTable}
use Rattle.pd_doc.specs.Writing.{text_of}
use Rattle.pd_made.specs.declared.tally.Tally.{Tally}
use Rattle.pd_patch.specs.declared.patch.Patch.{Patch}
use Rattle.pd_patch.specs.Document.{present_document}
use Rattle.pd_say.proofs.GatheringLemmas.{printed_nothing}
use Rattle.pd_say.specs.Lines.{refusal_text}
use Rattle.pd_say.specs.declared.refusals.Request.TheVariants as request
use Rattle.pd_say.specs.declared.refusals.Why.{Why}
use Rattle.pd_say.specs.declared.refusals.Why.TheVariants as why
use Rattle.pd_reload_law.specs.Wires.{StandOnce}
use Rattle.pd_wiring.specs.declared.refusals.EditRefusal.TheVariants as refusal
use Rattle.pd_hearing.specs.Worlds.{net_of, states_of}
use Rattle.pd_stage.specs.Items.{Put, lines_of, samples_of}
use Rattle.pd_stage.specs.Choices.{Base, Saves, Made, Refuses, Makes}
use Rattle.pd_stage.specs.Stages.{Stage, with_ahead, faults_of}
use Rattle.pd_stage.specs.Lawful.{StandsAt, why_of, held_on}
use Rattle.pd_stage.specs.Leads.{RoseBy, sinks, Took, Stops}
use Rattle.pd_stage.specs.Events.{edit_taken, files_put}
use Rattle.pd_stage.proofs.EditLemmas.{taken_at}
use Rattle.pd_stage.proofs.ItemLemmas.{no_lines, no_samples, held-none, held-put, lines-put, samples-put}
use Rattle.pd_engine.specs.declared.refusals.Outcome.TheVariants.{Done, Refused}
use Rattle.pd_engine.specs.Refusals.{unsaved}
use Rattle.pd_engine.specs.Edits.{IsSavedSo}
use Rattle.pd_engine.proofs.ClockLemmas.{stage_with}
use Rattle.pd_engine.proofs.RewireLemmas.{IsReady}
use Rattle.pd_engine.proofs.MakingLemmas.{Came, came_so, came_part}

module _ (file : List ℕ) (p : Patch) (names : Names) (base : Base) (time block_end fired : ℕ) (tally : Tally) (ready : IsReady p) (t u : Option (List ℕ)) (k : ℕ) (h h' : Option (List FileRow)) (f f' : ℕ) (counted : f ≤ f') where
  abbrev s : Stage
  s = stage_with file p names base time block_end fired tally []

  pub stands : StandsAt p s
  stands = record { net = refl; states = refl; puts = ready.puts; meet = ready.meet }

  -- its text was put
  abbrev saved : Made
  saved = record {
    net = net_of p;
    states = states_of p;
    clocks = p.timers.clocks.clocks;
    names = names;
    base = base;
    lines = [];
    files = (file, text_of names (present_document p)) ∷ [];
    loads = [];
    looks = 0;
  }

  abbrev pub saved_came : IsTable names → StandOnce p.web → Came h (Saves None) s (with_ahead s) [] Done []
  saved_came table once = record {
    choice = Makes saved;
    may = record { patch = p; stands = stands; table = table; once = once; net = refl; states = refl; clocks = refl; names = refl; base = refl; lines = refl; files = refl; loads = refl; looks = refl };
    text_is = refl;
    stage = λ m. refl;
    answer = refl;
    loads_are = refl;
  }

  saved_took : h' ≡ stored file (text_of names (present_document p)) h → Took (sinks t u k h f) (sinks t u k h' f') (files_put (Makes saved)) (taken_at (Saves None) s (Makes saved) ∷ [])
  saved_took put =
      let text : List ℕ = text_of names (present_document p) in
      record {
        lines_are = printed_nothing t (lines_of (Put file text ∷ [])) (lines-put file text);
        samples_are = printed_nothing u (samples_of (Put file text ∷ [])) (samples-put file text);
        few_looks = omega arith;
        held_are = inl (put ∙ sym (held-put file text h));
        leaves = inl (sym put);
        few_faults = inl (omega arith);
      }

  pub save_so : IsTable names → StandOnce p.web → h' ≡ stored file (text_of names (present_document p)) h → IsSavedSo Done (with_ahead s) (with_ahead s) (sinks t u k h f) (sinks t u k h' f')
  save_so table once put =
      came_so (Saves None) s (with_ahead s) [] Done [] (sinks t u k h f) (saved_came table once) t t u k h' f' (saved_took put) (printed_nothing t [] refl)

  -- it was refused
  refused_took : (reason : Why) → KeptOrUntold h h' → KeptOrUntold h' (held_on (Saves None) (Refuses reason) h) → RoseBy (faults_of (taken_at (Saves None) s (Refuses reason) ∷ [])) f f'
      → Took (sinks t u k h f) (sinks t u k h' f') [] (taken_at (Saves None) s (Refuses reason) ∷ [])
  refused_took reason kept left rose = record {
    lines_are = no_lines t;
    samples_are = no_samples u;
    few_looks = omega arith;
    held_are = subst (λ (o : Option (List FileRow)). KeptOrUntold o h') (sym (held-none h)) kept;
    leaves = left;
    few_faults = rose;
  }

  fault_rose : Rose f f' → RoseBy (faults_of (taken_at (Saves None) s (Refuses why.ShelfFault) ∷ [])) f f'
  fault_rose (inl more) = inl (omega (arith, more))
  fault_rose (inr most) = inr (omega (arith, most))

  abbrev pub fault_came : Came h (Saves None) s (with_ahead s) (refusal_text request.Save why.ShelfFault) (Refused refusal.ShelfFault) []
  fault_came = record { choice = Refuses why.ShelfFault; may = inl refl; text_is = refl; stage = λ m. refl; answer = refl; loads_are = refl }

  pub fault_took : KeptOrUntold h h' → Rose f f' → Took (sinks t u k h f) (sinks t u k h' f') [] (taken_at (Saves None) s (Refuses why.ShelfFault) ∷ [])
  fault_took kept rose = refused_took why.ShelfFault kept (inr refl) (fault_rose rose)

  abbrev pub short_came : Came h (Saves None) s (with_ahead s) (refusal_text request.Save why.NoMemory) (Refused refusal.NoMemory) []
  short_came = record { choice = Refuses why.NoMemory; may = inr refl; text_is = refl; stage = λ m. refl; answer = refl; loads_are = refl }

  pub short_took : h' ≡ h → Took (sinks t u k h f) (sinks t u k h' f') [] (taken_at (Saves None) s (Refuses why.NoMemory) ∷ [])
  short_took same = refused_took why.NoMemory (inl same) (inl (sym same)) (inl (omega arith))

  -- what is said of it, and answered
  pub refused_so : (error : ShelfError) (t' : Option (List ℕ)) → (error ≡ shelf.Failed → KeptOrUntold h h' × Rose f f') → (error ≡ shelf.NoMemory → h' ≡ h)
      → t' ≡ grown t (refusal_text request.Save (why_of (unsaved error))) → IsSavedSo (Refused (unsaved error)) (with_ahead s) (with_ahead s) (sinks t u k h f) (sinks t' u k h' f')
  refused_so shelf.Failed t' failed short said =
      let both : KeptOrUntold h h' × Rose f f' = failed refl in
      came_so (Saves None) s (with_ahead s) _ _ _ (sinks t u k h f) fault_came t t' u k h' f' (fault_took both.0 both.1) said
  refused_so shelf.NoMemory t' failed short said = came_so (Saves None) s (with_ahead s) _ _ _ (sinks t u k h f) short_came t t' u k h' f' (short_took (short refl)) said

  pub refused_part : (error : ShelfError) (t' : Option (List ℕ)) → (error ≡ shelf.Failed → KeptOrUntold h h' × Rose f f') → (error ≡ shelf.NoMemory → h' ≡ h)
      → TookPart t t' (refusal_text request.Save (why_of (unsaved error))) → Stops (edit_taken (Saves None)) (with_ahead s) (sinks t u k h f) (sinks t' u k h' f')
  refused_part shelf.Failed t' failed short part =
      let both : KeptOrUntold h h' × Rose f f' = failed refl in
      came_part (Saves None) s (with_ahead s) _ _ _ (sinks t u k h f) fault_came t t' u k h' f' (fault_took both.0 both.1) part
  refused_part shelf.NoMemory t' failed short part = came_part (Saves None) s (with_ahead s) _ _ _ (sinks t u k h f) short_came t t' u k h' f' (short_took (short refl)) part
