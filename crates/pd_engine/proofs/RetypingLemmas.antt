-- What is told of a box that an edit gives another text, or of why none becomes another one.
use Rattle.std.proofs.Common.{◌≡◌, ◌≤◌, ◌+◌, arith, false, ℕ, List, [], ◌∷◌, refl, sym, ap, subst, inl, inr, slice_get, Option, Some, None, Result, Err, OnErr, OnOk, IfOk, ◌∙◌}
use Rattle.std.proofs.lemmas.Result.{on_err_weaker}
use Rattle.pd_io.specs.Faults.{Rose}
use Rattle.pd_io.specs.Stream.{grown, TookPart}
use Rattle.pd_io.specs.declared.files.FileRow.{FileRow}
use Rattle.pd_atom.specs.declared.Atom.{Atom}
use Rattle.pd_atom.specs.Names.{Names, Extends}
use Rattle.pd_canvas.specs.declared.edits.Edit.{Edit}
use Rattle.pd_canvas.specs.declared.edits.Edit.TheVariants as edit
use Rattle.pd_clock.specs.Queue.{Clock, without}
use Rattle.pd_library.specs.declared.answers.Answer.{Answer}
use Rattle.pd_made.specs.declared.tally.Tally.{Tally}
use Rattle.pd_queue.specs.Entries.{wire_edit}
use Rattle.pd_script.specs.Edits.{puts_box, deleted, moved}
use Rattle.pd_say.specs.Lines.{refusal_text}
use Rattle.pd_say.specs.declared.refusals.Request.TheVariants as request
use Rattle.slab.specs.Slab.{get}
use Rattle.pd_grove.specs.declared.grove.Grove.{Grove}
use Rattle.pd_grove.specs.declared.nodes.Node.{Node}
use Rattle.pd_grove.specs.Owning.{board_in}
use Rattle.pd_web.specs.Canvases.{keys_at}
use Rattle.pd_patch.specs.declared.patch.Patch.{Patch}
use Rattle.pd_wiring.specs.declared.refusals.EditRefusal.{EditRefusal}
use Rattle.pd_wiring.specs.declared.refusals.EditRefusal.TheVariants as refusal
use Rattle.pd_boxes.specs.Put.{CanPut}
use Rattle.pd_adding.specs.declared.counts.Counts.{Counts}
use Rattle.pd_adding.specs.Counts.{AreWithin}
use Rattle.pd_adding.specs.Growing.{Added}
use Rattle.pd_gather.specs.Gather.{known}
use Rattle.pd_stage.specs.PassedOn.{RetypedBox, BoxWire, Becomes, clocks_become, looks_become, RetypesBoxBy, IsNotRetypedBy}
use Rattle.pd_hearing.specs.Worlds.{net_of, states_of}
use Rattle.pd_stage.specs.Choices.{base_of, Wanted, Edits, Made, Choice}
use Rattle.pd_stage.specs.Choices as stage
use Rattle.pd_stage.specs.Stages.{Stage}
use Rattle.pd_stage.specs.Lawful.{why_of, StandsAt, IsRetypedToBy}
use Rattle.pd_stage.specs.Lines.{retyped_text}
use Rattle.pd_stage.specs.Leads.{sinks, Took, Stops}
use Rattle.pd_stage.specs.Events.{edit_taken, files_put}
use Rattle.pd_stage.proofs.EditLemmas.{taken_at}
use Rattle.pd_engine.specs.declared.refusals.Outcome.{Outcome}
use Rattle.pd_engine.specs.declared.refusals.Outcome.TheVariants.{Done}
use Rattle.pd_engine.specs.Edits.{edit_outcome, IsEdited, IsRetype}
use Rattle.pd_engine.proofs.ClockLemmas.{stage_with}
use Rattle.pd_engine.proofs.RewireLemmas.{IsReady}
use Rattle.pd_engine.proofs.MakingLemmas.{Came, came_so, came_part, outcome_by, both_ok, room_clocks}
use Rattle.pd_engine.proofs.PuttingLemmas.{looking_took, refusal_rose}

-- an edit that puts, deletes and moves no box and is none of wires gives a box another text
pub rest_retypes : (e : Edit) → puts_box e ≡ false → deleted e ≡ None → moved e ≡ None → wire_edit e ≡ None → IsRetype e
rest_retypes (edit.Retype n text) none stays rests other = (n, text, refl)
rest_retypes (edit.Connect v) none stays rests other = cc
rest_retypes (edit.Disconnect v) none stays rests other = cc
rest_retypes (edit.Delete n) none stays rests other = cc
rest_retypes (edit.Move n x y) none stays rests other = cc
rest_retypes (edit.Obj x y text) none stays rests other = cc
rest_retypes (edit.Msg x y text) none stays rests other = cc
rest_retypes (edit.Comment x y text) none stays rests other = cc
rest_retypes (edit.FloatBox x y text) none stays rests other = cc
rest_retypes (edit.SymbolBox x y text) none stays rests other = cc
rest_retypes (edit.Sub x y name) none stays rests other = cc

-- ---- a box that became another one, or took its text

module _ (old new : Patch) (names : Names) (text : List Atom) (now canvas key number : ℕ) (n : Node) (a : Added) (gone : List BoxWire) (k k' : ℕ) where
  -- there are no more looks than it may take
  few_looks : CanPut old → slice_get (keys_at old.grove canvas) number ≡ Some key → (x : Becomes old new names text now key n a gone k k') → k' ≤ k + looks_become canvas x
  few_looks can at (inl x) =
      let there : board_in (get x.ready.grove.nodes key) ≡ Some canvas = ap board_in (x.room.grove.nodes key) ∙ can.forest.own.home canvas number key at in
      let behind : board_in (get x.loose.grove.nodes key) ≡ Some canvas = ap (λ (g : Grove). board_in (get g.nodes key)) x.loosens.rest.grove ∙ there in
      let bare : board_in (get x.free.grove.nodes key) ≡ Some canvas = ap (λ (g : Grove). board_in (get g.nodes key)) x.frees.rest.grove ∙ behind in
      let fitted : board_in (get x.fitted.grove.nodes key) ≡ Some canvas = ap board_in x.refit.grove.is ∙ sym (ap board_in x.could.is) ∙ bare in
      let loosened = x.loosens.looks canvas there in
      let freed = x.frees.looks canvas behind in
      let placed = x.looks in
      let back = x.back.tightens.looks canvas fitted in
      omega (arith, loosened, freed, placed, back)
  few_looks can at (inr x) = (let same = x.looks in omega (arith, same))

  -- no box has other clocks but the one that became another
  clocks_then : (x : Becomes old new names text now key n a gone k k') → new.timers.clocks.clocks ≡ clocks_become x old.timers.clocks.clocks
  clocks_then (inl x) =
      let same : x.free.timers.clocks.clocks ≡ old.timers.clocks.clocks =
      ap (λ y. y.clocks.clocks) x.frees.rest.timers ∙ ap (λ y. y.clocks.clocks) x.loosens.rest.timers ∙ x.room.clocks in
      ap (λ y. y.clocks.clocks) x.back.tightens.rest.timers ∙ x.refit.clocks ∙ ap (λ (c : List Clock). without key c) same
  clocks_then (inr x) = ap (λ y. y.clocks.clocks) x.renamed.rest.timers ∙ x.room.clocks

module _ (path : List ℕ) (number : ℕ) (text : List Atom) (file : List ℕ) (names : Names) (files : List (ℕ × Answer)) (counts : Counts) (time block_end fired : ℕ) (tally : Tally) (old new : Patch)
    (ready : IsReady old) where
  abbrev pub wanted : Wanted
  wanted = Edits None path (edit.Retype number text)

  abbrev from : List Choice → Stage
  from = stage_with file old names (base_of files counts) time block_end fired tally

  stands : StandsAt old (from [])
  stands = record { net = refl; states = refl; puts = ready.puts; meet = ready.meet }

  -- it became another one
  module _ (holds : Option (List FileRow)) (more : Names) (learned : List (ℕ × Answer)) (b : RetypedBox) (k k' : ℕ)
      (d : RetypesBoxBy holds old new counts file path number text time (known files names) (known learned more) k k' b) (onward : Extends names more) (within : AreWithin b.counts) where
    abbrev pub told : List ℕ
    told = retyped_text more new b.key b.canvas b.gone.items

    abbrev other : Made
    other = record {
      net = net_of new;
      states = states_of new;
      clocks = new.timers.clocks.clocks;
      names = more;
      base = base_of learned b.counts;
      lines = told;
      files = [];
      loads = [];
      looks = looks_become b.canvas d.became;
    }

    pub other_is : IsRetypedToBy holds (from []) path number text other
    other_is = record {
      old = old;
      new = new;
      after = known learned more;
      box = b;
      steps = k;
      steps' = k';
      stands = stands;
      retypes = d;
      net = refl;
      states = refl;
      clocks = clocks_then old new names text time b.canvas b.key number d.node d.added b.gone.items k k' d.became;
      names = refl;
      more = onward;
      base = refl;
      within = within;
      lines = refl;
      files = refl;
      loads = refl;
      looks = refl;
    }

    abbrev pub other_came : Came holds wanted (from []) (stage_with file new more (base_of learned b.counts) time block_end fired tally) told Done []
    other_came = record { choice = stage.Makes other; may = other_is; text_is = refl; stage = λ m. refl; answer = refl; loads_are = refl }

  -- it was refused
  abbrev left : List Choice → Stage
  left = stage_with file new names (base_of files counts) time block_end fired tally

  module _ (cause : EditRefusal) (t u : Option (List ℕ)) (k k' : ℕ) (looks : k' ≡ k) (h h' : Option (List FileRow)) (f f' : ℕ) (same : h' ≡ h) (low : f ≤ f') (rose : cause ≡ refusal.ShelfFault → Rose f f') where
    abbrev IsStill : Type 0
    IsStill = (c : Came h wanted (from []) left (refusal_text request.Edit (why_of cause)) (edit_outcome (Err cause)) [])
        × Took (sinks t u k h f) (sinks t u k' h' f') (files_put c.choice) (taken_at wanted (from []) c.choice ∷ [])

    pub still_by : IsNotRetypedBy h old new counts file path number text (known files names) cause → IsStill
    still_by (inl (is, d)) = (
      record {
        choice = stage.Refuses (why_of cause);
        may = record { patch = old; cause = cause; stands = stands; refused = d; reason_is = refl };
        text_is = refl;
        stage = λ m. ap (λ (p : Patch). stage_with file p names (base_of files counts) time block_end fired tally m) (sym is);
        answer = outcome_by cause;
        loads_are = refl;
      },
      looking_took wanted (from []) (stage.Refuses (why_of cause)) t u k k' h h' f f' refl (omega (arith, looks)) same (refusal_rose wanted (from []) cause f f' rose low),
    )
    still_by (inr (short, d)) = (
      record {
        choice = stage.Lacks (net_of new);
        may = record { old = old; new = new; stands = stands; short = d; net_is = refl };
        text_is = ap (λ (c : EditRefusal). refusal_text request.Edit (why_of c)) (sym short);
        stage = λ m. room_clocks file names (base_of files counts) time block_end fired tally old new d.room m;
        answer = ap (λ (c : EditRefusal). edit_outcome (Err c)) (sym short);
        loads_are = refl;
      },
      looking_took wanted (from []) (stage.Lacks (net_of new)) t u k k' h h' f f' refl (omega (arith, looks)) same (inl (omega (arith, low))),
    )

  -- it was told, and this is answered
  module _ {E : Type 0} (r : Result Outcome E) (t t' : Option (List ℕ)) (k k' : ℕ) (h h' : Option (List FileRow)) (f f' : ℕ) (same : h' ≡ h) (low : f ≤ f') (there : List Choice → Stage) where
    abbrev pub Answered : Outcome → Type 0
    Answered o = (samples : Option (List ℕ)) → IsEdited path (edit.Retype number text) o [] from there (sinks t samples k h f) (sinks t' samples k' h' f')

    abbrev pub Torn : Type 0
    Torn = (samples : Option (List ℕ)) → Stops (edit_taken wanted) from (sinks t samples k h f) (sinks t' samples k' h' f')

    -- whoever took it
    module _ (to : List Choice → Stage) (said : List ℕ) (outcome : Outcome)
        (came : (u : Option (List ℕ)) → (c : Came h wanted (from []) to said outcome []) × Took (sinks t u k h f) (sinks t u k' h' f') (files_put c.choice) (taken_at wanted (from []) c.choice ∷ [])) where
      so : there ≡ to → (o : Outcome) → t' ≡ grown t said → o ≡ outcome → Answered o
      so leads o is answer samples =
          let x = came samples in
          subst (λ (z : List Choice → Stage). IsEdited path (edit.Retype number text) o [] from z (sinks t samples k h f) (sinks t' samples k' h' f')) (sym leads)
          (subst (λ (z : Outcome). IsEdited path (edit.Retype number text) z [] from to (sinks t samples k h f) (sinks t' samples k' h' f')) (sym answer)
          (came_so wanted (from []) to said outcome [] (sinks t samples k h f) x.0 t t' samples k' h' f' x.1 is))

      by_all : there ≡ to → OnOk r (t' ≡ grown t said) → IfOk r (λ o. o ≡ outcome) → IfOk r Answered
      by_all leads is answer = both_ok r (λ o a b. so leads o a b) is answer

      by_part : OnErr r (TookPart t t' said) → OnErr r Torn
      by_part part = on_err_weaker r (λ a samples. let x = came samples in came_part wanted (from []) to said outcome [] (sinks t samples k h f) x.0 t t' samples k' h' f' x.1 a) part

    -- it became another one
    module _ (more : Names) (learned : List (ℕ × Answer)) (b : RetypedBox) (d : RetypesBoxBy h old new counts file path number text time (known files names) (known learned more) k k' b)
        (onward : Extends names more) (within : AreWithin b.counts) where
      abbrev to : List Choice → Stage
      to = stage_with file new more (base_of learned b.counts) time block_end fired tally

      abbrev said : List ℕ
      said = retyped_text more new b.key b.canvas b.gone.items

      abbrev IsOther : Option (List ℕ) → Type 0
      IsOther u = (c : Came h wanted (from []) to said Done []) × Took (sinks t u k h f) (sinks t u k' h' f') (files_put c.choice) (taken_at wanted (from []) c.choice ∷ [])

      other_by : (u : Option (List ℕ)) → IsOther u
      other_by u = (
        other_came h more learned b k k' d onward within,
        looking_took wanted (from []) (stage.Makes (other h more learned b k k' d onward within)) t u k k' h h' f f' refl
            (few_looks old new names text time b.canvas b.key number d.node d.added b.gone.items k k' ready.puts d.chosen.at d.became) same (inl (omega (arith, low))),
      )

      pub retyped_answered : there ≡ to → OnOk r (t' ≡ grown t said) → IfOk r (λ o. o ≡ Done) → IfOk r Answered
      retyped_answered leads is answer = by_all to said Done other_by leads is answer

      pub retyped_torn : OnErr r (TookPart t t' said) → OnErr r Torn
      retyped_torn part = by_part to said Done other_by part

    -- it was refused, and names and files are as before
    module _ (looks : k' ≡ k) (cause : EditRefusal) (rose : cause ≡ refusal.ShelfFault → Rose f f') (d : IsNotRetypedBy h old new counts file path number text (known files names) cause) where
      abbrev still : (u : Option (List ℕ)) → IsStill cause t u k k' looks h h' f f' same low rose
      still u = still_by cause t u k k' looks h h' f f' same low rose d

      pub still_answered : (names' : Names) (files' : List (ℕ × Answer)) → names' ≡ names → files' ≡ files → there ≡ stage_with file new names' (base_of files' counts) time block_end fired tally
          → OnOk r (t' ≡ grown t (refusal_text request.Edit (why_of cause))) → IfOk r (λ o. o ≡ edit_outcome (Err cause)) → IfOk r Answered
      still_answered names' files' named known_are leads is answer =
          let on : there ≡ left =
          leads ∙ ap (λ (n : Names). stage_with file new n (base_of files' counts) time block_end fired tally) named
          ∙ ap (λ (x : List (ℕ × Answer)). stage_with file new names (base_of x counts) time block_end fired tally) known_are in
          by_all left (refusal_text request.Edit (why_of cause)) (edit_outcome (Err cause)) still on is answer

      pub still_torn : OnErr r (TookPart t t' (refusal_text request.Edit (why_of cause))) → OnErr r Torn
      still_torn part = by_part left (refusal_text request.Edit (why_of cause)) (edit_outcome (Err cause)) still part
