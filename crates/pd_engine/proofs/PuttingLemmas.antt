-- What is told of a box that an edit put, or of why none is put.
use Rattle.std.proofs.Common.{◌≡◌, ◌≤◌, ◌+◌, arith, true, ℕ, List, [], ◌∷◌, refl, sym, ◌∙◌, ap, subst, inl, inr, Option, Result, Ok, Err, OnErr, OnOk, IfOk}
use Rattle.std.proofs.lemmas.Result.{on_err_weaker}
use Rattle.pd_io.specs.Faults.{Rose}
use Rattle.pd_io.specs.Rows.{KeptOrUntold}
use Rattle.pd_io.specs.Stream.{grown, TookPart}
use Rattle.pd_io.specs.declared.files.FileRow.{FileRow}
use Rattle.pd_atom.specs.Names.{Names, Extends}
use Rattle.pd_canvas.specs.declared.edits.Edit.{Edit}
use Rattle.pd_library.specs.declared.answers.Answer.{Answer}
use Rattle.pd_made.specs.declared.tally.Tally.{Tally}
use Rattle.pd_patch.specs.declared.patch.Patch.{Patch}
use Rattle.pd_say.specs.Lines.{refusal_text}
use Rattle.pd_say.specs.declared.refusals.Request.TheVariants as request
use Rattle.pd_script.specs.Edits.{puts_box}
use Rattle.pd_wiring.specs.declared.refusals.EditRefusal.{EditRefusal}
use Rattle.pd_wiring.specs.declared.refusals.EditRefusal.TheVariants as refusal
use Rattle.pd_adding.specs.declared.counts.Counts.{Counts}
use Rattle.pd_adding.specs.Counts.{AreWithin}
use Rattle.pd_gather.specs.Gather.{known}
use Rattle.pd_stage.specs.PassedOn.{AddsBoxBy, IsNotAddedBy, put_looks, NewBox}
use Rattle.pd_hearing.specs.Worlds.{net_of}
use Rattle.pd_stage.specs.Choices.{base_of, Wanted, Asks, Choice, Refuses, Lacks, looks_of_choice}
use Rattle.pd_stage.specs.Stages.{Stage, faults_of}
use Rattle.pd_stage.specs.Lawful.{why_of}
use Rattle.pd_stage.specs.Lines.{put_text, loads_inside}
use Rattle.pd_stage.specs.Leads.{RoseBy, Sinks, sinks, Took, Stops}
use Rattle.pd_stage.specs.Events.{edit_taken, files_put}
use Rattle.pd_stage.proofs.EditLemmas.{taken_at}
use Rattle.pd_stage.proofs.FolderLemmas.{none_leaves}
use Rattle.pd_stage.proofs.ItemLemmas.{no_lines, no_samples, held-none}
use Rattle.pd_engine.specs.declared.refusals.Outcome.{Outcome}
use Rattle.pd_engine.specs.declared.refusals.Outcome.TheVariants.{Done}
use Rattle.pd_engine.specs.Edits.{edit_outcome, IsTakenSo, IsOwn}
use Rattle.pd_engine.proofs.ClockLemmas.{stage_with}
use Rattle.pd_engine.proofs.RewireLemmas.{IsReady}
use Rattle.pd_engine.proofs.MakingLemmas.{IsBoxEdit, own_box, Came, came_so, came_part, both_ok, put_came, refused_came, short_came}

-- want of memory is no fault of the folder
pub no_fault : refusal.NoMemory ≡ refusal.ShelfFault → ⊥
no_fault is = cc

-- no file is put, the folder holds what it held, and there are no more looks than it may take
pub looking_took : (wanted : Wanted) (s : Stage) (c : Choice) (t u : Option (List ℕ)) (k k' : ℕ) (h h' : Option (List FileRow)) (f f' : ℕ) → files_put c ≡ [] → k' ≤ k + looks_of_choice c → h' ≡ h
    → RoseBy (faults_of (taken_at wanted s c ∷ [])) f f' → Took (sinks t u k h f) (sinks t u k' h' f') (files_put c) (taken_at wanted s c ∷ [])
looking_took wanted s c t u k k' h h' f f' none few same rose =
    subst (λ i. Took (sinks t u k h f) (sinks t u k' h' f') i (taken_at wanted s c ∷ [])) (sym none) (record {
      lines_are = no_lines t;
      samples_are = no_samples u;
      few_looks = omega (arith, few);
      held_are = subst (λ (o : Option (List FileRow)). KeptOrUntold o h') (sym (held-none h)) (inl same);
      leaves = none_leaves wanted c h h' none same;
      few_faults = rose;
    })

one_rose : (f f' : ℕ) → Rose f f' → RoseBy (1 + 0) f f'
one_rose f f' (inl more) = inl (omega (arith, more))
one_rose f f' (inr most) = inr (omega (arith, most))

-- a refusal for a fault of the folder raised its count
pub refusal_rose : (wanted : Wanted) (s : Stage) (cause : EditRefusal) (f f' : ℕ) → (cause ≡ refusal.ShelfFault → Rose f f') → f ≤ f'
    → RoseBy (faults_of (taken_at wanted s (Refuses (why_of cause)) ∷ [])) f f'
refusal_rose wanted s refusal.ShelfFault f f' rose low = one_rose f f' (rose refl)
refusal_rose wanted s refusal.NoDocument f f' rose low = inl (omega (arith, low))
refusal_rose wanted s refusal.NoCanvas f f' rose low = inl (omega (arith, low))
refusal_rose wanted s (refusal.NoBox n) f f' rose low = inl (omega (arith, low))
refusal_rose wanted s (refusal.NoPort n p o) f f' rose low = inl (omega (arith, low))
refusal_rose wanted s refusal.NoWire f f' rose low = inl (omega (arith, low))
refusal_rose wanted s refusal.SignalIntoControl f f' rose low = inl (omega (arith, low))
refusal_rose wanted s refusal.TextTooLong f f' rose low = inl (omega (arith, low))
refusal_rose wanted s refusal.TooDeep f f' rose low = inl (omega (arith, low))
refusal_rose wanted s refusal.SymbolsFull f f' rose low = inl (omega (arith, low))
refusal_rose wanted s refusal.TooManyBoxes f f' rose low = inl (omega (arith, low))
refusal_rose wanted s refusal.TooManyWires f f' rose low = inl (omega (arith, low))
refusal_rose wanted s refusal.TooMuchSound f f' rose low = inl (omega (arith, low))
refusal_rose wanted s refusal.NoMemory f f' rose low = inl (omega (arith, low))

module _ (wanted : Wanted) (path : List ℕ) (e : Edit) (one : IsBoxEdit wanted path e) (file : List ℕ) (names : Names) (files : List (ℕ × Answer)) (counts : Counts) (time block_end fired : ℕ) (tally : Tally) (old new : Patch)
    (ready : IsReady old) (t u : Option (List ℕ)) (k k' : ℕ) (h h' : Option (List FileRow)) (f f' : ℕ) (same : h' ≡ h) (low : f ≤ f') where
  abbrev from : List Choice → Stage
  from = stage_with file old names (base_of files counts) time block_end fired tally

  -- it was put
  module _ (more : Names) (learned : List (ℕ × Answer)) (b : NewBox) (d : AddsBoxBy h old new counts file path time e (known files names) (known learned more) b) (onward : Extends names more)
      (within : AreWithin b.counts) (few : k' ≤ k + put_looks new b.key) where
    abbrev to : List Choice → Stage
    to = stage_with file new more (base_of learned b.counts) time block_end fired tally

    abbrev came : Came h wanted (from []) to (put_text more new b.key b.canvas) Done (loads_inside new b.key)
    came = put_came wanted path e one file names files counts time block_end fired tally old new h more learned b ready d onward within

    took : Took (sinks t u k h f) (sinks t u k' h' f') (files_put came.choice) (taken_at wanted (from []) came.choice ∷ [])
    took = looking_took wanted (from []) came.choice t u k k' h h' f f' refl few same (inl (omega (arith, low)))

    pub put_so : (t' : Option (List ℕ)) → t' ≡ grown t (put_text more new b.key b.canvas) → IsTakenSo wanted Done (loads_inside new b.key) from to (sinks t u k h f) (sinks t' u k' h' f')
    put_so t' said = came_so wanted (from []) to (put_text more new b.key b.canvas) Done (loads_inside new b.key) (sinks t u k h f) came t t' u k' h' f' took said

    pub put_part : (t' : Option (List ℕ)) → TookPart t t' (put_text more new b.key b.canvas) → Stops (edit_taken wanted) from (sinks t u k h f) (sinks t' u k' h' f')
    put_part t' part = came_part wanted (from []) to (put_text more new b.key b.canvas) Done (loads_inside new b.key) (sinks t u k h f) came t t' u k' h' f' took part

  -- it was refused
  module _ (cause : EditRefusal) (rose : cause ≡ refusal.ShelfFault → Rose f f') (looks : k' ≡ k) where
    abbrev left : List Choice → Stage
    left = stage_with file new names (base_of files counts) time block_end fired tally

    abbrev text : List ℕ
    text = refusal_text request.Edit (why_of cause)

    unput_by : (d : IsNotAddedBy h old new counts file path e (known files names) cause)
        → (c : Came h wanted (from []) left text (edit_outcome (Err cause)) []) × Took (sinks t u k h f) (sinks t u k' h' f') (files_put c.choice) (taken_at wanted (from []) c.choice ∷ [])
    unput_by (inl (is, d)) = (
      refused_came wanted path e one file names files counts time block_end fired tally old new h cause ready is d,
      looking_took wanted (from []) (Refuses (why_of cause)) t u k k' h h' f f' refl (omega (arith, looks)) same (refusal_rose wanted (from []) cause f f' rose low),
    )
    unput_by (inr (short, d)) = (
      short_came wanted path e one file names files counts time block_end fired tally old new h cause ready short d,
      looking_took wanted (from []) (Lacks (net_of new)) t u k k' h h' f f' refl (omega (arith, looks)) same (inl (omega (arith, low))),
    )

    pub unput_so : (t' : Option (List ℕ)) → IsNotAddedBy h old new counts file path e (known files names) cause → t' ≡ grown t text
        → IsTakenSo wanted (edit_outcome (Err cause)) [] from left (sinks t u k h f) (sinks t' u k' h' f')
    unput_so t' d said = let x = unput_by d in came_so wanted (from []) left text (edit_outcome (Err cause)) [] (sinks t u k h f) x.0 t t' u k' h' f' x.1 said

    pub unput_part : (t' : Option (List ℕ)) → IsNotAddedBy h old new counts file path e (known files names) cause → TookPart t t' text
        → Stops (edit_taken wanted) from (sinks t u k h f) (sinks t' u k' h' f')
    unput_part t' d part = let x = unput_by d in came_part wanted (from []) left text (edit_outcome (Err cause)) [] (sinks t u k h f) x.0 t t' u k' h' f' x.1 part

all_ok : {A E : Type 0} {P P' : Type 0} {Q R : A → Type 0} (r : Result A E) → ((a : A) → P → P' → Q a → R a) → OnOk r P → OnOk r P' → IfOk r Q → IfOk r R
all_ok (Ok a) f p p' q = f a p p' q
all_ok (Err e) f p p' q = tt

-- it was told, this is answered, and these boxes are loaded behind it
module _ {E : Type 0} (r : Result Outcome E) (path : List ℕ) (e : Edit) (one : puts_box e ≡ true) (file : List ℕ) (names : Names) (files : List (ℕ × Answer)) (counts : Counts) (time block_end fired : ℕ) (tally : Tally)
    (old new : Patch) (ready : IsReady old) (t t' : Option (List ℕ)) (k k' : ℕ) (h h' : Option (List FileRow)) (f f' : ℕ) (same : h' ≡ h) (low : f ≤ f') (to : List Choice → Stage) (loads : List ℕ) where
  abbrev start : List Choice → Stage
  start = stage_with file old names (base_of files counts) time block_end fired tally

  abbrev Answered : Outcome → Type 0
  Answered o = (wanted : Wanted) → IsOwn wanted path e → (samples : Option (List ℕ)) → IsTakenSo wanted o loads start to (sinks t samples k h f) (sinks t' samples k' h' f')

  abbrev Torn : Type 0
  Torn = (wanted : Wanted) → IsOwn wanted path e → (samples : Option (List ℕ)) → Stops (edit_taken wanted) start (sinks t samples k h f) (sinks t' samples k' h' f')

  ends_so : (o o' : Outcome) (told : List ℕ) (there : List Choice → Stage) → to ≡ there → o ≡ o' → loads ≡ told
      → ((wanted : Wanted) → IsOwn wanted path e → (u : Option (List ℕ)) → IsTakenSo wanted o' told start there (sinks t u k h f) (sinks t' u k' h' f')) → Answered o
  ends_so o o' told there stands answer are so wanted own samples =
      subst (λ (x : List Choice → Stage). IsTakenSo wanted o loads start x (sinks t samples k h f) (sinks t' samples k' h' f')) (sym stands)
      (subst (λ (x : Outcome). IsTakenSo wanted x loads start there (sinks t samples k h f) (sinks t' samples k' h' f')) (sym answer)
      (subst (λ (l : List ℕ). IsTakenSo wanted o' l start there (sinks t samples k h f) (sinks t' samples k' h' f')) (sym are) (so wanted own samples)))

  -- a box was put
  module _ (more : Names) (learned : List (ℕ × Answer)) (b : NewBox) (d : AddsBoxBy h old new counts file path time e (known files names) (known learned more) b) (onward : Extends names more)
      (within : AreWithin b.counts) (few : k' ≤ k + put_looks new b.key) where
    pub put_answered : to ≡ stage_with file new more (base_of learned b.counts) time block_end fired tally → OnOk r (loads ≡ loads_inside new b.key)
        → OnOk r (t' ≡ grown t (put_text more new b.key b.canvas)) → IfOk r (λ o. o ≡ Done) → IfOk r Answered
    put_answered stands are said is =
        all_ok r
        (λ o are a x. ends_so o Done (loads_inside new b.key) (stage_with file new more (base_of learned b.counts) time block_end fired tally) stands x are
        (λ wanted own u. put_so wanted path e (own_box wanted path e own one) file names files counts time block_end fired tally old new ready t u k k' h h' f f' same low more learned b d onward within few t' a)) are said is

    pub put_torn : OnErr r (TookPart t t' (put_text more new b.key b.canvas)) → OnErr r Torn
    put_torn part =
        on_err_weaker r
        (λ a wanted own u. put_part wanted path e (own_box wanted path e own one) file names files counts time block_end fired tally old new ready t u k k' h h' f f' same low more learned b d onward within few t' a) part

  -- it was refused, and names and files are as before
  module _ (cause : EditRefusal) (rose : cause ≡ refusal.ShelfFault → Rose f f') (looks : k' ≡ k) (d : IsNotAddedBy h old new counts file path e (known files names) cause) where
    pub unput_answered : (names' : Names) (files' : List (ℕ × Answer)) → names' ≡ names → files' ≡ files → to ≡ stage_with file new names' (base_of files' counts) time block_end fired tally → loads ≡ []
        → OnOk r (t' ≡ grown t (refusal_text request.Edit (why_of cause))) → IfOk r (λ o. o ≡ edit_outcome (Err cause)) → IfOk r Answered
    unput_answered names' files' named known_are stands none said is =
        let there : to ≡ stage_with file new names (base_of files counts) time block_end fired tally =
        stands ∙ ap (λ (n : Names). stage_with file new n (base_of files' counts) time block_end fired tally) named
        ∙ ap (λ (x : List (ℕ × Answer)). stage_with file new names (base_of x counts) time block_end fired tally) known_are in
        both_ok r
        (λ o a x. ends_so o (edit_outcome (Err cause)) [] (stage_with file new names (base_of files counts) time block_end fired tally) there x none
        (λ wanted own u. unput_so wanted path e (own_box wanted path e own one) file names files counts time block_end fired tally old new ready t u k k' h h' f f' same low cause rose looks t' d a)) said is

    pub unput_torn : OnErr r (TookPart t t' (refusal_text request.Edit (why_of cause))) → OnErr r Torn
    unput_torn part =
        on_err_weaker r
        (λ a wanted own u. unput_part wanted path e (own_box wanted path e own one) file names files counts time block_end fired tally old new ready t u k k' h h' f f' same low cause rose looks t' d a) part

-- a message asked for it: what holds whoever asks holds of that
pub asked_so : {E : Type 0} (r : Result Outcome E) (loads : List ℕ) (from to : List Choice → Stage) (x y : Option (List ℕ) → Sinks) (p : List ℕ) (d : Edit) (Is : List ℕ → Edit → Type 0)
    → ((path : List ℕ) (e : Edit) → Is path e → (p ≡ path) × (d ≡ e))
    → IfOk r (λ o. (wanted : Wanted) → IsOwn wanted p d → (samples : Option (List ℕ)) → IsTakenSo wanted o loads from to (x samples) (y samples))
    → IfOk r (λ o. (path : List ℕ) (e : Edit) → puts_box e ≡ true → Is path e → (samples : Option (List ℕ)) → IsTakenSo (Asks path e) o loads from to (x samples) (y samples))
asked_so (Ok o) loads from to x y p d Is are h = λ path e one is samples.
    let same = are path e is in
    subst (λ (l : List ℕ). IsTakenSo (Asks l e) o loads from to (x samples) (y samples)) same.0
    (subst (λ (f : Edit). IsTakenSo (Asks p f) o loads from to (x samples) (y samples)) same.1 (h (Asks p d) (inr refl) samples))
asked_so (Err z) loads from to x y p d Is are h = tt

pub asked_torn : {E : Type 0} (r : Result Outcome E) (from : List Choice → Stage) (x y : Option (List ℕ) → Sinks) (p : List ℕ) (d : Edit) (Is : List ℕ → Edit → Type 0)
    → ((path : List ℕ) (e : Edit) → Is path e → (p ≡ path) × (d ≡ e))
    → OnErr r ((wanted : Wanted) → IsOwn wanted p d → (samples : Option (List ℕ)) → Stops (edit_taken wanted) from (x samples) (y samples))
    → OnErr r ((path : List ℕ) (e : Edit) → puts_box e ≡ true → Is path e → (samples : Option (List ℕ)) → Stops (edit_taken (Asks path e)) from (x samples) (y samples))
asked_torn (Ok o) from x y p d Is are h = tt
asked_torn (Err z) from x y p d Is are h = λ path e one is samples.
    let same = are path e is in
    subst (λ (l : List ℕ). Stops (edit_taken (Asks l e)) from (x samples) (y samples)) same.0
    (subst (λ (f : Edit). Stops (edit_taken (Asks p f)) from (x samples) (y samples)) same.1 (h (Asks p d) (inr refl) samples))

-- the same where it holds of any edit that puts a box
pub any_asked_so : {E : Type 0} (r : Result Outcome E) (loads : List ℕ) (from to : List Choice → Stage) (x y : Option (List ℕ) → Sinks) (Is : List ℕ → Edit → Type 0)
    → ((path : List ℕ) (e : Edit) → puts_box e ≡ true
    → IfOk r (λ o. (wanted : Wanted) → IsOwn wanted path e → (samples : Option (List ℕ)) → IsTakenSo wanted o loads from to (x samples) (y samples)))
    → IfOk r (λ o. (path : List ℕ) (e : Edit) → puts_box e ≡ true → Is path e → (samples : Option (List ℕ)) → IsTakenSo (Asks path e) o loads from to (x samples) (y samples))
any_asked_so (Ok o) loads from to x y Is h = λ path e one is samples. h path e one (Asks path e) (inr refl) samples
any_asked_so (Err z) loads from to x y Is h = tt

pub any_asked_torn : {E : Type 0} (r : Result Outcome E) (from : List Choice → Stage) (x y : Option (List ℕ) → Sinks) (Is : List ℕ → Edit → Type 0)
    → ((path : List ℕ) (e : Edit) → puts_box e ≡ true
    → OnErr r ((wanted : Wanted) → IsOwn wanted path e → (samples : Option (List ℕ)) → Stops (edit_taken wanted) from (x samples) (y samples)))
    → OnErr r ((path : List ℕ) (e : Edit) → puts_box e ≡ true → Is path e → (samples : Option (List ℕ)) → Stops (edit_taken (Asks path e)) from (x samples) (y samples))
any_asked_torn (Ok o) from x y Is h = tt
any_asked_torn (Err z) from x y Is h = λ path e one is samples. h path e one (Asks path e) (inr refl) samples
