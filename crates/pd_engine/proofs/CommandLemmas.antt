-- Commands.
use Rattle.std.proofs.Common.{◌≡◌, ℕ, Bool, List, [], ◌++◌, length, nat_lt, sym, ◌∙◌, ap, subst, Option, Result, Ok, Err, OnOk, OnErr, IfOk}
use Rattle.std.proofs.lemmas.Result.{on_ok_weaker, on_err_weaker}
use Rattle.pd_io.specs.Stream.{grown, TookPart}
use Rattle.pd_io.specs.declared.files.FileRow.{FileRow}
use Rattle.pd_atom.specs.declared.Atom.{Atom}
use Rattle.pd_kind.specs.Forming.{cut_atoms}
use Rattle.pd_script.specs.declared.commands.Command.{Command}
use Rattle.pd_stage.specs.Choices.{Wanted, Choice}
use Rattle.pd_stage.specs.Stages.{Stage, Taken, Passage, saying, choices_of}
use Rattle.pd_stage.specs.Leads.{Sinks, sinks, Comes, Stops, Says, SaysPart}
use Rattle.pd_stage.specs.Events.{event, Message, edit_taken, edit_event}
use Rattle.pd_engine.specs.declared.refusals.Outcome.{Outcome}
use Rattle.pd_engine.specs.declared.refusals.Outcome.TheVariants.{Done}
use Rattle.pd_engine.specs.Messages.{message_in}
use Rattle.pd_engine.specs.Commands.{cut_line, cut_text, sent, commanded, first_outcome, answered, IsCarriedOut}
use Rattle.pd_engine.specs.Edits.{IsTakenSo, IsEvent}
use Rattle.pd_stage.proofs.LeadLemmas.{broke_same, written_leads, written_breaks, comes_then, stops_first, stops_then}
use Rattle.pd_engine.proofs.FollowLemmas.{alone_so, event_broke_first}

pub if_ok_weaker : {A E : Type 0} {P Q : A → Type 0} (r : Result A E) → ((a : A) → P a → Q a) → IfOk r P → IfOk r Q
if_ok_weaker (Ok a) f h = f a h
if_ok_weaker (Err e) f h = tt

-- a message that is sent by a command
module _ (s s₁ s₂ : List Choice → Stage) (name selector : ℕ) (atoms given : List Atom) (is_cut : Bool) (t₁ t₂ u : Option (List ℕ)) (k : ℕ) (h : Option (List FileRow)) (f : ℕ) (z : Sinks)
    (cut : is_cut ≡ nat_lt 1024 (length (message_in atoms).atoms)) where
  abbrev cut_first : Stage → Passage
  cut_first x = saying x (cut_text (message_in atoms).atoms)

  abbrev then_sent : Stage → Passage
  then_sent x = event x (Message name (message_in atoms).selector (cut_atoms (message_in atoms).atoms))

  -- the line that it was cut was taken in part, or it was taken and then those of the event in part
  pub sent_breaks_first : TookPart t₁ t₂ (cut_line is_cut) → Stops (sent name atoms) s (sinks t₁ u k h f) (sinks t₂ u k h f)
  sent_breaks_first took =
      stops_first cut_first then_sent s (sinks t₁ u k h f) (sinks t₂ u k h f)
      (written_breaks s (cut_text (message_in atoms).atoms) t₁ t₂ u k h f (subst (λ (b : Bool). TookPart t₁ t₂ (cut_line b)) cut took))

  module _ (stage : s₁ ≡ s) (sel : selector ≡ (message_in atoms).selector) (same : given ≡ cut_atoms (message_in atoms).atoms) (said : t₂ ≡ grown t₁ (cut_line is_cut)) where
    comes : Comes cut_first s s (sinks t₁ u k h f) (sinks t₂ u k h f)
    comes = written_leads s (cut_text (message_in atoms).atoms) t₁ t₂ u k h f (said ∙ ap (λ (b : Bool). grown t₁ (cut_line b)) cut)

    pub sent_says : Comes (λ x. event x (Message name selector given)) s₁ s₂ (sinks t₂ u k h f) z → Comes (sent name atoms) s s₂ (sinks t₁ u k h f) z
    sent_says c =
        comes_then cut_first then_sent s s s₂ (sinks t₁ u k h f) (sinks t₂ u k h f) z comes
        (subst (λ (r : List Choice → Stage). Comes then_sent r s₂ (sinks t₂ u k h f) z) stage
        (subst (λ (a : List Atom). Comes (λ x. event x (Message name (message_in atoms).selector a)) s₁ s₂ (sinks t₂ u k h f) z) same
        (subst (λ (l : ℕ). Comes (λ x. event x (Message name l given)) s₁ s₂ (sinks t₂ u k h f) z) sel c)))

    pub sent_breaks : Stops (λ x. event x (Message name selector given)) s₁ (sinks t₂ u k h f) z → Stops (sent name atoms) s (sinks t₁ u k h f) z
    sent_breaks c =
        stops_then cut_first then_sent s s (sinks t₁ u k h f) (sinks t₂ u k h f) z comes
        (subst (λ (r : List Choice → Stage). Stops then_sent r (sinks t₂ u k h f) z) stage
        (subst (λ (a : List Atom). Stops (λ x. event x (Message name (message_in atoms).selector a)) s₁ (sinks t₂ u k h f) z) same
        (subst (λ (l : ℕ). Stops (λ x. event x (Message name l given)) s₁ (sinks t₂ u k h f) z) sel c)))

-- ---- a command that is told by another part

carried : (cmd : Command) (o : Outcome) (part : Stage → Passage) (from to : List Choice → Stage) (x y : Sinks) → ((s : Stage) → commanded cmd s ≡ part s)
    → (c : Comes part from to x y) → o ≡ answered cmd c.edits → IsCarriedOut cmd o from to x y
carried cmd o part from to x y e c is = record {
  comes = record {
    items = c.items;
    edits = c.edits;
    same = λ more. e (from (choices_of c.edits ++ more)) ∙ c.same more;
    took = c.took;
    lawful = c.lawful;
    by_folder = c.by_folder;
  };
  answer = is;
}

-- it comes to something, and is done
pub comes_carried : {E : Type 0} (r : Result Outcome E) (cmd : Command) (part : Stage → Passage) (from to : List Choice → Stage) (x y : Option (List ℕ) → Sinks)
    → ((s : Stage) → commanded cmd s ≡ part s) → ((edits : List Taken) → answered cmd edits ≡ Done)
    → OnOk r ((samples : Option (List ℕ)) → Comes part from to (x samples) (y samples)) → IfOk r (λ o. o ≡ Done)
    → IfOk r (λ o. (samples : Option (List ℕ)) → IsCarriedOut cmd o from to (x samples) (y samples))
comes_carried (Ok o) cmd part from to x y e done says is = λ samples.
    let c : Comes part from to (x samples) (y samples) = says samples in
    carried cmd o part from to (x samples) (y samples) e c (is ∙ sym (done c.edits))
comes_carried (Err z) cmd part from to x y e done says is = tt

-- it says lines, and is done
pub says_carried : {E : Type 0} (r : Result Outcome E) (cmd : Command) (part : Stage → Passage) (from to : List Choice → Stage) (t t' : Option (List ℕ)) (k k' : ℕ) (h : Option (List FileRow)) (f : ℕ)
    → ((s : Stage) → commanded cmd s ≡ part s) → ((edits : List Taken) → answered cmd edits ≡ Done) → OnOk r (Says part from to t t' k k') → IfOk r (λ o. o ≡ Done)
    → IfOk r (λ o. (samples : Option (List ℕ)) → IsCarriedOut cmd o from to (sinks t samples k h f) (sinks t' samples k' h f))
says_carried r cmd part from to t t' k k' h f e done says is =
    comes_carried r cmd part from to (λ samples. sinks t samples k h f) (λ samples. sinks t' samples k' h f) e done (on_ok_weaker r (λ x samples. x samples h f) says) is

-- it is an edit that is an event, and answers what that came to
pub event_carried : {E : Type 0} (r : Result Outcome E) (cmd : Command) (wanted : Wanted) (from to : List Choice → Stage) (x y : Option (List ℕ) → Sinks)
    → ((s : Stage) → commanded cmd s ≡ edit_event wanted s) → ((edits : List Taken) → answered cmd edits ≡ first_outcome edits)
    → IfOk r (λ o. (samples : Option (List ℕ)) → IsEvent wanted o from to (x samples) (y samples))
    → IfOk r (λ o. (samples : Option (List ℕ)) → IsCarriedOut cmd o from to (x samples) (y samples))
event_carried (Ok o) cmd wanted from to x y e answers so = λ samples.
    let is : IsEvent wanted o from to (x samples) (y samples) = so samples in
    carried cmd o (edit_event wanted) from to (x samples) (y samples) e is.comes (is.answer ∙ sym (answers is.comes.edits))
event_carried (Err z) cmd wanted from to x y e answers so = tt

-- nothing follows from it
pub alone_carried : {E : Type 0} (r : Result Outcome E) (cmd : Command) (wanted : Wanted) (from to : List Choice → Stage) (x y : Option (List ℕ) → Sinks)
    → ((s : Stage) → commanded cmd s ≡ edit_event wanted s) → ((edits : List Taken) → answered cmd edits ≡ first_outcome edits)
    → IfOk r (λ o. (samples : Option (List ℕ)) → IsTakenSo wanted o [] from to (x samples) (y samples))
    → IfOk r (λ o. (samples : Option (List ℕ)) → IsCarriedOut cmd o from to (x samples) (y samples))
alone_carried r cmd wanted from to x y e answers so =
    event_carried r cmd wanted from to x y e answers (if_ok_weaker r (λ o is samples. alone_so wanted o from to (x samples) (y samples) (is samples)) so)

pub if_ok_both : {A E : Type 0} (P Q : A → Type 0) (r : Result A E) → IfOk r P → IfOk r Q → IfOk r (λ a. P a × Q a)
if_ok_both P Q (Ok a) p q = (p, q)
if_ok_both P Q (Err e) p q = tt

-- a part broke off
pub part_stops : {A E : Type 0} (r : Result A E) (cmd : Command) (part : Stage → Passage) (from : List Choice → Stage) (t t' : Option (List ℕ)) (k k' : ℕ) (h : Option (List FileRow)) (f : ℕ)
    → ((s : Stage) → commanded cmd s ≡ part s) → OnErr r (SaysPart part from t t' k k')
    → OnErr r ((samples : Option (List ℕ)) → Stops (commanded cmd) from (sinks t samples k h f) (sinks t' samples k' h f))
part_stops (Ok x) cmd part from t t' k k' h f e broke = tt
part_stops (Err x) cmd part from t t' k k' h f e broke = λ samples.
    broke_same (λ m. part (from m)) (λ m. commanded cmd (from m)) (sinks t samples k h f) (sinks t' samples k' h f) (λ m. e (from m)) (broke samples h f)

pub taken_stops : {A E : Type 0} (r : Result A E) (cmd : Command) (part : Stage → Passage) (from : List Choice → Stage) (x y : Option (List ℕ) → Sinks)
    → ((s : Stage) → commanded cmd s ≡ part s) → OnErr r ((samples : Option (List ℕ)) → Stops part from (x samples) (y samples))
    → OnErr r ((samples : Option (List ℕ)) → Stops (commanded cmd) from (x samples) (y samples))
taken_stops (Ok z) cmd part from x y e broke = tt
taken_stops (Err z) cmd part from x y e broke = λ samples. broke_same (λ m. part (from m)) (λ m. commanded cmd (from m)) (x samples) (y samples) (λ m. e (from m)) (broke samples)

-- an edit broke off, and so did its event
pub alone_stops : {A E : Type 0} (r : Result A E) (cmd : Command) (wanted : Wanted) (from : List Choice → Stage) (x y : Option (List ℕ) → Sinks)
    → ((s : Stage) → commanded cmd s ≡ edit_event wanted s) → OnErr r ((samples : Option (List ℕ)) → Stops (edit_taken wanted) from (x samples) (y samples))
    → OnErr r ((samples : Option (List ℕ)) → Stops (commanded cmd) from (x samples) (y samples))
alone_stops r cmd wanted from x y e broke =
    taken_stops r cmd (edit_event wanted) from x y e (on_err_weaker r (λ k samples. event_broke_first wanted from (x samples) (y samples) (k samples)) broke)
