-- Edits that are lawful, or refused for whatever reason: what each leaves, and what an event leaves with those that messages ask for.
use Rattle.std.proofs.Common.{◌⊎◌, ◌+◌, inl, inr, ℕ, zero, suc, List, [], ◌∷◌, ◌++◌, slice_get, Option, Some, None, refl, sym, subst}
use Rattle.std.specs.List.{AllByRecursion}
use Rattle.pd_atom.specs.Names.{Extends}
use Rattle.pd_canvas.specs.declared.edits.Edit.{Edit}
use Rattle.pd_regrowth_law.proofs.StepLemmas.{extends_same}
use Rattle.pd_queue.specs.Queue.{most}
use Rattle.pd_turns.specs.Turns.{World}
use Rattle.pd_walk.specs.Outcome.{all_loaded}
use Rattle.pd_hearing.specs.Worlds.{Kept}
use Rattle.pd_stage.specs.Choices.{Wanted, Asks, Choice, Refuses, Lacks, Makes, first_choice, later, loads_of_choice}
use Rattle.pd_stage.specs.Stages.{Stage, Taken, Passage, with_ahead}
use Rattle.pd_stage.specs.Lawful.{IsLawful, AreLawful}
use Rattle.pd_stage.specs.Events.{Beginning, Left, whole, left_after, going_on, with_kept, edit_by, edit_taken, Loader, loaded_by, edit_loaded_by, asked_by, edits_taken_by, edits_of_by, delivered, event, edit_event}
use Rattle.pd_stage.proofs.EditLemmas.{but_wires, Alters, taken_alters}

-- it is refused, and nothing changes
abbrev pub IsRefusal : Choice → Type 0
IsRefusal (Refuses why) = Unit {0}
IsRefusal (Lacks net) = ⊥
IsRefusal (Makes m) = ⊥

abbrev pub IsFair : Taken → Type 0
IsFair t = IsLawful t ⊎ IsRefusal t.choice

abbrev pub AreFair : List Taken → Type 0
AreFair edits = AllByRecursion IsFair edits

pub lawful_fair : (edits : List Taken) → AreLawful edits → AreFair edits
lawful_fair [] h = tt
lawful_fair (t ∷ edits) h = (inl h.0, lawful_fair edits h.1)

-- of two lists that are fair together each is
pub fair_first : (a b : List Taken) → AreFair (a ++ b) → AreFair a
fair_first [] b h = tt
fair_first (t ∷ a) b h = (h.0, fair_first a b h.1)

pub fair_second : (a b : List Taken) → AreFair (a ++ b) → AreFair b
fair_second [] b h = h
fair_second (t ∷ a) b h = fair_second a b h.1

-- an edit leaves what a lawful one leaves
refused_alters : (wanted : Wanted) (s : Stage) (c : Choice) → IsRefusal c → Alters s (edit_by wanted s c).stage
refused_alters wanted s (Refuses why) h = inl (inl (record { ahead = later s.ahead; is = refl }))
refused_alters wanted s (Lacks net) h = absurd h
refused_alters wanted s (Makes m) h = absurd h

either_alters : (wanted : Wanted) (s : Stage) → IsFair (record { found = with_ahead s []; wanted = wanted; choice = first_choice s.ahead }) → Alters s (edit_taken wanted s).stage
unfolding edit_taken
either_alters wanted s (inl h) = taken_alters wanted s (h, tt)
either_alters wanted s (inr h) = refused_alters wanted s (first_choice s.ahead) h

pub taken_left : (wanted : Wanted) (s : Stage) → AreFair (edit_taken wanted s).edits → Alters s (edit_taken wanted s).stage
unfolding edit_taken
taken_left wanted s h = either_alters wanted s h.0

-- its table of names goes on
pub altered_extends : (s r : Stage) → Alters s r → Extends s.names r.names
altered_extends s r (inl a) = subst (λ (x : Stage). Extends s.names x.names) (sym (but_wires s r a).is) (extends_same s.names)
altered_extends s r (inr (inl a)) = subst (λ (x : Stage). Extends s.names x.names) (sym a.is) a.put.more
altered_extends s r (inr (inr (inl a))) = subst (λ (x : Stage). Extends s.names x.names) (sym a.is) (subst (Extends s.names) (sym a.taken.names) (extends_same s.names))
altered_extends s r (inr (inr (inr (inl a)))) = subst (λ (x : Stage). Extends s.names x.names) (sym a.is) (subst (Extends s.names) (sym a.moved.names) (extends_same s.names))
altered_extends s r (inr (inr (inr (inr (inl a))))) = subst (λ (x : Stage). Extends s.names x.names) (sym a.is) a.retyped.more
altered_extends s r (inr (inr (inr (inr (inr a))))) = subst (λ (x : Stage). Extends s.names x.names) (sym a.is) (extends_same s.names)

-- a fact that no edit and no load ends lasts through the edits of an event
module _ (load : Loader) (P : Stage → Type 0) (each : (s r : Stage) → Alters s r → P s → P r)
    (loads : (s : Stage) (l : Left) (boxes : List ℕ) → P s → P (with_kept s (load s.net s.time (going_on s l) boxes).kept)) where
  abbrev Keeps : (Left → Stage → Passage) → Type 0
  Keeps rest = (l : Left) (r : Stage) → AreFair (rest l r).edits → P r → P (rest l r).stage

  edit_keeps : (wanted : Wanted) (l : Left) (rest : Left → Stage → Passage) → Keeps rest → (s : Stage) → AreFair (edit_loaded_by load wanted l rest s).edits → P s
      → P (edit_loaded_by load wanted l rest s).stage
  edit_keeps wanted l rest keeps s h p =
      let boxes : List ℕ = loads_of_choice (first_choice s.ahead) in
      let q : Passage = edit_taken wanted s in
      let r : Stage = q.stage in
      let w : World Kept = load r.net r.time (going_on r l) boxes in
      keeps (left_after w) (with_kept r w.kept) (fair_second q.edits (loaded_by load boxes l rest r).edits h)
      (loads r l boxes (each s r (taken_left wanted s (fair_first q.edits (loaded_by load boxes l rest r).edits h)) p))

  asked_keep : (rest : Left → Stage → Passage) → Keeps rest → (l : Left) (s : Stage) (o : Option (List ℕ × Edit)) → AreFair (asked_by load rest l s o).edits → P s
      → P (asked_by load rest l s o).stage
  asked_keep rest keeps l s None h p = p
  asked_keep rest keeps l s (Some asked) h p = edit_keeps (Asks asked.0 asked.1) l rest keeps s h p

  edits_keep : (n place : ℕ) (l : Left) (s : Stage) → AreFair (edits_taken_by load n place l s).edits → P s → P (edits_taken_by load n place l s).stage
  unfolding edits_taken_by
  edits_keep zero place l s h p = p
  edits_keep (suc n) place l s h p =
      asked_keep (edits_taken_by load n (place + 1)) (λ m r k q. edits_keep n (place + 1) m r k q) l s (slice_get l.asked place) h p

-- the same of an event: its deliveries come first; and of an edit that is one
module _ (P : Stage → Type 0) (each : (s r : Stage) → Alters s r → P s → P r)
    (loads : (s : Stage) (l : Left) (boxes : List ℕ) → P s → P (with_kept s (all_loaded s.net s.time (going_on s l) boxes).kept)) where
  pub event_keeps : (s : Stage) (b : Beginning) → AreFair (event s b).edits → P (with_kept s (delivered s b).kept) → P (event s b).stage
  unfolding event
  event_keeps s b h p = let w : World Kept = delivered s b in edits_keep all_loaded P each loads most 0 (left_after w) (with_kept s w.kept) h p

  pub edit_event_keeps : (wanted : Wanted) (s : Stage) → AreFair (edit_event wanted s).edits → P s → P (edit_event wanted s).stage
  unfolding edit_event
  edit_event_keeps wanted s h p =
      edit_keeps all_loaded P each loads wanted whole (edits_of_by all_loaded) (λ l r k q. edits_keep all_loaded P each loads most 0 l r k q) s h p
