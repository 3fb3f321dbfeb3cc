-- What holds of each part of an event holds of all of it.
use Rattle.std.proofs.Common.{ℕ, zero, suc, ◌+◌, List, Option, Some, None, slice_get}
use Rattle.pd_canvas.specs.declared.edits.Edit.{Edit}
use Rattle.pd_queue.specs.Queue.{most}
use Rattle.pd_turns.specs.Turns.{World}
use Rattle.pd_hearing.specs.Worlds.{Kept}
use Rattle.pd_stage.specs.Choices.{Wanted, Asks, first_choice, loads_of_choice}
use Rattle.pd_stage.specs.Stages.{Stage, Passage, still, followed_by}
use Rattle.pd_stage.specs.Events.{Left, Loader, whole, left_after, going_on, after_deliveries, edit_taken, loaded_by, edit_loaded_by, asked_by, edits_taken_by, edits_of_by, event_after_by, edit_event_by}

module _ (load : Loader) (Q : Stage → Passage → Type 0) where
  -- it holds of what goes on from a stage, whatever is left
  abbrev pub GoesOn : (Left → Stage → Passage) → Type 0
  GoesOn rest = (l : Left) (s : Stage) → Q s (rest l s)

  -- where it holds of one edit with what is loaded behind it, it does of all that were asked for
  module _ (nothing : (s : Stage) → Q s (still s)) (one : (wanted : Wanted) (l : Left) (rest : Left → Stage → Passage) (s : Stage) → GoesOn rest → Q s (edit_loaded_by load wanted l rest s)) where
    asked_through : (rest : Left → Stage → Passage) → GoesOn rest → (l : Left) (s : Stage) (o : Option (List ℕ × Edit)) → Q s (asked_by load rest l s o)
    asked_through rest on l s None = nothing s
    asked_through rest on l s (Some asked) = one (Asks asked.0 asked.1) l rest s on

    pub edits_through : (n place : ℕ) → GoesOn (edits_taken_by load n place)
    unfolding edits_taken_by
    edits_through zero place l s = nothing s
    edits_through (suc n) place l s = asked_through (edits_taken_by load n (place + 1)) (edits_through n (place + 1)) l s (slice_get l.asked place)

    pub all_through : GoesOn (edits_of_by load)
    all_through l s = edits_through most 0 l s

    pub edit_event_through : (wanted : Wanted) (s : Stage) → Q s (edit_event_by load wanted s)
    edit_event_through wanted s = one wanted whole (edits_of_by load) s all_through

  -- it holds of one part and then another, where it does of both
  module _ (on : (s : Stage) (p : Passage) (next : Stage → Passage) → Q s p → Q p.stage (next p.stage) → Q s (followed_by p next))
      (loads : (boxes : List ℕ) (l : Left) (s : Stage) → Q s (after_deliveries s (load s.net s.time (going_on s l) boxes))) where
    pub loaded_through : (boxes : List ℕ) (l : Left) (rest : Left → Stage → Passage) (s : Stage) → GoesOn rest → Q s (loaded_by load boxes l rest s)
    loaded_through boxes l rest s goes =
        let w : World Kept = load s.net s.time (going_on s l) boxes in
        on s (after_deliveries s w) (rest (left_after w)) (loads boxes l s) (goes (left_after w) (after_deliveries s w).stage)

    pub one_through : (edits : (wanted : Wanted) (s : Stage) → Q s (edit_taken wanted s)) → (wanted : Wanted) (l : Left) (rest : Left → Stage → Passage) (s : Stage) → GoesOn rest
        → Q s (edit_loaded_by load wanted l rest s)
    one_through edits wanted l rest s goes =
        let boxes : List ℕ = loads_of_choice (first_choice s.ahead) in
        on s (edit_taken wanted s) (loaded_by load boxes l rest) (edits wanted s) (loaded_through boxes l rest (edit_taken wanted s).stage goes)

    pub event_after_through : GoesOn (edits_of_by load) → (s : Stage) (w : World Kept) → Q s (after_deliveries s w) → Q s (event_after_by load s w)
    event_after_through goes s w first = on s (after_deliveries s w) (edits_of_by load (left_after w)) first (goes (left_after w) (after_deliveries s w).stage)
