-- Tasks that cause tasks. Each is done with all that it causes before the next one, and most of them take one of a budget.
use Rattle.std.specs.Prelude.{◌≡◌, ℕ, zero, suc, ◌-◌, Bool, true, cond, List, [], ◌∷◌, ◌++◌}

-- What a task does: what is kept after it, what is said at it, and which tasks it causes, in order. A task that takes none of the
-- budget causes none. What is said where the budget is used up.
pub record Rules (K T : Type 0) : Type 0 where
  pub kept_after : K → T → K
  pub said_at : K → T → List ℕ
  pub caused : K → T → List T
  pub costs : T → Bool
  pub cut_text : List ℕ

-- What tasks change: what is kept, what is left of the budget, whether the event was cut off, and what was said since it began.
pub record World (K : Type 0) : Type 0 where
  pub kept : K
  pub budget : ℕ
  pub cut : Bool
  pub said : List ℕ

-- the tasks that a task causes
abbrev pub causes : {K T : Type 0} → Rules K T → K → T → List T
causes r kept task = cond (r.costs task) (r.caused kept task) []

-- how much of the budget a task takes
abbrev pub cost : {K T : Type 0} → Rules K T → T → ℕ
cost r task = cond (r.costs task) 1 0

-- a task is done, without what it causes
abbrev pub acted : {K T : Type 0} → Rules K T → World K → T → World K
acted r w task =
    record { kept = r.kept_after w.kept task; budget = w.budget - cost r task; cut = w.cut; said = w.said ++ r.said_at w.kept task }

-- the budget is used up: the event is cut off
abbrev pub cut_off : {K T : Type 0} → Rules K T → World K → World K
cut_off r w = record { kept = w.kept; budget = w.budget; cut = true; said = w.said ++ r.cut_text }

-- one of these, by whether there is some of the budget
abbrev pub by_budget : {A : Type 0} → ℕ → A → A → A
by_budget zero none some = none
by_budget (suc n) none some = some

-- what becomes of a task: nothing where the event is cut off, and a task that the budget doesn't allow cuts it off
abbrev pub if_allowed : {K T : Type 0} → Rules K T → World K → T → World K → World K
if_allowed r w task after = cond w.cut w (cond (r.costs task) (by_budget w.budget (cut_off r w) after) after)

-- one after another
abbrev pub each : {K T : Type 0} → (World K → T → World K) → World K → List T → World K
each one w [] = w
each one w (task ∷ tasks) = each one (one w task) tasks

-- A task and all that it causes, in turn and each to its end. The number bounds the recursion: more than the budget is enough.
unfoldable pub performed : {K T : Type 0} → Rules K T → ℕ → World K → T → World K
performed r zero w task = w
performed r (suc n) w task = if_allowed r w task (each (performed r n) (acted r w task) (causes r w.kept task))

-- a task and all that it causes
unfoldable pub finished : {K T : Type 0} → Rules K T → World K → T → World K
finished r w task = performed r (suc w.budget) w task

-- tasks, one after another, each with all that it causes
abbrev pub all_finished : {K T : Type 0} → Rules K T → World K → List T → World K
all_finished r w tasks = each (finished r) w tasks

-- The recursion, with no bound to speak of.
abbrev pub IsRecursion : {K T : Type 0} → Rules K T → Type 0
IsRecursion {K} {T} r = (w : World K) (task : T) →
    finished r w task ≡ if_allowed r w task (all_finished r (acted r w task) (causes r w.kept task))

-- The tasks in a list up to the first that takes one of the budget, which goes on by itself with those behind it.
abbrev pub up_to : {K T : Type 0} → Rules K T → (World K → T → List T → World K) → World K → List T → World K
up_to r next w [] = w
up_to r next w (task ∷ tasks) = cond (r.costs task) (next w task tasks) (up_to r next (acted r w task) tasks)

-- The same as one list of what is left to do: the first task is done, and what it causes is put before the rest. The number is the
-- budget, so this recursion needs no other bound.
unfoldable pub agenda : {K T : Type 0} → Rules K T → ℕ → World K → List T → World K
agenda r zero w tasks = up_to r (λ v task rest. cut_off r v) w tasks
agenda r (suc n) w tasks = up_to r (λ v task rest. agenda r n (acted r v task) (causes r v.kept task ++ rest)) w tasks

-- The recursion and the list of what is left to do give the same.
abbrev pub IsAgenda : {K T : Type 0} → Rules K T → Type 0
IsAgenda {K} {T} r = (w : World K) (tasks : List T) → all_finished r w tasks ≡ cond w.cut w (agenda r w.budget w tasks)
