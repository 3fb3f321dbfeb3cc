-- What boxes keep after messages and whole deliveries.
use Rattle.std.proofs.Common.{◌≡◌, ℕ, ℤ, ◌^◌, ◌&&◌, nat_le, List, [], ◌∷◌, Option, Some, None, option_map, refl, sym, subst}
use Rattle.std.specs.List.{AllByRecursion}
use Rattle.pd_atom.specs.Names.{Names}
use Rattle.pd_atom.specs.declared.Atom.{Atom}
use Rattle.pd_object.specs.declared.kinds.Kind.{Kind}
use Rattle.pd_object.specs.declared.kinds.Kind.TheVariants as kind
use Rattle.pd_object.specs.declared.kinds.Glue.{Glue}
use Rattle.pd_object.specs.declared.kinds.Glue.TheVariants as glue
use Rattle.pd_kind.specs.declared.messages.Deed.{Deed}
use Rattle.pd_kind.specs.declared.messages.Deed.TheVariants as deed
use Rattle.pd_kind.specs.declared.states.State.{State}
use Rattle.pd_kind.specs.declared.states.State.TheVariants as state
use Rattle.pd_kind.specs.Said as saying
use Rattle.pd_kind.specs.Tables.{with_value}
use Rattle.pd_glue.specs.Rows.{Hearing, tone_row, signal_row, glue_heard, heard, resumed}
use Rattle.pd_grove.specs.Telling.{kind_in}
use Rattle.pd_turns.specs.Turns.{World}
use Rattle.pd_walk.specs.declared.walker.Budget.{Budget}
use Rattle.pd_walk.specs.declared.walker.Start.{Start}
use Rattle.pd_walk.specs.declared.walker.Start.TheVariants as start
use Rattle.pd_hearing.specs.Worlds.{Net, Kept, set_at}
use Rattle.pd_hearing.specs.Guards.{is_message, is_table, is_small, is_open}
use Rattle.pd_hearing.specs.Hearing.{table_in, table_named, table_owner, heard_other, heard_by, heard_kind, heard_in, heard_with, heard_at, resumed_in, resumed_with, resumed_at, fired_at, loaded_at}
use Rattle.pd_hearing.specs.Deeds.{written_at, written, done}
use Rattle.pd_stack.specs.Tasks.{Task, Deliver, Ask, Resume, Nobody}
use Rattle.pd_walk.specs.Acts.{kept_after, rules, asked_for}
use Rattle.pd_walk.specs.Outcome.{world, ran, after_deed, told_by, all_loaded, named_tasks, outcome, IsLeft}
use Rattle.pd_keeping_law.specs.Changes.{Sayings, anything, Becomes, Passes, absent, AllBecome}
use Rattle.pd_keeping_law.specs.Changes as change
use Rattle.pd_keeping_law.proofs.FactLemmas.{either}
use Rattle.pd_keeping_law.proofs.SameTurns.{Agree, agree_self, all_same}
use Rattle.pd_keeping_law.proofs.ChangeLemmas.{IsSaid, any_said, becoming, all_still, onward, set_passes, box_passes}
use Rattle.pd_keeping_law.proofs.RowLemmas.{plain_becomes, list_becomes, message_becomes, arith_becomes, panel_becomes, resumed_becomes}
use Rattle.pd_keeping_law.proofs.HeldLemmas.{row_becomes, line_becomes}

module _ (Said : Sayings) where
  module _ (names : Names) (s : State) (inlet selector : ℕ) (atoms : List Atom) (now : ℕ) (table : Option (List ℤ)) (m : IsSaid Said names selector atoms) where
    abbrev Leaves : Hearing → Type 0
    Leaves h = Becomes Said s h.state

    glue_becomes : (g : Glue) → Leaves (glue_heard names g s inlet selector atoms now table)
    glue_becomes (glue.Message text) = message_becomes Said names s selector atoms m
    glue_becomes (glue.Trigger w outs) = list_becomes Said (glue.Trigger w outs) s inlet selector atoms
    glue_becomes (glue.Pack slots) = list_becomes Said (glue.Pack slots) s inlet selector atoms
    glue_becomes (glue.Unpack slots) = list_becomes Said (glue.Unpack slots) s inlet selector atoms
    glue_becomes (glue.Route args) = list_becomes Said (glue.Route args) s inlet selector atoms
    glue_becomes (glue.Select w args) = list_becomes Said (glue.Select w args) s inlet selector atoms
    glue_becomes (glue.ListAppend w a) = list_becomes Said (glue.ListAppend w a) s inlet selector atoms
    glue_becomes (glue.ListPrepend a) = list_becomes Said (glue.ListPrepend a) s inlet selector atoms
    glue_becomes (glue.ListSplit z) = list_becomes Said (glue.ListSplit z) s inlet selector atoms
    glue_becomes glue.ListTrim = list_becomes Said glue.ListTrim s inlet selector atoms
    glue_becomes glue.ListLength = list_becomes Said glue.ListLength s inlet selector atoms
    glue_becomes g = plain_becomes Said names g s inlet selector atoms now table

    control_becomes : (x : Kind) → Leaves (heard names x s inlet selector atoms now table)
    unfolding heard
    control_becomes (kind.Glue g) = glue_becomes g
    control_becomes (kind.Tone t) = row_becomes Said names (tone_row t) s inlet selector atoms m.numbers
    control_becomes (kind.Signal g) = row_becomes Said names (signal_row g) s inlet selector atoms m.numbers
    control_becomes x = change.same

    other_becomes : (x : Kind) → Leaves (heard_other names x s inlet selector atoms now table)
    other_becomes x = either Leaves (is_table table && is_small names x s) _ _ (control_becomes x) change.same

    by_becomes : (x : Kind) → Leaves (heard_by names x s inlet selector atoms now table)
    by_becomes (kind.Arith a) = arith_becomes Said (kind.Arith a) s inlet selector atoms
    by_becomes (kind.Panel p) = panel_becomes Said names (kind.Panel p) s selector atoms
    by_becomes kind.Vline = either Leaves (nat_le now (2 ^ 101) && is_open now s) _ _ (line_becomes Said names now kind.Vline s inlet selector atoms m.numbers) change.same
    by_becomes (kind.Glue g) = other_becomes (kind.Glue g)
    by_becomes (kind.Tone g) = other_becomes (kind.Tone g)
    by_becomes (kind.Signal g) = other_becomes (kind.Signal g)
    by_becomes kind.Unmade = other_becomes kind.Unmade
    by_becomes kind.Canvas = other_becomes kind.Canvas

    pub kind_becomes : (x : Kind) → Leaves (heard_kind names x s inlet selector atoms now table)
    unfolding heard_kind
    kind_becomes x = either Leaves (is_message names selector atoms) _ _ (by_becomes x) change.same

    some_becomes : (o : Option Kind) → Leaves (heard_in names o s inlet selector atoms now table)
    some_becomes None = change.same
    some_becomes (Some x) = kind_becomes x

  pub again_becomes : (k : Kind) (s : State) → Becomes Said s (resumed k s).state
  unfolding resumed
  again_becomes (kind.Glue g) s = resumed_becomes Said g s
  again_becomes k s = change.same

  -- among the boxes of a patch
  module _ (net : Net) (names : Names) (states : ℕ → Option State) (node : ℕ) where
    box_left : (s t : State) → states node ≡ Some s → Becomes Said s t → AllBecome Said states (set_at states node (Some t))
    box_left s t e r = set_passes (Becomes Said) (becoming Said) states node (Some t) (box_passes (Becomes Said) (becoming Said) (states node) s t e r)

    with_becomes : (now inlet selector : ℕ) (atoms : List Atom) → IsSaid Said names selector atoms → (o : Option State) → states node ≡ o
        → AllBecome Said states (heard_with net now states names node inlet selector atoms o).states
    with_becomes now inlet selector atoms m None e = all_still (Becomes Said) (becoming Said) states
    with_becomes now inlet selector atoms m (Some s) e =
        let table = table_in net (set_at states node None) (table_named (kind_in (net.nodes node))) in
        box_left s (heard_in names (kind_in (net.nodes node)) s inlet selector atoms now table).state e (some_becomes names s inlet selector atoms now table m (kind_in (net.nodes node)))

    pub at_becomes : (now inlet selector : ℕ) (atoms : List Atom) → IsSaid Said names selector atoms → AllBecome Said states (heard_at net now states names node inlet selector atoms).states
    unfolding heard_at
    at_becomes now inlet selector atoms m = with_becomes now inlet selector atoms m (states node) refl

    resumed_some : (o : Option Kind) (s : State) → Becomes Said s (resumed_in names o s).state
    resumed_some None s = change.same
    resumed_some (Some k) s = again_becomes k s

    resumed_with-becomes : (o : Option State) → states node ≡ o → AllBecome Said states (resumed_with net states names node o).states
    resumed_with-becomes None e = all_still (Becomes Said) (becoming Said) states
    resumed_with-becomes (Some s) e = box_left s (resumed_in names (kind_in (net.nodes node)) s).state e (resumed_some (kind_in (net.nodes node)) s)

    pub resumed_at-becomes : AllBecome Said states (resumed_at net states names node).states
    unfolding resumed_at
    resumed_at-becomes = resumed_with-becomes (states node) refl

  -- deeds
  value_becomes : (s : State) (i : ℕ) (z : ℤ) → Becomes Said s (with_value s i z)
  value_becomes (state.Table values) i z = change.table i z
  value_becomes (state.Array values) i z = change.array i z
  value_becomes s i z = change.same

  mapped_becomes : (i : ℕ) (z : ℤ) (o : Option State) → Passes (Becomes Said) o (option_map (λ s. with_value s i z) o)
  mapped_becomes i z None = absent
  mapped_becomes i z (Some s) = change.kept (value_becomes s i z)

  written_at-becomes : (states : ℕ → Option State) (i : ℕ) (z : ℤ) (o : Option ℕ) → AllBecome Said states (written_at states i z o)
  written_at-becomes states i z None = all_still (Becomes Said) (becoming Said) states
  written_at-becomes states i z (Some k) = set_passes (Becomes Said) (becoming Said) states k (option_map (λ s. with_value s i z) (states k)) (mapped_becomes i z (states k))

  written_becomes : (net : Net) (states : ℕ → Option State) (i : ℕ) (z : ℤ) (o : Option ℕ) → AllBecome Said states (written net states i z o)
  written_becomes net states i z None = all_still (Becomes Said) (becoming Said) states
  written_becomes net states i z (Some name) = written_at-becomes states i z (table_owner net name)

  pub done_becomes : (net : Net) (now node : ℕ) (d : Deed) (kept : Kept) → AllBecome Said kept.states (done net now node d kept).states
  unfolding done
  done_becomes net now node (deed.SetClock time) kept = all_still (Becomes Said) (becoming Said) kept.states
  done_becomes net now node deed.ClearClock kept = all_still (Becomes Said) (becoming Said) kept.states
  done_becomes net now node (deed.WriteTable i z) kept = written_becomes net kept.states i z (table_named (kind_in (net.nodes node)))
  done_becomes net now node deed.Nothing kept = all_still (Becomes Said) (becoming Said) kept.states
  done_becomes net now node deed.Print kept = all_still (Becomes Said) (becoming Said) kept.states
  done_becomes net now node deed.Again kept = all_still (Becomes Said) (becoming Said) kept.states

-- Deliveries: whatever holds of what is kept, where each task and each deed leave it, holds after them.
pub record IsLeftByAll (net : Net) (now : ℕ) (Holds : Kept → Type 0) : Type 0 where
  pub tasks : (kept : Kept) (t : Task) → Holds kept → Holds (kept_after net now kept t)
  pub deeds : (kept : Kept) (node : ℕ) (d : Deed) → Holds kept → Holds (done net now node d kept)

module _ (net : Net) (now : ℕ) (Holds : Kept → Type 0) (left : IsLeftByAll net now Holds) where
  -- nothing is asked of a task
  abbrev AnyTask : Kept → Task → Type 0
  AnyTask kept t = Unit {0}

  any_tasks : (kept : Kept) (ts : List Task) → AllByRecursion (AnyTask kept) ts
  any_tasks kept [] = tt
  any_tasks kept (t ∷ ts) = (tt, any_tasks kept ts)

  agree : Agree (rules net now) (rules net now) Holds AnyTask
  agree = agree_self (rules net now) Holds AnyTask (λ kept t h m. left.tasks kept t h) (λ kept t h m u j. tt) (λ kept t h m. any_tasks (kept_after net now kept t) ((rules net now).caused kept t))

  ran_keeps : (w : World Kept) (ts : List Task) → Holds w.kept → Holds (ran net now w ts).kept
  ran_keeps w ts h = (all_same (rules net now) (rules net now) Holds AnyTask agree w ts h (any_tasks w.kept ts)).after.kept

  told_keeps : (node : ℕ) (said : saying.Said) (w : World Kept) → Holds w.kept → Holds (told_by net now node said w).kept
  told_keeps node said w h = ran_keeps (after_deed net now node said w) (asked_for net 0 node said) (left.deeds w.kept node said.deed h)

  loaded_keeps : (w : World Kept) (nodes : List ℕ) → Holds w.kept → Holds (all_loaded net now w nodes).kept
  loaded_keeps w [] h = h
  loaded_keeps w (node ∷ nodes) h = loaded_keeps (told_by net now node (loaded_at net w.kept.states node) w) nodes (told_keeps node (loaded_at net w.kept.states node) w h)

  pub outcome_keeps : (w : World Kept) (s : Start) → Holds w.kept → Holds (outcome net now w s).kept
  unfolding outcome
  outcome_keeps w (start.Name name message) h = ran_keeps w (named_tasks net name message.selector message.atoms.now) h
  outcome_keeps w (start.Clock owner) h = told_keeps owner (fired_at net w.kept.states owner) w h
  outcome_keeps w (start.Loads boxes) h = loaded_keeps w boxes.now h

-- since what the boxes kept at first
module _ (net : Net) (now : ℕ) (base : ℕ → Option State) where
  abbrev Since : Kept → Type 0
  Since kept = AllBecome anything base kept.states

  deed_becomes : (kept : Kept) (node : ℕ) (d : Deed) → Since kept → Since (done net now node d kept)
  deed_becomes kept node d h = onward (Becomes anything) (becoming anything) base kept.states (done net now node d kept).states h (done_becomes anything net now node d kept)

  after_becomes : (kept : Kept) (t : Task) → Since kept → Since (kept_after net now kept t)
  unfolding kept_after
  after_becomes kept (Deliver depth node inlet selector atoms) h =
      let r = heard_at net now kept.states kept.names node inlet selector atoms in
      deed_becomes _ node r.said.deed (onward (Becomes anything) (becoming anything) base kept.states r.states h (at_becomes anything net kept.names kept.states node now inlet selector atoms (any_said kept.names selector atoms)))
  after_becomes kept (Ask depth canvas selector atoms) h = h
  after_becomes kept (Resume depth node) h =
      let r = resumed_at net kept.states kept.names node in
      deed_becomes _ node r.said.deed (onward (Becomes anything) (becoming anything) base kept.states r.states h (resumed_at-becomes anything net kept.names kept.states node))
  after_becomes kept (Nobody name) h = h

  outcome_since : (w : World Kept) (s : Start) → Since w.kept → Since (outcome net now w s).kept
  outcome_since w s h = outcome_keeps net now Since (record { tasks = after_becomes; deeds = deed_becomes }) w s h

pub outcome_becomes : (net : Net) (now : ℕ) (w : World Kept) (s : Start) → AllBecome anything w.kept.states (outcome net now w s).kept.states
outcome_becomes net now w s = outcome_since net now w.kept.states w s (all_still (Becomes anything) (becoming anything) w.kept.states)

pub left_becomes : (net : Net) (now : ℕ) (before after : Kept) (budget rest : Budget) (s : Start) (old new : Option (List ℕ)) → IsLeft after rest old new (outcome net now (world before budget []) s)
    → AllBecome anything before.states after.states
left_becomes net now before after budget rest s old new left =
    subst (λ (x : Kept). AllBecome anything before.states x.states) (sym left.kept_is) (outcome_becomes net now (world before budget []) s)
