-- Messages leave the values of signals that boxes keep in their range, and so does a whole delivery.
use Rattle.std.proofs.Common.{ℕ, ℤ, true, List, [], Option, sym, subst}
use Rattle.pd_atom.specs.Names.{Names}
use Rattle.pd_atom.specs.declared.Atom.{Atom}
use Rattle.pd_object.specs.declared.kinds.Kind.{Kind}
use Rattle.pd_kind.specs.declared.messages.Deed.{Deed}
use Rattle.pd_kind.specs.declared.states.State.{State}
use Rattle.pd_glue.specs.Rows.{resumed}
use Rattle.pd_turns.specs.Turns.{World}
use Rattle.pd_walk.specs.declared.walker.Budget.{Budget}
use Rattle.pd_walk.specs.declared.walker.Start.{Start}
use Rattle.pd_hearing.specs.Worlds.{Net, Kept}
use Rattle.pd_hearing.specs.Hearing.{heard_kind, heard_at, resumed_at}
use Rattle.pd_hearing.specs.Deeds.{done}
use Rattle.pd_stack.specs.Tasks.{Task, Deliver, Ask, Resume, Nobody}
use Rattle.pd_walk.specs.Acts.{kept_after, rules}
use Rattle.pd_walk.specs.Outcome.{world, outcome, IsLeft}
use Rattle.pd_keeping_law.specs.Changes.{Becomes, AllBecome}
use Rattle.pd_keeping_law.proofs.ChangeLemmas.{all_kept}
use Rattle.pd_keeping_law.proofs.RunLemmas.{kind_becomes, again_becomes, at_becomes, resumed_at-becomes, done_becomes}
use Rattle.pd_guards.specs.Order.{IsMessage}
use Rattle.pd_guards.specs.Worlds.{IsInOrder, IsTask, IsStart}
use Rattle.pd_guards.specs.Sounds.{HasValues, HaveValues, IsSounding, sound_with}
use Rattle.pd_guards.proofs.HeldLemmas.{in_order, order_said, value_kept}
use Rattle.pd_guards.proofs.WalkLemmas.{name_in, asked_in, done_in, IsTaskAt, stays_in, others_in, follow_in, Delivers, outcome_ends}
use Rattle.pd_guards.proofs.SameTurns.{Agree, agree_self}

pub kind_sounds : (names : Names) (k : Kind) (s : State) (inlet selector : ℕ) (atoms : List Atom) (now : ℕ) (table : Option (List ℤ)) → IsMessage names selector atoms → HasValues s
    → HasValues (heard_kind names k s inlet selector atoms now table).state
kind_sounds names k s inlet selector atoms now table m h = value_kept (kind_becomes in_order names s inlet selector atoms now table (order_said names selector atoms m.list.all) k) h

pub again_sounds : (k : Kind) (s : State) → HasValues s → HasValues (resumed k s).state
again_sounds k s h = value_kept (again_becomes in_order k s) h

-- among the boxes of a patch
values_kept : (old new : ℕ → Option State) → AllBecome in_order old new → HaveValues old → HaveValues new
values_kept old new r a = all_kept (Becomes in_order) HasValues (λ s t q h. value_kept q h) old new r a

pub at_sounds : (net : Net) (now : ℕ) (names : Names) (states : ℕ → Option State) (node inlet selector : ℕ) (atoms : List Atom) → IsMessage names selector atoms → HaveValues states
    → HaveValues (heard_at net now states names node inlet selector atoms).states
at_sounds net now names states node inlet selector atoms m a =
    values_kept states (heard_at net now states names node inlet selector atoms).states (at_becomes in_order net names states node now inlet selector atoms (order_said names selector atoms m.list.all)) a

pub resumed_at-sounds : (net : Net) (names : Names) (states : ℕ → Option State) (node : ℕ) → HaveValues states → HaveValues (resumed_at net states names node).states
resumed_at-sounds net names states node a = values_kept states (resumed_at net states names node).states (resumed_at-becomes in_order net names states node) a

pub done_sounds : (net : Net) (now node : ℕ) (d : Deed) (kept : Kept) → HaveValues kept.states → HaveValues (done net now node d kept).states
done_sounds net now node d kept a = values_kept kept.states (done net now node d kept).states (done_becomes in_order net now node d kept) a

-- deliveries
module _ (net : Net) (now : ℕ) where
  record IsSteady (kept : Kept) : Type 0 where
    order : IsInOrder net now kept
    values : HaveValues kept.states

  after_sounds : (kept : Kept) (t : Task) → IsSteady kept → IsTask kept.names t → HaveValues (kept_after net now kept t).states
  unfolding kept_after
  after_sounds kept (Deliver depth node inlet selector atoms) h m =
      let r = heard_at net now kept.states kept.names node inlet selector atoms in
      done_sounds net now node r.said.deed _ (at_sounds net now kept.names kept.states node inlet selector atoms m h.values)
  after_sounds kept (Ask depth canvas selector atoms) h m = h.values
  after_sounds kept (Resume depth node) h m =
      let r = resumed_at net kept.states kept.names node in
      done_sounds net now node r.said.deed _ (resumed_at-sounds net kept.names kept.states node h.values)
  after_sounds kept (Nobody name) h m = h.values

  steady : Agree (rules net now) (rules net now) IsSteady (IsTaskAt net now)
  steady =
      agree_self (rules net now) IsSteady (IsTaskAt net now) (λ kept t h m. record { order = stays_in net now kept t h.order m; values = after_sounds kept t h m })
      (λ kept t h m. others_in net now kept t h.order m) (λ kept t h m. follow_in net now kept t h.order m)

  delivers : Delivers net now (rules net now) IsSteady (IsTaskAt net now)
  delivers = record {
    agree = steady;
    order = λ kept h. h.order;
    deeds = λ kept node d h k. record { order = done_in net now node d kept h.order k; values = done_sounds net now node d kept h.values };
    asks = λ kept node said k. asked_in kept.names net 0 node said k;
    names = λ kept selector atoms name m k. name_in kept.names net 1 0 selector atoms name true m k;
  }

  pub outcome_sounds : (w : World Kept) (s : Start) → IsInOrder net now w.kept → IsStart w.kept.names s → HaveValues w.kept.states → HaveValues (outcome net now w s).kept.states
  outcome_sounds w s h k a = (outcome_ends net now (rules net now) IsSteady (IsTaskAt net now) delivers w s (record { order = h; values = a }) k).1.values

  pub left_sounds : (before after : Kept) (budget rest : Budget) (s : Start) (old new : Option (List ℕ)) → IsInOrder net now before → IsStart before.names s → IsSounding (sound_with net before)
      → IsLeft after rest old new (outcome net now (world before budget []) s) → IsSounding (sound_with net after)
  left_sounds before after budget rest s old new h k a left =
      record { states = subst (λ (x : Kept). HaveValues x.states) (sym left.kept_is) (outcome_sounds (world before budget []) s h k a.states); blocks = a.blocks }
