-- Messages leave the texts of message boxes settled, and as many values in each array and table; and so does a whole delivery.
use Rattle.std.proofs.Common.{◌≡◌, ◌≤◌, ℕ, ℤ, ◌^◌, length, ◌&&◌, ◌==◌, true, nat_le, List, [], Option, Some, None, IfSome, option_map, refl, sym, subst, ◌∙◌, arith}
use Rattle.std.proofs.Math.ListN.{length-set}
use Rattle.pd_atom.specs.Names.{Names, Extends}
use Rattle.pd_atom.specs.declared.Atom.{Atom}
use Rattle.pd_object.specs.declared.kinds.Kind.{Kind}
use Rattle.pd_object.specs.declared.kinds.Kind.TheVariants as kind
use Rattle.pd_object.specs.declared.kinds.Glue.{Glue}
use Rattle.pd_object.specs.declared.kinds.Glue.TheVariants as glue
use Rattle.pd_kind.specs.declared.messages.Deed.{Deed}
use Rattle.pd_kind.specs.declared.messages.Deed.TheVariants as deed
use Rattle.pd_kind.specs.declared.states.State.{State}
use Rattle.pd_kind.specs.declared.states.State.TheVariants as state
use Rattle.pd_kind.specs.Tables.{with_value}
use Rattle.pd_glue.specs.Rows.{Hearing, tone_row, signal_row, glue_heard, heard, resumed}
use Rattle.pd_grove.specs.Telling.{kind_in}
use Rattle.pd_turns.specs.Turns.{World}
use Rattle.pd_walk.specs.declared.walker.Start.{Start}
use Rattle.pd_hearing.specs.Worlds.{Net, Kept, set_at}
use Rattle.pd_hearing.specs.Guards.{is_message, is_table, is_small, is_open}
use Rattle.pd_hearing.specs.Hearing.{Reply, table_in, table_named, table_owner, heard_other, heard_by, heard_kind, heard_in, heard_with, heard_at, resumed_in, resumed_with, resumed_at}
use Rattle.pd_hearing.specs.Deeds.{written_at, written, done, replied}
use Rattle.pd_stack.specs.Tasks.{Task, Deliver, Ask, Resume, Nobody}
use Rattle.pd_walk.specs.Acts.{kept_by, kept_after, rules}
use Rattle.pd_walk.specs.Outcome.{outcome}
use Rattle.pd_guards.specs.Order.{IsMessage}
use Rattle.pd_guards.specs.Worlds.{IsInOrder, IsTask, IsStart}
use Rattle.pd_guards.proofs.FactLemmas.{either, either_by}
use Rattle.pd_guards.proofs.MoreLemmas.{longer}
use Rattle.pd_guards.proofs.NameLemmas.{same_table}
use Rattle.pd_guards.proofs.WalkLemmas.{name_in, asked_in, done_in, done_names, by_in, by_names, IsTaskAt, stays_in, others_in, follow_in, Delivers, outcome_ends}
use Rattle.pd_guards.proofs.SameTurns.{Agree}
use Rattle.pd_guards.proofs.HearLemmas.{at_in, resumed_reply}
use Rattle.pd_guards.specs.Worlds.{IsReply}
use Rattle.pd_contents_law.specs.Contents.{HasContents, HaveContents, GoesOn}
use Rattle.pd_contents_law.proofs.SettledLemmas.{same_key, onward, message_kept, contents_more}
use Rattle.pd_contents_law.proofs.HearLemmas.{plain_kept, list_kept, arith_kept, panel_kept, resumed_kept}
use Rattle.pd_contents_law.proofs.HeldLemmas.{row_kept, line_kept}

module _ (size : ℕ) (names : Names) (six : 6 ≤ length names) (s : State) (inlet selector : ℕ) (atoms : List Atom) (now : ℕ) (table : Option (List ℤ)) (m : IsMessage names selector atoms) (h : HasContents size names s) where
  abbrev Leaves : Hearing → Type 0
  Leaves r = HasContents size names r.state

  glue_kept : (g : Glue) → Leaves (glue_heard names g s inlet selector atoms now table)
  glue_kept (glue.Message text) = message_kept size names s selector atoms six m.list.all h
  glue_kept (glue.Trigger w outs) = list_kept size names (glue.Trigger w outs) s inlet selector atoms h
  glue_kept (glue.Pack slots) = list_kept size names (glue.Pack slots) s inlet selector atoms h
  glue_kept (glue.Unpack slots) = list_kept size names (glue.Unpack slots) s inlet selector atoms h
  glue_kept (glue.Route args) = list_kept size names (glue.Route args) s inlet selector atoms h
  glue_kept (glue.Select w args) = list_kept size names (glue.Select w args) s inlet selector atoms h
  glue_kept (glue.ListAppend w a) = list_kept size names (glue.ListAppend w a) s inlet selector atoms h
  glue_kept (glue.ListPrepend a) = list_kept size names (glue.ListPrepend a) s inlet selector atoms h
  glue_kept (glue.ListSplit z) = list_kept size names (glue.ListSplit z) s inlet selector atoms h
  glue_kept glue.ListTrim = list_kept size names glue.ListTrim s inlet selector atoms h
  glue_kept glue.ListLength = list_kept size names glue.ListLength s inlet selector atoms h
  glue_kept g = plain_kept size names names g s inlet selector atoms now table h

  control_kept : (x : Kind) → Leaves (heard names x s inlet selector atoms now table)
  unfolding heard
  control_kept (kind.Glue g) = glue_kept g
  control_kept (kind.Tone t) = row_kept size names names (tone_row t) s inlet selector atoms h
  control_kept (kind.Signal g) = row_kept size names names (signal_row g) s inlet selector atoms h
  control_kept x = h

  other_kept : (x : Kind) → Leaves (heard_other names x s inlet selector atoms now table)
  other_kept x = either Leaves (is_table table && is_small names x s) _ _ (control_kept x) h

  by_kept : (x : Kind) → Leaves (heard_by names x s inlet selector atoms now table)
  by_kept (kind.Arith a) = arith_kept size names (kind.Arith a) s inlet selector atoms h
  by_kept (kind.Panel p) = panel_kept size names names (kind.Panel p) s selector atoms h
  by_kept kind.Vline = either Leaves (nat_le now (2 ^ 101) && is_open now s) _ _ (line_kept size names names now kind.Vline s inlet selector atoms h) h
  by_kept (kind.Glue g) = other_kept (kind.Glue g)
  by_kept (kind.Tone g) = other_kept (kind.Tone g)
  by_kept (kind.Signal g) = other_kept (kind.Signal g)
  by_kept kind.Unmade = other_kept kind.Unmade
  by_kept kind.Canvas = other_kept kind.Canvas

  pub kind_kept : (x : Kind) → Leaves (heard_kind names x s inlet selector atoms now table)
  unfolding heard_kind
  kind_kept x = either Leaves (is_message names selector atoms) _ _ (by_kept x) h

  some_kept : (o : Option Kind) → Leaves (heard_in names o s inlet selector atoms now table)
  some_kept None = h
  some_kept (Some x) = kind_kept x

still_six : (a b : ℕ) → 6 ≤ a → a ≤ b → 6 ≤ b
still_six a b h k = omega (arith, h, k)

pub again_kept : (size : ℕ) (names : Names) (k : Kind) (s : State) → HasContents size names s → HasContents size names (resumed k s).state
unfolding resumed
again_kept size names (kind.Glue g) s h = resumed_kept size names g s h
again_kept size names k s h = h

-- among the boxes of a patch
module _ (Own : ℕ → Type 0) (counts : ℕ → ℕ) where
  set_kept : (names : Names) (states : ℕ → Option State) (node : ℕ) (o : Option State) → HaveContents Own counts names states → (Own node → IfSome o (HasContents (counts node) names)) → HaveContents Own counts names (set_at states node o)
  set_kept names states node o a h j own =
      either_by (λ (x : Option State). IfSome x (HasContents (counts j) names)) (j == node) o (states j)
      (λ e. subst (λ i. Own i → IfSome o (HasContents (counts i) names)) (sym (same_key j node e)) h own) (λ e. a j own)

  some_more : (old new : Names) → Extends old new → (n : ℕ) (o : Option State) → IfSome o (HasContents n old) → IfSome o (HasContents n new)
  some_more old new x n None h = tt
  some_more old new x n (Some s) h = contents_more n old new x s h

  pub all_more : (old new : Names) → Extends old new → (states : ℕ → Option State) → HaveContents Own counts old states → HaveContents Own counts new states
  all_more old new x states a k own = some_more old new x (counts k) (states k) (a k own)

  module _ (net : Net) (names : Names) (six : 6 ≤ length names) (states : ℕ → Option State) (a : HaveContents Own counts names states) (node : ℕ) where
    with_kept : (now inlet selector : ℕ) (atoms : List Atom) → IsMessage names selector atoms → (o : Option State) → (Own node → IfSome o (HasContents (counts node) names))
        → HaveContents Own counts names (heard_with net now states names node inlet selector atoms o).states
    with_kept now inlet selector atoms m None h = a
    with_kept now inlet selector atoms m (Some s) h =
        let table = table_in net (set_at states node None) (table_named (kind_in (net.nodes node))) in
        set_kept names states node (Some (heard_in names (kind_in (net.nodes node)) s inlet selector atoms now table).state) a
        (λ own. some_kept (counts node) names six s inlet selector atoms now table m (h own) (kind_in (net.nodes node)))

    at_kept : (now inlet selector : ℕ) (atoms : List Atom) → IsMessage names selector atoms → HaveContents Own counts names (heard_at net now states names node inlet selector atoms).states
    unfolding heard_at
    at_kept now inlet selector atoms m = with_kept now inlet selector atoms m (states node) (a node)

    resumed_some : (o : Option Kind) (s : State) → HasContents (counts node) names s → HasContents (counts node) names (resumed_in names o s).state
    resumed_some None s h = h
    resumed_some (Some k) s h = again_kept (counts node) names k s h

    resumed_with-kept : (o : Option State) → (Own node → IfSome o (HasContents (counts node) names)) → HaveContents Own counts names (resumed_with net states names node o).states
    resumed_with-kept None h = a
    resumed_with-kept (Some s) h = set_kept names states node (Some (resumed_in names (kind_in (net.nodes node)) s).state) a (λ own. resumed_some (kind_in (net.nodes node)) s (h own))

    resumed_at-kept : HaveContents Own counts names (resumed_at net states names node).states
    unfolding resumed_at
    resumed_at-kept = resumed_with-kept (states node) (a node)

  -- deeds
  module _ (names : Names) where
    value_kept : (n : ℕ) (s : State) (i : ℕ) (z : ℤ) → HasContents n names s → HasContents n names (with_value s i z)
    value_kept n (state.Table values) i z h = length-set values i z ∙ h
    value_kept n (state.Array values) i z h = length-set values i z ∙ h
    value_kept n s i z h = h

    mapped_kept : (n i : ℕ) (z : ℤ) (o : Option State) → IfSome o (HasContents n names) → IfSome (option_map (λ s. with_value s i z) o) (HasContents n names)
    mapped_kept n i z None h = tt
    mapped_kept n i z (Some s) h = value_kept n s i z h

    written_at-kept : (states : ℕ → Option State) (i : ℕ) (z : ℤ) (o : Option ℕ) → HaveContents Own counts names states → HaveContents Own counts names (written_at states i z o)
    written_at-kept states i z None a = a
    written_at-kept states i z (Some k) a = set_kept names states k (option_map (λ s. with_value s i z) (states k)) a (λ own. mapped_kept (counts k) i z (states k) (a k own))

    written_kept : (net : Net) (states : ℕ → Option State) (i : ℕ) (z : ℤ) (o : Option ℕ) → HaveContents Own counts names states → HaveContents Own counts names (written net states i z o)
    written_kept net states i z None a = a
    written_kept net states i z (Some name) a = written_at-kept states i z (table_owner net name) a

    done_kept : (net : Net) (now node : ℕ) (d : Deed) (kept : Kept) → HaveContents Own counts names kept.states → HaveContents Own counts names (done net now node d kept).states
    unfolding done
    done_kept net now node (deed.SetClock time) kept a = a
    done_kept net now node deed.ClearClock kept a = a
    done_kept net now node (deed.WriteTable i z) kept a = written_kept net kept.states i z (table_named (kind_in (net.nodes node))) a
    done_kept net now node deed.Nothing kept a = a
    done_kept net now node deed.Print kept a = a
    done_kept net now node deed.Again kept a = a

  -- deliveries from a table of names on
  module _ (net : Net) (now : ℕ) (first : Names) (six : 6 ≤ length first) where
    record IsSteady (kept : Kept) : Type 0 where
      order : IsInOrder net now kept
      on : Extends first kept.names
      contents : HaveContents Own counts kept.names kept.states

    enough : (names : Names) → Extends first names → 6 ≤ length names
    enough names x = still_six (length first) (length names) six (longer first names x)

    -- after a box has acted, in the names that it leaves
    module _ (node : ℕ) (kept : Kept) (h : IsSteady kept) (r : Reply) (k : IsReply kept.names now r) (a : HaveContents Own counts kept.names r.states) where
      by_steady : IsSteady (kept_by net now node kept r)
      by_steady =
          let e : (kept_by net now node kept r).names ≡ r.names = by_names net now node kept h.order r k in
          record {
            order = by_in net now node kept h.order r k;
            on = subst (λ ns. Extends first ns) (sym e) (onward first kept.names r.names h.on k.extends);
            contents = subst (λ ns. HaveContents Own counts ns (kept_by net now node kept r).states) (sym e)
                (done_kept r.names net now node r.said.deed (replied kept r) (all_more kept.names r.names k.extends r.states a));
          }

    after_kept : (kept : Kept) (t : Task) → IsSteady kept → IsTask kept.names t → IsSteady (kept_after net now kept t)
    unfolding kept_after
    after_kept kept (Deliver depth node inlet selector atoms) h m =
        by_steady node kept h (heard_at net now kept.states kept.names node inlet selector atoms)
        (at_in net now h.order.time kept.names h.order.first h.order.kinds kept.states h.order.states node inlet selector atoms m)
        (at_kept net kept.names (enough kept.names h.on) kept.states h.contents node now inlet selector atoms m)
    after_kept kept (Ask depth canvas selector atoms) h m =
        record { order = record { time = h.order.time; first = h.order.first; kinds = h.order.kinds; states = h.order.states }; on = h.on; contents = h.contents }
    after_kept kept (Resume depth node) h m =
        by_steady node kept h (resumed_at net kept.states kept.names node)
        (resumed_reply net now h.order.time kept.names h.order.first h.order.kinds kept.states h.order.states node)
        (resumed_at-kept net kept.names (enough kept.names h.on) kept.states h.contents node)
    after_kept kept (Nobody name) h m = h

    steady : Agree (rules net now) (rules net now) IsSteady (IsTaskAt net now)
    steady = record {
      kept = λ kept t h m. refl;
      said = λ kept t h m. refl;
      caused = λ kept t h m. refl;
      costs = λ t. refl;
      cut = refl;
      stays = λ kept t h m. after_kept kept t h m;
      others = λ kept t h m. others_in net now kept t h.order m;
      follow = λ kept t h m. follow_in net now kept t h.order m;
    }

    deed_steady : (kept : Kept) (node : ℕ) (d : Deed) → IsSteady kept → IsInOrder net now (done net now node d kept) → IsSteady (done net now node d kept)
    deed_steady kept node d h o =
        let e : (done net now node d kept).names ≡ kept.names = done_names net now node d kept in
        record {
          order = o;
          on = subst (λ ns. Extends first ns) (sym e) h.on;
          contents = subst (λ ns. HaveContents Own counts ns (done net now node d kept).states) (sym e) (done_kept kept.names net now node d kept h.contents);
        }

    delivers : Delivers net now (rules net now) IsSteady (IsTaskAt net now)
    delivers = record {
      agree = steady;
      order = λ kept h. h.order;
      deeds = λ kept node d h k. deed_steady kept node d h (done_in net now node d kept h.order k);
      asks = λ kept node said k. asked_in kept.names net 0 node said k;
      names = λ kept selector atoms name m k. name_in kept.names net 1 0 selector atoms name true m k;
    }

    outcome_steady : (w : World Kept) (s : Start) → IsSteady w.kept → IsStart w.kept.names s → IsSteady (outcome net now w s).kept
    outcome_steady w s h k = (outcome_ends net now (rules net now) IsSteady (IsTaskAt net now) delivers w s h k).1

  pub outcome_kept : (net : Net) (now : ℕ) (w : World Kept) (s : Start) → IsInOrder net now w.kept → IsStart w.kept.names s → 6 ≤ length w.kept.names
      → HaveContents Own counts w.kept.names w.kept.states → GoesOn Own counts w.kept.names (outcome net now w s).kept
  outcome_kept net now w s h k six a =
      let e : IsSteady net now w.kept.names six (outcome net now w s).kept =
      outcome_steady net now w.kept.names six w s (record { order = h; on = same_table w.kept.names; contents = a }) k in
      record { names = e.on; contents = e.contents }
