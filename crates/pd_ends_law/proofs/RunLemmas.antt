-- Messages leave the end of the block that each `vline~` ran last, and so does a whole delivery.
use Rattle.std.proofs.Common.{◌≡◌, ℕ, ℤ, ◌==◌, true, List, [], ◌∷◌, Option, Some, None, IfSome, option_map, refl, sym, ap, subst, ◌∙◌}
use Rattle.std.proofs.lemmas.Bool.{eqb-true}
use Rattle.std.specs.List.{AllByRecursion}
use Rattle.pd_atom.specs.Names.{Names}
use Rattle.pd_atom.specs.declared.Atom.{Atom}
use Rattle.pd_object.specs.declared.kinds.Kind.{Kind}
use Rattle.pd_object.specs.declared.kinds.Kind.TheVariants as kind
use Rattle.pd_kind.specs.declared.messages.Deed.{Deed}
use Rattle.pd_kind.specs.declared.messages.Deed.TheVariants as deed
use Rattle.pd_kind.specs.declared.states.State.{State}
use Rattle.pd_kind.specs.declared.states.State.TheVariants as state
use Rattle.pd_kind.specs.Said.{Said}
use Rattle.pd_kind.specs.Tables.{with_value}
use Rattle.pd_vline.specs.Rows.{IsOpen}
use Rattle.pd_glue.specs.Rows.{resumed}
use Rattle.pd_grove.specs.Telling.{kind_in}
use Rattle.pd_turns.specs.Turns.{World}
use Rattle.pd_walk.specs.declared.walker.Budget.{Budget}
use Rattle.pd_walk.specs.declared.walker.Start.{Start}
use Rattle.pd_walk.specs.declared.walker.Start.TheVariants as start
use Rattle.pd_hearing.specs.Worlds.{Net, Kept, set_at}
use Rattle.pd_hearing.specs.Hearing.{table_in, table_named, table_owner, heard_in, heard_with, heard_at, resumed_in, resumed_with, resumed_at, fired_at, loaded_at}
use Rattle.pd_hearing.specs.Deeds.{written_at, written, done, replied}
use Rattle.pd_stack.specs.Tasks.{Task, Deliver, Ask, Resume, Nobody}
use Rattle.pd_walk.specs.Acts.{kept_after, rules, asked_for}
use Rattle.pd_walk.specs.Outcome.{world, ran, after_deed, told_by, all_loaded, named_tasks, outcome, IsLeft}
use Rattle.pd_guards.proofs.SameTurns.{Agree, all_same}
use Rattle.pd_sized.specs.Kinds.{KeepsOfKind}
use Rattle.pd_sized.proofs.KindLemmas.{kinds_last}
use Rattle.pd_sized.proofs.AlikeRunLemmas.{at_alike, resumed_at-alike, done_alike}
use Rattle.pd_ends_law.specs.Ends.{kinds_in}
use Rattle.pd_ends_law.proofs.OpenLemmas.{AllOpen, all_open, set_open}
use Rattle.pd_ends_law.proofs.LineLemmas.{vline_open}

-- a state that a box has
kept_at : (t : ℕ) (states : ℕ → Option State) (node : ℕ) (s : State) → AllOpen t states → states node ≡ Some s → IsOpen t s
kept_at t states node s a e = subst (λ (o : Option State). IfSome o (IsOpen t)) e (a node)

-- a `vline~` does nothing when it is resumed
again_open : (t : ℕ) (s : State) → IsOpen t s → IsOpen t (resumed kind.Vline s).state
unfolding resumed
again_open t s h = h

module _ (t : ℕ) (net : Net) (names : Names) (states : ℕ → Option State) (kinds : KeepsOfKind (kinds_in net) states) (a : AllOpen t states) (node : ℕ) where
  in_open : (now inlet selector : ℕ) (atoms : List Atom) (table : Option (List ℤ)) (o : Option Kind) (s : State) → o ≡ Some kind.Vline → IsOpen t s
      → IsOpen t (heard_in names o s inlet selector atoms now table).state
  in_open now inlet selector atoms table o s e h =
      subst (λ (x : Option Kind). IsOpen t (heard_in names x s inlet selector atoms now table).state) (sym e) (vline_open t names now s inlet selector atoms table h)

  -- the same box
  kind_here : (k : ℕ) → kinds_in net k ≡ Some kind.Vline → (k == node) ≡ true → kinds_in net node ≡ Some kind.Vline
  kind_here k v e = ap (kinds_in net) (sym (eqb-true k node e)) ∙ v

  with_open : (now inlet selector : ℕ) (atoms : List Atom) (o : Option State) → states node ≡ o → (k : ℕ) → kinds_in net k ≡ Some kind.Vline
      → IfSome ((heard_with net now states names node inlet selector atoms o).states k) (IsOpen t)
  with_open now inlet selector atoms None e k v = a k
  with_open now inlet selector atoms (Some s) e k v =
      let table : Option (List ℤ) = table_in net (set_at states node None) (table_named (kinds_in net node)) in
      set_open t states node (Some (heard_in names (kinds_in net node) s inlet selector atoms now table).state) k (a k)
      (λ b. in_open now inlet selector atoms table (kinds_in net node) s (kind_here k v b) (kept_at t states node s a e))

  line_at : (now inlet selector : ℕ) (atoms : List Atom) (k : ℕ) → kinds_in net k ≡ Some kind.Vline → IfSome ((heard_at net now states names node inlet selector atoms).states k) (IsOpen t)
  unfolding heard_at
  line_at now inlet selector atoms k v = with_open now inlet selector atoms (states node) refl k v

  pub at_open : (now inlet selector : ℕ) (atoms : List Atom) → AllOpen t (heard_at net now states names node inlet selector atoms).states
  at_open now inlet selector atoms =
      all_open t (kinds_in net) (heard_at net now states names node inlet selector atoms).states
      (kinds_last (kinds_in net) states (heard_at net now states names node inlet selector atoms).states kinds (at_alike net names states node now inlet selector atoms))
      (line_at now inlet selector atoms)

  resumed_open : (o : Option Kind) (s : State) → o ≡ Some kind.Vline → IsOpen t s → IsOpen t (resumed_in names o s).state
  resumed_open o s e h = subst (λ (x : Option Kind). IsOpen t (resumed_in names x s).state) (sym e) (again_open t s h)

  resumed_with-open : (o : Option State) → states node ≡ o → (k : ℕ) → kinds_in net k ≡ Some kind.Vline → IfSome ((resumed_with net states names node o).states k) (IsOpen t)
  resumed_with-open None e k v = a k
  resumed_with-open (Some s) e k v =
      set_open t states node (Some (resumed_in names (kinds_in net node) s).state) k (a k) (λ b. resumed_open (kinds_in net node) s (kind_here k v b) (kept_at t states node s a e))

  line_again : (k : ℕ) → kinds_in net k ≡ Some kind.Vline → IfSome ((resumed_at net states names node).states k) (IsOpen t)
  unfolding resumed_at
  line_again k v = resumed_with-open (states node) refl k v

  pub resumed_at-open : AllOpen t (resumed_at net states names node).states
  resumed_at-open =
      all_open t (kinds_in net) (resumed_at net states names node).states
      (kinds_last (kinds_in net) states (resumed_at net states names node).states kinds (resumed_at-alike net names states node)) line_again

-- deeds
module _ (t : ℕ) where
  value_open : (s : State) (i : ℕ) (z : ℤ) → IsOpen t s → IsOpen t (with_value s i z)
  value_open (state.Table values) i z h = tt
  value_open (state.Array values) i z h = tt
  value_open s i z h = h

  mapped_open : (i : ℕ) (z : ℤ) (o : Option State) → IfSome o (IsOpen t) → IfSome (option_map (λ s. with_value s i z) o) (IsOpen t)
  mapped_open i z None h = tt
  mapped_open i z (Some s) h = value_open s i z h

  written_at-open : (states : ℕ → Option State) (i : ℕ) (z : ℤ) (o : Option ℕ) → AllOpen t states → AllOpen t (written_at states i z o)
  written_at-open states i z None a = a
  written_at-open states i z (Some k) a = λ j. set_open t states k (option_map (λ s. with_value s i z) (states k)) j (a j) (λ e. mapped_open i z (states k) (a k))

  written_open : (net : Net) (states : ℕ → Option State) (i : ℕ) (z : ℤ) (o : Option ℕ) → AllOpen t states → AllOpen t (written net states i z o)
  written_open net states i z None a = a
  written_open net states i z (Some name) a = written_at-open states i z (table_owner net name) a

  pub done_open : (net : Net) (now node : ℕ) (d : Deed) (kept : Kept) → AllOpen t kept.states → AllOpen t (done net now node d kept).states
  unfolding done
  done_open net now node (deed.SetClock time) kept a = a
  done_open net now node deed.ClearClock kept a = a
  done_open net now node (deed.WriteTable i z) kept a = written_open net kept.states i z (table_named (kind_in (net.nodes node))) a
  done_open net now node deed.Nothing kept a = a
  done_open net now node deed.Print kept a = a
  done_open net now node deed.Again kept a = a

-- deliveries
module _ (net : Net) (now t : ℕ) where
  -- what boxes keep is of their kinds, and no `vline~` has run a later block
  record Lasts (kept : Kept) : Type 0 where
    kinds : KeepsOfKind (kinds_in net) kept.states
    opened : AllOpen t kept.states

  -- nothing is asked of a task
  abbrev AnyTask : Kept → Task → Type 0
  AnyTask kept x = Unit {0}

  any_tasks : (kept : Kept) (xs : List Task) → AllByRecursion (AnyTask kept) xs
  any_tasks kept [] = tt
  any_tasks kept (x ∷ xs) = (tt, any_tasks kept xs)

  deed_lasts : (node : ℕ) (d : Deed) (kept : Kept) → Lasts kept → Lasts (done net now node d kept)
  deed_lasts node d kept h = record {
    kinds = kinds_last (kinds_in net) kept.states (done net now node d kept).states h.kinds (done_alike net now node d kept);
    opened = done_open t net now node d kept h.opened;
  }

  after_lasts : (kept : Kept) (x : Task) → Lasts kept → Lasts (kept_after net now kept x)
  unfolding kept_after
  after_lasts kept (Deliver depth node inlet selector atoms) h =
      let r = heard_at net now kept.states kept.names node inlet selector atoms in
      deed_lasts node r.said.deed (replied kept r) (record {
        kinds = kinds_last (kinds_in net) kept.states r.states h.kinds (at_alike net kept.names kept.states node now inlet selector atoms);
        opened = at_open t net kept.names kept.states h.kinds h.opened node now inlet selector atoms;
      })
  after_lasts kept (Ask depth canvas selector atoms) h = record { kinds = h.kinds; opened = h.opened }
  after_lasts kept (Resume depth node) h =
      let r = resumed_at net kept.states kept.names node in
      deed_lasts node r.said.deed (replied kept r) (record {
        kinds = kinds_last (kinds_in net) kept.states r.states h.kinds (resumed_at-alike net kept.names kept.states node);
        opened = resumed_at-open t net kept.names kept.states h.kinds h.opened node;
      })
  after_lasts kept (Nobody name) h = h

  steady : Agree (rules net now) (rules net now) Lasts AnyTask
  steady = record {
    kept = λ kept x h m. refl;
    said = λ kept x h m. refl;
    caused = λ kept x h m. refl;
    costs = λ x. refl;
    cut = refl;
    stays = λ kept x h m. after_lasts kept x h;
    others = λ kept x h m u j. tt;
    follow = λ kept x h m. any_tasks (kept_after net now kept x) ((rules net now).caused kept x);
  }

  ran_lasts : (w : World Kept) (xs : List Task) → Lasts w.kept → Lasts (ran net now w xs).kept
  ran_lasts w xs h = (all_same (rules net now) (rules net now) Lasts AnyTask steady w xs h (any_tasks w.kept xs)).after.kept

  told_lasts : (node : ℕ) (said : Said) (w : World Kept) → Lasts w.kept → Lasts (told_by net now node said w).kept
  told_lasts node said w h = ran_lasts (after_deed net now node said w) (asked_for net 0 node said) (deed_lasts node said.deed w.kept h)

  loaded_lasts : (w : World Kept) (nodes : List ℕ) → Lasts w.kept → Lasts (all_loaded net now w nodes).kept
  loaded_lasts w [] h = h
  loaded_lasts w (node ∷ nodes) h = loaded_lasts (told_by net now node (loaded_at net w.kept.states node) w) nodes (told_lasts node (loaded_at net w.kept.states node) w h)

  outcome_lasts : (w : World Kept) (s : Start) → Lasts w.kept → Lasts (outcome net now w s).kept
  unfolding outcome
  outcome_lasts w (start.Name name message) h = ran_lasts w (named_tasks net name message.selector message.atoms.now) h
  outcome_lasts w (start.Clock owner) h = told_lasts owner (fired_at net w.kept.states owner) w h
  outcome_lasts w (start.Loads boxes) h = loaded_lasts w boxes.now h

  pub outcome_open : (w : World Kept) (s : Start) → KeepsOfKind (kinds_in net) w.kept.states → AllOpen t w.kept.states → AllOpen t (outcome net now w s).kept.states
  outcome_open w s kinds a = (outcome_lasts w s (record { kinds = kinds; opened = a })).opened

  pub left_open : (before after : Kept) (budget rest : Budget) (s : Start) (old new : Option (List ℕ)) → KeepsOfKind (kinds_in net) before.states → AllOpen t before.states
      → IsLeft after rest old new (outcome net now (world before budget []) s) → AllOpen t after.states
  left_open before after budget rest s old new kinds a left = subst (λ (x : Kept). AllOpen t x.states) (sym left.kept_is) (outcome_open (world before budget []) s kinds a)
