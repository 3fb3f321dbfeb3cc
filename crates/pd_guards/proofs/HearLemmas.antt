-- A box that hears, is resumed, fires or is loaded: what it keeps and says is in order, and nothing was passed over.
use Rattle.std.proofs.Common.{◌≡◌, ◌≤◌, ℕ, ℤ, ◌^◌, ◌==◌, Bool, nat_le, cond, List, Option, Some, None, IfSome, option_and_then, refl, sym, ap, subst, ◌∙◌}
use Rattle.pd_atom.specs.Names.{Names, Extends}
use Rattle.pd_atom.specs.declared.Atom.{Atom}
use Rattle.pd_object.specs.declared.kinds.Kind.{Kind}
use Rattle.pd_object.specs.declared.kinds.Kind.TheVariants as kind
use Rattle.pd_object.specs.declared.kinds.Glue.{Glue}
use Rattle.pd_object.specs.declared.kinds.Glue.TheVariants as glue
use Rattle.pd_kind.specs.declared.states.State.{State}
use Rattle.pd_kind.specs.declared.states.State.TheVariants as state
use Rattle.pd_kind.specs.Tables.{table_of}
use Rattle.pd_glue.specs.Rows as control
use Rattle.pd_glue.specs.Rows.{Hearing, with_names, quiet}
use Rattle.pd_vline.specs.Rows as line
use Rattle.std.proofs.lemmas.Bool.{le-leb}
use Rattle.pd_grove.specs.Telling.{kind_in}
use Rattle.pd_hearing.specs.Worlds.{Net, set_at}
use Rattle.pd_hearing.specs.Guards.{is_table, is_small, is_open}
use Rattle.pd_hearing.specs.Hearing.{table_owner, table_in, table_named, heard_other, heard_by, heard_kind, mute, reply, heard_in, heard_with, heard_at, resumed_in, resumed_with, resumed_at, fired_with, fired_at, glue_loaded, panel_loaded, loaded_kind, loaded_with, loaded_at}
use Rattle.pd_guards.specs.Order.{HasFirst, IsMessage, IsTable, IsKept, IsKind, IsSaid, IsHearing}
use Rattle.pd_guards.specs.Worlds.{AreKept, AreKinds, IsReply}
use Rattle.pd_guards.specs.Freely.{heard_by as free_by, heard_in as free_in, heard_with as free_with, heard_at as free_at}
use Rattle.pd_guards.proofs.FactLemmas.{either}
use Rattle.pd_guards.proofs.BaseLemmas.{silence, bang_said}
use Rattle.pd_guards.proofs.MoreLemmas.{longer, kept_more}
use Rattle.pd_guards.proofs.NameLemmas.{same_table}
use Rattle.pd_guards.proofs.ArithLemmas.{arith_in}
use Rattle.pd_guards.proofs.PanelLemmas.{panel_in, loaded_in}
use Rattle.pd_guards.proofs.LineLemmas.{line_in}
use Rattle.pd_guards.proofs.ControlLemmas.{stays, quiet_in, control_in, fired_said, resumed_kind}
use Rattle.pd_guards.proofs.GuardLemmas.{true_and, message_true, table_true, small_true, open_true}

module _ (names : Names) (first : HasFirst names) (now : ℕ) (time : now ≤ 2 ^ 101) where
  module _ (s : State) (inlet selector : ℕ) (atoms : List Atom) (table : Option (List ℤ)) (k : IsKept names now s) (m : IsMessage names selector atoms) (t : IfSome table IsTable) where
    -- what a box hears freely is in order
    by_in : (x : Kind) → IsKind names x → IsHearing names now (free_by names x s inlet selector atoms now table)
    unfolding free_by
    by_in (kind.Arith a) h = stays names now _ (arith_in names first now (kind.Arith a) s inlet selector atoms k m)
    by_in (kind.Panel p) h = stays names now _ (panel_in names first now (kind.Panel p) s selector atoms h k m)
    by_in kind.Vline h = stays names now _ (line_in names first now now kind.Vline s inlet selector atoms k m)
    by_in x h = control_in names first now x s inlet selector atoms now table h k m t

    -- where nothing is passed over
    other_same : (x : Kind) → IsKind names x → control.heard names x s inlet selector atoms now table ≡ heard_other names x s inlet selector atoms now table
    other_same x h =
        sym (ap (λ (b : Bool). cond b (control.heard names x s inlet selector atoms now table) (quiet names s)) (true_and (is_table table) (is_small names x s) (table_true table t) (small_true names now x s h k)))

    by_same : (x : Kind) → IsKind names x → free_by names x s inlet selector atoms now table ≡ heard_by names x s inlet selector atoms now table
    unfolding free_by
    by_same (kind.Arith a) h = refl
    by_same (kind.Panel p) h = refl
    by_same kind.Vline h =
        sym (ap (λ (b : Bool). cond b (with_names names (line.heard names now kind.Vline s inlet selector atoms)) (quiet names s))
        (true_and (nat_le now (2 ^ 101)) (is_open now s) (le-leb now (2 ^ 101) time) (open_true names now s k)))
    by_same (kind.Glue g) h = other_same (kind.Glue g) h
    by_same (kind.Tone g) h = other_same (kind.Tone g) h
    by_same (kind.Signal g) h = other_same (kind.Signal g) h
    by_same kind.Unmade h = other_same kind.Unmade h
    by_same kind.Canvas h = other_same kind.Canvas h

    pub kind_same : (x : Kind) → IsKind names x → free_by names x s inlet selector atoms now table ≡ heard_kind names x s inlet selector atoms now table
    unfolding heard_kind
    kind_same x h =
        by_same x h ∙ sym (ap (λ (b : Bool). cond b (heard_by names x s inlet selector atoms now table) (quiet names s)) (message_true names selector atoms m))

    pub kind_in_order : (x : Kind) → IsKind names x → IsHearing names now (heard_kind names x s inlet selector atoms now table)
    kind_in_order x h = subst (IsHearing names now) (kind_same x h) (by_in x h)

    some_same : (o : Option Kind) → IfSome o (IsKind names) → free_in names o s inlet selector atoms now table ≡ heard_in names o s inlet selector atoms now table
    some_same None h = refl
    some_same (Some x) h = kind_same x h

    some_in : (o : Option Kind) → IfSome o (IsKind names) → IsHearing names now (heard_in names o s inlet selector atoms now table)
    some_in None h = quiet_in names first now s k
    some_in (Some x) h = kind_in_order x h

  pub set_in : (states : ℕ → Option State) (node : ℕ) (o : Option State) → AreKept names now states → IfSome o (IsKept names now) → AreKept names now (set_at states node o)
  set_in states node o a h j = either (λ (x : Option State). IfSome x (IsKept names now)) (j == node) o (states j) h (a j)

  -- tables
  then_in : {A B : Type 0} (Q : A → Type 0) (P : B → Type 0) (f : A → Option B) (o : Option A) → IfSome o Q → ((x : A) → Q x → IfSome (f x) P) → IfSome (option_and_then f o) P
  then_in Q P f None h k = tt
  then_in Q P f (Some x) h k = k x h

  anything : {A : Type 0} (o : Option A) → IfSome o (λ _. Unit {0})
  anything None = tt
  anything (Some x) = tt

  table_of-in : (s : State) → IsKept names now s → IfSome (table_of s) IsTable
  table_of-in (state.Table values) h = h
  table_of-in (state.Array values) h = h
  table_of-in s h = tt

  tables_in : (net : Net) (states : ℕ → Option State) (o : Option ℕ) → AreKept names now states → IfSome (table_in net states o) IsTable
  tables_in net states None a = tt
  tables_in net states (Some name) a =
      then_in (λ (k : ℕ). Unit {0}) IsTable (λ k. option_and_then table_of (states k)) (table_owner net name) (anything (table_owner net name))
      (λ k u. then_in (IsKept names now) IsTable table_of (states k) (a k) table_of-in)

  -- replies
  mute_in : (states : ℕ → Option State) → AreKept names now states → IsReply names now (mute states names)
  mute_in states a = record { extends = same_table names; states = a; said = silence names first }

  all_more : (new : Names) → Extends names new → (states : ℕ → Option State) → AreKept names now states → AreKept new now states
  all_more new e states a j = maybe (states j) (a j)
    where
      maybe : (o : Option State) → IfSome o (IsKept names now) → IfSome o (IsKept new now)
      maybe None h = tt
      maybe (Some s) h = kept_more names new (longer names new e) now s h

  reply_in : (states : ℕ → Option State) (node : ℕ) (h : Hearing) → AreKept names now states → IsHearing names now h → IsReply names now (reply states node h)
  reply_in states node h a k = record {
    extends = k.extends;
    states = λ j. either (λ (x : Option State). IfSome x (IsKept h.names now)) (j == node) (Some h.state) (states j) k.kept (all_more h.names k.extends states a j);
    said = k.said;
  }

module _ (net : Net) (now : ℕ) (time : now ≤ 2 ^ 101) (names : Names) (first : HasFirst names) (kinds : AreKinds net names) (states : ℕ → Option State) (kept : AreKept names now states) (node : ℕ) where
  module _ (inlet selector : ℕ) (atoms : List Atom) (m : IsMessage names selector atoms) where
    others : IfSome (table_in net (set_at states node None) (table_named (kind_in (net.nodes node)))) IsTable
    others = tables_in names first now time net (set_at states node None) (table_named (kind_in (net.nodes node))) (set_in names first now time states node None kept tt)

    with_same : (o : Option State) → IfSome o (IsKept names now) → free_with net now states names node inlet selector atoms o ≡ heard_with net now states names node inlet selector atoms o
    with_same None h = refl
    with_same (Some s) h = ap (reply states node) (some_same names first now time s inlet selector atoms _ h m others (kind_in (net.nodes node)) (kinds node))

    with_in : (o : Option State) → IfSome o (IsKept names now) → IsReply names now (heard_with net now states names node inlet selector atoms o)
    with_in None h = mute_in names first now time states kept
    with_in (Some s) h = reply_in names first now time states node _ kept (some_in names first now time s inlet selector atoms _ h m others (kind_in (net.nodes node)) (kinds node))

    pub at_same : free_at net now states names node inlet selector atoms ≡ heard_at net now states names node inlet selector atoms
    unfolding free_at heard_at
    at_same = with_same (states node) (kept node)

    pub at_in : IsReply names now (heard_at net now states names node inlet selector atoms)
    unfolding heard_at
    at_in = with_in (states node) (kept node)

  resumed_some : (s : State) (o : Option Kind) → IsKept names now s → IsHearing names now (resumed_in names o s)
  resumed_some s None h = quiet_in names first now s h
  resumed_some s (Some k) h = stays names now _ (resumed_kind names first now k s h)

  resumed_with-in : (o : Option State) → IfSome o (IsKept names now) → IsReply names now (resumed_with net states names node o)
  resumed_with-in None h = mute_in names first now time states kept
  resumed_with-in (Some s) h = reply_in names first now time states node _ kept (resumed_some s (kind_in (net.nodes node)) h)

  pub resumed_reply : IsReply names now (resumed_at net states names node)
  unfolding resumed_at
  resumed_reply = resumed_with-in (states node) (kept node)

  fired_with-in : (o : Option State) (k : Option Kind) → IsSaid names (fired_with o k)
  fired_with-in None k = silence names first
  fired_with-in (Some s) None = silence names first
  fired_with-in (Some s) (Some k) = fired_said names first now k s

  pub clock_said : IsSaid names (fired_at net states node)
  unfolding fired_at
  clock_said = fired_with-in (states node) (kind_in (net.nodes node))

  glue_loaded-in : (g : Glue) → IsSaid names (glue_loaded g)
  glue_loaded-in glue.Loadbang = bang_said names first 0
  glue_loaded-in g = silence names first

  panel_loaded-in : (k : Kind) (o : Option State) → IsKind names k → IfSome o (IsKept names now) → IsSaid names (panel_loaded k o)
  panel_loaded-in k None h a = silence names first
  panel_loaded-in k (Some s) h a = loaded_in names first now k s h a

  loaded_kind-in : (k : Kind) (o : Option State) → IsKind names k → IfSome o (IsKept names now) → IsSaid names (loaded_kind k o)
  loaded_kind-in (kind.Glue g) o h a = glue_loaded-in g
  loaded_kind-in (kind.Panel p) o h a = panel_loaded-in (kind.Panel p) o h a
  loaded_kind-in k o h a = silence names first

  loaded_with-in : (k : Option Kind) (o : Option State) → IfSome k (IsKind names) → IfSome o (IsKept names now) → IsSaid names (loaded_with k o)
  loaded_with-in None o h a = silence names first
  loaded_with-in (Some k) o h a = loaded_kind-in k o h a

  pub load_said : IsSaid names (loaded_at net states node)
  unfolding loaded_at
  load_said = loaded_with-in (kind_in (net.nodes node)) (states node) (kinds node) (kept node)
