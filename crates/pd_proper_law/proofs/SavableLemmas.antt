-- What boxes keep is theirs, as long as it is of their kinds; and it can be written and read again.
use Rattle.std.proofs.Common.{◌≡◌, ◌≤◌, ℕ, ℤ, Bool, true, false, true≢false, List, [], ◌∷◌, length, Option, Some, None, IfSome, refl, sym, ap, ◌∙◌, subst}
use Rattle.std.specs.Prelude.{option_map, option_and_then}
use Rattle.std.specs.List.{AllByRecursion}
use Rattle.std.specs.Option.{option_map_or}
use Rattle.std.proofs.lemmas.Option.{none-some, same_Some}
use Rattle.slab.specs.Slab.{get}
use Rattle.pd_atom.specs.declared.Atom.{Atom}
use Rattle.pd_atom.specs.Atoms.{IsOf, HoldsNumber}
use Rattle.pd_atom.specs.Names.{Names, IsTable}
use Rattle.pd_atom.specs.Tokens.{IsSettled}
use Rattle.pd_canvas.specs.Pages.{Shape, Obj, Msg, Array, Head}
use Rattle.pd_canvas.specs.Proper.{IsReady, AreReady, IsText}
use Rattle.pd_clock.specs.declared.times.Rate.TheVariants.{R44100}
use Rattle.pd_object.specs.declared.kinds.Kind.{Kind}
use Rattle.pd_object.specs.declared.kinds.Kind.TheVariants as kind
use Rattle.pd_kind.specs.declared.states.State.{State}
use Rattle.pd_kind.specs.declared.states.State.TheVariants as state
use Rattle.pd_kind.specs.Fit.{blank}
use Rattle.pd_kind.specs.States.{start_of}
use Rattle.pd_kind.specs.Tables.{started, saved_if, saved_of, table_of}
use Rattle.pd_grove.specs.declared.nodes.Node.{Node}
use Rattle.pd_grove.specs.Telling.{kind_in, state_in, with_state}
use Rattle.pd_present.specs.Contents.{text_kept, present_head}
use Rattle.pd_patch.specs.declared.patch.Patch.{Patch}
use Rattle.pd_hearing.specs.Worlds.{states_of}
use Rattle.pd_guards.specs.Order.{IsAtom, IsKept}
use Rattle.pd_guards.specs.Worlds.{AreKept}
use Rattle.pd_guards.proofs.NameLemmas.{same_table}
use Rattle.pd_sized.specs.Kinds.{kinds_of, blank_of, KeepsOfKind}
use Rattle.pd_reload_law.specs.Saving.{TurnsWhole, AreSavable}
use Rattle.pd_reload_law.proofs.FreshLemmas.{bare_kept, fresh_savable}
use Rattle.pd_contents_law.specs.Contents.{HasContents, HaveContents, count_of, counts_of}
use Rattle.pd_proper_law.specs.Saves.{IsWritten, is_written, form_of, IsNumber, SavesWell, AllSaveWell}

-- ---- what is seen of a state without its values

is_whole : State → Bool
is_whole (state.Toggle value other whole) = whole
is_whole s = false

whole_blank : (s : State) → is_whole (blank s) ≡ is_whole s
unfolding is_whole
whole_blank (state.Toggle value other whole) = refl
whole_blank s = refl

saves_whole : (s : State) (v : ℤ × ℤ) → saved_of s ≡ Some v → is_whole s ≡ true
unfolding is_whole
saves_whole (state.Toggle value other true) v e = refl
saves_whole (state.Toggle value other false) v e = absurd (none-some v e)
saves_whole s v e = absurd (none-some v e)

whole_saves : (s : State) → is_whole s ≡ true → (v : ℤ × ℤ) × (saved_of s ≡ Some v)
unfolding is_whole
whole_saves (state.Toggle value other true) e = ((value, other), refl)
whole_saves (state.Toggle value other false) e = absurd (true≢false (sym e))
whole_saves s e = absurd (true≢false (sym e))

whole_started : (s : State) (now : ℕ) → is_whole (started s now) ≡ is_whole s
unfolding is_whole
whole_started (state.Timer reset rate) now = refl
whole_started s now = refl

is_bare : State → Bool
is_bare state.Bare = true
is_bare s = false

bare_blank : (s : State) → is_bare (blank s) ≡ is_bare s
unfolding is_bare
bare_blank state.Bare = refl
bare_blank s = refl

bare_is : (s : State) → is_bare s ≡ true → s ≡ state.Bare
unfolding is_bare
bare_is state.Bare e = refl
bare_is s e = absurd (true≢false (sym e))

is_bare_bare : is_bare state.Bare ≡ true
unfolding is_bare
is_bare_bare = refl

-- ---- toggles

-- the box as it was made
abbrev made : Node → Node
made n = with_state (Some (started (start_of n.kind R44100) 0)) n

fresh_turns : (n : Node) → TurnsWhole n.kind (Some (started (start_of n.kind R44100) 0))
fresh_turns n =
    (fresh_savable R44100 0 (λ (k : ℕ). Some (made n)) (λ k m e. subst (λ (x : Node). x.state ≡ Some (started (start_of x.kind R44100) 0)) (same_Some (made n) m e) refl)).toggles 0 (made n) refl

state_turns : (n : Node) (o : Option State) → option_map blank o ≡ Some (blank_of n.kind) → TurnsWhole n.kind o
state_turns n None h v e = absurd (none-some v e)
state_turns n (Some s) h v e =
    let whole : is_whole (started (start_of n.kind R44100) 0) ≡ true =
    whole_started (start_of n.kind R44100) 0 ∙ sym (whole_blank (start_of n.kind R44100)) ∙ sym (ap is_whole (same_Some (blank s) (blank_of n.kind) h)) ∙ whole_blank s ∙ saves_whole s v e in
    let first = whole_saves (started (start_of n.kind R44100) 0) whole in
    fresh_turns n first.0 first.1

-- ---- boxes that hold canvases

bare_state : (o : Option State) → option_map blank o ≡ Some state.Bare → o ≡ Some state.Bare
bare_state None h = absurd (none-some state.Bare h)
bare_state (Some s) h =
    ap (λ (x : State). Some x) (bare_is s (sym (bare_blank s) ∙ ap is_bare (same_Some (blank s) state.Bare h) ∙ is_bare_bare))

node_keeps : (p : Patch) (k : ℕ) (n : Node) → KeepsOfKind (kinds_of p) (states_of p) → get p.grove.nodes k ≡ Some n → option_map blank n.state ≡ Some (blank_of n.kind)
node_keeps p k n keeps e =
    ap (λ (o : Option Node). option_map blank (state_in o)) (sym e) ∙ keeps k ∙ ap (λ (o : Option Node). option_map blank_of (kind_in o)) e

pub kinds_savable : (p : Patch) → KeepsOfKind (kinds_of p) (states_of p) → AreSavable (get p.grove.nodes)
kinds_savable p keeps = record {
  toggles = λ k n e. state_turns n n.state (node_keeps p k n keeps e);
  canvases = λ k n h e c.
      ap (λ (o : Option State). present_head o h) (bare_state n.state (node_keeps p k n keeps e ∙ ap (λ (x : Kind). Some (blank_of x)) c)) ∙ bare_kept h;
}

-- ---- what can be written

ready_all : (names : Names) (text : List Atom) → AllByRecursion (IsAtom names) text → AllByRecursion (IsSettled names) text → AreReady names text
ready_all names [] h k = tt
ready_all names (a ∷ text) h k = ((h.0.0, k.0), ready_all names text h.1 k.1)

text_saves : (names : Names) (now count : ℕ) → IsTable names → (s : State) → IsKept names now s → HasContents count names s → (text : List Atom) → text_kept s ≡ Some text → IsText names text
text_saves names now count table (state.Message text) h k t e = subst (λ (x : List Atom). IsText names x) (same_Some text t e) (ready_all names text h.all (k names (same_table names) table), h.few)
text_saves names now count table s h k t e = absurd (none-some t e)

values_save : (names : Names) (now count : ℕ) (s : State) → IsKept names now s → HasContents count names s → (values : List ℤ) → table_of s ≡ Some values
    → AllByRecursion IsNumber values × (length values ≡ count)
values_save names now count (state.Array values) h k vs e = subst (λ (x : List ℤ). AllByRecursion IsNumber x × (length x ≡ count)) (same_Some values vs e) (h.numbers, k)
values_save names now count (state.Table values) h k vs e = subst (λ (x : List ℤ). AllByRecursion IsNumber x × (length x ≡ count)) (same_Some values vs e) (h.numbers, k)
values_save names now count s h k vs e = absurd (none-some vs e)

turned_numbers : (whole : Bool) (value other : ℤ) → IsNumber value × IsNumber other → (v : ℤ × ℤ) → saved_if whole value other ≡ Some v → IsNumber v.0 × IsNumber v.1
turned_numbers true value other h v e = subst (λ (x : ℤ × ℤ). IsNumber x.0 × IsNumber x.1) (same_Some (value, other) v e) h
turned_numbers false value other h v e = absurd (none-some v e)

toggle_saves : (names : Names) (now : ℕ) (s : State) → IsKept names now s → (v : ℤ × ℤ) → saved_of s ≡ Some v → IsNumber v.0 × IsNumber v.1
toggle_saves names now (state.Toggle value other whole) h v e = turned_numbers whole value other h v e
toggle_saves names now s h v e = absurd (none-some v e)

form_saves : (names : Names) (now count : ℕ) → IsTable names → (f : Shape) (o : Option State) → IfSome o (IsKept names now) → (is_written f ≡ true → IfSome o (HasContents count names))
    → SavesWell names f count o
form_saves names now count table Msg None h k = λ t e. absurd (none-some t e)
form_saves names now count table Msg (Some s) h k = text_saves names now count table s h (k refl)
form_saves names now count table Obj None h k = λ v e. absurd (none-some v e)
form_saves names now count table Obj (Some s) h k = toggle_saves names now s h
form_saves names now count table (Array drawn) None h k = λ vs e. absurd (none-some vs e)
form_saves names now count table (Array drawn) (Some s) h k = values_save names now count s h (k refl)
form_saves names now count table f o h k = tt

node_saves : (names : Names) (now : ℕ) → IsTable names → (kinds : ℕ → Option Kind) (k : ℕ) (n : Node) (o : Option State) → kinds k ≡ Some n.kind → o ≡ n.state → IfSome o (IsKept names now)
    → (is_written (form_of n) ≡ true → IfSome o (HasContents (counts_of kinds k) names)) → SavesWell names (form_of n) (count_of n.kind) n.state
node_saves names now table kinds k n o e s h c =
    subst (λ (x : Option State). SavesWell names (form_of n) (count_of n.kind) x) s
    (form_saves names now (count_of n.kind) table (form_of n) o h (λ f. subst (λ (x : Option Kind). IfSome o (HasContents (option_map_or count_of x 0) names)) e (c f)))

pub contents_save : (names : Names) (now : ℕ) (p : Patch) → IsTable names → AreKept names now (states_of p)
    → HaveContents (IsWritten p.grove) (counts_of (kinds_of p)) names (states_of p) → AllSaveWell names p.grove
contents_save names now p table kept contents k n own e =
    node_saves names now table (kinds_of p) k n (states_of p k) (ap kind_in e) (ap state_in e) (kept k)
    (λ f. contents k (record { own = own; form = subst (λ (o : Option Node). IfSome o (λ x. is_written (form_of x) ≡ true)) (sym e) f }))
