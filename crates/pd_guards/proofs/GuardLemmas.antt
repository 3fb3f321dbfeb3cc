-- Of what is in order the guards are true.
use Rattle.std.proofs.Common.{◌≡◌, ℕ, ℤ, ◌≤◌, ◌^◌, Bool, true, ◌&&◌, List, [], ◌∷◌, length, Option, Some, None, IfSome, refl}
use Rattle.std.specs.List.{AllByRecursion, list_all}
use Rattle.std.proofs.lemmas.Bool.{le-leb}
use Rattle.pd_atom.specs.Names.{Names}
use Rattle.pd_atom.specs.Atoms.{IsOf}
use Rattle.pd_atom.specs.declared.Atom.{Atom}
use Rattle.pd_atom.specs.declared.Atom.TheVariants as atom
use Rattle.pd_atom.proofs.NameLemmas.{lt_true}
use Rattle.pd_object.specs.declared.kinds.Kind.{Kind}
use Rattle.pd_object.specs.declared.kinds.Kind.TheVariants as kind
use Rattle.pd_object.specs.declared.kinds.Glue.{Glue}
use Rattle.pd_object.specs.declared.kinds.Glue.TheVariants as glue
use Rattle.pd_kind.specs.declared.states.State.{State}
use Rattle.pd_kind.specs.declared.states.State.TheVariants as state
use Rattle.pd_kind.specs.declared.messages.Notice.{Notice}
use Rattle.pd_kind.specs.declared.messages.Notice.TheVariants as notice
use Rattle.pd_object.specs.Ports.{IsSmallGlue}
use Rattle.pd_hearing.specs.Guards.{is_name, is_atom, are_atoms, is_few, is_message, is_table, is_small_glue, has_text, is_small_state, keeps_list, keeps_message, keeps_text, is_small_box, is_small, is_open, is_known}
use Rattle.pd_walk.specs.Acts.{is_near}
use Rattle.pd_guards.specs.Order.{IsName, IsAtom, AreAtoms, IsMessage, IsTable, IsKept, HasWords, IsGlue, IsKind, IsNotice}

pub true_and : (a b : Bool) → a ≡ true → b ≡ true → (a && b) ≡ true
true_and a b e f = rw (e, f) refl

all_true : {A : Type 0} (P : A → Type 0) (t : A → Bool) → ((x : A) → P x → t x ≡ true) → (xs : List A) → AllByRecursion P xs → list_all t xs ≡ true
all_true P t k [] h = refl
all_true P t k (x ∷ xs) h = true_and (t x) (list_all t xs) (k x h.0) (all_true P t k xs h.1)

pub few_true : {A : Type 0} (xs : List A) → length xs ≤ 1024 → is_few xs ≡ true
few_true xs h = le-leb (length xs) 1024 h

pub near_true : (path : List ℕ) → length path ≤ 255 → is_near path ≡ true
near_true path h = le-leb (length path) 255 h

module _ (names : Names) where
  pub name_true : (s : ℕ) → IsName names s → is_name names s ≡ true
  name_true s h = lt_true s (length names) h

  atom_true : (a : Atom) → IsOf names a → is_atom names a ≡ true
  atom_true (atom.Number z) h = refl
  atom_true (atom.Symbol s) h = name_true s h
  atom_true (atom.Dollar n) h = le-leb n 9999 h
  atom_true (atom.DollarSymbol s) h = name_true s h
  atom_true atom.Comma h = refl
  atom_true atom.Semi h = refl

  pub atoms_true : (atoms : List Atom) → AreAtoms names atoms → are_atoms names atoms ≡ true
  unfolding are_atoms
  atoms_true atoms h = all_true (IsAtom names) (is_atom names) (λ a k. atom_true a k.0) atoms h

  pub message_true : (selector : ℕ) (atoms : List Atom) → IsMessage names selector atoms → is_message names selector atoms ≡ true
  message_true selector atoms m =
      true_and (is_name names selector && is_few atoms) (are_atoms names atoms)
      (true_and (is_name names selector) (is_few atoms) (name_true selector m.known) (few_true atoms m.list.few)) (atoms_true atoms m.list.all)

  glue_true : (g : Glue) → IsSmallGlue g → is_small_glue g ≡ true
  glue_true (glue.Message t) h = few_true t h
  glue_true (glue.FloatBox t) h = few_true t h
  glue_true (glue.SymbolBox t) h = few_true t h
  glue_true (glue.Array t vs) h = few_true t h
  glue_true (glue.Trigger w outs) h = few_true outs h
  glue_true (glue.Pack slots) h = few_true slots h
  glue_true (glue.Unpack slots) h = few_true slots h
  glue_true (glue.Route args) h = few_true args h
  glue_true (glue.Select w args) h = few_true args h
  glue_true (glue.Print ws) h = few_true ws h
  glue_true (glue.ListAppend w atoms) h = few_true atoms h
  glue_true (glue.ListPrepend atoms) h = few_true atoms h
  glue_true g h = refl

  text_true : (g : Glue) → HasWords names g → has_text names g ≡ true
  text_true (glue.FloatBox text) h = atoms_true text h
  text_true (glue.SymbolBox text) h = atoms_true text h
  text_true g h = refl

  state_true : (limit : ℕ) (s : State) → IsKept names limit s → is_small_state s ≡ true
  state_true limit (state.Pack slots) h = few_true slots h.few
  state_true limit (state.Route args) h = few_true args h.few
  state_true limit (state.Select args) h = few_true args h.few
  state_true limit (state.ListAppend stored) h = few_true stored h.few
  state_true limit (state.ListPrepend stored) h = few_true stored h.few
  state_true limit s h = refl

  lists_true : (limit : ℕ) (g : Glue) (s : State) → IsKept names limit s → keeps_list g s ≡ true
  lists_true limit (glue.Trigger w outs) s h = state_true limit s h
  lists_true limit (glue.Pack slots) s h = state_true limit s h
  lists_true limit (glue.Unpack slots) s h = state_true limit s h
  lists_true limit (glue.Route args) s h = state_true limit s h
  lists_true limit (glue.Select w args) s h = state_true limit s h
  lists_true limit (glue.ListAppend w a) s h = state_true limit s h
  lists_true limit (glue.ListPrepend a) s h = state_true limit s h
  lists_true limit (glue.ListSplit z) s h = state_true limit s h
  lists_true limit glue.ListTrim s h = state_true limit s h
  lists_true limit glue.ListLength s h = state_true limit s h
  lists_true limit g s h = refl

  box_true : (limit : ℕ) (s : State) → IsKept names limit s → keeps_message names s ≡ true
  box_true limit (state.Message text) h = true_and (is_few text) (are_atoms names text) (few_true text h.few) (atoms_true text h.all)
  box_true limit s h = refl

  texts_true : (limit : ℕ) (g : Glue) (s : State) → IsKept names limit s → keeps_text names g s ≡ true
  texts_true limit (glue.Message text) s h = box_true limit s h
  texts_true limit g s h = refl

  small_box : (limit : ℕ) (g : Glue) (s : State) → IsGlue names g → IsKept names limit s → is_small_box names g s ≡ true
  small_box limit g s h k =
      true_and (is_small_glue g && has_text names g && keeps_list g s) (keeps_text names g s)
      (true_and (is_small_glue g && has_text names g) (keeps_list g s) (true_and (is_small_glue g) (has_text names g) (glue_true g h.small) (text_true g h.words)) (lists_true limit g s k))
      (texts_true limit g s k)

  pub small_true : (limit : ℕ) (k : Kind) (s : State) → IsKind names k → IsKept names limit s → is_small names k s ≡ true
  unfolding is_small
  small_true limit (kind.Glue g) s h k = small_box limit g s h k
  small_true limit x s h k = refl

  pub known_true : (n : Notice) → IsNotice names n → is_known names n ≡ true
  known_true (notice.NoMethod row selector) h = name_true selector h
  known_true (notice.NoReceiver a) h = atom_true a h
  known_true n h = refl

  pub notices_true : (notices : List Notice) → AllByRecursion (IsNotice names) notices → list_all (is_known names) notices ≡ true
  notices_true notices h = all_true (IsNotice names) (is_known names) known_true notices h

-- a `vline~` that ran no block beyond now
pub open_true : (names : Names) (now : ℕ) (s : State) → IsKept names now s → is_open now s ≡ true
open_true names now (state.Vline r) h = le-leb r.end now h
open_true names now s h = refl

pub table_true : (table : Option (List ℤ)) → IfSome table IsTable → is_table table ≡ true
table_true None h = refl
table_true (Some values) h = lt_true (length values) (2 ^ 32) h.few
