-- Tables that go on, lists that are cut, and pieces.
use Rattle.std.proofs.Common.{◌≡◌, ℕ, ◌+◌, ◌-◌, ◌<◌, ◌≤◌, Bool, true, false, cond, nat_lt, ltb, List, [], ◌∷◌, ◌++◌, length, take, drop, get_or, Option, Some, None, refl, sym, ap, subst, ◌∙◌, arith, append_assoc, append-nil, position, IfSome}
use Rattle.std.specs.List.{All, slice_split, position_or_len}
use Rattle.std.proofs.lemmas.List.{length-append, length-take-le, length-drop, at_drop_more}
use Rattle.std.proofs.lemmas.List.Elements.{All-weaker, All-drop, All-cons, All-nil}
use Rattle.std.proofs.lemmas.List.Splits.{slice_split_none, slice_split_first}
use Rattle.std.proofs.lemmas.List.Sums.{fails_before_first}
use Rattle.std.proofs.lemmas.Bool.Decides.{nat_tests}
use Rattle.pd_atom.specs.declared.Atom.{Atom}
use Rattle.pd_atom.specs.declared.Atom.TheVariants as atom
use Rattle.pd_atom.specs.Names.{Names, Extends}
use Rattle.pd_atom.specs.Atoms.{IsOf}
use Rattle.pd_kind.specs.declared.messages.Target.TheVariants as target
use Rattle.pd_kind.specs.declared.states.State.{State}
use Rattle.pd_kind.specs.declared.states.State.TheVariants as state
use Rattle.pd_message.specs.declared.pieces.Receiver.{Receiver}
use Rattle.pd_message.specs.declared.pieces.Receiver.TheVariants as receiver
use Rattle.pd_message.specs.Rows.{IsText, KeepsText}
use Rattle.pd_message.specs.Texts.{Run, Filling, is_comma, is_semi, filled_with, expanded_with, piece_run, pieces_run, segment_run, named_run, named_runs, segments_run, text_run}

longer_table : (old new : Names) → Extends old new → length old ≤ length new
longer_table old new e = let l : length new ≡ length old + length e.0 = ap length e.1 ∙ length-append old e.0 in omega arith

of_extended : (old new : Names) (a : Atom) → length old ≤ length new → IsOf old a → IsOf new a
of_extended old new (atom.Number z) e h = tt
of_extended old new (atom.Symbol s) e h = omega (arith, h)
of_extended old new (atom.Dollar n) e h = h
of_extended old new (atom.DollarSymbol s) e h = omega (arith, h)
of_extended old new atom.Comma e h = tt
of_extended old new atom.Semi e h = tt

pub all_extended : (old new : Names) (atoms : List Atom) → Extends old new → All (IsOf old) atoms → All (IsOf new) atoms
all_extended old new atoms e h = All-weaker (IsOf old) (IsOf new) (λ a. of_extended old new a (longer_table old new e)) atoms h

pub extends_same : (names : Names) → Extends names names
extends_same names = ([], sym (append-nil names))

pub extends_onward : (a b c : Names) → Extends a b → Extends b c → Extends a c
extends_onward a b c e f = (e.0 ++ f.0, f.1 ∙ ap (λ x. x ++ f.0) e.1 ∙ append_assoc a e.0 f.0)

-- a filling that has no room stays
pub filled_full : (args : List Atom) (x : Filling) (piece : List Atom) → x.fits ≡ false → filled_with args x piece ≡ x
filled_full args x [] h = refl
filled_full args x (a ∷ piece) h = rw h refl

value_or_zero : Option ℕ → ℕ
value_or_zero (Some n) = n
value_or_zero None = 0

IsAbsent : Option ℕ → Type 0
IsAbsent None = Unit {0}
IsAbsent (Some n) = ⊥

some_place : (b : Bool) (m n : ℕ) → cond b (Some m) None ≡ Some n → (b ≡ true) × (m ≡ n)
unfolding value_or_zero IsAbsent
some_place true m n h = (refl, ap value_or_zero h)
some_place false m n h = absurd (subst IsAbsent h tt)

no_place : (b : Bool) (m : ℕ) → cond b (Some m) None ≡ None → b ≡ false
unfolding IsAbsent
no_place true m h = absurd (subst IsAbsent (sym h) tt)
no_place false m h = refl

less_so : (m n : ℕ) → ltb m n ≡ true → m < n
less_so m n h = grind (arith, nat_tests)

least_so : (m n : ℕ) → ltb m n ≡ false → n ≤ m
least_so m n h = grind (arith, nat_tests)

-- the place of the first mark is within the list, and cuts off the first part
pub place_within : (p : Atom → Bool) (xs : List Atom) (n : ℕ) → position p xs ≡ Some n → n < length xs
place_within p xs n h =
    let both : (nat_lt (position_or_len p xs) (length xs) ≡ true) × (position_or_len p xs ≡ n) = some_place (nat_lt (position_or_len p xs) (length xs)) (position_or_len p xs) n h in
    let below : position_or_len p xs < length xs = less_so (position_or_len p xs) (length xs) both.0 in
    omega (arith, below, both.1)

pub split_place : (p : Atom → Bool) (xs : List Atom) (n : ℕ) → position p xs ≡ Some n → slice_split p xs ≡ take n xs ∷ slice_split p (drop (n + 1) xs)
split_place p xs n h =
    let both : (nat_lt (position_or_len p xs) (length xs) ≡ true) × (position_or_len p xs ≡ n) = some_place (nat_lt (position_or_len p xs) (length xs)) (position_or_len p xs) n h in
    let below : position_or_len p xs < length xs = less_so (position_or_len p xs) (length xs) both.0 in
    subst (λ m. slice_split p xs ≡ take m xs ∷ slice_split p (drop (m + 1) xs)) both.1 (slice_split_first p xs atom.Comma below)

pub split_none : (p : Atom → Bool) (xs : List Atom) → position p xs ≡ None → slice_split p xs ≡ xs ∷ []
split_none p xs h =
    let none : nat_lt (position_or_len p xs) (length xs) ≡ false = no_place (nat_lt (position_or_len p xs) (length xs)) (position_or_len p xs) h in
    let whole : length xs ≤ position_or_len p xs = least_so (position_or_len p xs) (length xs) none in
    slice_split_none p xs (λ k d low. fails_before_first p xs k d (omega arith))

-- a step, and the end, of a walk over pieces
pub segment_step : (args : List Atom) (to : Receiver) (run next : Run) (rest front back : List Atom) (n : ℕ) → position is_comma rest ≡ Some n → front ≡ take n rest → back ≡ drop (n + 1) rest →
    next ≡ piece_run args to run front → segment_run args to next back ≡ segment_run args to run rest
segment_step args to run next rest front back n h ef eb e =
    ap (λ r. pieces_run args to r (slice_split is_comma back)) e
    ∙ ap (λ f. pieces_run args to (piece_run args to run f) (slice_split is_comma back)) ef
    ∙ ap (λ b. pieces_run args to (piece_run args to run (take n rest)) (slice_split is_comma b)) eb
    ∙ ap (pieces_run args to run) (sym (split_place is_comma rest n h))

pub segment_end : (args : List Atom) (to : Receiver) (run next : Run) (rest : List Atom) → position is_comma rest ≡ None →
    next ≡ piece_run args to run rest → next ≡ segment_run args to run rest
segment_end args to run next rest h e = e ∙ ap (pieces_run args to run) (sym (split_none is_comma rest h))

-- the same over segments
pub named_step : (args : List Atom) (run next : Run) (rest front back : List Atom) (n : ℕ) → position is_semi rest ≡ Some n → front ≡ take n rest → back ≡ drop (n + 1) rest →
    next ≡ named_run args run front → named_runs args next (slice_split is_semi back) ≡ named_runs args run (slice_split is_semi rest)
named_step args run next rest front back n h ef eb e =
    ap (λ r. named_runs args r (slice_split is_semi back)) e
    ∙ ap (λ f. named_runs args (named_run args run f) (slice_split is_semi back)) ef
    ∙ ap (λ b. named_runs args (named_run args run (take n rest)) (slice_split is_semi b)) eb
    ∙ ap (named_runs args run) (sym (split_place is_semi rest n h))

pub named_end : (args : List Atom) (run next : Run) (rest : List Atom) → position is_semi rest ≡ None →
    next ≡ named_run args run rest → next ≡ named_runs args run (slice_split is_semi rest)
named_end args run next rest h e = e ∙ ap (named_runs args run) (sym (split_none is_semi rest h))

pub text_step : (args : List Atom) (run next last : Run) (text front back : List Atom) (n : ℕ) → position is_semi text ≡ Some n → front ≡ take n text → back ≡ drop (n + 1) text →
    next ≡ segment_run args (receiver.Known (target.Outlet 0)) run front → last ≡ named_runs args next (slice_split is_semi back) → last ≡ text_run args run text
text_step args run next last text front back n h ef eb e el =
    el ∙ ap (λ r. named_runs args r (slice_split is_semi back)) e
    ∙ ap (λ f. named_runs args (segment_run args (receiver.Known (target.Outlet 0)) run f) (slice_split is_semi back)) ef
    ∙ ap (λ b. named_runs args (segment_run args (receiver.Known (target.Outlet 0)) run (take n text)) (slice_split is_semi b)) eb
    ∙ ap (segments_run args run) (sym (split_place is_semi text n h))

pub text_end : (args : List Atom) (run next : Run) (text : List Atom) → position is_semi text ≡ None →
    next ≡ segment_run args (receiver.Known (target.Outlet 0)) run text → next ≡ text_run args run text
text_end args run next text h e = e ∙ ap (segments_run args run) (sym (split_none is_semi text h))

-- the atoms behind a place are of a table that goes on, and the lengths of both parts
pub all_behind : (old new : Names) (rest back : List Atom) (n : ℕ) → Extends old new → back ≡ drop (n + 1) rest → All (IsOf old) rest → All (IsOf new) back
all_behind old new rest back n e eb h = subst (λ (b : List Atom). All (IsOf new) b) (sym eb) (All-drop (IsOf new) (n + 1) rest (all_extended old new rest e h))

pub front_length : (rest front : List Atom) (n : ℕ) → n < length rest → front ≡ take n rest → length front ≡ n
front_length rest front n low e = ap length e ∙ length-take-le n rest (omega arith)

pub back_length : (rest back : List Atom) (n : ℕ) → n < length rest → back ≡ drop (n + 1) rest → n + 1 + length back ≡ length rest
back_length rest back n low e = let l : length back ≡ length rest - (n + 1) = ap length e ∙ length-drop (n + 1) rest in omega arith

-- a filling stops at an atom for which there is no room
pub filled_at : (args : List Atom) (run : Run) (atoms piece : List Atom) (i : ℕ) (a : Atom) (y : Filling) → i < length piece → a ≡ get_or piece i a →
    y ≡ expanded_with args (record { run = run; atoms = atoms; fits = true }) a → y.fits ≡ false →
    filled_with args (record { run = run; atoms = atoms; fits = true }) (drop i piece) ≡ y
filled_at args run atoms piece i a y low ea ey full =
    let x : Filling = record { run = run; atoms = atoms; fits = true } in
    at_drop_more (filled_with args x) piece i a low ∙ ap (λ b. filled_with args x (b ∷ drop (i + 1) piece)) (sym ea)
    ∙ ap (λ z. filled_with args z (drop (i + 1) piece)) (sym ey) ∙ filled_full args y (drop (i + 1) piece) full

-- what the atoms of a message are where the table goes on
pub one_atom : (names : Names) (a : Atom) → IsOf names a → All (IsOf names) (a ∷ [])
one_atom names a h = All-cons (IsOf names) a [] h (All-nil (IsOf names))

pub two_atoms : (names : Names) (a b : Atom) → IsOf names a → IsOf names b → All (IsOf names) (a ∷ b ∷ [])
two_atoms names a b h k = All-cons (IsOf names) a (b ∷ []) h (one_atom names b k)

pub some_extended : (old new : Names) (o : Option Atom) → Extends old new → IfSome o (IsOf old) → IfSome o (IsOf new)
some_extended old new (Some a) e h = of_extended old new a (longer_table old new e) h
some_extended old new None e h = h

pub text_extended : (old new : Names) (text : List Atom) → Extends old new → IsText old text → IsText new text
text_extended old new text e h = record { of_table = all_extended old new text e h.of_table; small = h.small }

pub kept_extended : (old new : Names) (s : State) → Extends old new → KeepsText old s → KeepsText new s
kept_extended old new (state.Message text) e h = text_extended old new text e h
kept_extended old new s e h = tt

pub ruleset test_steps = (one_atom, two_atoms, some_extended, kept_extended, extends_onward)
