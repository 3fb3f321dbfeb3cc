-- Texts and tables that go on.
use Rattle.std.proofs.Common.{◌≡◌, ℕ, ◌+◌, ◌<◌, ◌≤◌, Bool, not, List, [], ◌∷◌, ◌++◌, length, take, drop, get_or, add-one, drop-cons, append_assoc, Result, Ok, Err, refl, sym, ap, subst, ◌∙◌, arith}
use Rattle.std.specs.List.{All, filter}
use Rattle.std.proofs.lemmas.List.{append-nil, length-append, length-take, drop_all}
use Rattle.std.proofs.lemmas.List.Elements.{All-weaker, All-filter, All-drop}
use Rattle.std.proofs.lemmas.List.Filters.{length-filter_both}
use Rattle.pd_atom.specs.declared.Atom.{Atom}
use Rattle.pd_atom.specs.declared.Atom.TheVariants as atom
use Rattle.pd_atom.specs.declared.Expanded.{Expanded}
use Rattle.pd_atom.specs.declared.SymbolRefusal.{SymbolRefusal}
use Rattle.pd_atom.specs.declared.SymbolRefusal.TheVariants.{Full}
use Rattle.pd_atom.specs.Names.{Names, Extends, Outcome, given, refused, answer_map, outcome_map}
use Rattle.pd_atom.specs.Atoms.{IsOf}
use Rattle.pd_atom.specs.Expansion.{expanded}
use Rattle.pd_naming.specs.Naming.{is_argument, arguments_of}
use Rattle.pd_growth.specs.declared.growing.Stop.{Stop}
use Rattle.pd_growth.specs.declared.growing.Stop.TheVariants.{SymbolsFull, TooManyBoxes, Lacks, NoMemory}
use Rattle.pd_growth.specs.Steps.{outcome_after, outcome_then, text_expanded}
use Rattle.pd_growth.specs.Suits.{TextSuits}
use Rattle.pd_growth.specs.Growing.{Yields}

pub extends_same : (names : Names) → Extends names names
extends_same names = ([], sym (append-nil names))

pub extends_on : (a b c : Names) → Extends a b → Extends b c → Extends a c
extends_on a b c e f = (e.0 ++ f.0, f.1 ∙ ap (λ x. x ++ f.0) e.1 ∙ append_assoc a e.0 f.0)

pub longer_table : (old new : Names) → Extends old new → length old ≤ length new
longer_table old new e = let l : length new ≡ length old + length e.0 = ap length e.1 ∙ length-append old e.0 in omega arith

of_longer : (old new : Names) (a : Atom) → length old ≤ length new → IsOf old a → IsOf new a
of_longer old new (atom.Number z) e h = tt
of_longer old new (atom.Symbol s) e h = omega (arith, h)
of_longer old new (atom.Dollar n) e h = h
of_longer old new (atom.DollarSymbol s) e h = omega (arith, h)
of_longer old new atom.Comma e h = tt
of_longer old new atom.Semi e h = tt

pub of_extended : (old new : Names) (a : Atom) → Extends old new → IsOf old a → IsOf new a
of_extended old new a e h = of_longer old new a (longer_table old new e) h

pub all_extended : (old new : Names) (atoms : List Atom) → Extends old new → All (IsOf old) atoms → All (IsOf new) atoms
all_extended old new atoms e h = All-weaker (IsOf old) (IsOf new) (λ a. of_longer old new a (longer_table old new e)) atoms h

pub text_extended : (old new : Names) (text : List Atom) → Extends old new → TextSuits old text → TextSuits new text
text_extended old new text e h = (all_extended old new text e h.0, h.1)

filter_shorter : {X : Type 0} (p : X → Bool) (xs : List X) → length (filter p xs) ≤ length xs
filter_shorter p xs = omega (arith, length-filter_both p (λ x. not (p x)) (λ x. refl) xs)

-- the arguments among the first atoms are no more than the atoms
pub arguments_fewer : (list atoms : List Atom) (i : ℕ) → list ≡ arguments_of (take i atoms) → length list ≤ length atoms
arguments_fewer list atoms i e = omega (arith, ap (λ (xs : List Atom). length xs) e, filter_shorter is_argument (take i atoms), length-take i atoms)

-- the arguments of a text suit as it does
pub arguments_suit : (names : Names) (text list : List Atom) → list ≡ arguments_of (drop 1 text) → length list ≤ length text → TextSuits names text → TextSuits names list
arguments_suit names text list e l h =
    (subst (λ (xs : List Atom). All (IsOf names) xs) (sym e) (All-filter is_argument (IsOf names) (drop 1 text) (All-drop (IsOf names) 1 text h.0)), (let m = h.1 in omega (arith, l, m)))

-- the atoms so far, and then those that the rest gives
abbrev pub with_front : List Atom → Outcome (List Atom) → Outcome (List Atom)
with_front front o = outcome_then o (λ bs all. given (front ++ bs) all)

mapped_after : {B : Type 0} (r : Result Expanded SymbolRefusal) (names : Names) (f : Atom → Names → Outcome B)
    → outcome_after r names (λ e more. f e.atom more) ≡ outcome_after (answer_map (λ e. e.atom) r) names f
mapped_after (Ok e) names f = refl
mapped_after (Err x) names f = refl

front_after : (front : List Atom) (a : Atom) (r : Result (List Atom) SymbolRefusal) (names : Names)
    → with_front front (outcome_after r names (λ bs all. given (a ∷ bs) all)) ≡ outcome_after r names (λ bs all. given ((front ++ a ∷ []) ++ bs) all)
front_after front a (Ok bs) names = ap (λ l. given l names) (sym (append_assoc front (a ∷ []) bs))
front_after front a (Err e) names = refl

-- the rest of a text behind an expanded atom
abbrev behind : ℕ → List Atom → List Atom → Atom → Names → Outcome (List Atom)
behind own args rest b more = outcome_then (text_expanded own args rest more) (λ bs all. given (b ∷ bs) all)

text_first : (own : ℕ) (args : List Atom) (names : Names) (a : Atom) (rest : List Atom)
    → text_expanded own args (a ∷ rest) names ≡ outcome_then (outcome_map (λ e. e.atom) (expanded names a own args)) (behind own args rest)
unfolding text_expanded
text_first own args names a rest = mapped_after (expanded names a own args).answer (expanded names a own args).names (behind own args rest)

pub text_more : (own : ℕ) (args : List Atom) (names names' : Names) (front : List Atom) (a b : Atom) (rest : List Atom)
    → outcome_map (λ e. e.atom) (expanded names a own args) ≡ given b names'
    → with_front front (text_expanded own args (a ∷ rest) names) ≡ with_front (front ++ b ∷ []) (text_expanded own args rest names')
text_more own args names names' front a b rest h =
    ap (with_front front) (text_first own args names a rest ∙ ap (λ o. outcome_then o (behind own args rest)) h)
    ∙ front_after front b (text_expanded own args rest names').answer (text_expanded own args rest names').names

pub text_stop : (own : ℕ) (args : List Atom) (names names' : Names) (front : List Atom) (a : Atom) (rest : List Atom)
    → outcome_map (λ e. e.atom) (expanded names a own args) ≡ refused Full names'
    → with_front front (text_expanded own args (a ∷ rest) names) ≡ refused Full names'
text_stop own args names names' front a rest h =
    ap (with_front front) (text_first own args names a rest ∙ ap (λ o. outcome_then o (behind own args rest)) h)

text_end : (own : ℕ) (args : List Atom) (names : Names) (front : List Atom) → with_front front (text_expanded own args [] names) ≡ given front names
unfolding text_expanded
text_end own args names front = ap (λ l. given l names) (append-nil front)

pub drop_at : {A : Type 0} (l : List A) (i : ℕ) (d : A) → i < length l → drop i l ≡ get_or l i d ∷ drop (i + 1) l
drop_at l i d h = rw add-one (drop-cons l i d h)

abbrev pub Whole : ℕ → List Atom → List Atom → Names → List Atom → Outcome (List Atom) → Type 0
Whole own args front names rest whole = with_front front (text_expanded own args rest names) ≡ whole

pub text_start : (own : ℕ) (args : List Atom) (names : Names) (text : List Atom) → Whole own args [] names text (text_expanded own args text names)
text_start own args names text = same (text_expanded own args text names).answer (text_expanded own args text names).names
  where
    same : (r : Result (List Atom) SymbolRefusal) (names : Names) → outcome_after r names (λ bs all. given bs all) ≡ record { answer = r; names = names }
    same (Ok bs) names = refl
    same (Err e) names = refl

pub text_go_on : (own : ℕ) (args : List Atom) (names names' : Names) (front text : List Atom) (i : ℕ) (a b : Atom) (whole : Outcome (List Atom))
    → drop i text ≡ a ∷ drop (i + 1) text → outcome_map (λ e. e.atom) (expanded names a own args) ≡ given b names'
    → Whole own args front names (drop i text) whole → Whole own args (front ++ b ∷ []) names' (drop (i + 1) text) whole
text_go_on own args names names' front text i a b whole d h w =
    sym (text_more own args names names' front a b (drop (i + 1) text) h) ∙ ap (λ x. with_front front (text_expanded own args x names)) (sym d) ∙ w

pub text_refuses : (own : ℕ) (args : List Atom) (names names' : Names) (front text : List Atom) (i : ℕ) (a : Atom) (e : Stop) (whole : Outcome (List Atom))
    → drop i text ≡ a ∷ drop (i + 1) text → Yields (Err e) names' (outcome_map (λ e. e.atom) (expanded names a own args))
    → Whole own args front names (drop i text) whole → Yields (Err e) names' whole
text_refuses own args names names' front text i a NoMemory whole d h w = tt
text_refuses own args names names' front text i a SymbolsFull whole d h w =
    sym w ∙ ap (λ x. with_front front (text_expanded own args x names)) d ∙ text_stop own args names names' front a (drop (i + 1) text) h
text_refuses own args names names' front text i a TooManyBoxes whole d h w = absurd h
text_refuses own args names names' front text i a (Lacks s) whole d h w = absurd h

pub text_all : (own : ℕ) (args : List Atom) (names : Names) (front text : List Atom) (i : ℕ) (whole : Outcome (List Atom))
    → length text ≤ i → Whole own args front names (drop i text) whole → whole ≡ given front names
text_all own args names front text i whole l w =
    sym w ∙ ap (λ x. with_front front (text_expanded own args x names)) (drop_all i text l) ∙ text_end own args names front

pub ruleset argument_steps = (extends_same)

pub drop_item : {A : Type 0} (l : List A) (i : ℕ) (e : A) → i < length l → e ≡ get_or l i e → drop i l ≡ e ∷ drop (i + 1) l
drop_item l i e h k = drop_at l i e h ∙ ap (λ x. x ∷ drop (i + 1) l) (sym k)
