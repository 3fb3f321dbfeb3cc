-- Laws of spellings and settled atoms.
use Rattle.std.proofs.Common.{◌≡◌, ◌<◌, ℕ, ℤ, List, [], ◌∷◌, length, All, zero, suc, cond, Result, Err, Option, None, Some, Ok, option_map, refl, sym, ap, ◌∙◌, arith}
use Rattle.std.proofs.lemmas.List.{get_or_append_left, length-append}
use Rattle.pd_num.specs.Printing.{printed}
use Rattle.pd_num.specs.Reading.{number_at}
use Rattle.pd_num.specs.Scale.{millionths, IsInRange}
use Rattle.pd_atom.specs.Names.{Names, name_of, IsTable, Extends, given, answer_map, interned}
use Rattle.pd_atom.specs.Atoms.{IsOf, HoldsNumber, spelled}
use Rattle.pd_atom.specs.Tokens.{is_mark, dollar_at, has_argument, or_else, nameless, named, atom_read, settled, answer_or, IsSettled}
use Rattle.pd_atom.specs.declared.Atom.{Atom}
use Rattle.pd_atom.specs.declared.Atom.TheVariants.{Number, Symbol, Dollar, DollarSymbol, Comma, Semi}
use Rattle.pd_atom.specs.declared.SymbolRefusal.{SymbolRefusal}
use Rattle.pd_atom.proofs.CaseLemmas.{by_test}
use Rattle.pd_atom.proofs.TokenLemmas.{nameless_is, none_not_some, number_range, atom_read_none, by_option, atom_read_some, name_read, settled_from, number_settled, dollar_settled, comma_settled, semi_settled}

-- reading the spelling of an atom gives some atom and leaves the names
name_reads : (names : Names) (s : ℕ) → IsTable names → s < length names → (b : Atom) × (atom_read names (name_of names s) ≡ given b names)
name_reads names s t h = by_option (nameless (name_of names s))
    (λ none. (named (name_of names s) s, name_read names s t h none))
    (λ b some. (b, atom_read_some names (name_of names s) b some))

pub reads : (names : Names) (a : Atom) → IsTable names → IsOf names a → HoldsNumber a → (b : Atom) × (atom_read names (spelled names a) ≡ given b names)
reads names (Number z) t h r = (Number z, number_settled names z r)
reads names (Symbol s) t h r = name_reads names s t h
reads names (Dollar n) t h r = (Dollar n, dollar_settled names n h)
reads names (DollarSymbol s) t h r = name_reads names s t h
reads names Comma t h r = (Comma, comma_settled names)
reads names Semi t h r = (Semi, semi_settled names)

pub spelled_read : (names : Names) (a : Atom) → IsTable names → IsOf names a → HoldsNumber a → atom_read names (spelled names a) ≡ given (settled names a) names
spelled_read names a t h r = let b = reads names a t h r in b.1 ∙ ap (λ x. given x names) (sym (settled_from names a b.0 b.1))

-- the number of an atom, where it is one
kind : Atom → Option ℤ
kind (Number z) = Some z
kind (Symbol s) = None
kind (Dollar n) = None
kind (DollarSymbol s) = None
kind Comma = None
kind Semi = None

kind_of : Option Atom → Option ℤ
unfolding kind
kind_of None = None
kind_of (Some a) = kind a

kind_named : (t : List ℕ) (s : ℕ) → kind (named t s) ≡ None
unfolding kind
kind_named t s = by_test (has_argument t)
    (λ e. ap (λ b. kind (cond b (DollarSymbol s) (Symbol s))) e)
    (λ e. ap (λ b. kind (cond b (DollarSymbol s) (Symbol s))) e)

kind_answer : (t : List ℕ) (r : Result ℕ SymbolRefusal) → kind (answer_or Comma (answer_map (named t) r)) ≡ None
unfolding kind
kind_answer t (Ok s) = kind_named t s
kind_answer t (Err e) = refl

-- a token that reads as a number is that numeral
number_from : (t : List ℕ) (z : ℤ) → nameless t ≡ Some (Number z) → number_at t ≡ Some z
unfolding kind kind_of
number_from t z h =
    let is = sym (nameless_is t) ∙ h in
    by_test (is_mark 44 t)
    (λ e. absurd (none_not_some z (ap kind_of (sym (ap (λ b. cond b (Some Comma) (rest t)) e) ∙ is))))
    (λ e. let is' = sym (ap (λ b. cond b (Some Comma) (rest t)) e) ∙ is in
    by_test (is_mark 59 t)
    (λ e'. absurd (none_not_some z (ap kind_of (sym (ap (λ b. cond b (Some Semi) (last t)) e') ∙ is'))))
    (λ e'. let is'' = sym (ap (λ b. cond b (Some Semi) (last t)) e') ∙ is' in
    by_option (number_at t)
    (λ none. let is3 = sym (ap (λ o. or_else (option_map (λ y. Number y) o) (option_map (λ n. Dollar n) (dollar_at t))) none) ∙ is'' in
    by_option (dollar_at t)
    (λ none'. absurd (none_not_some (Number z) (sym (ap (option_map (λ n. Dollar n)) none') ∙ is3)))
    (λ n some. absurd (none_not_some z (ap kind_of (sym (ap (option_map (λ k. Dollar k)) some) ∙ is3)))))
    (λ y some. some ∙ ap kind_of (sym (ap (λ o. or_else (option_map (λ x. Number x) o) (option_map (λ n. Dollar n) (dollar_at t))) some) ∙ is''))))
  where
    last : List ℕ → Option Atom
    last token = or_else (option_map (λ z. Number z) (number_at token)) (option_map (λ n. Dollar n) (dollar_at token))

    rest : List ℕ → Option Atom
    rest token = cond (is_mark 59 token) (Some Semi) (last token)

number_settles : (names : Names) (z : ℤ) → IsSettled names (Number z) → IsInRange millionths z
unfolding kind
number_settles names z h = by_option (nameless (printed z))
    (λ none. absurd (none_not_some z (sym (kind_answer (printed z) (interned names (printed z)).answer)
    ∙ ap (λ o. kind (answer_or Comma o.answer)) (sym (atom_read_none names (printed z) none) ∙ h))))
    (λ b some. number_range (printed z) z (number_from (printed z) z
    (some ∙ ap Some (ap (λ o. answer_or Comma o.answer) (sym (atom_read_some names (printed z) b some) ∙ h)))))

pub settled_number : (names : Names) (a : Atom) → IsSettled names a → HoldsNumber a
settled_number names (Number z) h = number_settles names z h
settled_number names (Symbol s) h = tt
settled_number names (Dollar n) h = tt
settled_number names (DollarSymbol s) h = tt
settled_number names Comma h = tt
settled_number names Semi h = tt

pub settled_comma : (names : Names) (a : Atom) → IsSettled names a → spelled names a ≡ 44 ∷ [] → a ≡ Comma
settled_comma names a h e = ap (λ o. answer_or Comma o.answer) (sym h ∙ ap (atom_read names) e ∙ comma_settled names)

extended_name : (old new : Names) (s : ℕ) → Extends old new → s < length old → (s < length new) × (name_of new s ≡ name_of old s)
extended_name old new s x h = (
  omega (arith, h, ap length x.1, length-append old x.0),
  ap (λ ns. name_of ns s) x.1 ∙ get_or_append_left old x.0 [] s h,
)

-- a symbol that settles to itself in a table does so where the table goes on
settled_symbol : (old new : Names) (s : ℕ) (a : Atom) → Extends old new → IsTable old → IsTable new → s < length old
    → atom_read old (name_of old s) ≡ given a old → atom_read new (name_of new s) ≡ given a new
settled_symbol old new s a x told tnew h is =
    let to = extended_name old new s x h in
    by_option (nameless (name_of old s))
    (λ none. let same : named (name_of old s) s ≡ a = ap (λ o. answer_or Comma o.answer) (sym (name_read old s told h none) ∙ is) in
    name_read new s tnew to.0 (ap nameless to.1 ∙ none) ∙ ap (λ b. given b new) (ap (λ t. named t s) to.1 ∙ same))
    (λ b some. let same : b ≡ a = ap (λ o. answer_or Comma o.answer) (sym (atom_read_some old (name_of old s) b some) ∙ is) in
    ap (atom_read new) to.1 ∙ atom_read_some new (name_of old s) b some ∙ ap (λ y. given y new) same)

pub settled_extended : (old new : Names) (a : Atom) → Extends old new → IsTable old → IsTable new → IsOf old a → IsSettled old a → IsSettled new a
settled_extended old new (Number z) x told tnew h is = number_settled new z (number_settles old z is)
settled_extended old new (Symbol s) x told tnew h is = settled_symbol old new s (Symbol s) x told tnew h is
settled_extended old new (Dollar n) x told tnew h is = dollar_settled new n h
settled_extended old new (DollarSymbol s) x told tnew h is = settled_symbol old new s (DollarSymbol s) x told tnew h is
settled_extended old new Comma x told tnew h is = comma_settled new
settled_extended old new Semi x told tnew h is = semi_settled new

pub of_extended : (old new : Names) (a : Atom) → Extends old new → IsOf old a → IsOf new a
of_extended old new (Number z) x h = tt
of_extended old new (Symbol s) x h = (extended_name old new s x h).0
of_extended old new (Dollar n) x h = h
of_extended old new (DollarSymbol s) x h = (extended_name old new s x h).0
of_extended old new Comma x h = tt
of_extended old new Semi x h = tt

pub all_three : (names : Names) (a b c : Atom) → IsOf names a → IsOf names b → IsOf names c → All (IsOf names) (a ∷ b ∷ c ∷ [])
all_three names a b c ha hb hc zero d low = ha
all_three names a b c ha hb hc (suc zero) d low = hb
all_three names a b c ha hb hc (suc (suc zero)) d low = hc
all_three names a b c ha hb hc (suc (suc (suc k))) d low = absurd (past k low)
  where
    past : (k : ℕ) → suc (suc (suc k)) < 3 → ⊥
    past k low = omega (arith, low)
