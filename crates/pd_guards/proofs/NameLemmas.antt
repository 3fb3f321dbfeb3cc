-- Atoms that are expanded, and atoms that are settled.
use Rattle.std.proofs.Common.{◌≡◌, ℕ, zero, suc, ◌*◌, min, nat_lt, List, [], ◌∷◌, ◌++◌, length, position, bytes_eq, Option, Some, None, IfSome, option_map, Result, Ok, Err, IfOk, refl, sym, ap, subst, ◌∙◌, arith, append-nil, length-append}
use Rattle.pd_num.specs.Reading.{number_at}
use Rattle.pd_atom.specs.Names.{Names, Extends, Outcome, longest, most, name_of, given, refused, placed, interned, answer_map}
use Rattle.pd_atom.specs.Atoms.{IsOf, HoldsNumber, spelled}
use Rattle.pd_atom.specs.Tokens.{is_mark, dollar_at, has_argument, or_else, nameless, named, atom_read, settled, answer_or}
use Rattle.pd_atom.specs.Expansion.{argument, dollar_expanded, expanded, expanded_name, first_missing, runs_of}
use Rattle.pd_atom.specs.declared.Atom.{Atom}
use Rattle.pd_atom.specs.declared.Atom.TheVariants.{Number, Symbol, Dollar, DollarSymbol, Comma, Semi}
use Rattle.pd_atom.specs.declared.Expanded.{Expanded}
use Rattle.pd_atom.specs.declared.SymbolRefusal.{SymbolRefusal}
use Rattle.pd_atom.specs.declared.SymbolRefusal.TheVariants.{TooLong, Full}
use Rattle.pd_atom.proofs.NameLemmas.{position_low, absent_at}
use Rattle.pd_atom.proofs.TokenLemmas.{by_option, nameless_is, atom_read_some, atom_read_none, number_range, dollar_small, settled_from, number_settled, dollar_settled, comma_settled, semi_settled, of_named, of_any}
use Rattle.pd_guards.specs.Order.{IsName, IsAtom, AreAtoms}
use Rattle.pd_guards.proofs.FactLemmas.{either, all-at}
use Rattle.pd_guards.proofs.NumberLemmas.{near_pos}
use Rattle.pd_guards.proofs.BaseLemmas.{no_number}

pub same_table : (names : Names) → Extends names names
same_table names = ([], sym (append-nil names))

-- the table goes on, and the name that is given is of it
pub record IsInterned (names : Names) (o : Outcome ℕ) : Type 0 where
  pub extends : Extends names o.names
  pub answer : IfOk o.answer (IsName o.names)

place_in : (names : Names) (name : List ℕ) → IfSome (position (bytes_eq name) names) (IsName names)
place_in names name = by_option (position (bytes_eq name) names)
    (λ none. subst (λ (o : Option ℕ). IfSome o (IsName names)) (sym none) tt)
    (λ s some. subst (λ (o : Option ℕ). IfSome o (IsName names)) (sym some) (position_low names name s some).0)

placed_in : (names : Names) (name : List ℕ) (o : Option ℕ) → IfSome o (IsName names) → IsInterned names (placed names name o)
placed_in names name (Some s) h = record { extends = same_table names; answer = h }
placed_in names name None h =
    either (IsInterned names) (nat_lt (length names) most) (given (length names) (names ++ name ∷ [])) (refused Full names)
    (record { extends = (name ∷ [], refl); answer = omega (arith, length-append names (name ∷ [])) })
    (record { extends = same_table names; answer = tt })

pub interned_in : (names : Names) (name : List ℕ) → IsInterned names (interned names name)
unfolding interned
interned_in names name =
    either (IsInterned names) (nat_lt longest (length name)) (refused TooLong names) (placed names name (position (bytes_eq name) names))
    (record { extends = same_table names; answer = tt }) (placed_in names name (position (bytes_eq name) names) (place_in names name))

-- the table goes on, and the atom is in order in it
pub record IsExpanded (names : Names) (o : Outcome Expanded) : Type 0 where
  pub extends : Extends names o.names
  pub answer : IfOk o.answer (λ e. IsAtom o.names e.atom)

argument_in : (names : Names) (own : ℕ) (args : List Atom) (n : ℕ) → AreAtoms names args → IfSome (argument own args n) (IsAtom names)
argument_in names own args zero h = (tt, near_pos (min own 1000000000 * 1000000) (omega arith))
argument_in names own args (suc k) h = all-at (IsAtom names) args k h

dollar_in : (names : Names) (n : ℕ) (o : Option Atom) → IfSome o (IsAtom names) → IsAtom names (dollar_expanded n o).atom
dollar_in names n (Some a) h = h
dollar_in names n None h = (tt, no_number)

symbol_answer : (names : Names) (missing : Option ℕ) (r : Result ℕ SymbolRefusal) → IfOk r (IsName names) → IfOk (answer_map (λ t. record { atom = Symbol t; missing = missing }) r) (λ (e : Expanded). IsAtom names e.atom)
symbol_answer names missing (Ok s) h = (h, tt)
symbol_answer names missing (Err e) h = tt

pub expanded_at : (names : Names) (a : Atom) (own : ℕ) (args : List Atom) → IsAtom names a → AreAtoms names args → IsExpanded names (expanded names a own args)
unfolding expanded
expanded_at names (Number z) own args h k = record { extends = same_table names; answer = h }
expanded_at names (Symbol s) own args h k = record { extends = same_table names; answer = h }
expanded_at names (Dollar m) own args h k = record { extends = same_table names; answer = dollar_in names m (argument own args m) (argument_in names own args m k) }
expanded_at names (DollarSymbol s) own args h k =
    let o = interned_in names (expanded_name names s own args) in
    record { extends = o.extends; answer = symbol_answer _ (first_missing own args (runs_of (name_of names s))) _ o.answer }
expanded_at names Comma own args h k = record { extends = same_table names; answer = h }
expanded_at names Semi own args h k = record { extends = same_table names; answer = h }

-- the same with 0 as `$0`
pub expanded_in : (names : Names) (a : Atom) (args : List Atom) → IsAtom names a → AreAtoms names args → IsExpanded names (expanded names a 0 args)
expanded_in names a args h k = expanded_at names a 0 args h k

-- an atom without a name
or_in : (P : Atom → Type 0) (x y : Option Atom) → IfSome x P → IfSome y P → IfSome (or_else x y) P
or_in P None y h k = k
or_in P (Some a) y h k = h

map_in : {A : Type 0} (P : Atom → Type 0) (f : A → Atom) (o : Option A) → ((x : A) → o ≡ Some x → P (f x)) → IfSome (option_map f o) P
map_in P f None k = tt
map_in P f (Some x) k = k x refl

unfoldable pub IsNameless : Atom → Type 0
IsNameless a = IsOf [] a × HoldsNumber a

pub nameless_in : (token : List ℕ) → IfSome (nameless token) IsNameless
unfolding IsNameless
nameless_in token =
    let P : Option Atom → Type 0 = λ o. IfSome o IsNameless in
    subst P (sym (nameless_is token))
    (either P (is_mark 44 token) (Some Comma) _ (tt, tt)
    (either P (is_mark 59 token) (Some Semi) _ (tt, tt)
    (or_in IsNameless (option_map (λ z. Number z) (number_at token)) (option_map (λ n. Dollar n) (dollar_at token))
    (map_in IsNameless (λ z. Number z) (number_at token) (λ z e. (tt, number_range token z e)))
    (map_in IsNameless (λ n. Dollar n) (dollar_at token) (λ n e. (dollar_small token n e, tt))))))

-- a name of the table is found
found_in : (names : Names) (s : ℕ) → IsName names s → IfOk (interned names (name_of names s)).answer (IsName names)
unfolding interned
found_in names s h =
    let name = name_of names s in
    let P : Outcome ℕ → Type 0 = λ o. IfOk o.answer (IsName names) in
    either P (nat_lt longest (length name)) (refused TooLong names) (placed names name (position (bytes_eq name) names)) tt
    (by_option (position (bytes_eq name) names)
    (λ none. absurd (absent_at names name none s h refl))
    (λ t some. subst (λ (o : Option ℕ). P (placed names name o)) (sym some) (position_low names name t some).0))

pub named_in : (names : Names) (token : List ℕ) (s : ℕ) → IsName names s → IsAtom names (named token s)
named_in names token s h = (of_named names token s h, either HoldsNumber (has_argument token) (DollarSymbol s) (Symbol s) tt tt)

answer_in : (names : Names) (token : List ℕ) (a : Atom) (r : Result ℕ SymbolRefusal) → IsAtom names a → IfOk r (IsName names) → IsAtom names (answer_or a (answer_map (named token) r))
answer_in names token a (Ok s) h k = named_in names token s k
answer_in names token a (Err e) h k = h

name_settled : (names : Names) (a : Atom) (s : ℕ) → spelled names a ≡ name_of names s → IsName names s → IsAtom names a → IsAtom names (settled names a)
unfolding settled IsNameless
name_settled names a s e l h =
    let token = name_of names s in
    by_option (nameless token)
    (λ none. subst (λ (o : Outcome Atom). IsAtom names (answer_or a o.answer)) (sym (ap (atom_read names) e ∙ atom_read_none names token none))
    (answer_in names token a (interned names token).answer h (found_in names s l)))
    (λ b some. let n : IfSome (Some b) IsNameless = subst (λ (o : Option Atom). IfSome o IsNameless) some (nameless_in token) in
    subst (λ (o : Outcome Atom). IsAtom names (answer_or a o.answer)) (sym (ap (atom_read names) e ∙ atom_read_some names token b some))
    (of_any names b n.0, n.1))

pub settled_in : (names : Names) (a : Atom) → IsAtom names a → IsAtom names (settled names a)
settled_in names (Number z) h = subst (IsAtom names) (sym (settled_from names (Number z) (Number z) (number_settled names z h.1))) h
settled_in names (Symbol s) h = name_settled names (Symbol s) s refl h.0 h
settled_in names (Dollar n) h = subst (IsAtom names) (sym (settled_from names (Dollar n) (Dollar n) (dollar_settled names n h.0))) h
settled_in names (DollarSymbol s) h = name_settled names (DollarSymbol s) s refl h.0 h
settled_in names Comma h = subst (IsAtom names) (sym (settled_from names Comma Comma (comma_settled names))) h
settled_in names Semi h = subst (IsAtom names) (sym (settled_from names Semi Semi (semi_settled names))) h
