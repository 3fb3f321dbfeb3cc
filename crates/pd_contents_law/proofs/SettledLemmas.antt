-- Texts of message boxes stay what their spellings read as.
use Rattle.std.proofs.Common.{◌≡◌, ◌≤◌, ◌+◌, ◌<◌, ℕ, Bool, true, ◌==◌, List, [], ◌∷◌, ◌++◌, length, take, codes, nat_lt, Option, Some, None, refl, sym, ap, ◌∙◌, subst, arith}
use Rattle.std.specs.List.{AllByRecursion}
use Rattle.std.proofs.lemmas.Bool.Decides.{nat_tests}
use Rattle.pd_atom.specs.declared.Atom.{Atom}
use Rattle.pd_atom.specs.declared.Atom.TheVariants as atom
use Rattle.pd_atom.specs.Names.{Names, Extends, IsTable, given, name_of}
use Rattle.pd_atom.specs.Atoms.{IsOf, HoldsNumber, spelled}
use Rattle.pd_atom.specs.Tokens.{atom_read, settled, IsSettled, nameless, named}
use Rattle.pd_atom.proofs.NameLemmas.{table_take}
use Rattle.pd_atom.proofs.TokenLemmas.{by_option, atom_read_some, name_read, settled_from, settled_nameless, settled_named, number_settled, dollar_settled, comma_settled, semi_settled}
use Rattle.pd_atom.proofs.LawLemmas.{settled_extended}
use Rattle.pd_guards.specs.Order.{IsAtom, AreAtoms}
use Rattle.pd_guards.proofs.FactLemmas.{either, all-append}
use Rattle.pd_guards.proofs.MoreLemmas.{of_more, longer}
use Rattle.pd_guards.proofs.NameLemmas.{settled_in}
use Rattle.pd_kind.specs.declared.messages.Sort.{Sort}
use Rattle.pd_kind.specs.declared.messages.Sort.TheVariants as sort
use Rattle.pd_kind.specs.declared.states.State.{State}
use Rattle.pd_kind.specs.declared.states.State.TheVariants as state
use Rattle.pd_kind.specs.Messages.{sort_of}
use Rattle.pd_message.specs.Rows.{Edited, is_called, grown, settled_atoms, edited, heard_as, message_row}
use Rattle.pd_contents_law.specs.Contents.{StaySettled, HasContents}

pub same_key : (j k : ℕ) → (j == k) ≡ true → j ≡ k
same_key j k e = grind (arith, nat_tests)

-- ---- tables

pub onward : (a b c : Names) → Extends a b → Extends b c → Extends a c
onward a b c x y = (x.0 ++ y.0, y.1 ∙ ap (λ (l : Names). l ++ y.0) x.1 ∙ append_assoc a x.0 y.0)
  where
    append_assoc : (xs ys zs : Names) → (xs ++ ys) ++ zs ≡ xs ++ (ys ++ zs)
    append_assoc [] ys zs = refl
    append_assoc (x ∷ xs) ys zs = ap (λ (l : Names). x ∷ l) (append_assoc xs ys zs)

-- what stays settled stays so in a table that goes on
pub settled_more : (old new : Names) → Extends old new → (text : List Atom) → StaySettled old text → StaySettled new text
settled_more old new x text h later y t = h later (onward old new later x y) t

front : (names more : Names) → take (length names) (names ++ more) ≡ names
front [] more = refl
front (x ∷ names) more = ap (λ (l : Names). x ∷ l) (front names more)

-- a table that another one goes on is one
pub table_before : (old new : Names) → Extends old new → 6 ≤ length old → IsTable new → IsTable old
table_before old new x six t =
    subst IsTable (ap (λ (l : Names). take (length old) l) x.1 ∙ front old x.0) (table_take new (length old) six t)

-- ---- what an atom settles to is settled

symbol_settles : (names : Names) (a : Atom) (s : ℕ) → IsTable names → s < length names → spelled names a ≡ name_of names s → IsSettled names (settled names a)
symbol_settles names a s t low is =
    by_option (nameless (name_of names s))
    (λ none. subst (IsSettled names) (sym (settled_from names a (named (name_of names s) s) (ap (atom_read names) is ∙ name_read names s t low none))) (settled_named names s t low none))
    (λ b some. subst (IsSettled names) (sym (settled_from names a b (ap (atom_read names) is ∙ atom_read_some names (name_of names s) b some))) (settled_nameless names (name_of names s) b some))

same_settles : (names : Names) (a : Atom) → IsSettled names a → IsSettled names (settled names a)
same_settles names a h = subst (IsSettled names) (sym (settled_from names a a h)) h

settles : (names : Names) (a : Atom) → IsTable names → IsAtom names a → IsSettled names (settled names a)
settles names (atom.Number z) t h = same_settles names (atom.Number z) (number_settled names z h.1)
settles names (atom.Symbol s) t h = symbol_settles names (atom.Symbol s) s t h.0 refl
settles names (atom.Dollar n) t h = same_settles names (atom.Dollar n) (dollar_settled names n h.0)
settles names (atom.DollarSymbol s) t h = symbol_settles names (atom.DollarSymbol s) s t h.0 refl
settles names atom.Comma t h = same_settles names atom.Comma (comma_settled names)
settles names atom.Semi t h = same_settles names atom.Semi (semi_settled names)

-- it stays so in a longer table
settles_on : (names later : Names) (a : Atom) → Extends names later → IsTable names → IsTable later → IsAtom names a → IsSettled later (settled names a)
settles_on names later a x t u h =
    settled_extended names later (settled names a) x t u (settled_in names a h).0 (settles names a t h)

all_settle : (names later : Names) (atoms : List Atom) → Extends names later → IsTable names → IsTable later → AreAtoms names atoms → AllByRecursion (IsSettled later) (settled_atoms names atoms)
all_settle names later [] x t u h = tt
all_settle names later (a ∷ atoms) x t u h = (settles_on names later a x t u h.0, all_settle names later atoms x t u h.1)

atoms_settle : (names : Names) (atoms : List Atom) → 6 ≤ length names → AreAtoms names atoms → StaySettled names (settled_atoms names atoms)
atoms_settle names atoms six h later x u = all_settle names later atoms x (table_before names later x six u) u h

-- ---- message boxes

both_settled : (names : Names) (text more : List Atom) → StaySettled names text → StaySettled names more → StaySettled names (text ++ more)
both_settled names text more h k later x t = all-append (IsSettled later) text more (h later x t) (k later x t)

grown_settled : (names : Names) (text more : List Atom) → StaySettled names text → StaySettled names more → StaySettled names (grown text more).text
grown_settled names text more h k =
    either (λ (e : Edited). StaySettled names e.text) (nat_lt 1024 (length text + length more)) _ _ h (both_settled names text more h k)

comma_stays : (names : Names) → StaySettled names (atom.Comma ∷ [])
comma_stays names later x t = (comma_settled later, tt)

semi_stays : (names : Names) → StaySettled names (atom.Semi ∷ [])
semi_stays names later x t = (semi_settled later, tt)

edited_settled : (names : Names) (text : List Atom) (selector : ℕ) (atoms : List Atom) → 6 ≤ length names → AreAtoms names atoms → StaySettled names text → StaySettled names (edited names text selector atoms).text
edited_settled names text selector atoms six m h =
    let P = λ (e : Edited). StaySettled names e.text in
    let new : StaySettled names (settled_atoms names atoms) = atoms_settle names atoms six m in
    either P (is_called names selector (codes "set")) _ _ new
    (either P (is_called names selector (codes "add")) _ _ (grown_settled names text (settled_atoms names atoms ++ atom.Semi ∷ []) h (both_settled names (settled_atoms names atoms) (atom.Semi ∷ []) new (semi_stays names)))
    (either P (is_called names selector (codes "add2")) _ _ (grown_settled names text (settled_atoms names atoms) h new)
    (either P (is_called names selector (codes "addcomma")) _ _ (grown_settled names text (atom.Comma ∷ []) h (comma_stays names))
    (either P (is_called names selector (codes "addsemi")) _ _ (grown_settled names text (atom.Semi ∷ []) h (semi_stays names)) h))))

text_settled : (size : ℕ) (names : Names) (text : List Atom) (selector : ℕ) (atoms : List Atom) (s : Sort) → 6 ≤ length names → AreAtoms names atoms → StaySettled names text
    → HasContents size names (heard_as names text selector atoms s).state
text_settled size names text selector atoms sort.Other six m h = edited_settled names text selector atoms six m h
text_settled size names text selector atoms s six m h = h

pub message_kept : (size : ℕ) (names : Names) (s : State) (selector : ℕ) (atoms : List Atom) → 6 ≤ length names → AreAtoms names atoms → HasContents size names s
    → HasContents size names (message_row names s selector atoms).state
unfolding message_row
message_kept size names (state.Message text) selector atoms six m h = text_settled size names text selector atoms (sort_of selector atoms) six m h
message_kept size names s selector atoms six m h = h

-- ---- a table that goes on

pub contents_more : (size : ℕ) (old new : Names) → Extends old new → (s : State) → HasContents size old s → HasContents size new s
contents_more size old new x (state.Message text) h = settled_more old new x text h
contents_more size old new x s h = h
