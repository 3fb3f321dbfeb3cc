-- Tokens that spell a word, a mark or a number.
use Rattle.std.proofs.Common.{◌≡◌, ℕ, suc, ◌<◌, true, false, ◌||◌, not, List, [], ◌∷◌, length, refl, sym, ap, ◌∙◌, arith, eqb, get_or, Option, Some, None, Result, Ok, inl, inr}
use Rattle.std.specs.Prelude.{ℤ, codes, bytes_eq, is_some, ◌⊎◌}
use Rattle.std.specs.List.{list_all}
use Rattle.std.proofs.lemmas.Bool.Decides.{nat_tests}
use Rattle.std.proofs.lemmas.List.{get_or-take}
use Rattle.std.proofs.lemmas.Slice.Eq.{bytes_eq-Decides}
use Rattle.pd_num.specs.Reading.{number_at, numeral_at, exponent_at}
use Rattle.pd_atom.specs.Names.{Names, IsTable, name_of, interned, given, Outcome}
use Rattle.pd_atom.specs.declared.SymbolRefusal.{SymbolRefusal}
use Rattle.pd_atom.specs.Atoms.{spelled}
use Rattle.pd_atom.specs.Tokens.{atom_read, nameless, is_mark, named, IsSettled}
use Rattle.pd_atom.specs.declared.Atom.{Atom}
use Rattle.pd_atom.specs.declared.Atom.TheVariants.{Number, Symbol, Dollar, DollarSymbol, Comma, Semi}
use Rattle.pd_atom.proofs.TokenLemmas.{name_read, interned_again}
use Rattle.pd_canvas.specs.Edits.{begins_with_pd, is_pd}
use Rattle.pd_canvas.specs.Arrays.{is_name as is_name_atom, is_number as is_number_atom}
use Rattle.pd_canvas.specs.Proper.{IsReady, AreReady, is_number_row}
use Rattle.pd_canvas.specs.Pages.{Other}
use Rattle.pd_doc.specs.declared.kinds.BoxWord.TheVariants as word
use Rattle.pd_doc.specs.Pieces.{bytes_of, number_of, numbers_of, cons_number}
use Rattle.pd_doc.specs.Fields.{is_name}
use Rattle.pd_doc.specs.Records.{makes_canvas, form_of}
use Rattle.pd_doc.specs.Writing.{atom_piece, atom_pieces}
use Rattle.pd_doc.proofs.PieceLemmas.{by_test}
use Rattle.pd_atom.proofs.NameLemmas.{six_names}
use Rattle.pd_doc.proofs.Known.{Known, short_piece}

-- ---- the symbol `pd` and the word `listbox`

abbrev answered : Atom → Result Atom SymbolRefusal
answered a = Ok a

given_is : (names : Names) (a b : Atom) → given a names ≡ given b names → a ≡ b
given_is names a b h =
    let q : answered a ≡ answered b = ap (λ (o : Outcome Atom). o.answer) h in
    cc

pub pd_name : (names : Names) → IsTable names → name_of names 4 ≡ codes "pd"
pd_name names t =
    sym (get_or-take 6 names 4 [] (omega arith)) ∙ ap (λ l. get_or l 4 []) t.begins

pub pd_nameless : nameless (codes "pd") ≡ None
unfolding nameless number_at numeral_at exponent_at
pd_nameless = refl

pd_read : (names : Names) → IsTable names → atom_read names (codes "pd") ≡ given (Symbol 4) names
pd_read names t =
    let e = pd_name names t in
    let six = six_names names t in
    let r = name_read names 4 t (omega arith) (ap nameless e ∙ pd_nameless) in
    ap (atom_read names) (sym e) ∙ r ∙ ap (λ x. given (named x 4) names) e

pd_is : (names : Names) → IsTable names → (a : Atom) → IsSettled names a → spelled names a ≡ codes "pd" → is_pd a ≡ true
pd_is names t a s h =
    let e : Symbol 4 ≡ a = given_is names (Symbol 4) a (sym (pd_read names t) ∙ ap (atom_read names) (sym h) ∙ s) in
    ap is_pd (sym e)

pub not_pd : (names : Names) → Known names → (l : List Atom) → AreReady names l → begins_with_pd l ≡ false → makes_canvas word.Obj (atom_pieces names l) ≡ false
not_pd names kn [] h e = refl
not_pd names kn (a ∷ l) h e =
    ap (λ b. bytes_eq b (codes "pd")) (kn.bytes (spelled names a))
    ∙ by_test (bytes_eq (spelled names a) (codes "pd"))
    (λ f. absurd (let p = pd_is names kn.table a h.0.1 ((bytes_eq-Decides (spelled names a) (codes "pd")).0 f) in cc))
    (λ f. f)

pub listbox_back : (names : Names) → Known names → (n s : ℕ) → s < length names → name_of names s ≡ codes "listbox" → form_of word.ListBox n names ≡ Ok (Other s, names)
unfolding form_of
listbox_back names kn n s h e =
    let r : interned names (codes "listbox") ≡ given s names = ap (interned names) (sym e) ∙ interned_again names s kn.table h in
    rw r refl

-- ---- marks and numbers

comma_read : (names : Names) → atom_read names (44 ∷ []) ≡ given Comma names
unfolding atom_read nameless
comma_read names = refl

semi_read : (names : Names) → atom_read names (59 ∷ []) ≡ given Semi names
unfolding atom_read nameless
semi_read names = refl

number_read : (names : Names) (bs : List ℕ) (z : ℤ) → is_mark 44 bs ≡ false → is_mark 59 bs ≡ false → number_at bs ≡ Some z → atom_read names bs ≡ given (Number z) names
unfolding atom_read nameless
number_read names bs z a b c = rw (a, b, c) refl

no_comma : number_at (44 ∷ []) ≡ None
unfolding number_at numeral_at exponent_at
no_comma = refl

no_semi : number_at (59 ∷ []) ≡ None
unfolding number_at numeral_at exponent_at
no_semi = refl

long_no : (c : ℕ) (cs : List ℕ) → eqb (length (c ∷ cs)) 0 ≡ true → ⊥
long_no c cs h = let q : suc (length cs) ≡ 0 = grind (arith, nat_tests) in omega arith

mark_is : (m : ℕ) (bs : List ℕ) → is_mark m bs ≡ true → bs ≡ m ∷ []
mark_is m [] h = absurd (cc)
mark_is m (b ∷ []) h =
    by_test (eqb b m) (λ e. let q : b ≡ m = grind (arith, nat_tests) in ap (λ x. x ∷ []) q) (λ e. absurd (let q = rw e at h in cc))
mark_is m (b ∷ c ∷ cs) h =
    by_test (eqb b m) (λ e. absurd (long_no c cs (rw e at h))) (λ e. absurd (let q = rw e at h in cc))

pub spells_number : (names : Names) → (a : Atom) → IsSettled names a → (z : ℤ) → number_at (spelled names a) ≡ Some z → a ≡ Number z
spells_number names a s z h =
    by_test (is_mark 44 (spelled names a))
    (λ e. absurd (let q = sym h ∙ ap number_at (mark_is 44 (spelled names a) e) ∙ no_comma in cc))
    (λ e. by_test (is_mark 59 (spelled names a))
    (λ f. absurd (let q = sym h ∙ ap number_at (mark_is 59 (spelled names a) f) ∙ no_semi in cc))
    (λ f. given_is names a (Number z) (sym s ∙ number_read names (spelled names a) z e f h)))

option_none : (o : Option ℤ) → ((z : ℤ) → o ≡ Some z → ⊥) → o ≡ None
option_none None h = refl
option_none (Some z) h = absurd (h z refl)

pub not_number : (names : Names) → Known names → (a : Atom) → IsReady names a → is_number_atom a ≡ false → number_of (atom_piece names a) ≡ None
not_number names kn a r h =
    let s = short_piece names kn a r.0 (kn.holds a r.1) in
    rw s (ap number_at (kn.bytes (spelled names a)) ∙ option_none (number_at (spelled names a)) (λ z e.
    let q : is_number_atom a ≡ true = ap is_number_atom (spells_number names a r.1 z e) in cc))

is_number_of : (names : Names) → Known names → (a : Atom) → IsReady names a → is_number_atom a ≡ true → (z : ℤ) × (a ≡ Number z)
is_number_of names kn (Number z) r h = (z, refl)
is_number_of names kn (Symbol s) r h = absurd (cc)
is_number_of names kn (Dollar n) r h = absurd (cc)
is_number_of names kn (DollarSymbol s) r h = absurd (cc)
is_number_of names kn Comma r h = absurd (cc)
is_number_of names kn Semi r h = absurd (cc)

cons_none : (o : Option ℤ) → cons_number o None ≡ None
cons_none None = refl
cons_none (Some z) = refl

some_no_number : (names : Names) → Known names → (l : List Atom) → AreReady names l → list_all is_number_atom l ≡ false → numbers_of (atom_pieces names l) ≡ None
some_no_number names kn [] r h = absurd (cc)
some_no_number names kn (a ∷ l) r h =
    by_test (is_number_atom a)
    (λ e. ap (cons_number (number_of (atom_piece names a))) (some_no_number names kn l r.1 (rw e at h)) ∙ cons_none (number_of (atom_piece names a)))
    (λ e. ap (λ o. cons_number o (numbers_of (atom_pieces names l))) (not_number names kn a r.0 e))

-- the numbers of a row that isn't made of one or more numbers alone
pub row_numbers : (names : Names) → Known names → (l : List Atom) → AreReady names l → is_number_row l ≡ false → (numbers_of (atom_pieces names l) ≡ None) ⊎ (numbers_of (atom_pieces names l) ≡ Some [])
row_numbers names kn [] r h = inr refl
row_numbers names kn (a ∷ l) r h = inl (some_no_number names kn (a ∷ l) r h)

-- ---- the name of an array

name_not_number : (a : Atom) → is_name_atom a ≡ true → is_number_atom a ≡ false
name_not_number (Number z) h = absurd (cc)
name_not_number (Symbol s) h = refl
name_not_number (Dollar n) h = refl
name_not_number (DollarSymbol s) h = refl
name_not_number Comma h = refl
name_not_number Semi h = refl

not_mark : (names : Names) (a b : Atom) (m : ℕ) → IsSettled names a → atom_read names (m ∷ []) ≡ given b names → is_name_atom b ≡ false → is_name_atom a ≡ true →
    bytes_eq (spelled names a) (m ∷ []) ≡ false
not_mark names a b m s r h k =
    by_test (bytes_eq (spelled names a) (m ∷ []))
    (λ e. absurd (
    let f : spelled names a ≡ m ∷ [] = (bytes_eq-Decides (spelled names a) (m ∷ [])).0 e in
    let g : a ≡ b = given_is names a b (sym s ∙ ap (atom_read names) f ∙ r) in
    let q = sym (ap is_name_atom g) ∙ k in cc))
    (λ e. e)

pub name_back : (names : Names) → Known names → (a : Atom) → IsReady names a → is_name_atom a ≡ true → is_name (atom_piece names a) ≡ true
name_back names kn a r h =
    let b = kn.bytes (spelled names a) in
    let c = not_mark names a Comma 44 r.1 (comma_read names) refl h in
    let d = not_mark names a Semi 59 r.1 (semi_read names) refl h in
    let e = not_number names kn a r (name_not_number a h) in
    ap (λ o. not (bytes_eq (bytes_of (atom_piece names a)) (44 ∷ []) || bytes_eq (bytes_of (atom_piece names a)) (59 ∷ []) || is_some o)) e
    ∙ ap (λ x. not (bytes_eq x (44 ∷ []) || bytes_eq x (59 ∷ []) || false)) b
    ∙ (rw (c, d) refl)
