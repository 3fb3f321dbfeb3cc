-- Atoms that are read are ready, and what their tokens say of them.
use Rattle.std.proofs.Common.{◌≡◌, ℕ, suc, ◌<◌, ◌≤◌, Bool, true, false, ◌||◌, not, List, [], ◌∷◌, ◌++◌, length, length-append, refl, sym, ap, ◌∙◌, subst, arith, Option, Some, None, Result, Ok, Err, ◌⊎◌, inl, inr}
use Rattle.std.specs.Prelude.{position, bytes_eq, option_map, nat_lt, ℤ, codes, is_some}
use Rattle.std.specs.List.{AllByRecursion, list_any}
use Rattle.std.proofs.lemmas.Bool.Decides.{nat_tests}
use Rattle.std.proofs.lemmas.List.{get_or_append_left}
use Rattle.std.proofs.lemmas.Slice.Eq.{bytes_eq-Decides}
use Rattle.pd_num.specs.Reading.{number_at, numeral_at, exponent_at}
use Rattle.pd_num.specs.Scale.{millionths, IsInRange}
use Rattle.pd_lex.specs.Text.{Piece}
use Rattle.pd_atom.specs.Names.{Names, IsTable, Extends, Outcome, given, refused, interned, name_of, answer_map, outcome_map}
use Rattle.pd_atom.specs.Atoms.{spelled}
use Rattle.pd_atom.specs.Tokens.{atom_read, nameless, named, is_mark, or_else, dollar_at, has_argument, IsSettled}
use Rattle.pd_atom.specs.declared.SymbolRefusal.{SymbolRefusal}
use Rattle.pd_atom.specs.declared.Atom.{Atom}
use Rattle.pd_atom.specs.declared.Atom.TheVariants.{Number, Symbol, Dollar, DollarSymbol, Comma, Semi}
use Rattle.pd_atom.proofs.NameLemmas.{interned_long, interned_found, interned_full, interned_new, position_low, last_name, table_push, lt_from}
use Rattle.pd_atom.proofs.TokenLemmas.{by_option, atom_read_some, atom_read_none, nameless_number, nameless_again, settled_nameless, settled_named, of_named, spelled_named, number_range, mark_is}
use Rattle.pd_canvas.specs.Edits.{is_pd}
use Rattle.pd_canvas.specs.Arrays.{is_name as is_name_atom, is_number as is_number_atom}
use Rattle.pd_canvas.specs.Proper.{IsReady, AreReady, IsText, is_record_word, record_words}
use Rattle.pd_doc.specs.Pieces.{is_long, bytes_of, spells, number_of}
use Rattle.pd_doc.specs.Results.{◌>>=◌}
use Rattle.pd_doc.specs.Fields.{atom_of, atom_from, atoms_of, is_name}
use Rattle.pd_doc.specs.Records.{is_much}
use Rattle.pd_doc.proofs.ResultLemmas.{extends_same, extends_on}
use Rattle.pd_doc.proofs.PieceLemmas.{by_test}
use Rattle.pd_doc.proofs.AtomLaws.{bind_ok, ok_is, nameless_of, outcome_of}
use Rattle.pd_doc.proofs.NameLaws.{pd_name, pd_nameless}

-- ---- a name that is asked for

-- what a name's number is in the table after it
pub record Interned (names names' : Names) (t : List ℕ) (s : ℕ) : Type 0 where
  pub table : IsTable names'
  pub below : s < length names'
  pub name : name_of names' s ≡ t
  pub extends : Extends names names'

abbrev number_answer : ℕ → Result ℕ SymbolRefusal
number_answer s = Ok s

same_number : (k s : ℕ) → number_answer k ≡ number_answer s → k ≡ s
same_number k s e = cc

interned_given : (names names' : Names) (t : List ℕ) (o : Outcome ℕ) (k s : ℕ) → o ≡ given k names' → Interned names names' t k → o.answer ≡ Ok s → Interned names o.names t s
interned_given names names' t o k s e i h =
    let q : k ≡ s = same_number k s (sym (ap (λ (x : Outcome ℕ). x.answer) e) ∙ h) in
    let m : names' ≡ o.names = sym (ap (λ (x : Outcome ℕ). x.names) e) in
    subst (λ x. Interned names x t s) m (subst (λ x. Interned names names' t x) q i)

interned_refused : (names : Names) (d : SymbolRefusal) (o : Outcome ℕ) (s : ℕ) → o ≡ refused d names → o.answer ≡ Ok s → ⊥
interned_refused names d o s e h = let q = sym (ap (λ (x : Outcome ℕ). x.answer) e) ∙ h in cc

within : (n : ℕ) → nat_lt 255 n ≡ false → n ≤ 255
within n h = grind (arith, nat_tests)

is_full : (n : ℕ) → nat_lt n 65536 ≡ false → 65536 ≤ n
is_full n h = grind (arith, nat_tests)

pub interned_is : (names : Names) (t : List ℕ) (s : ℕ) → IsTable names → 0 < length t → (interned names t).answer ≡ Ok s → Interned names (interned names t).names t s
interned_is names t s table some h =
    by_test (nat_lt 255 (length t))
    (λ e. absurd (interned_refused names _ (interned names t) s (interned_long names t (lt_from 255 (length t) e)) h))
    (λ e.
    let short = within (length t) e in
    by_option (position (bytes_eq t) names)
    (λ none. by_test (nat_lt (length names) 65536)
    (λ f.
    let room = lt_from (length names) 65536 f in
    interned_given names (names ++ t ∷ []) t (interned names t) (length names) s (interned_new names t short none room) (record {
      table = table_push names t table some short none room;
      below = omega (arith, length-append names (t ∷ []));
      name = last_name names t;
      extends = (t ∷ [], refl);
    }) h)
    (λ f. absurd (interned_refused names _ (interned names t) s (interned_full names t short none (is_full (length names) f)) h)))
    (λ k found.
    let at = position_low names t k found in
    interned_given names names t (interned names t) k s (interned_found names t k short found) (record {
      table = table;
      below = at.0;
      name = at.1;
      extends = extends_same names;
    }) h))

-- ---- what a token reads as

-- the token needs a name, and the atom has it
pub record NamedAs (names : Names) (t : List ℕ) (a : Atom) : Type 0 where
  pub none : nameless t ≡ None
  pub number : ℕ
  pub below : number < length names
  pub name : name_of names number ≡ t
  pub same : named t number ≡ a

-- the atom is what the token reads as, and where it has a name, that is the token
abbrev pub ReadsAs : Names → List ℕ → Atom → Type 0
ReadsAs names t a = (nameless t ≡ Some a) ⊎ NamedAs names t a

pub record Gives (names names' : Names) (t : List ℕ) (a : Atom) : Type 0 where
  pub table : IsTable names'
  pub extends : Extends names names'
  pub reads : ReadsAs names' t a

answer_mapped : (f : ℕ → Atom) (r : Result ℕ SymbolRefusal) (a : Atom) → answer_map f r ≡ Ok a → (s : ℕ) × (r ≡ Ok s) × (f s ≡ a)
answer_mapped f (Ok s) a h = let q : f s ≡ a = cc in (s, refl, q)
answer_mapped f (Err e) a h = absurd (cc)

abbrev atom_answer : Atom → Result Atom SymbolRefusal
atom_answer a = Ok a

same_atom : (a b : Atom) → atom_answer a ≡ atom_answer b → a ≡ b
same_atom a b e = cc

gives_given : (names : Names) (t : List ℕ) (o : Outcome Atom) (a b : Atom) → IsTable names → nameless t ≡ Some b → o ≡ given b names → o.answer ≡ Ok a → Gives names o.names t a
gives_given names t o a b table n e h =
    let q : b ≡ a = same_atom b a (sym (ap (λ (x : Outcome Atom). x.answer) e) ∙ h) in
    let m : names ≡ o.names = sym (ap (λ (x : Outcome Atom). x.names) e) in
    subst (λ x. Gives names x t a) m (record { table = table; extends = extends_same names; reads = inl (n ∙ ap Some q) })

gives_named : (names : Names) (t : List ℕ) (o : Outcome Atom) (i : Outcome ℕ) (a : Atom) → nameless t ≡ None →
    ((s : ℕ) → i.answer ≡ Ok s → Interned names i.names t s) → o ≡ outcome_map (named t) i → o.answer ≡ Ok a → Gives names o.names t a
gives_named names t o i a none f e h =
    let r = answer_mapped (named t) i.answer a (sym (ap (λ (x : Outcome Atom). x.answer) e) ∙ h) in
    let k = f r.0 r.1 in
    let m : i.names ≡ o.names = sym (ap (λ (x : Outcome Atom). x.names) e) in
    subst (λ x. Gives names x t a) m (record {
      table = k.table;
      extends = k.extends;
      reads = inr (record { none = none; number = r.0; below = k.below; name = k.name; same = r.2 });
    })

pub read_gives : (names : Names) (t : List ℕ) (a : Atom) → IsTable names → 0 < length t → (atom_read names t).answer ≡ Ok a → Gives names (atom_read names t).names t a
read_gives names t a table some h =
    by_option (nameless t)
    (λ none. gives_named names t (atom_read names t) (interned names t) a none (λ s e. interned_is names t s table some e) (atom_read_none names t none) h)
    (λ b found. gives_given names t (atom_read names t) a b table found (atom_read_some names t b found) h)

from_gives : (n : ℕ) (names : Names) (bs : List ℕ) (a : Atom) (names' : Names) → IsTable names → atom_from n names bs ≡ Ok (a, names') → Gives names names' bs a
from_gives n names [] a names' table h = absurd (cc)
from_gives n names (b ∷ bs) a names' table h =
    let o = atom_read names (b ∷ bs) in
    let q = outcome_of n o.names o.answer a names' h in
    subst (λ x. Gives names x (b ∷ bs) a) q.1 (read_gives names (b ∷ bs) a table (omega arith) q.0)

-- ---- tokens and their atoms

-- the atom is what the token stands for
pub record Stands (names : Names) (p : Piece) (a : Atom) : Type 0 where
  pub short : is_long p ≡ false
  pub reads : ReadsAs names (bytes_of p) a

abbrev pub AllStand : Names → List Piece → List Atom → Type 0
AllStand names [] [] = Unit {0}
AllStand names [] (a ∷ l) = ⊥
AllStand names (p ∷ ps) [] = ⊥
AllStand names (p ∷ ps) (a ∷ l) = Stands names p a × AllStand names ps l

pub record Made (names names' : Names) (ps : List Piece) (l : List Atom) : Type 0 where
  pub table : IsTable names'
  pub extends : Extends names names'
  pub stand : AllStand names' ps l

pub record MadeOne (names names' : Names) (p : Piece) (a : Atom) : Type 0 where
  pub table : IsTable names'
  pub extends : Extends names names'
  pub stands : Stands names' p a

atom_made : (n : ℕ) (names : Names) (p : Piece) (a : Atom) (names' : Names) → IsTable names → atom_of n names p ≡ Ok (a, names') → MadeOne names names' p a
unfolding atom_of
atom_made n names p a names' table h =
    by_test (is_long p) (λ e. absurd (let q = rw e at h in cc))
    (λ e.
    let g = from_gives n names (bytes_of p) a names' table (rw e at h) in
    record { table = g.table; extends = g.extends; stands = record { short = e; reads = g.reads } })

pub name_extended : (old new : Names) → Extends old new → (s : ℕ) → s < length old → name_of new s ≡ name_of old s
name_extended old new x s h = ap (λ ns. name_of ns s) x.1 ∙ get_or_append_left old x.0 [] s h

pub below_extended : (old new : Names) → Extends old new → (s : ℕ) → s < length old → s < length new
below_extended old new x s h = omega (arith, h, ap length x.1, length-append old x.0)

reads_extended : (old new : Names) → Extends old new → (t : List ℕ) (a : Atom) → ReadsAs old t a → ReadsAs new t a
reads_extended old new x t a (inl e) = inl e
reads_extended old new x t a (inr k) = inr (record {
  none = k.none;
  number = k.number;
  below = below_extended old new x k.number k.below;
  name = name_extended old new x k.number k.below ∙ k.name;
  same = k.same;
})

stands_extended : (old new : Names) → Extends old new → (p : Piece) (a : Atom) → Stands old p a → Stands new p a
stands_extended old new x p a h = record { short = h.short; reads = reads_extended old new x (bytes_of p) a h.reads }

pub atoms_made : (n : ℕ) (names : Names) (ps : List Piece) (l : List Atom) (names' : Names) → IsTable names → atoms_of n names ps ≡ Ok (l, names') → Made names names' ps l
unfolding atoms_of
atoms_made n names [] l names' table h =
    let e = ok_is ([], names) (l, names') h in
    subst (λ (p : List Atom × Names). Made names p.1 [] p.0) e (record { table = table; extends = extends_same names; stand = tt })
atoms_made n names (p ∷ ps) l names' table h =
    let a = bind_ok (atom_of n names p) (λ a. atoms_of n a.1 ps >>= (λ rest. Ok (a.0 ∷ rest.0, rest.1))) (l, names') h in
    let b = bind_ok (atoms_of n a.0.1 ps) (λ rest. Ok (a.0.0 ∷ rest.0, rest.1)) (l, names') a.2 in
    let first = atom_made n names p a.0.0 a.0.1 table a.1 in
    let others = atoms_made n a.0.1 ps b.0.0 b.0.1 first.table b.1 in
    let made : List Atom × Names = (a.0.0 ∷ b.0.0, b.0.1) in
    subst (λ (q : List Atom × Names). Made names q.1 (p ∷ ps) q.0) (ok_is made (l, names') b.2) (record {
      table = others.table;
      extends = extends_on names a.0.1 b.0.1 first.extends others.extends;
      stand = (stands_extended a.0.1 b.0.1 others.extends p a.0.0 first.stands, others.stand);
    })

-- ---- they are ready

named_ready : (names : Names) (t : List ℕ) (s : ℕ) (a : Atom) → IsTable names → s < length names → nameless t ≡ None → name_of names s ≡ t → named t s ≡ a → IsReady names a
named_ready names t s a table low none name same =
    subst (IsReady names) same
    (of_named names t s low, subst (λ x. IsSettled names (named x s)) name (settled_named names s table low (ap nameless name ∙ none)))

reads_ready : (names : Names) (t : List ℕ) (a : Atom) → IsTable names → ReadsAs names t a → IsReady names a
reads_ready names t a table (inl e) = (nameless_of names t a e, settled_nameless names t a e)
reads_ready names t a table (inr k) = named_ready names t k.number a table k.below k.none k.name k.same

pub all_ready : (names : Names) (ps : List Piece) (l : List Atom) → IsTable names → AllStand names ps l → AreReady names l
all_ready names [] [] table h = tt
all_ready names [] (a ∷ l) table h = absurd h
all_ready names (p ∷ ps) [] table h = absurd h
all_ready names (p ∷ ps) (a ∷ l) table h = (reads_ready names (bytes_of p) a table h.0.reads, all_ready names ps l table h.1)

pub as_many : (names : Names) (ps : List Piece) (l : List Atom) → AllStand names ps l → length l ≡ length ps
as_many names [] [] h = refl
as_many names [] (a ∷ l) h = absurd h
as_many names (p ∷ ps) [] h = absurd h
as_many names (p ∷ ps) (a ∷ l) h = ap suc (as_many names ps l h.1)

not_much : (n : ℕ) → nat_lt 1024 n ≡ false → n ≤ 1024
not_much n h = grind (arith, nat_tests)

pub text_made : (names : Names) (ps : List Piece) (l : List Atom) → IsTable names → AllStand names ps l → is_much ps ≡ false → IsText names l
text_made names ps l table h e = (all_ready names ps l table h, omega (arith, as_many names ps l h, not_much (length ps) e))

-- ---- numbers

named_no_number : (t : List ℕ) (s : ℕ) → is_number_atom (named t s) ≡ false
named_no_number t s = by_test (has_argument t) (λ e. rw e refl) (λ e. rw e refl)

named_a_name : (t : List ℕ) (s : ℕ) → is_name_atom (named t s) ≡ true
named_a_name t s = by_test (has_argument t) (λ e. rw e refl) (λ e. rw e refl)

no_dollar : (o : Option ℕ) (z : ℤ) → option_map (λ n. Dollar n) o ≡ Some (Number z) → ⊥
no_dollar None z h = cc
no_dollar (Some n) z h = let q : Dollar n ≡ Number z = cc in let r = ap is_number_atom q in cc

number_or : (t : List ℕ) (o : Option ℤ) (z : ℤ) → or_else (option_map (λ y. Number y) o) (option_map (λ n. Dollar n) (dollar_at t)) ≡ Some (Number z) → o ≡ Some z
number_or t (Some y) z h = cc
number_or t None z h = absurd (no_dollar (dollar_at t) z h)

number_from : (t : List ℕ) (z : ℤ) → nameless t ≡ Some (Number z) → number_at t ≡ Some z
unfolding nameless
number_from t z h =
    by_test (is_mark 44 t)
    (λ e. absurd (let q = rw e at h in cc))
    (λ e. by_test (is_mark 59 t) (λ f. absurd (let q = rw (e, f) at h in cc)) (λ f. let q = rw (e, f) at h in number_or t (number_at t) z q))

short_number : (p : Piece) (z : ℤ) → is_long p ≡ false → number_at (bytes_of p) ≡ Some z → number_of p ≡ Some z
short_number p z e h = rw e h

number_short : (p : Piece) (z : ℤ) → number_of p ≡ Some z → number_at (bytes_of p) ≡ Some z
number_short p z h = by_test (is_long p) (λ e. absurd (let q = rw e at h in cc)) (λ e. rw e at h)

-- the number of a token is in range
pub number_in_range : (p : Piece) (z : ℤ) → number_of p ≡ Some z → IsInRange millionths z
number_in_range p z h = number_range (bytes_of p) z (number_short p z h)

reads_number : (names : Names) (t : List ℕ) (a : Atom) → ReadsAs names t a → is_number_atom a ≡ true → (z : ℤ) × (number_at t ≡ Some z)
reads_number names t (Number z) (inl e) h = (z, number_from t z e)
reads_number names t (Symbol s) (inl e) h = absurd (cc)
reads_number names t (Dollar n) (inl e) h = absurd (cc)
reads_number names t (DollarSymbol s) (inl e) h = absurd (cc)
reads_number names t Comma (inl e) h = absurd (cc)
reads_number names t Semi (inl e) h = absurd (cc)
reads_number names t a (inr k) h = absurd (let q = sym (ap is_number_atom k.same) ∙ named_no_number t k.number in let r = sym h ∙ q in cc)

-- an atom that is a number stands for a token that spells one
pub number_stands : (names : Names) (p : Piece) (a : Atom) → Stands names p a → is_number_atom a ≡ true → (z : ℤ) × (number_of p ≡ Some z)
number_stands names p a h e = let r = reads_number names (bytes_of p) a h.reads e in (r.0, short_number p r.0 h.short r.1)

some_atom : (a b : Atom) → Some a ≡ Some b → a ≡ b
some_atom a b e = cc

reads_as_number : (names : Names) (t : List ℕ) (a : Atom) (z : ℤ) → ReadsAs names t a → nameless t ≡ Some (Number z) → a ≡ Number z
reads_as_number names t a z (inl e) h = some_atom a (Number z) (sym e ∙ h)
reads_as_number names t a z (inr k) h = absurd (let q = sym k.none ∙ h in cc)

-- the atom of a token that spells a number is the number
pub stands_number : (names : Names) (p : Piece) (a : Atom) (z : ℤ) → Stands names p a → number_of p ≡ Some z → a ≡ Number z
stands_number names p a z h e = reads_as_number names (bytes_of p) a z h.reads (nameless_number (bytes_of p) z (number_short p z e))

-- ---- names

none_of_three : (a b c : Bool) → not (a || b || c) ≡ true → (a ≡ false) × (b ≡ false) × (c ≡ false)
none_of_three true b c h = absurd (cc)
none_of_three false true c h = absurd (cc)
none_of_three false false true h = absurd (cc)
none_of_three false false false h = (refl, refl, refl)

dollar_name : (o : Option ℕ) (a : Atom) → option_map (λ n. Dollar n) o ≡ Some a → is_name_atom a ≡ true
dollar_name None a h = absurd (cc)
dollar_name (Some n) a h = ap is_name_atom (sym (some_atom (Dollar n) a h))

number_none : (o : Option ℤ) (t : List ℕ) (a : Atom) → is_some o ≡ false → or_else (option_map (λ y. Number y) o) (option_map (λ n. Dollar n) (dollar_at t)) ≡ Some a → is_name_atom a ≡ true
number_none None t a e h = dollar_name (dollar_at t) a h
number_none (Some z) t a e h = absurd (cc)

no_mark : (m : ℕ) (t : List ℕ) → bytes_eq t (m ∷ []) ≡ false → is_mark m t ≡ true → ⊥
no_mark m t h e = let q : bytes_eq t (m ∷ []) ≡ true = (bytes_eq-Decides t (m ∷ [])).1 (mark_is m t e) in let r = sym q ∙ h in cc

reads_name : (names : Names) (t : List ℕ) (a : Atom) → ReadsAs names t a → bytes_eq t (44 ∷ []) ≡ false → bytes_eq t (59 ∷ []) ≡ false → is_some (number_at t) ≡ false → is_name_atom a ≡ true
unfolding nameless
reads_name names t a (inl e) x y z =
    by_test (is_mark 44 t) (λ f. absurd (no_mark 44 t x f))
    (λ f. by_test (is_mark 59 t) (λ g. absurd (no_mark 59 t y g)) (λ g. let q = rw (f, g) at e in number_none (number_at t) t a z q))
reads_name names t a (inr k) x y z = ap is_name_atom (sym k.same) ∙ named_a_name t k.number

-- an atom of a token that is a name is one
pub name_stands : (names : Names) (p : Piece) (a : Atom) → Stands names p a → is_name p ≡ true → is_name_atom a ≡ true
name_stands names p a h e =
    let r = none_of_three (bytes_eq (bytes_of p) (44 ∷ [])) (bytes_eq (bytes_of p) (59 ∷ [])) (is_some (number_of p)) e in
    let s = h.short in
    reads_name names (bytes_of p) a h.reads r.0 r.1 (let q = r.2 in rw s at q)

-- ---- the symbol `pd`

spelled_token : (names : Names) (t : List ℕ) (a : Atom) → NamedAs names t a → spelled names a ≡ t
spelled_token names t a k = sym (ap (spelled names) k.same) ∙ spelled_named names t k.number ∙ k.name

pd_number : (s : ℕ) → is_pd (Symbol s) ≡ true → s ≡ 4
pd_number s h = grind (arith, nat_tests)

pd_spelled : (names : Names) (a : Atom) → IsTable names → is_pd a ≡ true → spelled names a ≡ codes "pd"
pd_spelled names (Number z) table h = absurd (cc)
pd_spelled names (Symbol s) table h = ap (name_of names) (pd_number s h) ∙ pd_name names table
pd_spelled names (Dollar n) table h = absurd (cc)
pd_spelled names (DollarSymbol s) table h = absurd (cc)
pd_spelled names Comma table h = absurd (cc)
pd_spelled names Semi table h = absurd (cc)

reads_pd : (names : Names) (t : List ℕ) (a : Atom) → IsTable names → ReadsAs names t a → is_pd a ≡ true → bytes_eq t (codes "pd") ≡ true
reads_pd names t a table (inl e) h =
    absurd (let q = sym (ap nameless (pd_spelled names a table h) ∙ pd_nameless) ∙ nameless_again names t a e in cc)
reads_pd names t a table (inr k) h = (bytes_eq-Decides t (codes "pd")).1 (sym (spelled_token names t a k) ∙ pd_spelled names a table h)

pub pd_stands : (names : Names) (p : Piece) (a : Atom) → IsTable names → Stands names p a → is_pd a ≡ true → spells (codes "pd") p ≡ true
pd_stands names p a table h e = reads_pd names (bytes_of p) a table h.reads e

-- ---- the words of records

words_nameless : AllByRecursion (λ w. nameless w ≡ None) record_words
unfolding nameless number_at numeral_at exponent_at
words_nameless = (refl, (refl, (refl, (refl, (refl, (refl, (refl, (refl, (refl, (refl, (refl, tt)))))))))))

no_word : (bs : List ℕ) (a : Atom) → nameless bs ≡ Some a → (ws : List (List ℕ)) → AllByRecursion (λ w. nameless w ≡ None) ws → list_any (bytes_eq bs) ws ≡ false
no_word bs a h [] k = refl
no_word bs a h (w ∷ ws) k =
    by_test (bytes_eq bs w)
    (λ e. absurd (let q = sym (ap nameless ((bytes_eq-Decides bs w).0 e) ∙ k.0) ∙ h in cc))
    (λ e. rw e (no_word bs a h ws k.1))

reads_word : (names : Names) (t : List ℕ) (a : Atom) → ReadsAs names t a → is_record_word t ≡ false → is_record_word (spelled names a) ≡ false
reads_word names t a (inl e) h = no_word (spelled names a) a (nameless_again names t a e) record_words words_nameless
reads_word names t a (inr k) h = ap is_record_word (spelled_token names t a k) ∙ h

pub word_stands : (names : Names) (p : Piece) (a : Atom) → Stands names p a → is_record_word (bytes_of p) ≡ false → is_record_word (spelled names a) ≡ false
word_stands names p a h e = reads_word names (bytes_of p) a h.reads e
