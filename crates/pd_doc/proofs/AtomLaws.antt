-- Steps that did not refuse, and atoms that need no name.
use Rattle.std.proofs.Common.{◌≡◌, ℕ, ◌≤◌, Bool, true, false, List, refl, ap, subst, Option, Some, None, Result, Ok, Err}
use Rattle.std.specs.Prelude.{option_map, ℤ}
use Rattle.pd_atom.specs.Names.{Names}
use Rattle.pd_atom.specs.Atoms.{IsOf}
use Rattle.pd_atom.specs.Tokens.{nameless, is_mark, or_else, dollar_at}
use Rattle.pd_num.specs.Reading.{number_at}
use Rattle.pd_atom.specs.declared.SymbolRefusal.{SymbolRefusal}
use Rattle.pd_atom.specs.declared.Atom.{Atom}
use Rattle.pd_atom.specs.declared.Atom.TheVariants.{Number, Dollar, Comma, Semi}
use Rattle.pd_atom.proofs.TokenLemmas.{dollar_small}
use Rattle.pd_doc.specs.declared.refusal.DocRefusal.{DocRefusal}
use Rattle.pd_doc.specs.Results.{◌>>=◌, refuse_if, answer_in}
use Rattle.pd_doc.proofs.PieceLemmas.{by_test}

-- ---- steps that did not refuse

pub bind_ok : {A B : Type 0} (r : Result A DocRefusal) (f : A → Result B DocRefusal) (y : B) → (r >>= f) ≡ Ok y → (x : A) × (r ≡ Ok x) × (f x ≡ Ok y)
bind_ok (Ok x) f y e = (x, refl, e)
bind_ok (Err d) f y e = absurd (cc)

-- what comes behind a test that did not refuse
pub past : {B : Type 0} (b : Bool) (e : DocRefusal) (r : Result B DocRefusal) (y : B) → (refuse_if b e >>= (λ _. r)) ≡ Ok y → r ≡ Ok y
past true e r y h = absurd (cc)
past false e r y h = h

abbrev done : {A : Type 0} → A → Result A DocRefusal
done x = Ok x

pub ok_is : {A : Type 0} (x y : A) → done x ≡ done y → x ≡ y
ok_is x y e = cc

pub outcome_of : {A : Type 0} (n : ℕ) (names : Names) (r : Result A SymbolRefusal) (a : A) (names' : Names) → answer_in n names r ≡ Ok (a, names') → (r ≡ Ok a) × (names ≡ names')
outcome_of {A} n names (Ok b) a names' h = let e : (b, names) ≡ (a, names') = cc in (ap (λ x. Ok x) (ap (λ (p : A × Names). p.0) e), ap (λ (p : A × Names). p.1) e)
outcome_of n names (Err d) a names' h = absurd (cc)

-- ---- atoms that need no name

dollar_of : (names : Names) (token : List ℕ) (o : Option ℕ) (a : Atom) → ((n : ℕ) → o ≡ Some n → n ≤ 9999) → option_map (λ n. Dollar n) o ≡ Some a → IsOf names a
dollar_of names token None a f h = absurd (cc)
dollar_of names token (Some n) a f h = let e : Dollar n ≡ a = cc in subst (IsOf names) e (f n refl)

numbered : (names : Names) (token : List ℕ) (o : Option ℤ) (a : Atom) → or_else (option_map (λ z. Number z) o) (option_map (λ n. Dollar n) (dollar_at token)) ≡ Some a → IsOf names a
numbered names token (Some z) a h = let e : Number z ≡ a = cc in subst (IsOf names) e tt
numbered names token None a h = dollar_of names token (dollar_at token) a (λ n e. dollar_small token n e) h

pub nameless_of : (names : Names) (token : List ℕ) (a : Atom) → nameless token ≡ Some a → IsOf names a
unfolding nameless
nameless_of names token a h =
    by_test (is_mark 44 token)
    (λ e. let q = rw e at h in let p : Comma ≡ a = cc in subst (IsOf names) p tt)
    (λ e. by_test (is_mark 59 token)
    (λ f. let q = rw (e, f) at h in let p : Semi ≡ a = cc in subst (IsOf names) p tt)
    (λ f. let q = rw (e, f) at h in numbered names token (number_at token) a q))
