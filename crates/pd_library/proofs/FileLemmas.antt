-- Files as the entries of a map.
use Rattle.std.proofs.Common.{◌≡◌, ℕ, ◌==◌, Bool, true, false, cond, List, [], ◌∷◌, ◌++◌, nat_eq, None, Some, refl, sym, ◌∙◌, if◌then◌else◌, arith}
use Rattle.std.specs.List.{AllByRecursion, IsDistinct}
use Rattle.std.specs.Map.{lookup, keys_of}
use Rattle.std.proofs.lemmas.Bool.Decides.{nat_tests}
use Rattle.indexmap.specs.IndexMap.{insert_entry}
use Rattle.pd_library.specs.declared.answers.Answer.{Answer}
use Rattle.pd_library.specs.Files.{answer_in, with_answer, HasDistinctNames}

by_test : {P : Type 0} (b : Bool) → (b ≡ true → P) → (b ≡ false → P) → P
by_test true f g = f refl
by_test false f g = g refl

turned : (m n : ℕ) → nat_eq m n ≡ nat_eq n m
turned m n = grind (arith, nat_tests)

-- what a look-up finds is what is known
pub answer_found : (es : List (ℕ × Answer)) (name : ℕ) → lookup (nat_eq name) es ≡ answer_in es name
answer_found [] name = refl
answer_found (e ∷ es) name = (λ i. cond (turned name e.0 i) (Some e.1) (answer_found es name i))

-- a name keeps its place
pub answered : (es : List (ℕ × Answer)) (name : ℕ) (a : Answer) → insert_entry nat_eq es name a ≡ with_answer name a es
answered [] name a = refl
answered (e ∷ es) name a = (λ i. if turned name e.0 i then (e.0, a) ∷ es else (e ∷ answered es name a i))

put_last : (es : List (ℕ × Answer)) (name : ℕ) (a : Answer) → answer_in es name ≡ None → with_answer name a es ≡ es ++ (name, a) ∷ []
put_last [] name a h = refl
put_last (e ∷ es) name a h =
    by_test (e.0 == name)
    (λ t. let some : Some e.1 ≡ None = sym (λ i. if t i then Some e.1 else answer_in es name) ∙ h in (cc))
    (λ f.
    let rest : answer_in es name ≡ None = sym (λ i. if f i then Some e.1 else answer_in es name) ∙ h in
    (λ i. if f i then (e.0, a) ∷ es else (e ∷ put_last es name a rest i)))

-- a name of which nothing was known goes last
pub learned : (es : List (ℕ × Answer)) (name : ℕ) (a : Answer) → answer_in es name ≡ None → insert_entry nat_eq es name a ≡ es ++ (name, a) ∷ []
learned es name a h = answered es name a ∙ put_last es name a h

-- keys that are distinct are distinct names
pub distinct : (es : List (ℕ × Answer)) → IsDistinct nat_eq (keys_of es) → HasDistinctNames es
unfolding IsDistinct
distinct [] h = tt
distinct (e ∷ es) h = (none_later e.0 es h.0, distinct es h.1)
  where
    none_later : (name : ℕ) (fs : List (ℕ × Answer)) → AllByRecursion (λ y. nat_eq name y ≡ false) (keys_of fs) → answer_in fs name ≡ None
    none_later name [] h = refl
    none_later name (f ∷ fs) h = (λ i. if (turned f.0 name ∙ h.0) i then Some f.1 else none_later name fs h.1 i)
