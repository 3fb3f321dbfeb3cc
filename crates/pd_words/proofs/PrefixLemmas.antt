-- A word that begins with a name, by its first bytes.
use Rattle.std.proofs.Common.{◌≡◌, ◌≤◌, ℕ, ◌==◌, ◌&&◌, List, [], ◌∷◌, length, take, drop, Bool, true, false, Option, Some, None, refl, sym, ap, ◌∙◌, arith, cond, slice_index_or, eqb, nat_eq, if◌then◌else◌}
use Rattle.std.specs.Str.{bytes_eq}
use Rattle.pd_words.specs.Grammar.{Text, behind, form_by}
use Rattle.pd_words.specs.Shown.{is_form, is_present}
use Rattle.pd_words.proofs.FormLemmas.{by_test}

pub not-behind : (name word : Text) → bytes_eq (take (length name) word) name ≡ false → behind name word ≡ None
not-behind [] word e = cc
not-behind (b ∷ name) [] e = refl
not-behind (b ∷ name) (c ∷ word) e =
    by_test (c == b)
    (λ same. let later : bytes_eq (take (length name) word) name ≡ false = rw same at e in rw same (not-behind name word later))
    (λ other. rw other refl)

pub is-behind : (name word : Text) → bytes_eq (take (length name) word) name ≡ true → behind name word ≡ Some (drop (length name) word)
is-behind [] word e = refl
is-behind (b ∷ name) [] e = cc
is-behind (b ∷ name) (c ∷ word) e =
    by_test (c == b)
    (λ same. let later : bytes_eq (take (length name) word) name ≡ true = rw same at e in rw same (is-behind name word later))
    (λ other. let never : false ≡ true = rw other at e in cc)

pub form-at : (name word : Text) → bytes_eq (take (length name) word) name ≡ true → drop (length name) word ≡ [] → true ≡ is_form name word
form-at name word e none = sym (ap (λ o. is_present (form_by o)) (is-behind name word e ∙ ap Some none))

present-first : (rest : Text) → 1 ≤ length rest → nat_eq (slice_index_or rest 0 0) 61 ≡ is_present (form_by (Some rest))
present-first [] h = absurd (omega arith)
present-first (c ∷ rest) h =
    by_test (c == 61) (λ same. rw same refl) (λ other. rw other refl)

pub form-first : (name word rest : Text) → bytes_eq (take (length name) word) name ≡ true → rest ≡ drop (length name) word → 1 ≤ length rest
    → nat_eq (slice_index_or rest 0 0) 61 ≡ is_form name word
form-first name word rest e at h = present-first rest h ∙ sym (ap (λ o. is_present (form_by o)) (is-behind name word e ∙ ap Some (sym at)))
