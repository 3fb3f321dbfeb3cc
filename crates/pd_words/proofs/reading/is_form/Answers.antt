use Rattle.std.proofs.Common.{◌≡◌, ◌∙◌, [], ◌∷◌, refl, List, ℕ, arith, sym, length, rules, ap, drop}
use Rattle.pd_words.specs.Grammar.{behind, form_by}
use Rattle.pd_words.specs.Shown.{is_present}
use Rattle.pd_words.proofs.PrefixLemmas.{form-at, form-first, not-behind}
use Rattle.pd_words.proofs.reading.is_form.Goals as goal

empty : (xs : List ℕ) → length xs ≡ 0 → xs ≡ []
empty [] h = refl
empty (x ∷ xs) h = absurd (omega arith)

pub returns-in-Some-empty : goal.returns-in-Some-empty
returns-in-Some-empty c =
    form-at c.args.name.now c.args.word.now c.in-Some-empty.ensures.cases.0
    (sym c.in-Some-empty.ensures.cases.1 ∙ empty c.in-Some-empty.field-0.now (omega arith))

pub returns-in-Some-len1-up : goal.returns-in-Some-len1-up
returns-in-Some-len1-up c =
    form-first c.args.name.now c.args.word.now c.in-Some-len1-up.field-0.now c.in-Some-len1-up.ensures.cases.0
    c.in-Some-len1-up.ensures.cases.1 c.in-Some-len1-up.len_at_least

pub returns-in-None : goal.returns-in-None
returns-in-None c =
    sym (ap (λ o. is_present (form_by o)) (not-behind c.args.name.now c.args.word.now c.in-None.ensures.cases))
