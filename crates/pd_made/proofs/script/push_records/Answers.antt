use Rattle.std.proofs.Common.{◌≡◌, ℕ, ◌*◌, List, ◌++◌, codes, decimal, ap, ◌∙◌, append_assoc}
use Rattle.pd_made.proofs.script.push_records.Goals as goal

six_parts : (s a d b e f : List ℕ) → (((((s ++ a) ++ d) ++ b) ++ e) ++ d) ++ f ≡ s ++ (a ++ (d ++ (b ++ (e ++ (d ++ f)))))
six_parts s a d b e f = simp append_assoc

in_a_row : (s l m n p q r a b e f number d : List ℕ) → number ≡ d → l ≡ s ++ a → m ≡ l ++ number → n ≡ m ++ b → p ≡ n ++ e → q ≡ p ++ number → r ≡ q ++ f →
    r ≡ s ++ (a ++ (d ++ (b ++ (e ++ (d ++ f)))))
in_a_row s l m n p q r a b e f number d same first second third fourth fifth sixth =
    sixth ∙ ap (λ y. y ++ f) (fifth ∙ ap (λ y. y ++ number) (fourth ∙ ap (λ y. y ++ e) (third ∙ ap (λ y. y ++ b) (second ∙ ap (λ y. y ++ number) first))))
    ∙ ap (λ y. (((((s ++ a) ++ y) ++ b) ++ e) ++ y) ++ f) same ∙ six_parts s a d b e f

pub returns : goal.returns
returns c =
    in_a_row c.args.script.now.items _ _ _ _ _ _ (codes "1 edit . / disconnect ") (codes " 0 0 0;\n") (codes "0 edit . / connect ") (codes " 0 0 1;\n")
    c.as_bytes-number.result.now (decimal (2 * c.args.voice)) (c.as_bytes-number.ensures.value ∙ c.format.ensures.text)
    c.in_ok-extend_from_slice.ensures.items c.in_ok-extend_from_slice-2.ensures.items c.in_ok-extend_from_slice-3.ensures.items
    c.in_ok-extend_from_slice-4.ensures.items c.in_ok-extend_from_slice-5.ensures.items c.in_ok-extend_from_slice-6.ensures.items
