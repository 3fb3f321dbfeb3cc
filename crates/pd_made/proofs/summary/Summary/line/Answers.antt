use Rattle.std.proofs.Common.{◌≡◌, ℕ, List, [], ◌++◌, codes, decimal, ap, ◌∙◌, append_assoc}
use Rattle.std.proofs.lemmas.List.{append-nil}
use Rattle.pd_made.proofs.summary.Summary.line.Goals as goal

parts : (a d b e f g h i j k z : List ℕ) → (((((a ++ d) ++ (b ++ e)) ++ (f ++ g)) ++ (h ++ i)) ++ (j ++ k)) ++ z ≡
    a ++ (d ++ (b ++ (e ++ (f ++ (g ++ (h ++ (i ++ (j ++ (k ++ (z ++ []))))))))))
parts a d b e f g h i j k z = simp (append_assoc, append-nil)

-- pieces in a row, each a text and a number
in_a_row : (o l m n p q r a b f h j z : List ℕ) (d e g d' i k : ℕ) → o ≡ [] → d' ≡ d →
    l ≡ o ++ (a ++ decimal d') → m ≡ l ++ (b ++ decimal e) → n ≡ m ++ (f ++ decimal g) → p ≡ n ++ (h ++ decimal i) → q ≡ p ++ (j ++ decimal k) → r ≡ q ++ z →
    r ≡ a ++ (decimal d ++ (b ++ (decimal e ++ (f ++ (decimal g ++ (h ++ (decimal i ++ (j ++ (decimal k ++ (z ++ []))))))))))
in_a_row o l m n p q r a b f h j z d e g d' i k none same first second third fourth fifth last =
    last
    ∙ ap (λ s. s ++ z) (fifth
    ∙ ap (λ s. s ++ (j ++ decimal k)) (fourth
    ∙ ap (λ s. s ++ (h ++ decimal i)) (third
    ∙ ap (λ s. s ++ (f ++ decimal g)) (second
    ∙ ap (λ s. s ++ (b ++ decimal e)) (first ∙ ap (λ y. o ++ (a ++ decimal y)) same ∙ ap (λ s. s ++ (a ++ decimal d)) none)))))
    ∙ parts a (decimal d) b (decimal e) f (decimal g) h (decimal i) j (decimal k) z

pub returns : goal.returns
returns c =
    in_a_row _ _ _ _ _ _ _ (codes "made ") (codes ": ") (codes " boxes, ") (codes " wires, ") (codes " blocks, sum ") (codes "\n")
    c.args.self.now.voices c.args.self.now.boxes c.args.self.now.wires _ c.args.self.now.blocks c.args.self.now.sum
    c.new-line.ensures c.from.ensures
    c.put_count.ensures.text c.put_count-2.ensures.text c.put_count-3.ensures.text c.put_count-4.ensures.text c.put_count-5.ensures.text c.append.ensures.text
