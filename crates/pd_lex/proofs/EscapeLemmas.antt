-- Escapes, a step at a time.
use Rattle.std.proofs.Common.{◌≡◌, ℕ, false, List, [], ◌∷◌, refl, ap, ◌∙◌, eqb, ◌||◌, inl, inr}
use Rattle.pd_lex.specs.Text.{unescaped, escaped, is_special, is_stop, AreUnits}
use Rattle.std.proofs.lemmas.Bool.{or_parts}
use Rattle.pd_lex.proofs.Laws.{by_test}

-- ---- escapes are read

unit-cons : (b : ℕ) (bs : List ℕ) → eqb b 92 ≡ false → is_stop b ≡ false → AreUnits bs → AreUnits (b ∷ bs)
unit-cons b [] e s u = (e, s)
unit-cons b (c ∷ cs) e s u = inr (e, s, u)

unescaped-unit : (b : ℕ) (bs : List ℕ) → eqb b 92 ≡ false → unescaped (b ∷ bs) ≡ b ∷ unescaped bs
unescaped-unit b [] e = refl
unescaped-unit b (c ∷ cs) e = rw e refl

not_special : (b : ℕ) → is_special b ≡ false → (eqb b 92 ≡ false) × (is_stop b ≡ false)
not_special b h =
    let p = or_parts (is_stop b || eqb b 36) (eqb b 92) h in
    (p.1, (or_parts (is_stop b) (eqb b 36) p.0).0)

pub escaped_units : (name : List ℕ) → AreUnits (escaped name)
escaped_units [] = tt
escaped_units (b ∷ bs) =
    by_test (is_special b) (λ e. rw e (inl (refl, escaped_units bs)))
    (λ e. rw e (unit-cons b (escaped bs) (not_special b e).0 (not_special b e).1 (escaped_units bs)))

pub unescaped-escaped : (name : List ℕ) → unescaped (escaped name) ≡ name
unescaped-escaped [] = refl
unescaped-escaped (b ∷ bs) =
    by_test (is_special b) (λ e. rw e (ap (λ r. b ∷ r) (unescaped-escaped bs)))
    (λ e. rw e (unescaped-unit b (escaped bs) (not_special b e).0 ∙ ap (λ r. b ∷ r) (unescaped-escaped bs)))
