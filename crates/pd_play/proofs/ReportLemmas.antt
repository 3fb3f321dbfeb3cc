-- How the line of a refused patch is put together.
use Rattle.std.proofs.Common.{◌≡◌, ◌++◌, ℕ, List, Option, append_assoc, subst}
use Rattle.pd_say.specs.Gathering.{Says, Fails}
use Rattle.pd_say.proofs.GatheringLemmas.{says_then, says_then_fails, fails_sooner}

parts : (e n r d s c l : List ℕ) → (e ++ n) ++ ((r ++ (d ++ s)) ++ (c ++ l)) ≡ e ++ (n ++ (r ++ (d ++ (s ++ (c ++ l)))))
parts e n r d s c l = simp append_assoc

pub bad_said : (t₁ t₂ t₃ t₄ : Option (List ℕ)) (h₁ h₂ h₃ h₄ e n r d s c l : List ℕ) →
    Says t₁ h₁ t₂ h₂ (e ++ n) → Says t₂ h₂ t₃ h₃ (r ++ (d ++ s)) → Says t₃ h₃ t₄ h₄ (c ++ l) →
    Says t₁ h₁ t₄ h₄ (e ++ (n ++ (r ++ (d ++ (s ++ (c ++ l))))))
bad_said t₁ t₂ t₃ t₄ h₁ h₂ h₃ h₄ e n r d s c l f g h =
    subst (λ x. Says t₁ h₁ t₄ h₄ x) (parts e n r d s c l)
    (says_then t₁ t₂ t₄ h₁ h₂ h₄ (e ++ n) ((r ++ (d ++ s)) ++ (c ++ l)) f (says_then t₂ t₃ t₄ h₂ h₃ h₄ (r ++ (d ++ s)) (c ++ l) g h))

pub bad_fails_first : (t₁ t₂ : Option (List ℕ)) (h₁ e n r d s c l : List ℕ) → Fails t₁ h₁ t₂ (e ++ n) →
    Fails t₁ h₁ t₂ (e ++ (n ++ (r ++ (d ++ (s ++ (c ++ l))))))
bad_fails_first t₁ t₂ h₁ e n r d s c l f =
    subst (λ x. Fails t₁ h₁ t₂ x) (parts e n r d s c l) (fails_sooner t₁ t₂ h₁ (e ++ n) ((r ++ (d ++ s)) ++ (c ++ l)) f)

pub bad_fails_second : (t₁ t₂ t₃ : Option (List ℕ)) (h₁ h₂ e n r d s c l : List ℕ) → Says t₁ h₁ t₂ h₂ (e ++ n) → Fails t₂ h₂ t₃ (r ++ (d ++ s)) →
    Fails t₁ h₁ t₃ (e ++ (n ++ (r ++ (d ++ (s ++ (c ++ l))))))
bad_fails_second t₁ t₂ t₃ h₁ h₂ e n r d s c l f g =
    subst (λ x. Fails t₁ h₁ t₃ x) (parts e n r d s c l)
    (says_then_fails t₁ t₂ t₃ h₁ h₂ (e ++ n) ((r ++ (d ++ s)) ++ (c ++ l)) f (fails_sooner t₂ t₃ h₂ (r ++ (d ++ s)) (c ++ l) g))

pub bad_fails_third : (t₁ t₂ t₃ t₄ : Option (List ℕ)) (h₁ h₂ h₃ e n r d s c l : List ℕ) →
    Says t₁ h₁ t₂ h₂ (e ++ n) → Says t₂ h₂ t₃ h₃ (r ++ (d ++ s)) → Fails t₃ h₃ t₄ (c ++ l) →
    Fails t₁ h₁ t₄ (e ++ (n ++ (r ++ (d ++ (s ++ (c ++ l))))))
bad_fails_third t₁ t₂ t₃ t₄ h₁ h₂ h₃ e n r d s c l f g h =
    subst (λ x. Fails t₁ h₁ t₄ x) (parts e n r d s c l)
    (says_then_fails t₁ t₂ t₄ h₁ h₂ (e ++ n) ((r ++ (d ++ s)) ++ (c ++ l)) f (says_then_fails t₂ t₃ t₄ h₂ h₃ (r ++ (d ++ s)) (c ++ l) g h))
