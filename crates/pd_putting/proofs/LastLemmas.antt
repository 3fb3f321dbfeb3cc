-- What comes in at the next number of its canvas is its last box.
use Rattle.std.proofs.Common.{◌≡◌, ◌⊎◌, ℕ, length, Result, Ok, Err, IfOk, IfErr, ap, ◌∙◌, subst, inl, inr}
use Rattle.pd_atom.specs.Names.{Names}
use Rattle.pd_web.specs.Canvases.{keys_at}
use Rattle.pd_patch.specs.declared.patch.Patch.{Patch}
use Rattle.pd_wiring.specs.declared.refusals.EditRefusal.{EditRefusal}
use Rattle.pd_adding.specs.declared.adding.Grown.{Grown}
use Rattle.pd_adding.specs.Adding.{IsAdded}
use Rattle.pd_adding.specs.Growing.{Added}
use Rattle.pd_putting.specs.Adds.{next_number, CanComeAt, HasCome, HasComeAt}
use Rattle.pd_putting.specs.Places.{IsNotLast, StaysOut}
use Rattle.pd_putting.specs.declared.adding.NewBox.{NewBox}

pub neither : {A B : Type 0} → (A → ⊥) → (B → ⊥) → A ⊎ B → ⊥
neither no_a no_b (inl x) = no_a x
neither no_a no_b (inr x) = no_b x

module _ (p q : Patch) (g : Grown) (number : ℕ) (e : number ≡ length (keys_at p.grove g.canvas)) where
  is_next : (a : Added) → IsAdded g a → number ≡ next_number p a
  is_next a A = e ∙ ap (λ (canvas : ℕ). length (keys_at p.grove canvas)) A.canvas

  pub comes_last : (now : ℕ) (table : Names) (r : Result NewBox EditRefusal) → IfOk r (λ b. (a : Added) → IsAdded g a → a.known.names ≡ table → HasComeAt p q number now a b.key)
      → IfOk r (λ b. (a : Added) → IsAdded g a → a.known.names ≡ table → HasCome p q now a b.key)
  comes_last now table (Ok b) f = λ a A names. subst (λ (m : ℕ). HasComeAt p q m now a b.key) (is_next a A) (f a A names)
  comes_last now table (Err why) f = f

  pub stays_last : (r : Result NewBox EditRefusal) → IfErr r (λ why. (a : Added) → IsAdded g a → StaysOut p q number a why)
      → IfErr r (λ why. (a : Added) → IsAdded g a → IsNotLast p q a why)
  stays_last (Ok b) f = f
  stays_last (Err why) f = λ a A. let s = f a A in (s.0, inr (subst (λ (m : ℕ). CanComeAt p m a) (is_next a A) s.1.0, s.1.1))
