-- Boxes that come are made of seeds.
use Rattle.std.proofs.Common.{◌≡◌, ◌≢◌, ℕ, zero, suc, List, [], ◌∷◌, ◌++◌, append_assoc, Option, Some, None, IsSome, inl, inr, refl, sym, ap, ◌∙◌, subst}
use Rattle.std.specs.Prelude.{slice_get, option_map, ◌⊎◌}
use mathlib.Core.Logic.{⊎_elim}
use Rattle.std.proofs.lemmas.Bool.{cases_eq}
use Rattle.std.proofs.lemmas.Option.{none-some}
use Rattle.pd_grove.specs.declared.nodes.Node.{Node}
use Rattle.pd_grove.specs.declared.seeds.Seed.{Seed}
use Rattle.pd_grove.specs.Standing.{with_inner}
use Rattle.pd_grove.specs.Planting.{IsMadeOf, Uses}

-- a list has the elements of its first part, and those of its second
get_left : (a b : List Seed) (i : ℕ) (s : Seed) → slice_get a i ≡ Some s → slice_get (a ++ b) i ≡ Some s
get_left [] b i s h = absurd (none-some s h)
get_left (x ∷ a) b zero s h = h
get_left (x ∷ a) b (suc i) s h = get_left a b i s h

get_right : (a b : List Seed) (i : ℕ) (s : Seed) → slice_get b i ≡ Some s → (j : ℕ) × (slice_get (a ++ b) j ≡ Some s)
get_right [] b i s h = (i, h)
get_right (x ∷ a) b i s h = let R = get_right a b i s h in (suc R.0, R.1)

pub none_or_some : {A : Type 0} (o : Option A) → (o ≡ None) ⊎ IsSome o
none_or_some None = inl refl
none_or_some (Some a) = inr refl

pub not_both : {A : Type 0} (o : Option A) → o ≡ None → IsSome o → ⊥
not_both None e h = absurd (cc)
not_both (Some a) e h = absurd (none-some a (sym e))

made_lives : (s : Seed) (o : Option Node) → IsMadeOf s o → IsSome o
made_lives s None m = absurd m
made_lives s (Some n) m = refl

pub made_stays : (o o' : Option Node) (s : Seed) → (IsSome o → o' ≡ o) → IsMadeOf s o → IsMadeOf s o'
made_stays o o' s stay m = subst (IsMadeOf s) (sym (stay (made_lives s o m))) m

-- whatever it holds
pub made_inner : (s : Seed) (j : ℕ) (o : Option Node) → IsMadeOf s o → IsMadeOf s (option_map (with_inner j) o)
made_inner s j None m = m
made_inner s j (Some n) m = m

pub uses_none : (nodes : ℕ → Option Node) (seeds : List Seed) → Uses nodes nodes seeds seeds
uses_none nodes seeds = record { used = []; split = refl; made = λ k v live. absurd (not_both (nodes k) v live) }

pub uses_then : (n₀ n₁ n₂ : ℕ → Option Node) (s₀ s₁ s₂ : List Seed) → ((k : ℕ) (s : Seed) → IsMadeOf s (n₁ k) → IsMadeOf s (n₂ k)) → Uses n₀ n₁ s₀ s₁ → Uses n₁ n₂ s₁ s₂ → Uses n₀ n₂ s₀ s₂
uses_then n₀ n₁ n₂ s₀ s₁ s₂ stay U V = record {
  used = U.used ++ V.used;
  split = U.split ∙ ap (λ (x : List Seed). U.used ++ x) V.split ∙ sym (append_assoc U.used V.used s₂);
  made = λ k v live. ⊎_elim
      (λ (e : n₁ k ≡ None). let M = V.made k e live in let R = get_right U.used V.used M.1 M.0 M.2 in (M.0, R.0, R.1, M.3))
      (λ (l : IsSome (n₁ k)). let M = U.made k v l in (M.0, M.1, get_left U.used V.used M.1 M.0 M.2, stay k M.0 M.3))
      (none_or_some (n₁ k));
}

-- one box comes
pub uses_one : (n₀ n₁ : ℕ → Option Node) (k : ℕ) (s : Seed) (seeds : List Seed) → IsMadeOf s (n₁ k) → ((j : ℕ) → j ≢ k → n₁ j ≡ n₀ j) → Uses n₀ n₁ (s ∷ seeds) seeds
uses_one n₀ n₁ k s seeds m others = record {
  used = s ∷ [];
  split = refl;
  made = λ j v live. ⊎_elim
      (λ (e : j ≡ k). (s, zero, refl, subst (λ i. IsMadeOf s (n₁ i)) (sym e) m))
      (λ (d : j ≢ k). absurd (not_both (n₁ j) (others j d ∙ v) live)) (cases_eq j k);
}

-- a box that was there gets a canvas before others come
pub uses_inside : (n₀ n₁ n₂ : ℕ → Option Node) (k : ℕ) (seeds seeds' : List Seed) → IsSome (n₀ k) → ((j : ℕ) → j ≢ k → n₁ j ≡ n₀ j) → Uses n₁ n₂ seeds seeds' → Uses n₀ n₂ seeds seeds'
uses_inside n₀ n₁ n₂ k seeds seeds' lives others U = record {
  used = U.used;
  split = U.split;
  made = λ j v live. U.made j (others j (λ e. not_both (n₀ j) v (subst (λ i. IsSome (n₀ i)) (sym e) lives)) ∙ v) live;
}
