-- What is planted stays of the tree, and at first every seed is.
use Rattle.std.proofs.Common.{◌≡◌, ◌≢◌, ℕ, List, [], ◌∷◌, ◌++◌, map, Option, Some, None, refl, sym, ap, ◌∙◌, subst, inl, inr}
use Rattle.std.specs.Prelude.{option_map}
use Rattle.std.specs.List.{AllByRecursion}
use Rattle.std.proofs.lemmas.Bool.{cases_eq}
use Rattle.std.proofs.lemmas.Option.{same_Some, none-some}
use Rattle.pd_tree.specs.Trees.{Cell, Trees, Done, Leaf, Holder, Stand, stands_of}
use Rattle.pd_grove.specs.declared.nodes.Node.{Node}
use Rattle.pd_grove.specs.declared.seeds.Seed.{Seed}
use Rattle.pd_grove.specs.Standing.{node_seen, with_inner, HasCell, NodesOf}
use Rattle.pd_grove.specs.Planting.{seed_stand, stands_ready, SeedsOf}

-- a box of the tree under a new key
pub of_put : (t : Trees) (n₀ n₁ : ℕ → Option Node) (k : ℕ) (node : Node) → n₁ k ≡ Some node → ((j : ℕ) → j ≢ k → n₁ j ≡ n₀ j) → HasCell t (node_seen node).cell → NodesOf t n₀ → NodesOf t n₁
of_put t n₀ n₁ k node e others s F j n h = elim (cases_eq j k) [
  | inl same ↦ let q : node ≡ n = same_Some node n (sym e ∙ ap n₁ (sym same) ∙ h) in subst (λ (x : Node). HasCell t (node_seen x).cell) q s
  | inr diff ↦ F j n (sym (others j diff) ∙ h)
]

inner_of : (t : Trees) (i : ℕ) (o : Option Node) (n : Node) → option_map (with_inner i) o ≡ Some n → ((m : Node) → o ≡ Some m → HasCell t (node_seen m).cell) → HasCell t (node_seen n).cell
inner_of t i None n h F = absurd (none-some n h)
inner_of t i (Some m) n h F = subst (λ (x : Node). HasCell t (node_seen x).cell) (same_Some (with_inner i m) n h) (F m refl)

-- a box that gets a canvas
pub of_inner : (t : Trees) (i : ℕ) (n₀ n₁ : ℕ → Option Node) (k : ℕ) → n₁ k ≡ option_map (with_inner i) (n₀ k) → ((j : ℕ) → j ≢ k → n₁ j ≡ n₀ j) → NodesOf t n₀ → NodesOf t n₁
of_inner t i n₀ n₁ k e others F j n h = elim (cases_eq j k) [
  | inl same ↦ inner_of t i (n₀ k) n (sym e ∙ ap n₁ (sym same) ∙ h) (F k)
  | inr diff ↦ F j n (sym (others j diff) ∙ h)
]

all_both : (P : Stand → Type 0) (xs ys : List Stand) → AllByRecursion P xs → AllByRecursion P ys → AllByRecursion P (xs ++ ys)
all_both P [] ys a b = b
all_both P (x ∷ xs) ys a b = (a.0, all_both P xs ys a.1 b)

stands_are : (P : Cell → Type 0) (t : Trees) → ((x : Cell) → HasCell t x → P x) → AllByRecursion (λ s. P s.cell) (stands_of t)
stands_are P Done h = tt
stands_are P (Leaf c rest) h = (h c (inl refl), stands_are P rest (λ x y. h x (inr y)))
stands_are P (Holder c s inner rest) h =
    (h c (inl refl), all_both (λ z. P z.cell) (stands_of inner) (stands_of rest) (stands_are P inner (λ x y. h x (inr (inl y)))) (stands_are P rest (λ x y. h x (inr (inr y)))))

seeds_are : (P : Stand → Type 0) (seeds : List Seed) → AllByRecursion P (map seed_stand seeds) → AllByRecursion (λ s. P (seed_stand s)) seeds
seeds_are P [] h = tt
seeds_are P (s ∷ seeds) h = (h.0, seeds_are P seeds h.1)

-- the seeds of the boxes of a tree
pub seeds_of : (t : Trees) (seeds : List Seed) → stands_ready seeds ≡ stands_of t → SeedsOf t seeds
seeds_of t seeds e = seeds_are (λ s. HasCell t s.cell) seeds (subst (AllByRecursion (λ (s : Stand). HasCell t s.cell)) (sym e) (stands_are (HasCell t) t (λ x y. y)))
