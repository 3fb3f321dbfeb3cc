-- First states stay first states while boxes are planted.
use Rattle.std.proofs.Common.{◌≡◌, ◌≢◌, ℕ, List, length, Option, Some, None, refl, sym, ap, ◌∙◌, subst, inl, inr}
use Rattle.std.specs.Prelude.{option_map}
use Rattle.std.proofs.lemmas.Bool.{cases_eq}
use Rattle.std.proofs.lemmas.Option.{same_Some, none-some}
use Rattle.std.proofs.lemmas.List.{length-map}
use Rattle.pd_clock.specs.declared.times.Rate.{Rate}
use Rattle.pd_object.specs.Ports.{IsSmallKind}
use Rattle.pd_kind.specs.States.{start_of}
use Rattle.pd_kind.specs.Tables.{started}
use Rattle.pd_tree.specs.Trees.{stand_of, stands_in}
use Rattle.pd_tree.specs.declared.rows.Row.{Row}
use Rattle.pd_grove.specs.declared.nodes.Node.{Node}
use Rattle.pd_grove.specs.declared.seeds.Seed.{Seed}
use Rattle.pd_grove.specs.Standing.{with_inner}
use Rattle.pd_grove.specs.Planting.{seed_stand, stands_ready}
use Rattle.pd_grove.specs.States.{NodesFresh, NodesSmall}

pub fresh_put : (rate : Rate) (now : ℕ) (n₀ n₁ : ℕ → Option Node) (k : ℕ) (node : Node) → n₁ k ≡ Some node → ((j : ℕ) → j ≢ k → n₁ j ≡ n₀ j)
    → node.state ≡ Some (started (start_of node.kind rate) now) → NodesFresh rate now n₀ → NodesFresh rate now n₁
fresh_put rate now n₀ n₁ k node e others s F j n h = elim (cases_eq j k) [
  | inl same ↦ let q : node ≡ n = same_Some node n (sym e ∙ ap n₁ (sym same) ∙ h) in subst (λ (x : Node). x.state ≡ Some (started (start_of x.kind rate) now)) q s
  | inr diff ↦ F j n (sym (others j diff) ∙ h)
]

inner_fresh : (rate : Rate) (now i : ℕ) (o : Option Node) (n : Node) → option_map (with_inner i) o ≡ Some n
    → ((m : Node) → o ≡ Some m → m.state ≡ Some (started (start_of m.kind rate) now)) → n.state ≡ Some (started (start_of n.kind rate) now)
inner_fresh rate now i None n h F = absurd (none-some n h)
inner_fresh rate now i (Some m) n h F = subst (λ (x : Node). x.state ≡ Some (started (start_of x.kind rate) now)) (same_Some (with_inner i m) n h) (F m refl)

pub fresh_inner : (rate : Rate) (now i : ℕ) (n₀ n₁ : ℕ → Option Node) (k : ℕ) → n₁ k ≡ option_map (with_inner i) (n₀ k) → ((j : ℕ) → j ≢ k → n₁ j ≡ n₀ j)
    → NodesFresh rate now n₀ → NodesFresh rate now n₁
fresh_inner rate now i n₀ n₁ k e others F j n h = elim (cases_eq j k) [
  | inl same ↦ inner_fresh rate now i (n₀ k) n (sym e ∙ ap n₁ (sym same) ∙ h) (F k)
  | inr diff ↦ F j n (sym (others j diff) ∙ h)
]

-- kinds stay small
pub small_put : (n₀ n₁ : ℕ → Option Node) (k : ℕ) (node : Node) → n₁ k ≡ Some node → ((j : ℕ) → j ≢ k → n₁ j ≡ n₀ j) → IsSmallKind node.kind → NodesSmall n₀ → NodesSmall n₁
small_put n₀ n₁ k node e others s F j n h = elim (cases_eq j k) [
  | inl same ↦ let q : node ≡ n = same_Some node n (sym e ∙ ap n₁ (sym same) ∙ h) in subst (λ (x : Node). IsSmallKind x.kind) q s
  | inr diff ↦ F j n (sym (others j diff) ∙ h)
]

inner_small : (i : ℕ) (o : Option Node) (n : Node) → option_map (with_inner i) o ≡ Some n → ((m : Node) → o ≡ Some m → IsSmallKind m.kind) → IsSmallKind n.kind
inner_small i None n h F = absurd (none-some n h)
inner_small i (Some m) n h F = subst (λ (x : Node). IsSmallKind x.kind) (same_Some (with_inner i m) n h) (F m refl)

pub small_inner : (i : ℕ) (n₀ n₁ : ℕ → Option Node) (k : ℕ) → n₁ k ≡ option_map (with_inner i) (n₀ k) → ((j : ℕ) → j ≢ k → n₁ j ≡ n₀ j) → NodesSmall n₀ → NodesSmall n₁
small_inner i n₀ n₁ k e others F j n h = elim (cases_eq j k) [
  | inl same ↦ inner_small i (n₀ k) n (sym e ∙ ap n₁ (sym same) ∙ h) (F k)
  | inr diff ↦ F j n (sym (others j diff) ∙ h)
]

-- as many seeds as rows
pub as_many : (seeds : List Seed) (rows : List Row) → stands_ready seeds ≡ stands_in rows → length seeds ≡ length rows
as_many seeds rows e =
    let a : length (stands_ready seeds) ≡ length seeds = length-map seeds seed_stand in
    let b : length (stands_in rows) ≡ length rows = length-map rows stand_of in
    sym a ∙ ap length e ∙ b
