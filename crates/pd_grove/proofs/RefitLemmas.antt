-- A box that is put where one was taken.
use Rattle.std.proofs.Common.{◌≡◌, ◌<◌, ◌≤◌, ℕ, ◌+◌, List, ◌++◌, length, take, drop, Option, IsSome, refl, sym, ap, ◌∙◌, subst, arith}
use Rattle.std.proofs.lemmas.List.{length-append, length-take, take_at, drop_at}
use Rattle.pd_grove.specs.declared.nodes.Node.{Node}
use Rattle.pd_grove.specs.declared.boards.Board.{Board}
use Rattle.pd_grove.specs.Standing.{depth_of}
use Rattle.pd_grove.specs.Telling.{keys_in}
use Rattle.pd_grove.specs.Grafts.{HasPartMore, TakesBox}

module _ (n₀ n₁ : ℕ → Option Node) (b₀ b₁ : ℕ → Option Board) (c k : ℕ) (n : Node) (before behind : List ℕ) (T : TakesBox n₀ n₁ b₀ b₁ c k n before behind) where
  pub left_keys : keys_in (b₁ c) ≡ before ++ behind
  left_keys = ap keys_in T.without ∙ T.has

  pub left_depth : depth_of (b₁ c) ≡ depth_of (b₀ c)
  left_depth = ap depth_of T.without ∙ T.depth ∙ sym (ap depth_of T.board)

  pub left_lives : IsSome (b₁ c)
  left_lives = subst (λ o. IsSome o) (sym T.without) refl

first_long : (keys : List ℕ) (i : ℕ) → i < length keys → length (take i keys) ≡ i
first_long keys i l = let e = length-take i keys in omega (arith, e, l)

-- at the number that the box had
pub put_again : (n₁ n₂ : ℕ → Option Node) (b₁ b₂ : ℕ → Option Board) (c k k' i : ℕ) (keys : List ℕ) → i < length keys → keys_in (b₁ c) ≡ take i keys ++ drop (i + 1) keys → k' ≡ k
    → HasPartMore n₁ n₂ b₁ b₂ c k' (take i (keys_in (b₁ c))) (drop i (keys_in (b₁ c))) → HasPartMore n₁ n₂ b₁ b₂ c k (take i keys) (drop (i + 1) keys)
put_again n₁ n₂ b₁ b₂ c k k' i keys l e same M =
    let long = first_long keys i l in
    let first : take i (keys_in (b₁ c)) ≡ take i keys = ap (take i) e ∙ take_at (take i keys) (drop (i + 1) keys) i long in
    let last : drop i (keys_in (b₁ c)) ≡ drop (i + 1) keys = ap (drop i) e ∙ drop_at (take i keys) (drop (i + 1) keys) i long in
    subst (λ x. HasPartMore n₁ n₂ b₁ b₂ c x (take i keys) (drop (i + 1) keys)) same
    (subst (λ xs. HasPartMore n₁ n₂ b₁ b₂ c k' xs (drop (i + 1) keys)) first
    (subst (λ ys. HasPartMore n₁ n₂ b₁ b₂ c k' (take i (keys_in (b₁ c))) ys) last M))

-- there is a place at that number
pub within_left : (xs keys : List ℕ) (i : ℕ) → i < length keys → xs ≡ take i keys ++ drop (i + 1) keys → i ≤ length xs
within_left xs keys i l e =
    let long = first_long keys i l in
    let all : length xs ≡ length (take i keys) + length (drop (i + 1) keys) = ap (λ ys. length ys) e ∙ length-append (take i keys) (drop (i + 1) keys) in
    omega (arith, long, all)
