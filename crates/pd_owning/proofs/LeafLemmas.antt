-- A box that holds no canvas is alone.
use Rattle.std.proofs.Common.{◌≡◌, ℕ, zero, suc, ◌||◌, true, false, [], ◌∷◌, Option, Some, None, nat_eq, sym, ap, ◌∙◌}
use Rattle.std.specs.Prelude.{◌⊎◌}
use Rattle.std.proofs.lemmas.Bool.{or_cases, false≢true, eqb-true, eq-eqb}
use Rattle.std.proofs.lemmas.Option.{none-some, same_Some, option_and_then_some}
use mathlib.Core.Logic.{inl, inr}
use Rattle.pd_grove.specs.declared.nodes.Node.{Node}
use Rattle.pd_grove.specs.declared.boards.Board.{Board}
use Rattle.pd_grove.specs.Telling.{inner_in}
use Rattle.pd_grove.specs.Owning.{board_in}
use Rattle.pd_grove.specs.Forest.{holder_in, IsForest}
use Rattle.pd_owning.specs.Order.{holder_of, box_out}
use Rattle.pd_owning.specs.Bound.{is_among}
use Rattle.pd_owning.specs.Parts.{LiesWithin, ArePart}

module _ (nodes : ℕ → Option Node) (boards : ℕ → Option Board) (root : ℕ) (F : IsForest nodes boards root) (k : ℕ) (bare : inner_in (nodes k) ≡ None) where
  only_itself : (m x : ℕ) → box_out nodes boards m x ≡ Some k → x ≡ k
  only_itself zero x e = same_Some x k e
  only_itself (suc m) x e =
      option_and_then_some (holder_of nodes boards) (box_out nodes boards m x) k e (λ y near far.
      option_and_then_some (λ c. holder_in (boards c)) (board_in (nodes y)) k far (λ c lies held. absurd (none-some c (sym bare ∙ F.held c k held))))

  pub leaf_alone : ArePart nodes boards k (k ∷ [])
  leaf_alone x = (λ t. among (or_cases (nat_eq x k) false t), λ w. is_there (only_itself w.0 x w.1))
    where
      among : (nat_eq x k ≡ true) ⊎ (false ≡ true) → LiesWithin nodes boards k x
      among (inl e) = (zero, ap (λ y. Some y) (eqb-true x k e))
      among (inr e) = absurd (false≢true e)

      is_there : x ≡ k → is_among (k ∷ []) x ≡ true
      is_there e = ap (λ b. b || false) (eq-eqb x k e)
