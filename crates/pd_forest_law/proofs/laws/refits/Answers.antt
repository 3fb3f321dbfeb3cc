use Rattle.std.proofs.Common.{◌≡◌, ℕ, ◌∷◌, ◌++◌, Option, Some, None, IsSome, refl, sym, ap, ◌∙◌, subst}
use Rattle.std.proofs.lemmas.Option.{none-some}
use Rattle.pd_grove.specs.declared.nodes.Node.{Node}
use Rattle.pd_grove.specs.Owning.{board_in}
use Rattle.pd_grove.specs.Telling.{keys_in}
use Rattle.pd_grove.proofs.PruneLemmas.{forest_pruned}
use Rattle.pd_forest_law.proofs.PartLemmas.{forest_part}
use Rattle.pd_forest_law.proofs.laws.refits.Goals as goal

lies_live : (o : Option Node) (x : ℕ) → board_in o ≡ Some x → IsSome o
lies_live None x h = absurd (none-some x h)
lies_live (Some n) x h = refl

pub returns-clause-forest : goal.returns-clause-forest
returns-clause-forest c = λ nodes nodes' boards boards' root b k n before behind seeds seeds' R F.
    forest_part R.nodes_left nodes' R.boards_left boards' root b k before behind R.put
    (forest_pruned nodes R.nodes_left boards R.boards_left root b k n before behind R.taken F)

pub returns-clause-boxes_stay : goal.returns-clause-boxes_stay
returns-clause-boxes_stay c = λ nodes nodes' boards boards' b k l x n before behind seeds seeds' R d lies out.
    let e : R.nodes_left l ≡ nodes l = R.taken.nodes_stay l x d lies out in
    R.put.boxes_stay l (subst (λ o. IsSome o) (sym e) (lies_live (nodes l) x lies)) ∙ e

pub returns-clause-canvases_stay : goal.returns-clause-canvases_stay
returns-clause-canvases_stay c = λ nodes nodes' boards boards' b k x n before behind seeds seeds' R d live out.
    let e : R.boards_left x ≡ boards x = R.taken.boards_stay x d out in
    R.put.canvases_stay x d (subst (λ o. IsSome o) (sym e) live) ∙ e

pub returns-clause-keys : goal.returns-clause-keys
returns-clause-keys c = λ nodes nodes' boards boards' b k n before behind seeds seeds' R.
    R.put.has ∙ sym (ap keys_in R.taken.board ∙ R.taken.had)
