-- States that are like each other, one after the other.
use Rattle.std.proofs.Common.{◌≡◌, ◌∙◌}
use Rattle.pd_kind.specs.declared.states.State.{State}
use Rattle.pd_kind.specs.Fit.{IsLike}

pub like_chain : (r s t : State) → IsLike r s → IsLike s t → IsLike r t
like_chain r s t f g = record { same = g.same ∙ f.same; count = g.count ∙ f.count; within = λ w. g.within (f.within w) }
