use Rattle.pd_bounds_law.proofs.BoundLemmas.{made_bounded, grown_bounded}
use Rattle.pd_bounds_law.proofs.laws.what_is_made_keeps_bounds.Goals as goal

pub returns-clause-made : goal.returns-clause-made
returns-clause-made c = λ k rate now. record { bounds = made_bounded k rate now }

pub returns-clause-grown : goal.returns-clause-grown
returns-clause-grown c = λ p rate now fresh. record { each = grown_bounded p rate now fresh }
