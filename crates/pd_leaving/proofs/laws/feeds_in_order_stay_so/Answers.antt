use Rattle.pd_leaving.proofs.LawLemmas.{feeds_lowered}
use Rattle.pd_leaving.proofs.laws.feeds_in_order_stay_so.Goals as goal

pub returns : goal.returns
returns c = λ w w' key side at jack labels X own order. feeds_lowered w w' key side at jack labels X own order
