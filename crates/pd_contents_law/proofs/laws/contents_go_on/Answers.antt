use Rattle.std.proofs.Common.{◌≡◌, true}
use Rattle.pd_contents_law.proofs.RunLemmas.{all_more}
use Rattle.pd_contents_law.proofs.laws.contents_go_on.Goals as goal

pub returns : goal.returns
returns c = λ own counts old new states x a. all_more (λ k. own k ≡ true) counts old new x states a
