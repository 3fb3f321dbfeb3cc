use Rattle.pd_boxes.proofs.AskingLemmas.{put_alike, put_rewired, put_own}
use Rattle.pd_boxes.proofs.laws.putting_asks_alike.Goals as goal

pub returns-clause-alike : goal.returns-clause-alike
returns-clause-alike c = put_alike

pub returns-clause-rewired : goal.returns-clause-rewired
returns-clause-rewired c = put_rewired

pub returns-clause-own : goal.returns-clause-own
returns-clause-own c = put_own
