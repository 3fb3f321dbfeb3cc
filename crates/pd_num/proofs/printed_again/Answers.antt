use Rattle.pd_num.proofs.PrintLemmas.{printed_spelled, number_at-printed}
use Rattle.pd_num.proofs.printed_again.Goals as goal

pub returns-clause-spelled : goal.returns-clause-spelled
returns-clause-spelled c = printed_spelled

pub returns-clause-read : goal.returns-clause-read
returns-clause-read c = number_at-printed
