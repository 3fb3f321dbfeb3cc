use Rattle.pd_sound_law.proofs.RowLemmas.{few_ports}
use Rattle.pd_sound_law.proofs.laws.rows_have_few_ports.Goals as goal

pub returns : goal.returns
returns c = few_ports
