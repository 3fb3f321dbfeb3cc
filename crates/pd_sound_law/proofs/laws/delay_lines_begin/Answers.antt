use Rattle.pd_sound_law.proofs.FreeLemmas.{lines_begin}
use Rattle.pd_sound_law.proofs.laws.delay_lines_begin.Goals as goal

pub returns : goal.returns
returns c = lines_begin
