use Rattle.pd_signal.proofs.LineLemmas.{holds_nothing, holds_written, delayed_holds}
use Rattle.pd_signal.proofs.lines_hold_their_samples.Goals as goal

pub returns : goal.returns
returns c = record {
  nothing = holds_nothing;
  written = holds_written;
  read = delayed_holds;
}
