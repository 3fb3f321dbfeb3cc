use Rattle.std.proofs.Common.{◌∙◌}
use Rattle.pd_fit.proofs.SeenLemmas.{fits_at}
use Rattle.pd_fit.proofs.wires.fits.Goals as goal

pub returns : goal.returns
returns c = c.fits_between.ensures ∙ fits_at c.args.boxes.now c.args.wire.now _ _ c.seen_at-source.ensures c.seen_at-sink.ensures
