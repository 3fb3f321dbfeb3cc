use Rattle.std.proofs.Common.{sym, ◌∙◌}
use Rattle.pd_web.specs.Canvases.{keys_at}
use Rattle.pd_instances.proofs.WireLemmas.{past_key}
use Rattle.pd_instances.proofs.laying.key_at.Goals as goal

pub returns-in-None : goal.returns-in-None
returns-in-None c = past_key (keys_at c.args.grove.now c.args.canvas) c.args.number (sym c.box_key.ensures ∙ c.in-None.is)
