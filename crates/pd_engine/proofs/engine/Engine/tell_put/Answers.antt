use Rattle.std.proofs.Common.{ap, ◌∙◌, drop, List, ℕ}
use Rattle.pd_patch.specs.Report.{loads_among}
use Rattle.pd_engine.proofs.engine.Engine.tell_put.Goals as goal

pub returns-clause-loads : goal.returns-clause-loads
returns-clause-loads g c = c.keep_loads.ensures ∙ ap (λ (ks : List ℕ). loads_among c.args.self.now.patch.grove (drop 1 ks)) c.requires
