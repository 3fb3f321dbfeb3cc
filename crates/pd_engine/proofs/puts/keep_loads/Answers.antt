use Rattle.std.proofs.Common.{rules, ap, ◌∙◌}
use Rattle.std.proofs.lemmas.Fn.{filter_same}
use Rattle.pd_patch.specs.Report.{loads_among}
use Rattle.pd_engine.proofs.puts.keep_loads.Goals as goal

pub returns : goal.returns
returns c = filter_same _ _ _ (λ x b f' k. search rules) _ _ c.retain.ensures.filtered ∙ ap (loads_among c.args.grove.now) c.remove.ensures.items
