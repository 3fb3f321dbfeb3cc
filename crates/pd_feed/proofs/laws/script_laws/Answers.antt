use Rattle.pd_feed.proofs.FedLemmas.{fed-white, fed-append}
use Rattle.pd_feed.proofs.ScriptLemmas.{script_step}
use Rattle.pd_feed.proofs.laws.script_laws.Goals as goal

pub returns : goal.returns
returns c = record { white = fed-white; shown = fed-append; steps = script_step }
