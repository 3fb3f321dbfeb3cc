use Rattle.pd_stage.proofs.LeadLemmas.{broke_none}
use Rattle.pd_engine.proofs.engine.Engine.advance.Goals as goal

pub returns-then-self-clause-part : goal.returns-then-self-clause-part
returns-then-self-clause-part g c = broke_none _ _
