use Rattle.pd_hearing.proofs.WorldLemmas.{loaded-some, loaded-none}
use Rattle.pd_hearing.proofs.hearing.load_at.Goals as goal

pub returns-in-Some : goal.returns-in-Some
returns-in-Some c = loaded-some c.args.patch.now c.args.node c.in-Some.found.now _ _ c.in-Some.ensures c.state_at.ensures c.load_kind.ensures

pub returns-in-None : goal.returns-in-None
returns-in-None c = loaded-none c.args.patch.now c.args.node _ c.in-None.ensures c.say_nothing.ensures
