use Rattle.pd_guards.proofs.CommandLemmas.{sent_in, begins_well}
use Rattle.pd_guards.proofs.laws.commands_begin_in_order.Goals as goal

pub returns-clause-read : goal.returns-clause-read
returns-clause-read c = λ names after tokens name atoms e. sent_in names tokens name atoms after e

pub returns-clause-message : goal.returns-clause-message
returns-clause-message c = λ names name atoms first n h. begins_well names first name atoms n h
