use Rattle.std.proofs.Common.{sym}
use Rattle.pd_guards.proofs.GuardLemmas.{message_true, small_true, table_true, open_true, notices_true}
use Rattle.pd_guards.proofs.ControlLemmas.{resumed_kind, fired_said}
use Rattle.pd_guards.proofs.HearLemmas.{kind_same, kind_in_order}
use Rattle.pd_guards.proofs.laws.hearing_stays_in_order.Goals as goal

pub returns-clause-stays : goal.returns-clause-stays
returns-clause-stays c = λ names k s inlet selector atoms now table time first h kept m t. kind_in_order names first now time s inlet selector atoms table kept m t k h

pub returns-clause-freely : goal.returns-clause-freely
returns-clause-freely c = λ names k s inlet selector atoms now table time first h kept m t. sym (kind_same names first now time s inlet selector atoms table kept m t k h)

pub returns-clause-message : goal.returns-clause-message
returns-clause-message c = message_true

pub returns-clause-small : goal.returns-clause-small
returns-clause-small c = small_true

pub returns-clause-ramps : goal.returns-clause-ramps
returns-clause-ramps c = open_true

pub returns-clause-table : goal.returns-clause-table
returns-clause-table c = table_true

pub returns-clause-notices : goal.returns-clause-notices
returns-clause-notices c = λ names said h. notices_true names said.notices h.notices

pub returns-clause-again : goal.returns-clause-again
returns-clause-again c = λ names now k s first h. resumed_kind names first now k s h

pub returns-clause-clock : goal.returns-clause-clock
returns-clause-clock c = λ names k s first. fired_said names first 0 k s
