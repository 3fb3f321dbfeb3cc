use Rattle.pd_reload_law.proofs.SortedLemmas.{sorted_same}
use Rattle.pd_reload_law.proofs.FanLemmas.{saved_sorted, saved_fan, saved_none}
use Rattle.pd_reload_law.proofs.laws.saved_wires_are_fan_outs.Goals as goal

pub returns-clause-sorted : goal.returns-clause-sorted
returns-clause-sorted c = saved_sorted

pub returns-clause-fans : goal.returns-clause-fans
returns-clause-fans c = saved_fan

pub returns-clause-none : goal.returns-clause-none
returns-clause-none c = saved_none

pub returns-clause-once : goal.returns-clause-once
returns-clause-once c = sorted_same
