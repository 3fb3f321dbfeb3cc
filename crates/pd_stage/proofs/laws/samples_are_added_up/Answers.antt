use Rattle.pd_stage.proofs.SumLemmas.{edit_adds, event_adds, edit_event_adds, advanced_adds, finished_adds}
use Rattle.pd_stage.proofs.laws.samples_are_added_up.Goals as goal

pub returns-clause-edits : goal.returns-clause-edits
returns-clause-edits c = edit_adds

pub returns-clause-events : goal.returns-clause-events
returns-clause-events c = event_adds

pub returns-clause-edit_events : goal.returns-clause-edit_events
returns-clause-edit_events c = edit_event_adds

pub returns-clause-times : goal.returns-clause-times
returns-clause-times c = advanced_adds

pub returns-clause-ends : goal.returns-clause-ends
returns-clause-ends c = finished_adds
