use Rattle.pd_alike_law.proofs.MeetLemmas.{edits_meet, edits_order}
use Rattle.pd_alike_law.proofs.OnceLemmas.{edits_once, edits_fed}
use Rattle.pd_alike_law.proofs.laws.edits_keep_feeds.Goals as goal

pub returns-clause-meet : goal.returns-clause-meet
returns-clause-meet c = edits_meet

pub returns-clause-order : goal.returns-clause-order
returns-clause-order c = edits_order

pub returns-clause-fans : goal.returns-clause-fans
returns-clause-fans c = edits_once

pub returns-clause-feeds : goal.returns-clause-feeds
returns-clause-feeds c = edits_fed
