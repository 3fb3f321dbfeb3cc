use Rattle.std.proofs.Common.{◌≤◌, length, arith}
use Rattle.pd_chain.proofs.EntryLemmas.{first_found, first_missing}
use Rattle.pd_chain.proofs.entries.first_at.Goals as goal
use Rattle.pd_chain.proofs.entries.first_at.Goals.{else-start-entries-via-then-start-entries+else-entries-start, else-start-entries-via-else-start-entries}

pub returns-then-entries-start : goal.returns-then-entries-start
returns-then-entries-start c = first_found c.args.entries.now c.args.key c.start_of-start.result (record { key = 0; value = 0 }) c.requires c.start_of-start.ensures c.if-start-entries.true c.if-entries-start.true

pub returns-else-start-entries : goal.returns-else-start-entries
returns-else-start-entries c = first_missing c.args.entries.now c.args.key c.start_of-start.result (record { key = 0; value = 0 }) c.requires c.start_of-start.ensures
    (elim c.else-start-entries.branch [
      | else-start-entries-via-then-start-entries+else-entries-start w ↦ λ l. w.if-entries-start.false
      | else-start-entries-via-else-start-entries w ↦ λ l q. (let m : length c.args.entries.now ≤ c.start_of-start.result = w.if-start-entries.false in omega arith)
    ])
