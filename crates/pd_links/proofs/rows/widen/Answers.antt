use Rattle.std.proofs.Common.{arith}
use Rattle.std.proofs.lemmas.Result.{on_ok_weaker}
use Rattle.pd_links.proofs.RowLemmas.{widened, spare_there}
use Rattle.pd_links.proofs.rows.widen.Goals as goal

pub returns-clause-same : goal.returns-clause-same
returns-clause-same c = widened c.args.rows.now c.args.key c.index-rows-key.result c.reserve.new.self c.requires c.reserve.ensures.items c.reserve.ensures.len c.reserve.ensures.capacity

pub returns-clause-room : goal.returns-clause-room
returns-clause-room c = on_ok_weaker c.reserve.result (λ h. let e = spare_there c.args.rows.now c.args.key c.reserve.new.self c.requires in omega (arith, e, h)) c.reserve.ensures.ok
