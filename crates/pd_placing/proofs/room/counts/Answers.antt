use Rattle.std.proofs.Common.{arith, ◌<◌, ℕ, List, length, ap}
use Rattle.pd_placing.proofs.JoinLemmas.{counted_spots}
use Rattle.pd_placing.proofs.PlaceLemmas.{lt_from}
use Rattle.pd_placing.proofs.room.counts.Goals as goal

pub returns : goal.returns
returns c = λ h.
    let low : c.saturating_add.result < 4294967295 = lt_from c.saturating_add.result 4294967295 h in
    let spots = counted_spots c.args.order.now c.laws.ensures.listed in
    let chain = ap (λ (xs : List ℕ). length xs) c.chain.ensures in
    let stuck = ap (λ (xs : List ℕ). length xs) c.stuck.ensures in
    omega (arith, low, spots, chain, stuck, c.saturating_add-listed.ensures, c.saturating_add.ensures)
