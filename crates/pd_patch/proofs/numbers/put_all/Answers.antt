use Rattle.std.proofs.Common.{◌≡◌}
use Rattle.std.specs.Prelude.{slice_get, Some}
use Rattle.pd_patch.proofs.ListingLemmas.{all}
use Rattle.pd_patch.proofs.NumberLemmas.{under_more, spares_more}
use Rattle.pd_patch.proofs.numbers.put_all.Goals as goal

pub loop-i-preserved : goal.loop-i-preserved
loop-i-preserved c =
    let keys = c.args.keys.now in
    let was = c.loop-i.numbers.items in
    let now = c.put_number.new.table.items in
    record {
      under = under_more keys was now c.loop-i.i c.loop-i-test.true c.in_ok-put_number.ensures.at c.in_ok-put_number.ensures.others c.loop-i.invariant.under;
      others = spares_more keys c.args.numbers.now.items was now c.loop-i.i c.loop-i-test.true c.in_ok-put_number.ensures.others c.loop-i.invariant.others;
    }

pub returns-clause-under : goal.returns-clause-under
returns-clause-under c =
    let numbers = c.loop-i.numbers.items in
    λ apart. all (λ i k. slice_get numbers k ≡ Some i) c.args.keys.now c.loop-i.i c.loop-i-test.false (c.loop-i.invariant.under apart)
