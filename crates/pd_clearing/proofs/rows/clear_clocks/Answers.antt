use Rattle.std.proofs.Common.{take, get_or, false, sym, ap, ◌∙◌}
use Rattle.std.proofs.lemmas.List.{take_more, take_all}
use Rattle.pd_clock.specs.Queue.{without}
use Rattle.pd_grove.specs.declared.spots.Spot.{Spot}
use Rattle.pd_grove.specs.TextOrder.{keys_of_spots}
use Rattle.pd_clearing.specs.Clearing.{without_all}
use Rattle.pd_clearing.proofs.RowLemmas.{without_next}
use Rattle.pd_clearing.proofs.rows.clear_clocks.Goals as goal

abbrev none : Spot
none = record { node = 0; is_top = false }

pub loop-spot-preserved : goal.loop-spot-preserved
loop-spot-preserved c =
    let i = c.loop-spot.spot-index in
    let spots = c.args.spots.now in
    let p = get_or spots i none in
    let cs = c.args.timers.now.clocks.clocks in
    record {
      clocks = c.clear.ensures.clocks ∙ ap (without p.node) c.loop-spot.invariant.clocks ∙ sym (without_next (take i spots) p cs)
          ∙ ap (λ qs. without_all (keys_of_spots qs) cs) (sym (take_more spots i none c.loop-spot-test.true));
      end = c.clear.ensures.end ∙ c.loop-spot.invariant.end;
    }

pub returns-clause-clocks : goal.returns-clause-clocks
returns-clause-clocks c =
    c.loop-spot.invariant.clocks ∙ ap (λ qs. without_all (keys_of_spots qs) c.args.timers.now.clocks.clocks) (take_all c.loop-spot.spot-index c.args.spots.now c.loop-spot-test.false)
