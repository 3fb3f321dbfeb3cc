use Rattle.std.proofs.Common.{take, sym, subst}
use Rattle.std.proofs.lemmas.List.{take_all}
use Rattle.pd_grove.specs.TextOrder.{keys_of_spots}
use Rattle.pd_instances.specs.Layers.{NumbersAll}
use Rattle.pd_instances.proofs.LoopLemmas.{it, it_among, keys_more}
use Rattle.pd_instances.proofs.NumberLemmas.{numbers_none, numbers_next}
use Rattle.pd_instances.proofs.numbering.number_all.Goals as goal

pub number_inside-requires-clause-reach : goal.number_inside-requires-clause-reach
number_inside-requires-clause-reach c = λ k live. c.loop-spot.invariant.reach k (c.requires.reach k live)

pub number_inside-requires-clause-few : goal.number_inside-requires-clause-few
number_inside-requires-clause-few c = λ k e. c.requires.few (it c.args.spots.now c.loop-spot.spot-index c.loop-spot-test.true) k (it_among c.args.spots.now c.loop-spot.spot-index c.loop-spot-test.true) e

pub loop-spot-init : goal.loop-spot-init
loop-spot-init c = record { numbers = numbers_none c.args.grove.now c.args.numbers.now.items; reach = λ k l. l }

pub loop-spot-preserved : goal.loop-spot-preserved
loop-spot-preserved c =
    let spots = c.args.spots.now in
    let i = c.loop-spot.spot-index in
    let g = c.args.grove.now in
    let low = c.loop-spot-test.true in
    let E = c.number_inside.ensures in
    record {
      numbers = subst (λ xs. NumbersAll g c.args.numbers.now.items c.number_inside.new.numbers.items xs) (sym (keys_more spots i low))
          (numbers_next g c.requires.own c.args.numbers.now.items c.loop-spot.numbers.items c.number_inside.new.numbers.items (keys_of_spots (take i spots)) (it spots i low)
          c.loop-spot.invariant.numbers E.some E.none);
      reach = λ k l. E.reach k (c.loop-spot.invariant.reach k l);
    }

pub returns-clause-numbers : goal.returns-clause-numbers
returns-clause-numbers c =
    subst (λ ps. NumbersAll c.args.grove.now c.args.numbers.now.items c.loop-spot.numbers.items (keys_of_spots ps)) (take_all c.loop-spot.spot-index c.args.spots.now c.loop-spot-test.false) c.loop-spot.invariant.numbers
