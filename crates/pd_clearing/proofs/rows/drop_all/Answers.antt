use Rattle.std.proofs.Common.{map, take, get_or, false, sym, subst}
use Rattle.std.proofs.lemmas.List.{take_more, take_all}
use Rattle.pd_grove.specs.declared.spots.Spot.{Spot}
use Rattle.pd_grove.specs.TextOrder.{keys_of_spots}
use Rattle.pd_clearing.specs.Clearing.{DropsAll}
use Rattle.pd_clearing.proofs.RowLemmas.{drops_next, drops_none}
use Rattle.pd_clearing.proofs.rows.drop_all.Goals as goal

abbrev none : Spot
none = record { node = 0; is_top = false }

pub loop-spot-init : goal.loop-spot-init
loop-spot-init c = drops_none (map (λ b. b.items) c.args.values.now.items)

pub loop-spot-preserved : goal.loop-spot-preserved
loop-spot-preserved c =
    let i = c.loop-spot.spot-index in
    let spots = c.args.spots.now in
    let p = get_or spots i none in
    let old = map (λ b. b.items) c.args.values.now.items in
    let mid = map (λ b. b.items) c.loop-spot.values.items in
    let new = map (λ b. b.items) c.drop_blocks.new.values.items in
    subst (λ qs. DropsAll old new (keys_of_spots qs)) (sym (take_more spots i none c.loop-spot-test.true))
    (drops_next old mid new (take i spots) p c.loop-spot.invariant c.drop_blocks.ensures)

pub returns : goal.returns
returns c =
    subst (λ qs. DropsAll (map (λ b. b.items) c.args.values.now.items) (map (λ b. b.items) c.loop-spot.values.items) (keys_of_spots qs)) (take_all c.loop-spot.spot-index c.args.spots.now c.loop-spot-test.false) c.loop-spot.invariant
