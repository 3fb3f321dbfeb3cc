use Rattle.std.proofs.Common.{◌+◌, ℕ, [], take, drop, refl, sym, ◌∙◌, subst}
use Rattle.std.proofs.lemmas.List.{take_all}
use Rattle.pd_grove.specs.TextOrder.{keys_of_spots}
use Rattle.pd_instances.specs.Lay.{LaysLines}
use Rattle.pd_instances.specs.Part.{lines_of}
use Rattle.pd_instances.proofs.LoopLemmas.{it, it_first, it_left, it_later, keys_more, keys_split}
use Rattle.pd_instances.proofs.RowLemmas.{taken_other}
use Rattle.pd_instances.proofs.InsideLemmas.{laid_next, room_inside}
use Rattle.pd_instances.proofs.LayLemmas.{none_laid}
use Rattle.pd_instances.proofs.linking.lay_part.Goals as goal

pub lay_inside-requires-clause-made : goal.lay_inside-requires-clause-made
lay_inside-requires-clause-made c = λ k. c.loop-spot.invariant.lays.kept.made k ∙ c.requires.made k

pub lay_inside-requires-clause-room : goal.lay_inside-requires-clause-room
lay_inside-requires-clause-room c =
    let spots = c.args.spots.now in
    let i = c.loop-spot.spot-index in
    room_inside c.args.grove.now c.args.web.now c.loop-spot.web (keys_of_spots (take i spots)) (it spots i c.loop-spot-test.true) (keys_of_spots (drop (i + 1) spots)) (keys_of_spots spots)
    (keys_split spots i c.loop-spot-test.true) c.loop-spot.invariant.lays c.requires.room

pub lay_inside-requires-clause-takes : goal.lay_inside-requires-clause-takes
lay_inside-requires-clause-takes c = λ k e.
    c.loop-spot.invariant.takes (it c.args.spots.now c.loop-spot.spot-index c.loop-spot-test.true) k (it_first c.args.spots.now c.loop-spot.spot-index c.loop-spot-test.true) e

pub loop-spot-init : goal.loop-spot-init
loop-spot-init c = record { lays = none_laid c.args.web.now; wired = c.requires.wired; takes = c.requires.takes }

pub loop-spot-preserved : goal.loop-spot-preserved
loop-spot-preserved c =
    let spots = c.args.spots.now in
    let i = c.loop-spot.spot-index in
    let g = c.args.grove.now in
    let low = c.loop-spot-test.true in
    let k : ℕ = it spots i low in
    let inv = c.loop-spot.invariant in
    let E = c.lay_inside.ensures in
    record {
      lays = subst (λ ks. LaysLines c.args.web.now c.lay_inside.new.web (lines_of g ks)) (sym (keys_more spots i low))
          (laid_next g c.args.web.now c.loop-spot.web c.lay_inside.new.web (keys_of_spots (take i spots)) k inv.lays E.lays);
      wired = E.wired;
      takes = λ x d t e.
          taken_other g inv.wired.own c.requires.alone c.loop-spot.links c.lay_inside.new.links [] k refl E.others E.none x d
          (it_later spots i low c.requires.once x t) e (inv.takes x d (it_left spots i low x t) e);
    }

pub returns-clause-lays : goal.returns-clause-lays
returns-clause-lays c =
    subst (λ ps. LaysLines c.args.web.now c.loop-spot.web (lines_of c.args.grove.now (keys_of_spots ps))) (take_all c.loop-spot.spot-index c.args.spots.now c.loop-spot-test.false) c.loop-spot.invariant.lays
