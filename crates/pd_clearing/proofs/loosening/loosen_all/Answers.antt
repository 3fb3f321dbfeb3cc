use Rattle.std.proofs.Common.{◌∷◌, ◌++◌, [], take, get_or, false, sym, subst}
use Rattle.std.proofs.lemmas.List.{take_more, take_all}
use Rattle.std.proofs.lemmas.Option.{slice_get-get_or}
use Rattle.pd_grove.specs.declared.spots.Spot.{Spot}
use Rattle.pd_grove.specs.TextOrder.{keys_of_spots}
use Rattle.pd_clearing.specs.Losing.{LoosensAll}
use Rattle.pd_clearing.proofs.LoosenLemmas.{among_at, among_or_next, loosens_next, loosens_none}
use Rattle.pd_clearing.proofs.loosening.loosen_all.Goals as goal

abbrev none : Spot
none = record { node = 0; is_top = false }

pub loop-spot-init : goal.loop-spot-init
loop-spot-init g c = record { loosens = loosens_none c.args.patch.now (keys_of_spots c.args.spots.now) c.args.steps.now c.requires.runs c.requires.meet; counted = c.requires.counted }

pub loop-spot-preserved : goal.loop-spot-preserved
loop-spot-preserved g c =
    let i = c.loop-spot.spot-index in
    let spots = c.args.spots.now in
    let p = get_or spots i none in
    let ps = take i spots in
    let part = keys_of_spots spots in
    let at = among_at spots i p (slice_get-get_or spots i none c.loop-spot-test.true) in
    record {
      loosens =
          subst (λ qs. LoosensAll c.args.patch.now c.loosen-left.new.patch part (keys_of_spots qs) c.args.steps.now c.loosen-left.new.steps) (sym (take_more spots i none c.loop-spot-test.true))
          (loosens_next c.args.patch.now c.loop-spot.patch c.loosen-left.new.patch part (keys_of_spots ps) (keys_of_spots (ps ++ p ∷ [])) p.node c.args.steps.now c.loop-spot.steps c.loosen-left.new.steps
          c.loop-spot.invariant.loosens c.loosen-left.ensures.loosens c.loosen-left.ensures.wires at (c.requires.live p.node at) (among_or_next ps p));
      counted = c.loosen-left.ensures.counted;
    }

pub returns-clause-loosens : goal.returns-clause-loosens
returns-clause-loosens g c =
    let done = take_all c.loop-spot.spot-index c.args.spots.now c.loop-spot-test.false in
    subst (λ qs. LoosensAll c.args.patch.now c.loop-spot.patch (keys_of_spots c.args.spots.now) (keys_of_spots qs) c.args.steps.now c.loop-spot.steps) done c.loop-spot.invariant.loosens
