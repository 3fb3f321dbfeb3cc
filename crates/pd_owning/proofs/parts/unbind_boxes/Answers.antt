use Rattle.std.proofs.Common.{◌++◌, ◌∷◌, take, get_or, false, sym, ◌∙◌, subst}
use Rattle.std.proofs.lemmas.List.{take_more, take_all}
use Rattle.std.proofs.lemmas.Option.{slice_get-get_or}
use Rattle.pd_bind.specs.Owning.{owners_in}
use Rattle.pd_grove.specs.declared.spots.Spot.{Spot}
use Rattle.pd_grove.specs.TextOrder.{keys_of_spots}
use Rattle.pd_owning.specs.Bound.{AreOwnersBut}
use Rattle.pd_owning.proofs.TurnLemmas.{away_more}
use Rattle.pd_owning.proofs.parts.unbind_boxes.Goals as goal

abbrev none : Spot
none = record { node = 0; is_top = false }

pub unbind_box-requires-clause-here : goal.unbind_box-requires-clause-here
unbind_box-requires-clause-here c =
    let i = c.loop-spot.spot-index in
    c.requires.here i (get_or c.args.spots.now i none) (slice_get-get_or c.args.spots.now i none c.loop-spot-test.true)

pub loop-spot-preserved : goal.loop-spot-preserved
loop-spot-preserved c =
    let i = c.loop-spot.spot-index in
    let spots = c.args.spots.now in
    let g = c.args.grove.now in
    let p = get_or spots i none in
    let ps = take i spots in
    record {
      table = c.unbind_box.ensures.table ∙ c.loop-spot.invariant.table;
      unbinds = λ file away was class name.
          let before : AreOwnersBut c.loop-spot.names c.loop-spot.symbols file g (keys_of_spots ps ++ away) =
          subst (λ t. AreOwnersBut c.loop-spot.names t file g (keys_of_spots ps ++ away)) (sym c.loop-spot.invariant.table) (c.loop-spot.invariant.unbinds file away was) in
          let after : AreOwnersBut c.unbind_box.new.names c.args.symbols.now file g (p.node ∷ (keys_of_spots ps ++ away)) =
          subst (λ t. AreOwnersBut c.unbind_box.new.names t file g (p.node ∷ (keys_of_spots ps ++ away))) c.loop-spot.invariant.table
          (c.unbind_box.ensures.unbinds file (keys_of_spots ps ++ away) before) in
          subst (λ qs. AreOwnersBut c.unbind_box.new.names c.args.symbols.now file g (keys_of_spots qs ++ away)) (sym (take_more spots i none c.loop-spot-test.true))
          (λ x y. after x y ∙ away_more ps p away (owners_in c.args.symbols.now file g x y)) class name;
    }

pub returns-clause-unbinds : goal.returns-clause-unbinds
returns-clause-unbinds c = λ file away was.
    let done = take_all c.loop-spot.spot-index c.args.spots.now c.loop-spot-test.false in
    subst (λ ps. AreOwnersBut c.loop-spot.names c.args.symbols.now file c.args.grove.now (keys_of_spots ps ++ away)) done (c.loop-spot.invariant.unbinds file away was)
