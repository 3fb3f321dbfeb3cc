use Rattle.std.proofs.Common.{◌≡◌, ◌++◌, List, take, get_or, false, sym, ◌∙◌, subst}
use Rattle.std.proofs.lemmas.List.{take_more}
use Rattle.slab.specs.Slab.{get}
use Rattle.pd_grove.specs.declared.spots.Spot.{Spot}
use Rattle.pd_name.specs.Rows.{owners_of}
use Rattle.pd_bind.specs.Owning.{boxes_owning}
use Rattle.pd_bind.proofs.OwningLemmas.{bound_more}
use Rattle.pd_bind.proofs.binding.bind_boxes.Goals as goal

pub loop-spot-preserved : goal.loop-spot-preserved
loop-spot-preserved c =
    let i = c.loop-spot.spot-index in
    let spots = c.args.spots.now in
    let nodes = get c.args.grove.now.nodes in
    let none : Spot = record { node = 0; is_top = false } in
    record {
      table = c.bind_box.ensures.table ∙ c.loop-spot.invariant.table;
      owners = λ class name.
          let old = owners_of c.args.names.now class name in
          let P : List Spot → Type 0 = λ ps. owners_of c.bind_box.new.names class name ≡ old ++ boxes_owning c.args.symbols.now nodes class name ps in
          subst P (sym (take_more spots i none c.loop-spot-test.true))
          (bound_more c.args.symbols.now c.loop-spot.symbols nodes class name old (owners_of c.loop-spot.names class name) (owners_of c.bind_box.new.names class name)
          (take i spots) (get_or spots i none) c.loop-spot.invariant.table (c.in_ok-bind_box.ensures.binds class name) (c.loop-spot.invariant.owners class name));
    }
