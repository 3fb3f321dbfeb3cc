use Rattle.std.proofs.Common.{[], refl, ◌∙◌, subst, arith}
use Rattle.pd_grove.specs.Refits.{with_text}
use Rattle.pd_grove.specs.Standing.{node_seen}
use Rattle.pd_tree.specs.Trees.{stand_of}
use Rattle.pd_owning.specs.Bound.{HasRoom}
use Rattle.pd_patch.specs.Telling.{order_in}
use Rattle.pd_patch.specs.Values.{blocks_told}
use Rattle.pd_wiring.proofs.BuiltLemmas.{same_links}
use Rattle.pd_boxes.proofs.ReserveLemmas.{same_grove, same_web, same_order, longer_self}
use Rattle.pd_renaming.proofs.NameLemmas.{hear_alike}
use Rattle.pd_renaming.proofs.PatchLemmas.{renames_same}
use Rattle.pd_renaming.proofs.reserving.reserve_name.Goals as goal

pub returns-in_err-reserve_owner-clause-same : goal.returns-in_err-reserve_owner-clause-same
returns-in_err-reserve_owner-clause-same c =
    let p = c.args.patch.now in
    record {
      grove = same_grove p.grove;
      web = same_web p.web;
      names = c.reserve_owner.ensures.owners;
      links = same_links p.links;
      orders = λ d. same_order (order_in p.orders.items d);
      numbers = longer_self 0 p.numbers.items;
      values = longer_self [] (blocks_told p);
      clocks = refl;
      end = omega arith;
      rate = refl;
      present = refl;
    }

pub returns-clause-same : goal.returns-clause-same
returns-clause-same c =
    let p = c.args.patch.now in
    record {
      grove = same_grove p.grove;
      web = same_web p.web;
      names = c.reserve_owner.ensures.owners;
      links = same_links p.links;
      orders = λ d. same_order (order_in p.orders.items d);
      numbers = longer_self 0 p.numbers.items;
      values = longer_self [] (blocks_told p);
      clocks = refl;
      end = omega arith;
      rate = refl;
      present = refl;
    }

pub returns-clause-names : goal.returns-clause-names
returns-clause-names c = record { key = refl; written = refl; text = refl }

pub returns-clause-room : goal.returns-clause-room
returns-clause-room c =
    let row = c.args.row in
    let C = c.requires.can.1 in
    record {
      owner = λ n is.
          let D = renames_same c.args.patch.now c.args.key c.requires.can.0 n C is in
          subst (λ o. HasRoom c.reserve_owner.new.names o 1)
          (c.name_of_row-owned.ensures.value
          ∙ hear_alike c.args.symbols.now (stand_of row).cell (node_seen (with_text row.element.text row.text n)).cell c.requires.row.canvas c.requires.row.sub
          D.canvas D.sub refl)
          c.in_ok-reserve_owner.ensures.room;
    }
