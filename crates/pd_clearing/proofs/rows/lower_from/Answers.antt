use Rattle.std.proofs.Common.{arith, refl}
use lib.ListN.{get_or}
use Rattle.pd_boxes.proofs.RowLemmas.{between_all, between_more, between_none}
use Rattle.pd_clearing.proofs.RowLemmas.{element_at, later_on}
use Rattle.pd_clearing.proofs.rows.lower_from.Goals as goal

pub loop-i-init : goal.loop-i-init
loop-i-init c = record { from = omega arith; put = between_none c.args.keys.now c.args.numbers.now.items c.args.number c.args.number refl; later = c.requires.above }

pub lower-requires : goal.lower-requires
lower-requires c = (c.loop-i.i, c.loop-i.invariant.later c.loop-i.i (get_or c.args.keys.now c.loop-i.i 0) (omega arith) (element_at c.args.keys.now c.loop-i.i c.loop-i-test.true))

pub loop-i-preserved : goal.loop-i-preserved
loop-i-preserved c =
    let from = c.loop-i.invariant.from in
    let keys = c.args.keys.now in
    let within = c.loop-i-test.true in
    let put = c.lower.ensures c.loop-i.i (c.loop-i.invariant.later c.loop-i.i (get_or keys c.loop-i.i 0) (omega arith) (element_at keys c.loop-i.i within)) in
    record {
      from = omega (arith, from);
      put = between_more keys c.args.numbers.now.items c.loop-i.numbers.items c.lower.new.numbers.items c.args.number c.loop-i.i c.requires.apart from within put c.loop-i.invariant.put;
      later = later_on keys c.loop-i.numbers.items c.lower.new.numbers.items c.loop-i.i c.requires.apart within put c.loop-i.invariant.later;
    }

pub returns : goal.returns
returns c = between_all c.args.keys.now c.args.numbers.now.items c.loop-i.numbers.items c.args.number c.loop-i.i c.loop-i-test.false c.loop-i.invariant.put
