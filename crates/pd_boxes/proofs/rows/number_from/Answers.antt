use Rattle.std.proofs.Common.{arith, ◌∙◌}
use Rattle.pd_boxes.proofs.RowLemmas.{between_more, between_all}
use Rattle.pd_boxes.proofs.rows.number_from.Goals as goal

pub loop-i-preserved : goal.loop-i-preserved
loop-i-preserved c =
    let from = c.loop-i.invariant.from in
    record {
      from = omega (arith, from);
      put = between_more c.args.keys.now c.args.numbers.now.items c.loop-i.numbers.items c.put_number.new.numbers.items c.args.number c.loop-i.i c.requires.apart from c.loop-i-test.true
          c.put_number.ensures.put c.loop-i.invariant.put;
      len = c.put_number.ensures.len ∙ c.loop-i.invariant.len;
    }

pub returns : goal.returns
returns c = between_all c.args.keys.now c.args.numbers.now.items c.loop-i.numbers.items c.args.number c.loop-i.i c.loop-i-test.false c.loop-i.invariant.put
