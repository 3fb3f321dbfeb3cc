use Rattle.std.proofs.Common.{refl, ◌∙◌, arith}
use Rattle.pd_ports.proofs.RefitLemmas.{moving_begun, moving_on, moved_all}
use Rattle.pd_ports.proofs.swaps.move_side.Goals as goal

pub loop-i-init : goal.loop-i-init
loop-i-init c = record { moving = moving_begun c.args.old.now c.args.own.now c.requires.loose; len = refl; old_len = refl }

pub loop-i-preserved : goal.loop-i-preserved
loop-i-preserved c =
    let m = c.move_end.ensures in
    record {
      moving = moving_on c.args.old.now c.args.own.now c.loop-i.old c.loop-i.own c.move_end.new.old c.move_end.new.own c.loop-i.i _ c.loop-i.invariant.moving refl m.taken m.left m.others m.old_others m.jack m.old_jack;
      len = m.len ∙ c.loop-i.invariant.len;
      old_len = m.old_len ∙ c.loop-i.invariant.old_len;
    }

pub returns : goal.returns
returns c =
    let over = c.loop-i-test.false in
    let least = c.min-i-end.ensures in
    moved_all c.args.old.now c.args.own.now c.loop-i.old c.loop-i.own c.loop-i.i c.loop-i.invariant.moving (omega (arith, over, least))
