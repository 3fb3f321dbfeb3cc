use Rattle.std.proofs.Common.{arith}
use Rattle.pd_web.proofs.ChangeLemmas.{same_none, same_more}
use Rattle.pd_web.proofs.web.Web.reserve_ends.Goals as goal

pub loop-init : goal.loop-init
loop-init c =
    let e = c.len-counter.ensures in
    let ok = c.args.self.now.spare.ok.0 in
    record { same = same_none c.args.self.now; kept = λ k p n h. h; far = omega (arith, e, ok) }

pub loop-preserved : goal.loop-preserved
loop-preserved c =
    let more = c.in_ok-set_end_aside.ensures.more in
    let far = c.loop.invariant.far in
    record {
      same = same_more c.args.self.now c.loop.self c.set_end_aside.new.self c.loop.invariant.same c.set_end_aside.ensures.same;
      kept = λ k p n h. c.set_end_aside.ensures.kept k p n (c.loop.invariant.kept k p n h);
      far = omega (arith, more, far);
    }

pub returns-in_err-set_end_aside-clause-same : goal.returns-in_err-set_end_aside-clause-same
returns-in_err-set_end_aside-clause-same c = same_more c.args.self.now c.loop.self c.set_end_aside.new.self c.loop.invariant.same c.set_end_aside.ensures.same

pub returns-in_err-set_end_aside-clause-kept : goal.returns-in_err-set_end_aside-clause-kept
returns-in_err-set_end_aside-clause-kept c = λ k p n h. c.set_end_aside.ensures.kept k p n (c.loop.invariant.kept k p n h)

pub returns-clause-same : goal.returns-clause-same
returns-clause-same c = c.loop.invariant.same

pub returns-clause-kept : goal.returns-clause-kept
returns-clause-kept c = c.loop.invariant.kept

pub returns-clause-room : goal.returns-clause-room
returns-clause-room c =
    let far = c.loop.invariant.far in
    record { boxes = omega arith; homes = omega arith; ends = omega arith; wires = omega arith }
