use Rattle.std.proofs.Common.{◌≤◌, ◌-◌, length, arith, ap, ◌∙◌, drop}
use Rattle.pd_feed.proofs.Parts.{range-drop, length-range}
use Rattle.pd_feed.proofs.buffer.Buffer.skip.Goals as goal

pub returns : goal.returns
returns c =
    let b = c.self.inside in
    let n : c.args.count ≤ b.end - b.start =
    omega (arith, ap length c.self.view_is, length-range b.store.items b.start b.end (omega (arith, b.store.ok.0))) in
    range-drop b.store.items b.start b.end c.args.count n ∙ ap (drop c.args.count) c.self.view_is
