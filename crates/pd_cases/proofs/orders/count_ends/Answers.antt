use Rattle.std.proofs.Common.{◌≡◌, ℕ, ◌+◌, ◌≤◌, ◌==◌, Bool, true, false, cond, length, get_or, drop, ◌∙◌, refl, arith}
use mir.Val.{bool_byte as from_bool}
use Rattle.pd_order.specs.Wired.{ends_at}
use Rattle.pd_order.proofs.WiredLemmas.{count_step, count_end}
use Rattle.pd_cases.proofs.orders.count_ends.Goals as goal

as_cond : (b : Bool) → from_bool b ≡ cond b 1 0
as_cond true = refl
as_cond false = refl

low : (b : Bool) → from_bool b ≤ 1
low true = omega arith
low false = omega arith

pub loop-i-preserved : goal.loop-i-preserved
loop-i-preserved c =
    let i : ℕ = c.loop-i.i in
    let k : length (ends_at (drop i c.args.near.now) (drop i c.args.far.now) c.args.node) ≡ cond (get_or c.args.near.now i 0 == c.args.node) 1 0 + length (ends_at (drop (i + 1) c.args.near.now) (drop (i + 1) c.args.far.now) c.args.node) =
    count_step c.args.near.now c.args.far.now i c.args.node (omega arith) c.requires.paired in
    let o : c.from-count.result ≡ cond (get_or c.args.near.now i 0 == c.args.node) 1 0 = c.from-count.ensures ∙ as_cond (get_or c.args.near.now i 0 == c.args.node) in
    let inv = c.loop-i.invariant.counted in
    record {
      counted = omega arith;
      low = (let m : from_bool (get_or c.args.near.now i 0 == c.args.node) ≤ 1 = low (get_or c.args.near.now i 0 == c.args.node) in let e = c.from-count.ensures in let v = c.loop-i.invariant.low in omega arith);
    }

pub overflow_add-count : goal.overflow_add-count
overflow_add-count c =
    let m : from_bool (get_or c.args.near.now c.loop-i.i 0 == c.args.node) ≤ 1 = low (get_or c.args.near.now c.loop-i.i 0 == c.args.node) in
    let e = c.from-count.ensures in
    let v = c.loop-i.invariant.low in
    let f = c.requires.few in omega arith

pub returns : goal.returns
returns c =
    let z : length (ends_at (drop c.loop-i.i c.args.near.now) (drop c.loop-i.i c.args.far.now) c.args.node) ≡ 0 = count_end c.args.near.now c.args.far.now c.loop-i.i c.args.node (omega arith) in
    let inv = c.loop-i.invariant.counted in omega arith
