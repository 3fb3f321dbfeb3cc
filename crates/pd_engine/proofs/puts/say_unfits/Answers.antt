use Rattle.std.proofs.Common.{◌<◌, ℕ, Option, length, get_or, subst, arith}
use Rattle.std.proofs.lemmas.Result.{err_from_is_err_and}
use Rattle.slab.specs.Slab.{get}
use Rattle.pd_grove.specs.Telling.{inner_in}
use Rattle.pd_say.specs.Gathering.{Says, Fails}
use Rattle.pd_say.proofs.RowLemmas.{says_more, fails_within, get_or-any}
use Rattle.pd_engine.specs.Remarks.{unfits_in}
use Rattle.pd_engine.proofs.puts.say_unfits.Goals as goal

pub returns-in_err-say_unfits_in-clause-err : goal.returns-in_err-say_unfits_in-clause-err
returns-in_err-say_unfits_in-clause-err g c =
    let p = err_from_is_err_and c.from_residual.result c.from_residual.ensures.1 in
    let lt : c.loop-key.key-index < length c.args.boxes.now = omega arith in
    let x : ℕ = get_or c.args.boxes.now c.loop-key.key-index 0 in
    rw p.1
    (fails_within (λ (k : ℕ). unfits_in c.args.patch.now (inner_in (get c.args.patch.now.grove.nodes k))) c.args.boxes.now c.loop-key.key-index x _ _ _ _ _ lt (get_or-any c.args.boxes.now c.loop-key.key-index 0 x lt)
    c.loop-key.invariant.says
    (subst (λ (o : Option ℕ). Fails (g.L.Sink.taken c.loop-key.lines) c.loop-key.held.items (g.L.Sink.taken c.say_unfits_in.new.lines) (unfits_in c.args.patch.now o)) c.canvas_in.ensures c.in_err-say_unfits_in.ensures.err))

pub loop-key-preserved : goal.loop-key-preserved
loop-key-preserved g c =
    let lt : c.loop-key.key-index < length c.args.boxes.now = omega arith in
    let x : ℕ = get_or c.args.boxes.now c.loop-key.key-index 0 in
    record {
      says = says_more (λ (k : ℕ). unfits_in c.args.patch.now (inner_in (get c.args.patch.now.grove.nodes k))) c.args.boxes.now c.loop-key.key-index x _ _ _ _ _ _ lt (get_or-any c.args.boxes.now c.loop-key.key-index 0 x lt)
          c.loop-key.invariant.says
          (subst (λ (o : Option ℕ). Says (g.L.Sink.taken c.loop-key.lines) c.loop-key.held.items (g.L.Sink.taken c.say_unfits_in.new.lines) c.say_unfits_in.new.held.items (unfits_in c.args.patch.now o)) c.canvas_in.ensures
          c.in_ok-say_unfits_in.ensures.ok);
      counted = omega arith;
    }
