use Rattle.std.proofs.Common.{◌<◌, ℕ, length, get_or, arith}
use Rattle.std.proofs.lemmas.Result.{err_from_is_err_and}
use Rattle.slab.specs.Slab.{get}
use Rattle.pd_patch.specs.Telling.{fault_in}
use Rattle.pd_say.proofs.RowLemmas.{says_more, fails_within, get_or-any}
use Rattle.pd_stage.specs.Lines.{unmade_text}
use Rattle.pd_engine.proofs.puts.say_unmades.Goals as goal

pub returns-in_err-say_unmade-clause-err : goal.returns-in_err-say_unmade-clause-err
returns-in_err-say_unmade-clause-err g c =
    let p = err_from_is_err_and c.from_residual.result c.from_residual.ensures.1 in
    let lt : c.loop-key.key-index < length c.args.boxes.now = omega arith in
    let x : ℕ = get_or c.args.boxes.now c.loop-key.key-index 0 in
    rw p.1
    (fails_within (λ (k : ℕ). unmade_text c.args.symbols.now (fault_in (get c.args.patch.now.grove.nodes k))) c.args.boxes.now c.loop-key.key-index x _ _ _ _ _ lt (get_or-any c.args.boxes.now c.loop-key.key-index 0 x lt)
    c.loop-key.invariant.says c.in_err-say_unmade.ensures.err)

pub loop-key-preserved : goal.loop-key-preserved
loop-key-preserved g c =
    let lt : c.loop-key.key-index < length c.args.boxes.now = omega arith in
    let x : ℕ = get_or c.args.boxes.now c.loop-key.key-index 0 in
    record {
      says = says_more (λ (k : ℕ). unmade_text c.args.symbols.now (fault_in (get c.args.patch.now.grove.nodes k))) c.args.boxes.now c.loop-key.key-index x _ _ _ _ _ _ lt (get_or-any c.args.boxes.now c.loop-key.key-index 0 x lt)
          c.loop-key.invariant.says c.in_ok-say_unmade.ensures.ok;
      counted = omega arith;
    }
