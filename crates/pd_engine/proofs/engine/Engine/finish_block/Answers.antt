use Rattle.std.proofs.Common.{◌<◌, ◌≤◌, ◌+◌, arith}
use Rattle.std.proofs.lemmas.Result.{on_ok_weaker, on_err_weaker}
use Rattle.pd_stage.specs.Stages.{still}
use Rattle.pd_stage.specs.Times.{finished, block_runs}
use Rattle.pd_stage.proofs.LeadLemmas.{leads_same, broke_same, leads_begin}
use Rattle.pd_engine.specs.Stages.{stage_at}
use Rattle.pd_engine.proofs.TimeLemmas.{is_begun, is_not_begun}
use Rattle.pd_engine.proofs.engine.Engine.finish_block.Goals as goal
use Rattle.pd_engine.proofs.engine.Engine.finish_block.Goals.{then-end-lt-BLOCK-via-then-end-lt-BLOCK, then-end-lt-BLOCK-via-else-end-lt-BLOCK+then-end-units}

pub returns-then-end-lt-BLOCK-clause-ok : goal.returns-then-end-lt-BLOCK-clause-ok
returns-then-end-lt-BLOCK-clause-ok g c =
    let s = stage_at c.args.self.now in
    let begun : c.args.self.now.block_end < c.args.self.now.time + 64000000000 = elim c.then-end-lt-BLOCK.branch [
      | then-end-lt-BLOCK-via-then-end-lt-BLOCK w ↦ omega (arith, c.units-end.ensures, w.if-end-lt-BLOCK.true)
      | then-end-lt-BLOCK-via-else-end-lt-BLOCK+then-end-units w ↦ omega (arith, c.units-end.ensures, w.units.ensures, w.if-end-units.true, w.if-end-lt-BLOCK.false)
    ] in
    on_ok_weaker c.run_next_block.result
    (λ h. leads_same (λ m. block_runs (s m)) (λ m. finished (s m)) (λ m. still (stage_at c.run_next_block.new.self m)) _ _ (λ m. is_begun (s m) begun) h)
    c.run_next_block.ensures.ok

pub returns-then-end-lt-BLOCK-clause-err : goal.returns-then-end-lt-BLOCK-clause-err
returns-then-end-lt-BLOCK-clause-err g c =
    let s = stage_at c.args.self.now in
    let begun : c.args.self.now.block_end < c.args.self.now.time + 64000000000 = elim c.then-end-lt-BLOCK.branch [
      | then-end-lt-BLOCK-via-then-end-lt-BLOCK w ↦ omega (arith, c.units-end.ensures, w.if-end-lt-BLOCK.true)
      | then-end-lt-BLOCK-via-else-end-lt-BLOCK+then-end-units w ↦ omega (arith, c.units-end.ensures, w.units.ensures, w.if-end-units.true, w.if-end-lt-BLOCK.false)
    ] in
    on_err_weaker c.run_next_block.result
    (λ h. broke_same (λ m. block_runs (s m)) (λ m. finished (s m)) _ _ (λ m. is_begun (s m) begun) h)
    c.run_next_block.ensures.err

pub returns-clause-ok : goal.returns-clause-ok
returns-clause-ok g c =
    let s = stage_at c.args.self.now in
    let later : c.args.self.now.time + 64000000000 ≤ c.args.self.now.block_end = omega arith in
    leads_same (λ m. still (s m)) (λ m. finished (s m)) (λ m. still (s m)) _ _ (λ m. is_not_begun (s m) later) (leads_begin (λ m. still (s m)) _)
