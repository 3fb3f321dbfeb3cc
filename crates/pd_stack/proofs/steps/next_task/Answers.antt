use Rattle.std.proofs.Common.{arith}
use Rattle.std.proofs.lemmas.Result.{err_from_is_err_and}
use Rattle.pd_hearing.specs.Worlds.{net_of}
use Rattle.pd_stack.proofs.TurnLemmas.{yields-start, yields-found, yields-passes, breaks}
use Rattle.pd_stack.proofs.steps.next_task.Goals as goal

pub returns-in-Some-settle-clause-ok : goal.returns-in-Some-settle-clause-ok
returns-in-Some-settle-clause-ok g c = λ tasks left.
    yields-found (net_of c.args.patch.now) c.args.symbols.now _ _ _ _ c.loop-top.stack c.pop.new.self c.settle.new.stack c.in-Some.top c.turn_of-turn.result
    c.in-Some.ensures.some c.pop.ensures.atoms c.turn_of-turn.ensures.tasks c.settle.ensures.left tasks c.in-Some-settle.task c.in-Some-settle.ensures.task
    (c.loop-top.invariant.yields tasks left)

pub returns-in_err-end_send-clause-err : goal.returns-in_err-end_send-clause-err
returns-in_err-end_send-clause-err g c = λ tasks left.
    let p = err_from_is_err_and c.from_residual.result c.from_residual.ensures.1 in
    rw p.1
    (breaks (net_of c.args.patch.now) c.args.symbols.now _ _ _ _ c.loop-top.stack c.pop.new.self c.settle.new.stack c.in-Some.top c.turn_of-turn.result
    c.in-Some.ensures.some c.pop.ensures.atoms c.turn_of-turn.ensures.tasks c.settle.ensures.left tasks _ c.in-None.ensures.task
    (c.loop-top.invariant.yields tasks left) c.in_err-end_send.ensures.err)

pub loop-top-init : goal.loop-top-init
loop-top-init g c = record {
  piled = c.requires;
  yields = λ tasks left. yields-start (net_of c.args.patch.now) c.args.symbols.now _ _ c.args.stack.now tasks left;
  counted = omega arith;
}

pub loop-top-preserved : goal.loop-top-preserved
loop-top-preserved g c = record {
  piled = c.settle.ensures.piled;
  yields = λ tasks left.
      yields-passes (net_of c.args.patch.now) c.args.symbols.now _ _ _ _ c.loop-top.stack c.pop.new.self c.settle.new.stack c.in-Some.top c.turn_of-turn.result
      c.in-Some.ensures.some c.pop.ensures.atoms c.turn_of-turn.ensures.tasks c.settle.ensures.left tasks _ _ c.in-None.ensures.task
      (c.loop-top.invariant.yields tasks left) c.in_ok-end_send.ensures.ok;
  counted = omega arith;
}
