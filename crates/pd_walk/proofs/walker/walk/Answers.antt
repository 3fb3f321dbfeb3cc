use Rattle.std.proofs.Common.{arith, ◌≡◌, ◌<◌, ◌-◌, [], false, Option, IfNone, refl, sym, ◌∙◌, ap, subst}
use Rattle.std.proofs.lemmas.Result.{err_from_is_err_and}
use Rattle.pd_stack.specs.declared.steps.Task.{Task as Due}
use Rattle.pd_hearing.specs.Worlds.{Net, kept_of}
use Rattle.pd_stack.specs.Turns.{told}
use Rattle.pd_walk.specs.Ways.{IsUnderWay}
use Rattle.pd_hearing.proofs.ResultLemmas.{on_ok_map, on_err_map, none-is}
use Rattle.pd_walk.proofs.WayLemmas.{costs-doing, takes-some, takes-none, takes-fails, goes_on, fails, ends, stands, is_cut, fails_cut}
use Rattle.pd_hearing.proofs.TableLemmas.{extends-then}
use Rattle.pd_walk.proofs.StayLemmas.{all-stay, stay-then}
use Rattle.pd_hearing.proofs.WorldLemmas.{kept-same}
use Rattle.pd_walk.proofs.RelayLemmas.{relays, passed}
use Rattle.pd_walk.proofs.walker.walk.Goals as goal

-- cut off before
pub returns-then-budget-clause-ok : goal.returns-then-budget-clause-ok
returns-then-budget-clause-ok g c = λ before final way. stands _ _ _ _ before _ _ final _ c.if-budget.true way

-- nobody hears, and that can't be said
pub returns-in_err-task-clause-err : goal.returns-in_err-task-clause-err
returns-in_err-task-clause-err g c = λ before final way.
    let p = err_from_is_err_and c.from_residual.result c.from_residual.ensures.1 in
    rw p.1
    (takes-fails _ _ _ c.loop-task.budget before _ _ final c.loop-task.stack _ c.loop-task.invariant.uncut (c.loop-task.invariant.way before final way) c.in_err-task.ensures.err)

-- the budget is used up
pub returns-then-budget-eq0-clause-ok : goal.returns-then-budget-eq0-clause-ok
returns-then-budget-eq0-clause-ok g c = λ before final way.
    on_ok_map c.print_cut.result
    (is_cut _ _ _ c.loop-task.budget before _ _ final _ c.next_task.new.stack (told c.next_task.new.stack.atoms c.in-Some.task) _ _ c.loop-task.invariant.uncut c.if-budget-eq0.true
    (costs-doing c.in-Some.task.place _ _ _)
    (takes-some _ _ _ c.loop-task.budget before _ _ final _ c.next_task.new.stack _ _ c.in_ok-task.field-0 c.in-Some.task c.in-Some.is c.loop-task.invariant.uncut (c.loop-task.invariant.way before final way) c.in_ok-task.ensures.ok) refl refl)
    c.print_cut.ensures.ok

pub returns-then-budget-eq0-clause-err : goal.returns-then-budget-eq0-clause-err
returns-then-budget-eq0-clause-err g c = λ before final way.
    on_err_map c.print_cut.result
    (fails_cut _ _ _ c.loop-task.budget before _ _ final c.next_task.new.stack (told c.next_task.new.stack.atoms c.in-Some.task) _ c.loop-task.invariant.uncut c.if-budget-eq0.true
    (costs-doing c.in-Some.task.place _ _ _)
    (takes-some _ _ _ c.loop-task.budget before _ _ final _ c.next_task.new.stack _ _ c.in_ok-task.field-0 c.in-Some.task c.in-Some.is c.loop-task.invariant.uncut (c.loop-task.invariant.way before final way) c.in_ok-task.ensures.ok))
    c.print_cut.ensures.err

-- a task can't be said
pub returns-in_err-perform-clause-err : goal.returns-in_err-perform-clause-err
returns-in_err-perform-clause-err g c = λ before final way.
    let p = err_from_is_err_and c.from_residual-in_err-perform.result c.from_residual-in_err-perform.ensures.1 in
    let r = c.relay_task in
    let uncut : r.new.budget.cut ≡ false = r.ensures.uncut in
    let same = r.ensures.budget c.if-not-relay_task.true in
    let more : 0 < r.new.budget.left = rw same (omega arith) in
    let taken = takes-some _ _ _ c.loop-task.budget before _ _ final _ c.next_task.new.stack _ _ c.in_ok-task.field-0 c.in-Some.task c.in-Some.is c.loop-task.invariant.uncut (c.loop-task.invariant.way before final way) c.in_ok-task.ensures.ok in
    rw p.1
    (fails _ _ _ r.new.budget before _ _ final r.new.stack (told r.new.stack.atoms c.in-Some.task) _ uncut more
    (costs-doing c.in-Some.task.place _ _ _)
    (passed _ _ _ _ _ _ r.new.budget _ r.new.stack (λ l. told l c.in-Some.task) before _ _ final r.ensures.net (kept-same c.loop-task.patch r.new.patch c.loop-task.symbols c.loop-task.queue (r.ensures.kept c.if-not-relay_task.true) r.ensures.clocks) same (r.ensures.stack c.if-not-relay_task.true) taken)
    c.in_err-perform.ensures.err)

-- nothing is left
pub returns-clause-ok : goal.returns-clause-ok
returns-clause-ok g c = λ before final way.
    let none = none-is c.in_ok-task.field-0 c.in_default.not-Some in
    ends _ _ _ c.loop-task.budget before _ _ final c.next_task.new.stack
    (subst (λ (o : Option Due). IfNone o (c.next_task.new.stack.pendings ≡ [])) none c.in_ok-task.ensures.none)
    (takes-none _ _ _ c.loop-task.budget before _ _ final _ c.next_task.new.stack _ _ c.in_ok-task.field-0 none c.loop-task.invariant.uncut (c.loop-task.invariant.way before final way) c.in_ok-task.ensures.ok)

-- a task is done
pub loop-task-preserved-in-Continue-branch-3 : goal.loop-task-preserved-in-Continue-branch-3
loop-task-preserved-in-Continue-branch-3 g c =
    let r = c.relay_task in
    let same = r.ensures.budget c.if-not-relay_task.true in
    let more : 0 < r.new.budget.left = rw same (omega arith) in
    record {
      piled = c.in_ok-perform.ensures.piled;
      uncut = r.ensures.uncut;
      routes = rw (ap (λ (n : Net). n.web) c.perform.ensures.net) r.ensures.routes;
      net = c.perform.ensures.net ∙ r.ensures.net ∙ c.loop-task.invariant.net;
      states = stay-then _ _ _ (stay-then _ _ _ c.loop-task.invariant.states r.ensures.states) c.perform.ensures.states;
      extends = extends-then c.args.symbols.now c.loop-task.symbols c.perform.new.symbols c.loop-task.invariant.extends c.perform.ensures.extends;
      way = λ before final way.
          let taken = takes-some _ _ _ c.loop-task.budget before _ _ final _ c.next_task.new.stack _ _ c.in_ok-task.field-0 c.in-Some.task c.in-Some.is c.loop-task.invariant.uncut (c.loop-task.invariant.way before final way) c.in_ok-task.ensures.ok in
          subst (λ (n : Net). IsUnderWay n c.args.now (kept_of c.perform.new.patch c.perform.new.symbols c.perform.new.queue)
          (record { left = r.new.budget.left - 1; cut = r.new.budget.cut }) c.perform.new.stack [] before (g.L.Sink.taken c.perform.new.lines) c.perform.new.held.items final) (sym c.perform.ensures.net)
          (goes_on _ _ _ r.new.budget before _ _ final _ _ r.new.stack c.perform.new.stack (told r.new.stack.atoms c.in-Some.task) _ _ r.ensures.uncut more
          (costs-doing c.in-Some.task.place _ _ _)
          (passed _ _ _ _ _ _ r.new.budget _ r.new.stack (λ l. told l c.in-Some.task) before _ _ final r.ensures.net (kept-same c.loop-task.patch r.new.patch c.loop-task.symbols c.loop-task.queue (r.ensures.kept c.if-not-relay_task.true) r.ensures.clocks) same (r.ensures.stack c.if-not-relay_task.true) taken)
          refl refl c.in_ok-perform.ensures.kept c.in_ok-perform.ensures.ok c.in_ok-perform.ensures.left);
      counted = omega arith;
    }

-- a task is done, and what it causes along single wires
pub loop-task-preserved : goal.loop-task-preserved
loop-task-preserved g c =
    let r = c.relay_task in
    record {
      piled = r.ensures.piled;
      uncut = r.ensures.uncut;
      routes = r.ensures.routes;
      net = r.ensures.net ∙ c.loop-task.invariant.net;
      states = stay-then _ _ _ c.loop-task.invariant.states r.ensures.states;
      extends = c.loop-task.invariant.extends;
      way = λ before final way.
          let taken = takes-some _ _ _ c.loop-task.budget before _ _ final _ c.next_task.new.stack _ _ c.in_ok-task.field-0 c.in-Some.task c.in-Some.is c.loop-task.invariant.uncut (c.loop-task.invariant.way before final way) c.in_ok-task.ensures.ok in
          subst (λ (n : Net). IsUnderWay n c.args.now (kept_of r.new.patch c.loop-task.symbols c.loop-task.queue) r.new.budget r.new.stack [] before (g.L.Sink.taken c.next_task.new.lines) c.next_task.new.held.items final) (sym r.ensures.net)
          (relays _ _ _ _ _ r.new.budget before _ _ final c.next_task.new.stack r.new.stack (told c.next_task.new.stack.atoms c.in-Some.task) taken
          (λ tasks left. r.ensures.goes c.args.now c.loop-task.queue tasks c.if-not-relay_task.false left));
      counted = omega arith;
    }

pub returns-then-budget-clause-states : goal.returns-then-budget-clause-states
returns-then-budget-clause-states g c = all-stay _

pub returns-in_err-perform-clause-states : goal.returns-in_err-perform-clause-states
returns-in_err-perform-clause-states g c =
    stay-then _ _ _ (stay-then _ _ _ c.loop-task.invariant.states c.relay_task.ensures.states) c.perform.ensures.states

pub returns-in_err-perform-clause-extends : goal.returns-in_err-perform-clause-extends
returns-in_err-perform-clause-extends g c =
    extends-then c.args.symbols.now c.loop-task.symbols c.perform.new.symbols c.loop-task.invariant.extends c.perform.ensures.extends
