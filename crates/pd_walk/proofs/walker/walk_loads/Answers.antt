use Rattle.std.proofs.Common.{arith, ◌≡◌, ◌<◌, ℕ, List, length, take, get_or, sym, ◌∙◌, subst}
use Rattle.pd_say.proofs.RowLemmas.{get_or-any}
use Rattle.std.proofs.lemmas.Result.{err_from_is_err_and}
use Rattle.pd_io.specs.Stream.{TookPart}
use Rattle.pd_turns.specs.Turns.{World}
use Rattle.pd_hearing.specs.Worlds.{Kept, net_of, kept_of}
use Rattle.pd_walk.specs.Outcome.{world, all_loaded}
use Rattle.pd_walk.specs.Ways.{IsDone}
use Rattle.pd_hearing.proofs.KnownLemmas.{take_whole}
use Rattle.pd_walk.proofs.WayLemmas.{loads-one, loads-more, loads-part}
use Rattle.pd_hearing.proofs.TableLemmas.{extends-then}
use Rattle.pd_walk.proofs.StayLemmas.{stay-then}
use Rattle.pd_walk.proofs.walker.walk_loads.Goals as goal

pub loop-node-preserved : goal.loop-node-preserved
loop-node-preserved g c =
    let lt : c.loop-node.node-index < length c.args.boxes.now = omega arith in
    let node : ℕ = get_or c.args.boxes.now c.loop-node.node-index 0 in
    let is : node ≡ get_or c.args.boxes.now c.loop-node.node-index node = get_or-any c.args.boxes.now c.loop-node.node-index 0 node lt in
    record {
      net = c.walk_box.ensures.net ∙ c.loop-node.invariant.net;
      states = stay-then _ _ _ c.loop-node.invariant.states c.walk_box.ensures.states;
      extends = extends-then c.args.symbols.now c.loop-node.symbols c.walk_box.new.symbols c.loop-node.invariant.extends c.walk_box.ensures.extends;
      done = λ before said is_said.
          let w : World Kept = world (kept_of c.args.patch.now c.args.symbols.now c.args.queue.now) c.args.budget.now said in
          let v : World Kept = all_loaded (net_of c.args.patch.now) c.args.now w (take c.loop-node.node-index c.args.boxes.now) in
          let d = c.loop-node.invariant.done before said is_said in
          subst (λ (x : World Kept). IsDone (kept_of c.walk_box.new.patch c.walk_box.new.symbols c.walk_box.new.queue) c.walk_box.new.budget before (g.L.Sink.taken c.walk_box.new.lines) c.walk_box.new.held.items x)
          (loads-one (net_of c.args.patch.now) _ c.args.now node _ _ v _ c.loop-node.invariant.net d.kept_is d.left d.cut c.load_at.ensures
          ∙ sym (loads-more (net_of c.args.patch.now) c.args.now w c.args.boxes.now c.loop-node.node-index node lt is))
          (c.in_ok-walk_box.ensures.ok before v.said d.is_said);
      counted = omega arith;
    }

pub returns-in_err-walk_box-clause-err : goal.returns-in_err-walk_box-clause-err
returns-in_err-walk_box-clause-err g c = λ before said is_said.
    let p = err_from_is_err_and c.from_residual.result c.from_residual.ensures.1 in
    let lt : c.loop-node.node-index < length c.args.boxes.now = omega arith in
    let node : ℕ = get_or c.args.boxes.now c.loop-node.node-index 0 in
    let is : node ≡ get_or c.args.boxes.now c.loop-node.node-index node = get_or-any c.args.boxes.now c.loop-node.node-index 0 node lt in
    let w : World Kept = world (kept_of c.args.patch.now c.args.symbols.now c.args.queue.now) c.args.budget.now said in
    let v : World Kept = all_loaded (net_of c.args.patch.now) c.args.now w (take c.loop-node.node-index c.args.boxes.now) in
    let d = c.loop-node.invariant.done before said is_said in
    rw p.1
    (loads-part (net_of c.args.patch.now) c.args.now w c.args.boxes.now c.loop-node.node-index node before _ lt is
    (subst (λ (x : World Kept). TookPart before (g.L.Sink.taken c.walk_box.new.lines) x.said)
    (loads-one (net_of c.args.patch.now) _ c.args.now node _ _ v _ c.loop-node.invariant.net d.kept_is d.left d.cut c.load_at.ensures)
    (c.in_err-walk_box.ensures.err before v.said d.is_said)))

pub returns-clause-ok : goal.returns-clause-ok
returns-clause-ok g c = λ before said is_said.
    subst (λ (l : List ℕ). IsDone (kept_of c.loop-node.patch c.loop-node.symbols c.loop-node.queue) c.loop-node.budget before (g.L.Sink.taken c.loop-node.lines) c.loop-node.held.items (all_loaded (net_of c.args.patch.now) c.args.now (world (kept_of c.args.patch.now c.args.symbols.now c.args.queue.now) c.args.budget.now said) l))
    (take_whole c.args.boxes.now c.loop-node.node-index c.loop-node-test.false)
    (c.loop-node.invariant.done before said is_said)

pub returns-in_err-walk_box-clause-states : goal.returns-in_err-walk_box-clause-states
returns-in_err-walk_box-clause-states g c = stay-then _ _ _ c.loop-node.invariant.states c.walk_box.ensures.states

pub returns-in_err-walk_box-clause-extends : goal.returns-in_err-walk_box-clause-extends
returns-in_err-walk_box-clause-extends g c =
    extends-then c.args.symbols.now c.loop-node.symbols c.walk_box.new.symbols c.loop-node.invariant.extends c.walk_box.ensures.extends
