use Rattle.pd_wiring.specs.Graphs.{graph_told, signal_told}
use Rattle.pd_placing.proofs.JoinLemmas.{room_left, leaves_there, leaves_lawful, leaves_order, leaves_alone, left_order}
use Rattle.pd_placing.proofs.leaving.leave.Goals as goal

pub remove_alone-requires-clause-there : goal.remove_alone-requires-clause-there
remove_alone-requires-clause-there c =
    let s = c.args.graph.now in let a = c.requires.alone in
    leaves_there (graph_told s) c.args.key (signal_told s) c.args.order.now a.lawful a.alone a.there c.requires.order c.laws.ensures.listed

pub remove_alone-requires-clause-alone : goal.remove_alone-requires-clause-alone
remove_alone-requires-clause-alone c =
    let s = c.args.graph.now in let a = c.requires.alone in
    leaves_alone (graph_told s) c.args.key (signal_told s) c.args.order.now a.lawful a.alone a.there c.requires.order c.laws.ensures.listed

pub returns-clause-order : goal.returns-clause-order
returns-clause-order c =
    let s = c.args.graph.now in let a = c.requires.alone in
    let o = c.args.order.now in
    let n = c.remove_alone.new.self in
    left_order (graph_told s) c.args.key (signal_told s) o a.lawful a.alone a.there c.requires.order c.laws.ensures.listed n.chain n.stuck n.spots c.remove_alone.ensures.nodes
    (c.remove_alone.ensures.order (graph_told s) (leaves_lawful (graph_told s) c.args.key (signal_told s) o a.lawful a.alone a.there c.requires.order c.laws.ensures.listed) a.alone
    (leaves_order (graph_told s) c.args.key (signal_told s) o a.lawful a.alone a.there c.requires.order c.laws.ensures.listed))

pub returns-clause-places : goal.returns-clause-places
returns-clause-places c = λ n h. room_left c.args.order.now c.remove_alone.new.self c.args.key n c.laws.ensures.listed c.remove_alone.ensures.nodes c.remove_alone.ensures.room h
