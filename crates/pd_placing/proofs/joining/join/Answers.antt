use Rattle.pd_wiring.specs.Graphs.{graph_told, signal_told}
use Rattle.pd_placing.proofs.JoinLemmas.{room_joined, joins_fresh, joins_lawful, joins_order, joins_last, joined_order}
use Rattle.pd_placing.proofs.joining.join.Goals as goal

pub append_alone-requires-clause-fresh : goal.append_alone-requires-clause-fresh
append_alone-requires-clause-fresh g c =
    let s = c.args.graph.now in let a = c.requires.alone in
    joins_fresh (graph_told s) c.args.key (signal_told s) c.args.order.now a.lawful a.there c.requires.order c.laws.ensures.listed

pub append_alone-requires-clause-last : goal.append_alone-requires-clause-last
append_alone-requires-clause-last g c =
    let s = c.args.graph.now in let a = c.requires.alone in
    joins_last (graph_told s) c.args.key (signal_told s) c.args.order.now a.lawful a.there c.requires.order c.laws.ensures.listed (c.requires.behind c.if-is_last.true)

pub append_alone-requires-clause-lawful : goal.append_alone-requires-clause-lawful
append_alone-requires-clause-lawful g c =
    let s = c.args.graph.now in let a = c.requires.alone in
    joins_lawful (graph_told s) c.args.key (signal_told s) c.args.order.now a.lawful a.there c.requires.order c.laws.ensures.listed

pub append_alone-requires-clause-order : goal.append_alone-requires-clause-order
append_alone-requires-clause-order g c =
    let s = c.args.graph.now in let a = c.requires.alone in
    joins_order (graph_told s) c.args.key (signal_told s) c.args.order.now a.lawful a.there c.requires.order c.laws.ensures.listed

pub insert_alone-requires-clause-fresh : goal.insert_alone-requires-clause-fresh
insert_alone-requires-clause-fresh g c =
    let s = c.args.graph.now in let a = c.requires.alone in
    joins_fresh (graph_told s) c.args.key (signal_told s) c.args.order.now a.lawful a.there c.requires.order c.laws.ensures.listed

pub insert_alone-requires-clause-lawful : goal.insert_alone-requires-clause-lawful
insert_alone-requires-clause-lawful g c =
    let s = c.args.graph.now in let a = c.requires.alone in
    joins_lawful (graph_told s) c.args.key (signal_told s) c.args.order.now a.lawful a.there c.requires.order c.laws.ensures.listed

pub insert_alone-requires-clause-order : goal.insert_alone-requires-clause-order
insert_alone-requires-clause-order g c =
    let s = c.args.graph.now in let a = c.requires.alone in
    joins_order (graph_told s) c.args.key (signal_told s) c.args.order.now a.lawful a.there c.requires.order c.laws.ensures.listed

pub returns-then-is_last-clause-order : goal.returns-then-is_last-clause-order
returns-then-is_last-clause-order g c =
    let s = c.args.graph.now in let a = c.requires.alone in
    let n = c.append_alone.new.self in
    joined_order (graph_told s) c.args.key (signal_told s) c.args.order.now a.lawful a.there c.requires.order c.laws.ensures.listed n.chain n.stuck c.append_alone.ensures.order

pub returns-then-is_last-clause-places : goal.returns-then-is_last-clause-places
returns-then-is_last-clause-places g c =
    let s = c.args.graph.now in let a = c.requires.alone in
    let law = joins_lawful (graph_told s) c.args.key (signal_told s) c.args.order.now a.lawful a.there c.requires.order c.laws.ensures.listed in
    λ n h. room_joined c.args.order.now c.append_alone.new.self c.args.key n law.once c.append_alone.ensures.nodes c.append_alone.ensures.room h

pub returns-else-is_last-clause-order : goal.returns-else-is_last-clause-order
returns-else-is_last-clause-order g c =
    let s = c.args.graph.now in let a = c.requires.alone in
    let n = c.insert_alone.new.self in
    joined_order (graph_told s) c.args.key (signal_told s) c.args.order.now a.lawful a.there c.requires.order c.laws.ensures.listed n.chain n.stuck c.insert_alone.ensures.order

pub returns-else-is_last-clause-places : goal.returns-else-is_last-clause-places
returns-else-is_last-clause-places g c =
    let s = c.args.graph.now in let a = c.requires.alone in
    let law = joins_lawful (graph_told s) c.args.key (signal_told s) c.args.order.now a.lawful a.there c.requires.order c.laws.ensures.listed in
    λ n h. room_joined c.args.order.now c.insert_alone.new.self c.args.key n law.once c.insert_alone.ensures.nodes c.insert_alone.ensures.room h
