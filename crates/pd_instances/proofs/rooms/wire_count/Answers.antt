use Rattle.std.proofs.Common.{◌+◌, take, ap, sym, ◌∙◌}
use Rattle.std.proofs.lemmas.List.{take_all}
use Rattle.pd_tree.specs.Trees.{stands_in}
use Rattle.pd_instances.specs.Needs.{inside_of, insides_of, wires_all}
use Rattle.pd_instances.proofs.ListLemmas.{insides_next, wires_append}
use Rattle.pd_instances.proofs.rooms.wire_count.Goals as goal

pub loop-row-preserved : goal.loop-row-preserved
loop-row-preserved c =
    let rows = c.args.rows.now in
    let i = c.loop-row.row-index in
    let row = c.row-item.result in
    c.in_ok-count.ensures ∙ ap (λ n. n + wires_all (inside_of row.sheet row.boxes)) c.loop-row.invariant
    ∙ sym (wires_append (insides_of (stands_in (take i rows))) (inside_of row.sheet row.boxes)) ∙ ap wires_all (sym (insides_next rows i row c.loop-row-test.true c.row-item.is))

pub returns : goal.returns
returns c = c.loop-row.invariant ∙ ap (λ rs. wires_all (insides_of (stands_in rs))) (take_all c.loop-row.row-index c.args.rows.now c.loop-row-test.false)
