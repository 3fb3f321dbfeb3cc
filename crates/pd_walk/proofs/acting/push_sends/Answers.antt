use Rattle.std.proofs.Common.{arith, ◌+◌, ◌++◌, ℕ, List, map, sym, subst, OnOk, OnErr}
use Rattle.pd_atom.specs.declared.Atom.{Atom}
use Rattle.pd_kind.specs.Rows.{send_of}
use Rattle.pd_say.specs.Gathering.{Says, Fails}
use Rattle.pd_say.proofs.GatheringLemmas.{says_nothing}
use Rattle.pd_kind.specs.Said.{said_by}
use Rattle.pd_hearing.specs.Worlds.{net_of}
use Rattle.pd_stack.specs.Tasks.{Task, leads_out, sent, again_after}
use Rattle.pd_stack.specs.Piles.{LeftOn}
use Rattle.std.specs.List.{flat_map}
use Rattle.pd_hearing.proofs.ResultLemmas.{on_ok_map}
use Rattle.pd_walk.proofs.ActLemmas.{rows-sends, quiet-text, quiet-asked, deep-text, deep-asked, some-text, some-left}
use Rattle.pd_walk.proofs.acting.push_sends.Goals as goal

-- nothing is asked for
pub returns-then-not-asks-clause-ok : goal.returns-then-not-asks-clause-ok
returns-then-not-asks-clause-ok g c =
    let s = c.args.sends.now in
    let e = rows-sends (leads_out (net_of c.args.patch.now) c.args.node) s.atoms s.rows c.rows_of-rows.result.now c.rows_of-rows.ensures.rows in
    subst (λ (l : List ℕ). Says (g.L.Sink.taken c.args.lines.now) c.args.held.now.items (g.L.Sink.taken c.args.lines.now) c.args.held.now.items l)
    (sym (quiet-text (net_of c.args.patch.now) c.args.depth c.args.node (said_by s) s.atoms c.rows_of-rows.result.now c.is_again-is_again.result c.asks.result e c.is_again-is_again.ensures c.asks.ensures c.if-not-asks.true))
    (says_nothing (g.L.Sink.taken c.args.lines.now) c.args.held.now.items)

pub returns-then-not-asks-clause-left : goal.returns-then-not-asks-clause-left
returns-then-not-asks-clause-left g c = λ tasks left.
    let s = c.args.sends.now in
    let e = rows-sends (leads_out (net_of c.args.patch.now) c.args.node) s.atoms s.rows c.rows_of-rows.result.now c.rows_of-rows.ensures.rows in
    subst (λ (l : List Task). LeftOn (net_of c.args.patch.now) c.args.stack.now (l ++ tasks))
    (sym (quiet-asked (net_of c.args.patch.now) c.args.depth c.args.node (said_by s) s.atoms c.rows_of-rows.result.now c.is_again-is_again.result c.asks.result e c.is_again-is_again.ensures c.asks.ensures c.if-not-asks.true))
    left

-- at the greatest depth
pub returns-then-depth-ge-DEEPEST-clause-ok : goal.returns-then-depth-ge-DEEPEST-clause-ok
returns-then-depth-ge-DEEPEST-clause-ok g c =
    let s = c.args.sends.now in
    let e = rows-sends (leads_out (net_of c.args.patch.now) c.args.node) s.atoms s.rows c.rows_of-rows.result.now c.rows_of-rows.ensures.rows in
    subst (λ (l : List ℕ). OnOk c.print_overflow.result (Says (g.L.Sink.taken c.args.lines.now) c.args.held.now.items (g.L.Sink.taken c.print_overflow.new.lines) c.print_overflow.new.held.items l))
    (sym (deep-text (net_of c.args.patch.now) c.args.depth c.args.node (said_by s) s.atoms c.rows_of-rows.result.now c.is_again-is_again.result c.asks.result e c.is_again-is_again.ensures c.asks.ensures (omega arith) c.if-not-asks.false))
    c.print_overflow.ensures.ok

pub returns-then-depth-ge-DEEPEST-clause-err : goal.returns-then-depth-ge-DEEPEST-clause-err
returns-then-depth-ge-DEEPEST-clause-err g c =
    let s = c.args.sends.now in
    let e = rows-sends (leads_out (net_of c.args.patch.now) c.args.node) s.atoms s.rows c.rows_of-rows.result.now c.rows_of-rows.ensures.rows in
    subst (λ (l : List ℕ). OnErr c.print_overflow.result (Fails (g.L.Sink.taken c.args.lines.now) c.args.held.now.items (g.L.Sink.taken c.print_overflow.new.lines) l))
    (sym (deep-text (net_of c.args.patch.now) c.args.depth c.args.node (said_by s) s.atoms c.rows_of-rows.result.now c.is_again-is_again.result c.asks.result e c.is_again-is_again.ensures c.asks.ensures (omega arith) c.if-not-asks.false))
    c.print_overflow.ensures.err

pub returns-then-depth-ge-DEEPEST-clause-left : goal.returns-then-depth-ge-DEEPEST-clause-left
returns-then-depth-ge-DEEPEST-clause-left g c = λ tasks left.
    let s = c.args.sends.now in
    let e = rows-sends (leads_out (net_of c.args.patch.now) c.args.node) s.atoms s.rows c.rows_of-rows.result.now c.rows_of-rows.ensures.rows in
    on_ok_map c.print_overflow.result
    (λ _. subst (λ (l : List Task). LeftOn (net_of c.args.patch.now) c.args.stack.now (l ++ tasks)) (sym (deep-asked (net_of c.args.patch.now) c.args.depth c.args.node (said_by s) s.atoms c.rows_of-rows.result.now c.is_again-is_again.result c.asks.result e c.is_again-is_again.ensures c.asks.ensures (omega arith))) left)
    c.print_overflow.ensures.ok

pub returns-then-depth-ge-DEEPEST-clause-piled : goal.returns-then-depth-ge-DEEPEST-clause-piled
returns-then-depth-ge-DEEPEST-clause-piled g c = on_ok_map c.print_overflow.result (λ _. c.requires.piled) c.print_overflow.ensures.ok

-- something is asked for
pub returns-clause-ok : goal.returns-clause-ok
returns-clause-ok g c =
    let s = c.args.sends.now in
    let e = rows-sends (leads_out (net_of c.args.patch.now) c.args.node) s.atoms s.rows c.rows_of-rows.result.now c.rows_of-rows.ensures.rows in
    subst (λ (l : List ℕ). Says (g.L.Sink.taken c.args.lines.now) c.args.held.now.items (g.L.Sink.taken c.args.lines.now) c.args.held.now.items l)
    (sym (some-text (net_of c.args.patch.now) c.args.depth c.args.node (said_by s) s.atoms c.rows_of-rows.result.now c.is_again-is_again.result c.asks.result e c.is_again-is_again.ensures c.asks.ensures (omega arith)))
    (says_nothing (g.L.Sink.taken c.args.lines.now) c.args.held.now.items)

pub returns-clause-left : goal.returns-clause-left
returns-clause-left g c = λ tasks left.
    let s = c.args.sends.now in
    let e = rows-sends (leads_out (net_of c.args.patch.now) c.args.node) s.atoms s.rows c.rows_of-rows.result.now c.rows_of-rows.ensures.rows in
    some-left (net_of c.args.patch.now) c.args.depth c.args.node (said_by s) s.atoms c.rows_of-rows.result.now c.is_again-is_again.result c.asks.result e c.is_again-is_again.ensures c.asks.ensures c.push_all.new.stack tasks (omega arith)
    (subst (λ (l : List Atom). LeftOn (net_of c.args.patch.now) c.push_all.new.stack
    (flat_map (sent (net_of c.args.patch.now) (c.args.depth + 1) c.args.node) (map (send_of l) c.rows_of-rows.result.now) ++ (again_after c.args.depth c.args.node c.is_again-is_again.result ++ tasks)))
    c.atoms_of-atoms.ensures.atoms
    (c.push_all.ensures.left tasks left))
