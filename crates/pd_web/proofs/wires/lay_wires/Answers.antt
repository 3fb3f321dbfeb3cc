use Rattle.std.proofs.Common.{List, length, sym, ap, subst, length-append, arith}
use Rattle.std.proofs.lemmas.Result.{err_from_is_err_and}
use Rattle.pd_web.specs.Lines.{Line, IsLaid, lines_at, lines_below}
use Rattle.pd_web.proofs.SocketLemmas.{keeps_more}
use Rattle.pd_web.proofs.LineLemmas.{below_end, below_fewer, below_more, seen_still}
use Rattle.pd_web.proofs.wires.lay_wires.Goals as goal

pub lay_board-requires-clause-told : goal.lay_board-requires-clause-told
lay_board-requires-clause-told c = seen_still c.args.sockets.now c.loop-key.sockets c.args.grove.now c.loop-key.invariant.keeps c.requires.told

pub loop-key-preserved : goal.loop-key-preserved
loop-key-preserved c =
    let g = c.args.grove.now in
    let key = c.loop-key.key in
    let inv = c.loop-key.invariant in
    let step = c.in_ok-lay_board.ensures in
    let more = ap length (below_more g key) in
    let sum = length-append (lines_below g key) (lines_at g key) in
    let left = step.left in
    let had = inv.left in
    let counted = step.counted in
    let had_counted = inv.counted in
    record {
      tied = step.tied;
      keeps = keeps_more c.args.sockets.now c.loop-key.sockets c.lay_board.new.sockets inv.keeps step.keeps;
      laid = λ h. let P : List Line → Type 0 = λ xs. IsLaid c.lay_board.new.sockets c.lay_board.new.book xs in subst P (sym (below_more g key)) (step.laid (lines_below g key) (inv.laid h));
      counted = omega (arith, more, sum, counted, had_counted);
      left = omega (arith, more, sum, left, had);
    }

pub returns-in_err-lay_board-clause-many : goal.returns-in_err-lay_board-clause-many
returns-in_err-lay_board-clause-many c =
    let p = err_from_is_err_and c.from_residual-in_err-lay_board.result c.from_residual-in_err-lay_board.ensures.1 in
    let same = c.in_ok-end.ensures.same in
    let above = c.boards_end.ensures.slots in
    let all = ap length (below_end c.args.grove.now c.in_ok-end.end (omega (arith, same, above))) in
    let f = below_fewer c.args.grove.now c.in_ok-end.end c.loop-key.key c.loop-key-test.true in
    let left = c.loop-key.invariant.left in
    rw (p.1, p.2) (λ h. let z = c.in_err-lay_board.ensures.many h in omega (arith, all, f, left, z))

pub returns-clause-laid : goal.returns-clause-laid
returns-clause-laid c = λ h.
    let same = c.in_ok-end.ensures.same in
    let above = c.boards_end.ensures.slots in
    let far = c.loop-key-test.false in
    let P : List Line → Type 0 = λ xs. IsLaid c.loop-key.sockets c.loop-key.book xs in
    subst P (below_end c.args.grove.now c.loop-key.key (omega (arith, same, above, far))) (c.loop-key.invariant.laid h)

pub returns-clause-few : goal.returns-clause-few
returns-clause-few c =
    let same = c.in_ok-end.ensures.same in
    let above = c.boards_end.ensures.slots in
    let far = c.loop-key-test.false in
    let all = ap length (below_end c.args.grove.now c.loop-key.key (omega (arith, same, above, far))) in
    let left = c.loop-key.invariant.left in
    omega (arith, all, left)

pub returns-clause-counted : goal.returns-clause-counted
returns-clause-counted c =
    let same = c.in_ok-end.ensures.same in
    let above = c.boards_end.ensures.slots in
    let far = c.loop-key-test.false in
    let all = ap length (below_end c.args.grove.now c.loop-key.key (omega (arith, same, above, far))) in
    let counted = c.loop-key.invariant.counted in
    omega (arith, all, counted)
