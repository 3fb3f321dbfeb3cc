use Rattle.std.proofs.Common.{◌++◌, List, sym, ap, ◌∙◌, subst, OnOk}
use Rattle.std.specs.Option.{option_copied}
use Rattle.pd_web.specs.Lines.{Line, IsLaid}
use Rattle.pd_web.proofs.LineLemmas.{board_lines}
use Rattle.pd_web.proofs.wires.lay_board.Goals as goal

pub returns-in-Some-clause-laid : goal.returns-in-Some-clause-laid
returns-in-Some-clause-laid c = λ ls l.
    let P : List Line → Type 0 = λ xs. OnOk c.lay_all.result (IsLaid c.lay_all.new.sockets c.lay_all.new.book (ls ++ xs)) in
    subst P
    (board_lines c.args.sockets.now c.args.grove.now c.args.key c.in-Some.board.now c.as_slice.result.now c.as_slice-in-Some.result.now c.requires.told
    (sym c.board.ensures ∙ ap option_copied c.in-Some.is) c.as_slice.ensures.value c.as_slice-in-Some.ensures)
    (c.lay_all.ensures.laid ls l)
