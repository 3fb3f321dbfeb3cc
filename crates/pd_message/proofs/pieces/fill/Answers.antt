use Rattle.std.proofs.Common.{drop, sym, ◌∙◌, refl}
use Rattle.pd_message.specs.Room.{run_of}
use Rattle.pd_message.proofs.TextLemmas.{filled_at}
use Rattle.pd_message.proofs.pieces.fill.Goals as goal

pub returns-then-not-expand_atom-clause-filling : goal.returns-then-not-expand_atom-clause-filling
returns-then-not-expand_atom-clause-filling c =
    let out = c.loop-atom.out in
    sym (filled_at c.args.args.now (run_of c.loop-atom.symbols out) (drop c.args.first out.atoms) c.args.piece.now c.loop-atom.atom-index c.atom-item.result _
    c.loop-atom-test.true c.atom-item.is c.if-not-expand_atom.ensures.filling refl)
    ∙ c.loop-atom.invariant.filling
