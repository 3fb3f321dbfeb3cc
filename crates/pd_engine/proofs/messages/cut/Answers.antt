use Rattle.std.proofs.Common.{sym, arith}
use Rattle.std.proofs.lemmas.List.{length-take-le}
use Rattle.pd_engine.proofs.messages.cut.Goals as goal

pub slice_bounds-result-end : goal.slice_bounds-result-end
slice_bounds-result-end c =
    let far = c.if-atoms-le-MOST.false in
    sym (length-take-le 1024 c.args.atoms.now (omega (arith, far)))
