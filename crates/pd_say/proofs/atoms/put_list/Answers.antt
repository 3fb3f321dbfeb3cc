use Rattle.std.proofs.lemmas.Result.{err_from_is_err_and, on_err_weaker}
use Rattle.pd_atom.specs.Atoms.{spelled}
use Rattle.pd_say.specs.Messages.{spaced}
use Rattle.pd_say.proofs.GatheringLemmas.{says_then_fails, fails_sooner}
use Rattle.pd_say.proofs.atoms.put_list.Goals as goal

pub returns-in_err-put_atom-clause-err : goal.returns-in_err-put_atom-clause-err
returns-in_err-put_atom-clause-err g c =
    let p = err_from_is_err_and c.from_residual.result c.from_residual.ensures.1 in
    rw p.1 (fails_sooner _ _ _ (spelled c.args.symbols.now c.args.first) (spaced c.args.symbols.now c.args.rest.now) c.in_err-put_atom.ensures.err)

pub returns-clause-err : goal.returns-clause-err
returns-clause-err g c =
    on_err_weaker c.put_spaced.result
    (λ f. says_then_fails _ _ _ _ _ (spelled c.args.symbols.now c.args.first) (spaced c.args.symbols.now c.args.rest.now) c.in_ok-put_atom.ensures.ok f)
    c.put_spaced.ensures.err
