use Rattle.std.proofs.lemmas.Result.{err_from_is_err_and, on_err_weaker}
use Rattle.pd_say.specs.Paths.{document_text, path_text}
use Rattle.pd_say.proofs.GatheringLemmas.{says_then_fails, fails_sooner}
use Rattle.pd_say.proofs.paths.put_canvas.Goals as goal

pub returns-in_err-put_document-clause-err : goal.returns-in_err-put_document-clause-err
returns-in_err-put_document-clause-err g c =
    let p = err_from_is_err_and c.from_residual.result c.from_residual.ensures.1 in
    rw p.1 (fails_sooner _ _ _ (document_text c.args.symbols.now c.args.document) (path_text c.args.path.now) c.in_err-put_document.ensures.err)

pub returns-clause-err : goal.returns-clause-err
returns-clause-err g c =
    on_err_weaker c.put_path.result
    (λ f. says_then_fails _ _ _ _ _ (document_text c.args.symbols.now c.args.document) (path_text c.args.path.now) c.in_ok-put_document.ensures.ok f)
    c.put_path.ensures.err
