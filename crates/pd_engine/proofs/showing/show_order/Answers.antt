use Rattle.std.proofs.Common.{ap, ◌∙◌}
use Rattle.std.proofs.lemmas.Result.{err_from_is_err_and, on_err_weaker}
use Rattle.pd_hearing.specs.Worlds.{net_of}
use Rattle.pd_stage.specs.Lines.{numbers_told}
use Rattle.pd_engine.proofs.ShowLemmas.{first_broke, second_broke}
use Rattle.pd_engine.proofs.showing.show_order.Goals as goal

pub returns-in_err-print_chain-clause-err : goal.returns-in_err-print_chain-clause-err
returns-in_err-print_chain-clause-err g c =
    let p = err_from_is_err_and c.from_residual.result c.from_residual.ensures.1 in
    rw p.1
    (first_broke c.args.path.now _ _ _ _ _
    (c.as_slice.ensures.value ∙ c.fill_numbers.ensures ∙ ap (numbers_told (net_of c.args.patch.now)) c.chain.ensures) c.in_err-print_chain.ensures.err)

pub returns-clause-err : goal.returns-clause-err
returns-clause-err g c =
    on_err_weaker c.print_stuck.result
    (λ t. second_broke c.args.path.now _ _ _ _ _ _ _
    (c.as_slice.ensures.value ∙ c.fill_numbers.ensures ∙ ap (numbers_told (net_of c.args.patch.now)) c.chain.ensures)
    (c.as_slice-2.ensures.value ∙ c.fill_numbers-2.ensures ∙ ap (numbers_told (net_of c.args.patch.now)) c.stuck.ensures) c.in_ok-print_chain.ensures.ok t)
    c.print_stuck.ensures.err
