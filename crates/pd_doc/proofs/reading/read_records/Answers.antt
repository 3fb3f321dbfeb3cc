use Rattle.std.proofs.Common.{sym, arith, ◌∙◌, ap, length}
use Rattle.std.proofs.lemmas.Result.{err_from_is_err_and}
use Rattle.std.specs.List.{list_all}
use Rattle.pd_lex.specs.Text.{is_space}
use Rattle.pd_doc.proofs.ResultLemmas.{extends_on}
use Rattle.pd_doc.proofs.RunLemmas.{run_goes_on, run_refuses, run_done, no_more, tail_is, below_end}
use Rattle.pd_doc.proofs.reading.read_records.Goals as goal

pub returns-in_err-one_record-clause-exact : goal.returns-in_err-one_record-clause-exact
returns-in_err-one_record-clause-exact c =
    let p = err_from_is_err_and c.from_residual.result c.from_residual.ensures.1 in
    rw (p.1, p.2) (run_refuses _ c.loop-after.count _ _ _ _ _ c.in-Rec.ensures.records.3 c.in_err-one_record.ensures.exact c.loop-after.invariant.run)

pub loop-after-preserved : goal.loop-after-preserved
loop-after-preserved c =
    let i = c.loop-after.invariant in
    let r = c.in-Rec.ensures.records in
    record {
      within = r.1;
      few = omega arith;
      run = run_goes_on _ _ c.loop-after.count _ _ _ _ r.3 c.in_ok-one_record.ensures.exact i.run;
      count = omega (arith, ap length r.3);
      rest = sym c.in-Rec.ensures.rest ∙ i.rest;
      extends = extends_on _ _ _ i.extends c.in_ok-one_record.ensures.extends;
    }

pub returns : goal.returns
returns c =
    let i = c.loop-after.invariant in
    let bytes = c.args.bytes.now in
    let at = c.loop-after.at in
    let left = no_more bytes at c.next_record.result c.in_default.not-Rec c.next_record.ensures.records c.next_record.ensures.rest in
    let blank = c.is_blank-is_blank.ensures ∙ ap (list_all is_space) (tail_is bytes at) in
    record {
      exact = run_done _ c.loop-after.count _ _ left.none i.run;
      count = omega (arith, i.count, ap length left.none);
      blank = blank ∙ ap (list_all is_space) (sym left.rest ∙ i.rest);
      fits = λ e. below_end bytes at c.loop-after.count i.few c.requires (sym blank ∙ e);
      extends = i.extends;
    }
