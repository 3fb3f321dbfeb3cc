use Rattle.std.proofs.Common.{arith, sym, ap, ◌∙◌, ◌++◌}
use Rattle.pd_lex.proofs.Laws.{tail_is}
use Rattle.pd_lex.proofs.Runs.{after_ok, when_ok, unescape_step, unescape_end}
use Rattle.pd_lex.proofs.escapes.unescape.Goals as goal

pub loop-k-preserved : goal.loop-k-preserved
loop-k-preserved c =
    let e = c.in-Some.ensures in
    record {
      order = omega arith;
      within = omega (arith, e.within);
      text =
          unescape_step c.args.token.now c.loop-k.out.items c.try_extend_from_slice.new.self.items c.loop-k.from c.loop-k.at c.in-Some.k
          c.loop-k.invariant.order e
          (after_ok c.try_extend_from_slice.result (sym c.if-is_err.ensures.value) c.try_extend_from_slice.ensures.ok) c.loop-k.invariant.text;
    }

pub returns-clause-value : goal.returns-clause-value
returns-clause-value c =
    λ is.
    unescape_end c.args.token.now c.loop-k.out.items c.try_extend_from_slice-2.new.self.items c.loop-k.from c.loop-k.at
    c.loop-k.invariant.order c.in_default.ensures
    (when_ok c.try_extend_from_slice-2.result (sym c.is_ok.ensures.value ∙ is) c.try_extend_from_slice-2.ensures.ok
    ∙ ap (λ x. c.loop-k.out.items ++ x) (tail_is c.args.token.now c.loop-k.from)) c.loop-k.invariant.text
