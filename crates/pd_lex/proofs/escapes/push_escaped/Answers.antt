use Rattle.std.proofs.Common.{◌++◌, ◌∷◌, [], arith, drop, vec_len}
use Rattle.pd_lex.proofs.Laws.{tail_is}
use Rattle.pd_lex.proofs.Runs.{kept, extended_ok, escape_step, escape_end}
use Rattle.std.specs.Prelude.{slice_range}
use Rattle.pd_lex.specs.Text.{escaped}
use Rattle.pd_lex.proofs.escapes.push_escaped.Goals as goal

pub loop-k-preserved : goal.loop-k-preserved
loop-k-preserved c =
    let e = c.in-Some.ensures in
    record {
      order = omega arith;
      within = omega (arith, e.within);
      text =
          escape_step c.args.name.now c.loop-k.out.items c.extend_from_slice.new.self.items c.push.new.self.items c.args.out.now.items
          c.loop-k.from c.loop-k.at c.in-Some.k c.loop-k.invariant.order e c.in_ok-extend_from_slice.ensures.items
          c.in_ok-push.ensures.items c.loop-k.invariant.text;
      front =
          kept (vec_len c.args.out.now) c.loop-k.out.items c.extend_from_slice.new.self.items c.push.new.self.items
          (slice_range c.args.name.now c.loop-k.from c.in-Some.k) (92 ∷ []) c.args.out.now.items
          (omega (arith, c.loop-k.out.ok, c.loop-k.invariant.long)) c.in_ok-extend_from_slice.ensures.items c.in_ok-push.ensures.items
          c.loop-k.invariant.front;
      long = omega (arith, c.loop-k.invariant.long, c.in_ok-extend_from_slice.ensures.len, c.in_ok-push.ensures.len);
    }

pub returns-clause-ok : goal.returns-clause-ok
returns-clause-ok c =
    let t = tail_is c.args.name.now c.loop-k.from in
    extended_ok c.extend_from_slice-2.result c.extend_from_slice-2.new.self.items c.loop-k.out.items (drop c.loop-k.from c.args.name.now)
    (c.args.out.now.items ++ escaped c.args.name.now) (rw t at c.extend_from_slice-2.ensures.items)
    (λ e.
    escape_end c.args.name.now c.loop-k.out.items c.extend_from_slice-2.new.self.items c.args.out.now.items c.loop-k.from c.loop-k.at
    c.loop-k.invariant.order c.in_default.ensures e c.loop-k.invariant.text)
