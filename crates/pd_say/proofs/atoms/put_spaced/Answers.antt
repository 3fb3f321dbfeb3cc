use Rattle.std.proofs.Common.{◌<◌, length, arith}
use Rattle.std.proofs.lemmas.Result.{err_from_is_err_and}
use Rattle.pd_say.specs.Messages.{after_space}
use Rattle.pd_say.proofs.RowLemmas.{says_more, fails_within}
use Rattle.pd_say.proofs.atoms.put_spaced.Goals as goal

pub returns-in_err-put_spaced_atom-clause-err : goal.returns-in_err-put_spaced_atom-clause-err
returns-in_err-put_spaced_atom-clause-err g c =
    let p = err_from_is_err_and c.from_residual.result c.from_residual.ensures.1 in
    let lt : c.loop-atom.atom-index < length c.args.atoms.now = omega arith in
    rw p.1
    (fails_within (after_space c.args.symbols.now) c.args.atoms.now c.loop-atom.atom-index c.atom-item.result _ _ _ _ _ lt c.atom-item.is
    c.loop-atom.invariant.says c.in_err-put_spaced_atom.ensures.err)

pub loop-atom-preserved : goal.loop-atom-preserved
loop-atom-preserved g c =
    let lt : c.loop-atom.atom-index < length c.args.atoms.now = omega arith in
    record {
      says = says_more (after_space c.args.symbols.now) c.args.atoms.now c.loop-atom.atom-index c.atom-item.result _ _ _ _ _ _ lt c.atom-item.is
          c.loop-atom.invariant.says c.in_ok-put_spaced_atom.ensures.ok;
      counted = omega arith;
    }
