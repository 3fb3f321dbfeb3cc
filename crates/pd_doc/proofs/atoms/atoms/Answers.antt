use Rattle.std.proofs.Common.{arith, get_or}
use Rattle.std.proofs.lemmas.Result.{err_from_is_err_and}
use Rattle.pd_doc.proofs.ResultLemmas.{atoms_go_on, atoms_refuse, atoms_all, drop_at, blank, extends_on}
use Rattle.pd_doc.proofs.atoms.atoms.Goals as goal

pub returns-in_err-atom-clause-exact : goal.returns-in_err-atom-clause-exact
returns-in_err-atom-clause-exact c =
    let p = err_from_is_err_and c.from_residual-in_err-atom.result c.from_residual-in_err-atom.ensures.1 in
    let i = c.loop-lexeme.lexeme-index in
    rw (p.1, p.2) (atoms_refuse c.args.number c.loop-lexeme.symbols c.loop-lexeme.atoms.items c.args.lexemes.now i (get_or c.args.lexemes.now i blank) c.in_err-atom.field-0.0 _
    (drop_at c.args.lexemes.now i blank (omega arith)) c.in_err-atom.ensures.exact c.loop-lexeme.invariant.exact)

pub loop-lexeme-preserved : goal.loop-lexeme-preserved
loop-lexeme-preserved c =
    let i = c.loop-lexeme.lexeme-index in
    record {
      exact =
          rw c.in_ok-push.ensures.items
          (atoms_go_on c.args.number c.loop-lexeme.symbols c.atom.new.symbols c.loop-lexeme.atoms.items c.args.lexemes.now i (get_or c.args.lexemes.now i blank) c.in_ok-atom.field-0 _
          (drop_at c.args.lexemes.now i blank (omega arith)) c.in_ok-atom.ensures.exact c.loop-lexeme.invariant.exact);
      extends = extends_on _ _ _ c.loop-lexeme.invariant.extends c.in_ok-atom.ensures.extends;
    }

pub returns-clause-exact : goal.returns-clause-exact
returns-clause-exact c =
    rw c.from_vec.ensures (atoms_all c.args.number c.loop-lexeme.symbols c.loop-lexeme.atoms.items c.args.lexemes.now c.loop-lexeme.lexeme-index _ (omega arith) c.loop-lexeme.invariant.exact)
