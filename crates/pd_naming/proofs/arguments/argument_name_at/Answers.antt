use Rattle.std.proofs.Common.{arith, ◌∙◌, sym, ap, Option}
use Rattle.pd_atom.specs.declared.Atom.{Atom}
use Rattle.pd_naming.specs.Naming.{symbol_in}
use Rattle.pd_naming.proofs.ArgumentLemmas.{argument_found, argument_missing}
use Rattle.pd_naming.proofs.arguments.argument_name_at.Goals as goal

pub returns-then-before-i : goal.returns-then-before-i
returns-then-before-i c = c.symbol_in.ensures ∙ ap (λ (o : Option Atom). symbol_in o) (argument_found c.args.atoms.now c.loop-atom.atom-index c.args.i c.atom-item.result c.loop-atom-test.true c.atom-item.is
    (sym c.is_argument.ensures ∙ c.if-is_argument.true) (c.loop-atom.invariant.0 ∙ c.if-before-i.true))

pub returns : goal.returns
returns c = ap (λ (o : Option Atom). symbol_in o) (argument_missing c.args.atoms.now c.loop-atom.atom-index c.args.i c.loop-atom-test.false (omega (arith, c.loop-atom.invariant.0, c.loop-atom.invariant.1)))
