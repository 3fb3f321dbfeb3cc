use Rattle.std.proofs.Common.{List, subst, sym, arith}
use Rattle.std.specs.List.{All}
use Rattle.std.proofs.lemmas.Grind.{common_steps}
use Rattle.std.proofs.lemmas.List.Elements.{All-push}
use Rattle.pd_atom.specs.declared.Atom.{Atom}
use Rattle.pd_atom.specs.Atoms.{IsOf}
use Rattle.pd_message.proofs.edits.put_settled.Goals as goal

pub loop-atom-preserved : goal.loop-atom-preserved
loop-atom-preserved c =
    let names = c.args.symbols.now in
    record {
      text = let inv = c.loop-atom.invariant.text in grind (arith, common_steps);
      of_table = subst (λ (t : List Atom). All (IsOf names) t) (sym c.push.ensures) (All-push (IsOf names) c.loop-atom.text c.settle.result c.loop-atom.invariant.of_table c.settle.ensures.of_table);
    }
