use Rattle.std.proofs.Common.{sym}
use Rattle.pd_atom.proofs.FillLemmas.{run_of_table}
use Rattle.pd_atom.proofs.expansion.put_argument.Goals as goal

pub spell-requires : goal.spell-requires
spell-requires c = run_of_table c.args.symbols.now c.args.zero c.args.args.now c.args.digits.now c.in-Some.atom c.requires.args (sym c.in-Some.ensures)
