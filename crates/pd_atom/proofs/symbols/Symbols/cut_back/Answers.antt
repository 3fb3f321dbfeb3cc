use Rattle.std.proofs.Common.{sym, subst}
use Rattle.pd_atom.specs.Names.{IsTable}
use Rattle.pd_atom.proofs.NameLemmas.{table_take}
use Rattle.pd_atom.proofs.symbols.Symbols.cut_back.Goals as goal

pub invariant_of-self : goal.invariant_of-self
invariant_of-self c = subst IsTable (sym c.truncate.ensures) (table_take c.self.inside.table c.args.len c.requires c.self.invariant)

pub returns-clause-table : goal.returns-clause-table
returns-clause-table c = invariant_of-self c
