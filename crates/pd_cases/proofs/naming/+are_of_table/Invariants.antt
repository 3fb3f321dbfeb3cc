use Rattle.std.proofs.Common.{length}
use Rattle.pd_cases.proofs.naming.+are_of_table.Given as goal

abbrev pub decreases-are_of_table : goal.decreases-are_of_table
decreases-are_of_table l = length l.atoms.now
