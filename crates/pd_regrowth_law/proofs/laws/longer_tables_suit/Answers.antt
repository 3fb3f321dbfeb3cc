use Rattle.pd_regrowth_law.proofs.AgainLemmas.{texts_more, entries_more, library_more, around_more}
use Rattle.pd_regrowth_law.proofs.TableLemmas.{trees_more}
use Rattle.pd_regrowth_law.proofs.laws.longer_tables_suit.Goals as goal

pub returns-clause-texts : goal.returns-clause-texts
returns-clause-texts c = λ old new b x. texts_more old new x b

pub returns-clause-entries : goal.returns-clause-entries
returns-clause-entries c = λ old new es x. entries_more old new x es

pub returns-clause-library : goal.returns-clause-library
returns-clause-library c = λ old new lib x. library_more old new x lib

pub returns-clause-around : goal.returns-clause-around
returns-clause-around c = λ old new a x. around_more old new x a

pub returns-clause-trees : goal.returns-clause-trees
returns-clause-trees c = λ old new t x. trees_more old new x t
