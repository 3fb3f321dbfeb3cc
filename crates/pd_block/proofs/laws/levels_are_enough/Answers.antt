use Rattle.pd_block.proofs.LevelLemmas.{levels_enough, levels_built}
use Rattle.pd_block.proofs.laws.levels_are_enough.Goals as goal

pub returns-clause-standing : goal.returns-clause-standing
returns-clause-standing c = λ p s t G O l clocks sound start levels m. levels_enough p s t G O l clocks sound start levels m

pub returns-clause-grown : goal.returns-clause-grown
returns-clause-grown c = λ p names file rate grown T B clocks sound start levels m. levels_built p names file rate grown T B clocks sound start levels m
