use Rattle.pd_engine.proofs.WholeLemmas.{opened_of, commanded_of, clocks_of, sounds_of, advanced_of, finished_of, whole_block}
use Rattle.pd_engine.proofs.laws.blocks_are_whole.Goals as goal

pub returns-clause-opened : goal.returns-clause-opened
returns-clause-opened c = λ holds name rate d names table p base ahead g lawful. opened_of holds name rate d names table p base ahead g lawful

pub returns-clause-commanded : goal.returns-clause-commanded
returns-clause-commanded c = λ k s h lawful. commanded_of k s h lawful

pub returns-clause-fired : goal.returns-clause-fired
returns-clause-fired c = λ limit s h lawful. clocks_of limit s h lawful

pub returns-clause-sounded : goal.returns-clause-sounded
returns-clause-sounded c = λ s h. sounds_of s h

pub returns-clause-advanced : goal.returns-clause-advanced
returns-clause-advanced c = λ to s h lawful. advanced_of to s h lawful

pub returns-clause-finished : goal.returns-clause-finished
returns-clause-finished c = λ s h lawful. finished_of s h lawful

pub returns-clause-blocks : goal.returns-clause-blocks
returns-clause-blocks c = λ s levels t l. whole_block c.levels_are_enough.ensures.standing s levels t l
