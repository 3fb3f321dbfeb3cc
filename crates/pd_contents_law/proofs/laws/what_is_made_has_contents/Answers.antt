use Rattle.std.proofs.Common.{◌≡◌, true}
use Rattle.pd_contents_law.proofs.MadeLemmas.{made_contents, grown_contents}
use Rattle.pd_contents_law.proofs.laws.what_is_made_has_contents.Goals as goal

pub returns-clause-made : goal.returns-clause-made
returns-clause-made c = made_contents

pub returns-clause-grown : goal.returns-clause-grown
returns-clause-grown c = λ names own p rate now fresh h. grown_contents names (λ k. own k ≡ true) p rate now fresh h
