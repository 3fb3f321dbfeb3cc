use Rattle.pd_atom.proofs.LawLemmas.{spelled_read}
use Rattle.pd_atom.proofs.TokenLemmas.{spelled_len}
use Rattle.pd_atom.proofs.laws.spellings_read.Goals as goal

pub returns-clause-some : goal.returns-clause-some
returns-clause-some c = λ names a t h r. (spelled_len names a t h r).0

pub returns-clause-short : goal.returns-clause-short
returns-clause-short c = λ names a t h r. (spelled_len names a t h r).1

pub returns-clause-read : goal.returns-clause-read
returns-clause-read c = spelled_read
