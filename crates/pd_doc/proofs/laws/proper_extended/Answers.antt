use Rattle.pd_doc.proofs.GrowLaws.{proper_grows}
use Rattle.pd_doc.proofs.laws.proper_extended.Goals as goal

pub returns : goal.returns
returns c = λ old new p e b a h. proper_grows old new (record { extends = e; before = b; after = a }) p h
