use Rattle.pd_made.specs.Voices.{words_in}
use Rattle.pd_made.proofs.TextLemmas.{text_by}
use Rattle.pd_made.proofs.laws.made_texts.Goals as goal

pub returns : goal.returns
returns c = λ names n h few. text_by names (words_in names) n h few
