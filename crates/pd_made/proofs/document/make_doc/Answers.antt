use Rattle.std.proofs.Common.{subst}
use Rattle.pd_canvas.specs.Proper.{IsProper}
use Rattle.pd_made.specs.Voices.{AreWords}
use Rattle.pd_made.specs.Documents.{document_by}
use Rattle.pd_made.proofs.ProperLemmas.{proper_by}
use Rattle.pd_made.proofs.document.make_doc.Goals as goal

pub returns-clause-proper : goal.returns-clause-proper
returns-clause-proper c =
    subst (λ w. IsProper c.bring_words-words.new.symbols (document_by w c.args.n)) c.bring_words-words.ensures.value
    (proper_by c.bring_words-words.new.symbols c.bring_words-words.result c.args.n c.bring_words-words.ensures.table c.bring_words-words.ensures.there c.requires.few)

pub returns-clause-words : goal.returns-clause-words
returns-clause-words c =
    subst (AreWords c.bring_words-words.new.symbols) c.bring_words-words.ensures.value c.bring_words-words.ensures.there
