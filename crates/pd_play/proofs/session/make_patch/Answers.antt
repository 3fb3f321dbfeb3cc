use Rattle.std.proofs.Common.{sym, ap, ◌∙◌, subst}
use Rattle.pd_atom.specs.Names.{Names}
use Rattle.pd_canvas.specs.Pages.{Page}
use Rattle.pd_canvas.specs.Proper.{IsProper}
use Rattle.pd_made.specs.Documents.{made_document}
use Rattle.pd_made.specs.Voices.{with_words}
use Rattle.pd_play.proofs.MadeLemmas.{few_first}
use Rattle.pd_play.proofs.session.make_patch.Goals as goal

pub make_doc-requires-clause-room : goal.make_doc-requires-clause-room
make_doc-requires-clause-room c = few_first _ c.in_ok-symbols.ensures

pub returns-clause-document : goal.returns-clause-document
returns-clause-document c =
    c.in_ok-doc.ensures.document ∙ ap (λ (names : Names). made_document names c.args.voices) (c.make_doc.ensures.names ∙ ap with_words c.in_ok-symbols.ensures)

pub returns-clause-names : goal.returns-clause-names
returns-clause-names c = c.make_doc.ensures.names ∙ ap with_words c.in_ok-symbols.ensures

pub returns-clause-proper : goal.returns-clause-proper
returns-clause-proper c = subst (λ (p : Page). IsProper c.make_doc.new.symbols p) (sym c.in_ok-doc.ensures.document) c.make_doc.ensures.proper
