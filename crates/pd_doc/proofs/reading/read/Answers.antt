use Rattle.std.proofs.Common.{Result, Ok, Err, IfOk}
use Rattle.pd_atom.specs.Names.{Names}
use Rattle.pd_canvas.specs.declared.tree.Doc.{Doc}
use Rattle.pd_canvas.specs.Proper.{IsProper}
use Rattle.pd_doc.specs.declared.refusal.DocRefusal.{DocRefusal}
use Rattle.pd_doc.specs.Atoms.{PageOf}
use Rattle.pd_doc.proofs.GoodLaws.{answer_proper}
use Rattle.pd_doc.proofs.ProperLaws.{proper_of_table}
use Rattle.pd_doc.proofs.reading.read.Goals as goal

page_if : (names : Names) (r : Result Doc DocRefusal) → IfOk r (λ d. IsProper names d.root) → IfOk r (λ d. PageOf names d.root)
page_if names (Ok d) p = proper_of_table names d.root p
page_if names (Err e) p = p

pub returns-else-is_err-clause-proper : goal.returns-else-is_err-clause-proper
returns-else-is_err-clause-proper c =
    answer_proper c.args.symbols.now c.args.bytes.now c.read_document-document.new.symbols c.len-len.ensures.table c.read_document-document.result c.read_document-document.ensures.exact

pub returns-else-is_err-clause-of_table : goal.returns-else-is_err-clause-of_table
returns-else-is_err-clause-of_table c = page_if c.read_document-document.new.symbols c.read_document-document.result (returns-else-is_err-clause-proper c)
