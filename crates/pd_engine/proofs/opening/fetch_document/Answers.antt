use Rattle.pd_engine.proofs.OpeningLemmas.{found_held, file_reads, file_unread}
use Rattle.pd_engine.proofs.opening.fetch_document.Goals as goal

pub returns-in-Ok-Found-clause-reads : goal.returns-in-Ok-Found-clause-reads
returns-in-Ok-Found-clause-reads g c =
    file_reads (g.H.Shelf.holds c.args.shelf.now) c.args.name.now c.args.symbols.now c.read_document.new.symbols c.as_slice.result.now c.read_document.result
    (found_held (g.H.Shelf.holds c.args.shelf.now) c.args.name.now c.fetch.new.into.items c.as_slice.result.now c.in-Ok-Found.field-0 c.in-Ok-Found.field-0-is
    c.in-Ok-Found.ensures.answer c.in-Ok-Found.ensures.bytes c.as_slice.ensures.value)
    c.read_document.ensures.reads

pub returns-in-Ok-Found-clause-refused : goal.returns-in-Ok-Found-clause-refused
returns-in-Ok-Found-clause-refused g c =
    file_unread (g.H.Shelf.holds c.args.shelf.now) c.args.name.now c.args.symbols.now c.as_slice.result.now c.read_document.result
    (found_held (g.H.Shelf.holds c.args.shelf.now) c.args.name.now c.fetch.new.into.items c.as_slice.result.now c.in-Ok-Found.field-0 c.in-Ok-Found.field-0-is
    c.in-Ok-Found.ensures.answer c.in-Ok-Found.ensures.bytes c.as_slice.ensures.value)
    c.read_document.ensures.refused
