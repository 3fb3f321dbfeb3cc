use Rattle.pd_engine.proofs.OpeningLemmas.{opens_file, refuses_file}
use Rattle.pd_engine.proofs.engine.Engine.open.Goals as goal

pub returns-clause-opens : goal.returns-clause-opens
returns-clause-opens g c =
    opens_file (g.H.Shelf.holds c.args.shelf.now) (g.H.Shelf.holds c.fetch_document.new.shelf) c.args.name.now c.args.rate c.in_ok-symbols.symbols c.in_ok-doc.doc.root c.fetch_document.new.symbols
    (g.L.Sink.taken c.args.lines.now) (g.L.Sink.taken c.open_document.new.lines) (g.H.Shelf.faults c.args.shelf.now) (g.H.Shelf.faults c.fetch_document.new.shelf) (g.H.Shelf.faults c.open_document.new.shelf)
    c.fetch_document.ensures.kept c.fetch_document.ensures.causes.folder_counted c.in_ok-symbols.ensures c.in_ok-doc.ensures.reads c.open_document.result c.open_document.ensures.opens

pub returns-clause-refused : goal.returns-clause-refused
returns-clause-refused g c =
    refuses_file (g.H.Shelf.holds c.args.shelf.now) (g.H.Shelf.holds c.fetch_document.new.shelf) c.args.name.now c.args.rate c.in_ok-symbols.symbols c.in_ok-doc.doc.root c.fetch_document.new.symbols
    (g.L.Sink.taken c.args.lines.now) (g.L.Sink.taken c.open_document.new.lines) (g.H.Shelf.faults c.args.shelf.now) (g.H.Shelf.faults c.fetch_document.new.shelf) (g.H.Shelf.faults c.open_document.new.shelf)
    c.fetch_document.ensures.kept c.fetch_document.ensures.causes.folder_counted c.in_ok-symbols.ensures c.in_ok-doc.ensures.reads c.open_document.result c.open_document.ensures.refused
