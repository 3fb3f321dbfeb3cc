use Rattle.pd_play.proofs.MadeLemmas.{opened_well, opens_made, refuses_made}
use Rattle.pd_play.proofs.session.Session.open_made.Goals as goal

pub returns-in-Ok-from_doc-clause-opens : goal.returns-in-Ok-from_doc-clause-opens
returns-in-Ok-from_doc-clause-opens g c =
    opens_made c.args.voices (g.H.Shelf.holds c.args.shelf.now) c.args.name.now c.args.rate _ _ _ _ _ _ _ c.in-Ok-make_patch.ensures.document c.in-Ok-make_patch.ensures.names c.in-Ok-from_doc.ensures.opens

pub returns-in-Ok-from_doc-clause-causes : goal.returns-in-Ok-from_doc-clause-causes
returns-in-Ok-from_doc-clause-causes g c = opened_well _ _ _ _ _ c.from_doc.ensures.causes.folder_counted c.from_doc.ensures.causes.lines_counted

pub returns-in-Err-clause-refused : goal.returns-in-Err-clause-refused
returns-in-Err-clause-refused g c =
    refuses_made c.args.voices (g.H.Shelf.holds c.args.shelf.now) c.args.name.now c.args.rate _ _ _ _ _ _ c.in-Err.refusal _ c.in-Ok-make_patch.ensures.document c.in-Ok-make_patch.ensures.names c.status_of.ensures
    c.in-Err.ensures.refused c.in-Err.ensures.quiet
