use Rattle.std.proofs.Common.{position, bytes_eq, sym, ap, ◌∙◌, subst}
use Rattle.pd_atom.specs.Names.{AreShort}
use Rattle.pd_atom.specs.Stored.{bytes_of}
use Rattle.pd_atom.proofs.StoredLemmas.{position-bytes_of, position-long}
use Rattle.pd_atom.proofs.table.Table.place.Goals as goal

pub returns-in-Ok : goal.returns-in-Ok
returns-in-Ok c =
    c.get_index_of.ensures.index
    ∙ position-bytes_of c.in-Ok.key c.self.inside.names.keys
    ∙ ap (λ name. position (bytes_eq name) (bytes_of c.self.inside.names.keys)) c.in-Ok.ensures.0
    ∙ ap (position (bytes_eq c.args.name.now)) c.self.view_is

pub returns-in-Err : goal.returns-in-Err
returns-in-Err c = sym (position-long c.args.self.now c.args.name.now (subst AreShort c.self.view_is c.self.invariant.short) c.in-Err.ensures)
