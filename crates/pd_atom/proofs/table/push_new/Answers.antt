use Rattle.std.proofs.Common.{◌≡◌, None, [], ◌∷◌, ◌++◌, position, bytes_eq, sym, ap, ◌∙◌, subst}
use Rattle.pd_atom.specs.Stored.{bytes_of}
use Rattle.pd_atom.proofs.CaseLemmas.{if_ok}
use Rattle.pd_atom.proofs.StoredLemmas.{insert_key-new}
use Rattle.pd_atom.proofs.table.push_new.Goals as goal

pub returns-clause-names : goal.returns-clause-names
returns-clause-names c =
    let keys = c.args.names.now.keys in
    let absent = subst (λ name. position (bytes_eq name) (bytes_of keys) ≡ None) (sym c.stored.ensures) c.requires.absent in
    ap bytes_of (if_ok c.insert.result (c.insert.ensures.succeeds c.requires.room) c.insert.ensures.keys).1
    ∙ insert_key-new c.stored.result keys absent
    ∙ ap (λ name. bytes_of keys ++ name ∷ []) c.stored.ensures
