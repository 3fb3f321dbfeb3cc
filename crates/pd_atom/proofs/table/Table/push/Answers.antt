use Rattle.std.proofs.Common.{◌≡◌, ◌+◌, None, [], ◌∷◌, ◌++◌, length, position, bytes_eq, sym, ap, ◌∙◌, subst, arith}
use Rattle.std.proofs.lemmas.List.{length-map, length-append}
use Rattle.pd_atom.specs.Names.{AreDistinct, AreShort}
use Rattle.pd_atom.specs.Stored.{bytes_of}
use Rattle.pd_atom.proofs.NameLemmas.{absent_at, distinct_push, short_push}
use Rattle.pd_atom.proofs.table.Table.push.Goals as goal

pub invariant_of-self : goal.invariant_of-self
invariant_of-self c =
    let name = c.args.name.now in
    let old = bytes_of c.self.inside.names.keys in
    let bytes : bytes_of c.push_new.new.names.keys ≡ old ++ name ∷ [] = c.push_new.ensures.names in
    let len : length (bytes_of c.push_new.new.names.keys) ≡ length old + 1 = ap length bytes ∙ length-append old (name ∷ []) in
    let absent = absent_at old name (subst (λ ns. position (bytes_eq name) ns ≡ None) (sym c.self.view_is) c.requires.absent) in
    record {
      distinct = subst AreDistinct (sym bytes) (distinct_push old name c.self.invariant.distinct absent);
      short = subst AreShort (sym bytes) (short_push old name c.self.invariant.short c.requires.some c.requires.short);
      few = omega (arith, len, ap length c.self.view_is, c.requires.room);
      names_room = omega (arith, len, c.push_new.ensures.room, c.self.invariant.names_room, length-map c.self.inside.names.keys (λ v. v.items), length-map c.push_new.new.names.keys (λ v. v.items));
      spare_room = c.self.invariant.spare_room;
    }
