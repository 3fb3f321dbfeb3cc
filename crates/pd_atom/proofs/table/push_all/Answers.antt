use Rattle.std.proofs.Common.{◌≡◌, ◌<◌, None, [], ◌∷◌, ◌++◌, length, take, position, bytes_eq, sym, ap, ◌∙◌, subst, arith}
use Rattle.std.proofs.lemmas.List.{length-map, take_more}
use Rattle.pd_atom.specs.Names.{name_of}
use Rattle.pd_atom.specs.Stored.{bytes_of}
use Rattle.pd_atom.proofs.StoredLemmas.{name_at, position-before}
use Rattle.pd_atom.proofs.table.push_all.Goals as goal

pub push_new-requires-clause-absent : goal.push_new-requires-clause-absent
push_new-requires-clause-absent c =
    let more = bytes_of c.args.more.now in
    let i = c.loop-name.name-index in
    let low : i < length more = omega (arith, c.loop-name-test.true, length-map c.args.more.now (λ v. v.items)) in
    let at : name_of more i ≡ c.as_slice.result.now = name_at c.args.more.now i c.name-item.result c.loop-name-test.true c.name-item.is ∙ sym c.as_slice.ensures.value in
    subst (λ names. position (bytes_eq c.as_slice.result.now) names ≡ None) (sym c.loop-name.invariant.names)
    (subst (λ name. position (bytes_eq name) (take i more) ≡ None) at (position-before more i c.requires.distinct low))

pub loop-name-preserved : goal.loop-name-preserved
loop-name-preserved c =
    let more = bytes_of c.args.more.now in
    let i = c.loop-name.name-index in
    let low : i < length more = omega (arith, c.loop-name-test.true, length-map c.args.more.now (λ v. v.items)) in
    let at : name_of more i ≡ c.as_slice.result.now = name_at c.args.more.now i c.name-item.result c.loop-name-test.true c.name-item.is ∙ sym c.as_slice.ensures.value in
    record {
      names = c.push_new.ensures.names ∙ ap (λ names. names ++ c.as_slice.result.now ∷ []) c.loop-name.invariant.names
          ∙ ap (λ name. take i more ++ name ∷ []) (sym at) ∙ sym (take_more more i [] low);
      room = omega (arith, c.push_new.ensures.room, c.loop-name.invariant.room);
    }
