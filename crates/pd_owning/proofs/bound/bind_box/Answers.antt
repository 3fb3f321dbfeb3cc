use Rattle.std.proofs.Common.{◌≡◌, ◌<◌, None, Some, refl, sym, ap, ◌∙◌, subst, arith}
use Rattle.std.specs.Prelude.{insert}
use Rattle.std.proofs.lemmas.Bool.{false≢true}
use Rattle.slab.specs.Slab.{get}
use Rattle.pd_name.specs.Rows.{owners_of, spare_of}
use Rattle.pd_bind.specs.Owning.{is_owned, owned_at}
use Rattle.pd_owning.specs.Bound.{HasRoom}
use Rattle.pd_owning.proofs.BoundLemmas.{owned_same, owned_other, moved, ok_then, box_bound}
use Rattle.pd_owning.proofs.bound.bind_box.Goals as goal

pub returns-in-Some-clause-binds : goal.returns-in-Some-clause-binds
returns-in-Some-clause-binds c = λ file away apart was class name.
    let g = c.args.grove.now in
    let old = c.args.names.now in
    let new = c.bind.new.self in
    let k = c.args.spot.node in
    let place = c.place_among-place.result in
    let own_class = c.in-Some.owned.0 in
    let own_name = c.in-Some.owned.1 in
    let own : owned_at c.args.symbols.now (get g.nodes) c.args.spot ≡ Some (own_class, own_name) = sym c.in-Some.ensures.value in
    let room : HasRoom old (Some (own_class, own_name)) 1 = subst (λ o. HasRoom old o 1) own c.requires.room in
    let spare : 0 < spare_of old own_class own_name = (let r = room.0 in omega (arith, r)) in
    let put = ok_then c.bind.result (c.bind.ensures.succeeds spare) c.bind.ensures.owners in
    box_bound g c.requires.forest c.requires.apart c.args.spot c.requires.here c.args.symbols.now file away class name (owners_of old class name) (owners_of new class name) place apart (was class name)
    (λ h. c.bind.ensures.others.owners class name (owned_other class own_class name own_name (ap (is_owned class name) (sym own) ∙ h)))
    (λ h. let S = owned_same class own_class name own_name (ap (is_owned class name) (sym own) ∙ h) in
    moved (owners_of new) (λ x y. insert (owners_of old x y) place k) class own_class name own_name S.0 S.1 put)
    (λ h before behind parts A B. let S = owned_same class own_class name own_name (ap (is_owned class name) (sym own) ∙ h) in
    c.place_among-place.ensures.place before behind
    (c.owners.ensures ∙ ap (λ x. owners_of old own_class x) (sym S.1) ∙ ap (λ x. owners_of old x name) (sym S.0) ∙ parts) A B)

pub returns-in_default-clause-binds : goal.returns-in_default-clause-binds
returns-in_default-clause-binds c = λ file away apart was class name.
    let g = c.args.grove.now in
    let old = c.args.names.now in
    let own : owned_at c.args.symbols.now (get g.nodes) c.args.spot ≡ None = sym c.in_default.ensures.value in
    box_bound g c.requires.forest c.requires.apart c.args.spot c.requires.here c.args.symbols.now file away class name (owners_of old class name) (owners_of old class name) 0 apart (was class name)
    (λ h. refl)
    (λ h. absurd (false≢true (ap (is_owned class name) (sym own) ∙ h)))
    (λ h before behind parts A B. absurd (false≢true (ap (is_owned class name) (sym own) ∙ h)))
