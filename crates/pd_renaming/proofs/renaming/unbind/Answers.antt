use Rattle.std.proofs.Common.{◌≡◌, None, Some, refl, sym, ap, ◌∙◌}
use Rattle.std.proofs.lemmas.Bool.{false≢true}
use Rattle.slab.specs.Slab.{get}
use Rattle.pd_name.specs.Rows.{owners_of, without}
use Rattle.pd_bind.specs.Owning.{is_owned, owned_at}
use Rattle.pd_owning.proofs.BoundLemmas.{owned_same, owned_other, moved, box_unbound}
use Rattle.pd_refitting.proofs.RoomLemmas.{room_kept}
use Rattle.pd_renaming.proofs.renaming.unbind.Goals as goal

pub returns-in-Some-clause-unbinds : goal.returns-in-Some-clause-unbinds
returns-in-Some-clause-unbinds c = λ file away was class name.
    let old = c.args.names.now in
    let new = c.unbind.new.self in
    let k = c.args.spot.node in
    let own : owned_at c.args.symbols.now (get c.args.grove.now.nodes) c.args.spot ≡ Some (c.in-Some.owned.0, c.in-Some.owned.1) = sym c.in-Some.ensures.value in
    box_unbound c.args.grove.now c.requires.forest c.requires.apart c.args.spot c.requires.here c.args.symbols.now file away class name (owners_of old class name) (owners_of new class name) (was class name)
    (λ h. c.unbind.ensures.others.owners class name (owned_other class c.in-Some.owned.0 name c.in-Some.owned.1 (ap (is_owned class name) (sym own) ∙ h)))
    (λ h. let S = owned_same class c.in-Some.owned.0 name c.in-Some.owned.1 (ap (is_owned class name) (sym own) ∙ h) in
    moved (owners_of new) (λ x y. without k (owners_of old x y)) class c.in-Some.owned.0 name c.in-Some.owned.1 S.0 S.1 c.unbind.ensures.owners)

pub returns-in-Some-clause-room : goal.returns-in-Some-clause-room
returns-in-Some-clause-room c = λ o n room.
    room_kept c.args.names.now c.unbind.new.self c.in-Some.owned.0 c.in-Some.owned.1 c.args.spot.node c.unbind.ensures.owners c.unbind.ensures.places c.unbind.ensures.others o n room

pub returns-in_default-clause-unbinds : goal.returns-in_default-clause-unbinds
returns-in_default-clause-unbinds c = λ file away was class name.
    let old = c.args.names.now in
    let own : owned_at c.args.symbols.now (get c.args.grove.now.nodes) c.args.spot ≡ None = sym c.in_default.ensures.value in
    box_unbound c.args.grove.now c.requires.forest c.requires.apart c.args.spot c.requires.here c.args.symbols.now file away class name (owners_of old class name) (owners_of old class name) (was class name)
    (λ h. refl)
    (λ h. absurd (false≢true (ap (is_owned class name) (sym own) ∙ h)))
