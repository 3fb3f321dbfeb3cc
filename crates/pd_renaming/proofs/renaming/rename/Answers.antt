use Rattle.std.proofs.Common.{true, [], ◌∷◌, refl, sym, subst}
use Rattle.slab.specs.Slab.{get}
use Rattle.pd_grove.specs.Refits.{with_text}
use Rattle.pd_grove.specs.Standing.{node_seen}
use Rattle.pd_bind.specs.Naming.{owned_by}
use Rattle.pd_bind.specs.Owning.{owned_at, root_owner}
use Rattle.pd_owning.specs.Bound.{AreOwnersBut, HasRoom, OthersStay}
use Rattle.pd_refitting.proofs.RoomLemmas.{both_stay, owner_fits}
use Rattle.pd_renaming.specs.Renaming.{StaysButNames}
use Rattle.pd_renaming.proofs.NameLemmas.{is_now, owners_follow, stands}
use Rattle.pd_renaming.proofs.PatchLemmas.{is_live, still_put}
use Rattle.pd_renaming.proofs.TextLemmas.{forest_as, none_as}
use Rattle.pd_renaming.proofs.renaming.rename.Goals as goal

pub spot_at-spot-requires-clause-here : goal.spot_at-spot-requires-clause-here
spot_at-spot-requires-clause-here c = is_live c.args.patch.now.grove c.args.room.key c.requires.can.0 c.requires.can.1.is

pub retext_box-requires : goal.retext_box-requires
retext_box-requires c = is_live c.args.patch.now.grove c.args.room.key c.requires.can.0 c.requires.can.1.is

pub bind_box-requires-clause-forest : goal.bind_box-requires-clause-forest
bind_box-requires-clause-forest c =
    forest_as c.args.patch.now.grove c.retext_box.new.self c.args.room.key c.args.room.written c.args.room.text c.retext_box.ensures c.requires.can.1.can.forest

pub bind_box-requires-clause-labelled : goal.bind_box-requires-clause-labelled
bind_box-requires-clause-labelled c = (c.retext_box.new.self).labelled

pub bind_box-requires-clause-apart : goal.bind_box-requires-clause-apart
bind_box-requires-clause-apart c =
    none_as c.args.patch.now.grove c.retext_box.new.self c.args.room.key c.args.room.written c.args.room.text c.retext_box.ensures root_owner c.requires.can.1.can.apart

pub bind_box-requires-clause-here : goal.bind_box-requires-clause-here
bind_box-requires-clause-here c =
    stands c.args.patch.now.grove c.retext_box.new.self c.args.room.key c.args.room.written c.args.room.text c.retext_box.ensures c.spot_at-spot.result c.spot_at-spot.ensures.stands

pub bind_box-requires-clause-room : goal.bind_box-requires-clause-room
bind_box-requires-clause-room c =
    let g = c.args.patch.now.grove in
    let h = c.retext_box.new.self in
    let room = c.args.room in
    let n = c.requires.can.0 in
    let C = c.requires.can.1 in
    let m = with_text room.written room.text n in
    let table = c.args.symbols.now in
    subst (λ t. HasRoom c.unbind.new.names (owned_at t (get h.nodes) c.spot_at-spot.result) 1) (sym c.unbind.ensures.table)
    (owner_fits g h table room.key n m C.is (is_now g h room.key room.written room.text c.retext_box.ensures n C.is) c.spot_at-spot.result c.spot_at-spot.ensures.node
    c.unbind.new.names (c.unbind.ensures.room (owned_by table true (node_seen m).cell) 1 (c.requires.room.owner n C.is)))

pub returns-clause-renamed : goal.returns-clause-renamed
returns-clause-renamed c = λ n is.
    let p = c.args.patch.now in
    let room = c.args.room in
    let table = c.args.symbols.now in
    let h = c.retext_box.new.self in
    let A = c.retext_box.ensures in
    let spot = c.spot_at-spot.result in
    let same = c.spot_at-spot.ensures.node in
    let mid = c.unbind.new.names in
    let new = c.bind_box.new.names in
    let rest : StaysButNames p (record p { grove = h; names = new }) =
    record { web = refl; timers = refl; links = refl; orders = refl; numbers = refl; values = refl; rate = refl; present = refl } in
    record {
      box = A;
      owners = owners_follow p.grove h room.key room.written room.text A p.names mid new table spot same c.unbind.ensures.unbinds (λ file was.
          subst (λ t. AreOwnersBut new t file h []) c.unbind.ensures.table
          (c.bind_box.ensures.binds file [] refl (subst (λ t. AreOwnersBut mid t file h (spot.node ∷ [])) (sym c.unbind.ensures.table) was)));
      other_owners = both_stay p.grove h table room.key n (with_text room.written room.text n) is (is_now p.grove h room.key room.written room.text A n is) spot same p.names mid new
          c.unbind.ensures.others (subst (λ t. OthersStay mid new (owned_at t (get h.nodes) spot)) c.unbind.ensures.table c.bind_box.ensures.others);
      rest = rest;
      can = still_put p (record p { grove = h; names = new }) room.key room.written room.text A rest c.requires.can.1.can;
    }
