use Rattle.std.proofs.Common.{◌+◌, ◌++◌, ◌∷◌, ℕ, drop, get_or, false, sym, ◌∙◌, subst}
use Rattle.std.proofs.lemmas.List.{drop_more, drop_all}
use Rattle.std.proofs.lemmas.Option.{slice_get-get_or}
use Rattle.slab.specs.Slab.{get}
use Rattle.pd_grove.specs.declared.spots.Spot.{Spot}
use Rattle.pd_grove.specs.TextOrder.{keys_of_spots}
use Rattle.pd_bind.specs.Owning.{owned_at}
use Rattle.pd_owning.specs.Bound.{AreNew, AreOwnersBut, HasRoom, OthersStay}
use Rattle.pd_owning.proofs.TurnLemmas.{new_after, HasRooms, first_room, room_next}
use Rattle.pd_owning.proofs.parts.bind_boxes.Goals as goal

abbrev none : Spot
none = record { node = 0; is_top = false }

pub bind_box-requires-clause-here : goal.bind_box-requires-clause-here
bind_box-requires-clause-here c =
    let i = c.loop-spot.spot-index in
    c.requires.here i (get_or c.args.spots.now i none) (slice_get-get_or c.args.spots.now i none c.loop-spot-test.true)

pub bind_box-requires-clause-room : goal.bind_box-requires-clause-room
bind_box-requires-clause-room c =
    let i = c.loop-spot.spot-index in
    let spots = c.args.spots.now in
    let nodes = get c.args.grove.now.nodes in
    let p = get_or spots i none in
    subst (λ t. HasRoom c.loop-spot.names (owned_at t nodes p) 1) (sym c.loop-spot.invariant.table)
    (first_room c.args.symbols.now nodes c.loop-spot.names p (drop (i + 1) spots)
    (subst (λ ps. HasRooms c.loop-spot.names c.args.symbols.now nodes ps) (drop_more spots i none c.loop-spot-test.true) c.loop-spot.invariant.room))

pub loop-spot-preserved : goal.loop-spot-preserved
loop-spot-preserved c =
    let i = c.loop-spot.spot-index in
    let spots = c.args.spots.now in
    let g = c.args.grove.now in
    let nodes = get g.nodes in
    let p = get_or spots i none in
    let rest = drop (i + 1) spots in
    let all = drop_more spots i none c.loop-spot-test.true in
    let others : OthersStay c.loop-spot.names c.bind_box.new.names (owned_at c.args.symbols.now nodes p) =
    subst (λ t. OthersStay c.loop-spot.names c.bind_box.new.names (owned_at t nodes p)) c.loop-spot.invariant.table c.bind_box.ensures.others in
    let room : (n : ℕ) → HasRoom c.loop-spot.names (owned_at c.args.symbols.now nodes p) (n + 1) → HasRoom c.bind_box.new.names (owned_at c.args.symbols.now nodes p) n =
    subst (λ t. (n : ℕ) → HasRoom c.loop-spot.names (owned_at t nodes p) (n + 1) → HasRoom c.bind_box.new.names (owned_at t nodes p) n) c.loop-spot.invariant.table c.bind_box.ensures.room in
    record {
      table = c.bind_box.ensures.table ∙ c.loop-spot.invariant.table;
      room = room_next c.args.symbols.now nodes c.loop-spot.names c.bind_box.new.names p rest others room
          (subst (λ ps. HasRooms c.loop-spot.names c.args.symbols.now nodes ps) all c.loop-spot.invariant.room);
      binds = λ file away N was.
          let next : AreNew (keys_of_spots (p ∷ rest)) away = subst (λ ps. AreNew (keys_of_spots ps) away) all (new_after spots i away N) in
          let before : AreOwnersBut c.loop-spot.names c.args.symbols.now file g (p.node ∷ (keys_of_spots rest ++ away)) =
          subst (λ ps. AreOwnersBut c.loop-spot.names c.args.symbols.now file g (keys_of_spots ps ++ away)) all (c.loop-spot.invariant.binds file away N was) in
          subst (λ t. AreOwnersBut c.bind_box.new.names t file g (keys_of_spots rest ++ away)) c.loop-spot.invariant.table
          (c.bind_box.ensures.binds file (keys_of_spots rest ++ away) next.0
          (subst (λ t. AreOwnersBut c.loop-spot.names t file g (p.node ∷ (keys_of_spots rest ++ away))) (sym c.loop-spot.invariant.table) before));
    }

pub returns-clause-binds : goal.returns-clause-binds
returns-clause-binds c = λ file away N was.
    let done = drop_all c.loop-spot.spot-index c.args.spots.now c.loop-spot-test.false in
    subst (λ ps. AreOwnersBut c.loop-spot.names c.args.symbols.now file c.args.grove.now (keys_of_spots ps ++ away)) done (c.loop-spot.invariant.binds file away N was)
