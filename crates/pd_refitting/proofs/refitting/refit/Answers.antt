use Rattle.std.proofs.Common.{true, [], ◌∷◌, refl, sym, ap, ◌∙◌, subst}
use Rattle.slab.specs.Slab.{get}
use Rattle.pd_bind.specs.Naming.{owned_by}
use Rattle.pd_bind.specs.Owning.{owned_at}
use Rattle.pd_owning.specs.Bound.{AreOwnersBut, HasRoom, OthersStay}
use Rattle.pd_order.specs.Graph.{IsLawful}
use Rattle.pd_tree.specs.Trees.{stand_of}
use Rattle.pd_grove.specs.declared.ports.Side.TheVariants.{Outlets}
use Rattle.pd_web.specs.Canvases.{keys_at}
use Rattle.pd_patch.specs.Listing.{IsThere}
use Rattle.pd_patch.specs.Orders.{is_signal_node}
use Rattle.pd_patch.specs.Telling.{order_in}
use Rattle.pd_patch.specs.Values.{blocks_told}
use Rattle.pd_wiring.specs.Graphs.{canvas_graph, signal_boxes, IsOrderIn}
use Rattle.pd_placing.specs.Placing.{LacksBox, StayBut}
use Rattle.pd_placing.specs.Room.{HasPlaces}
use Rattle.pd_boxes.specs.Put.{node_of}
use Rattle.pd_refitting.proofs.PlaceLemmas.{few_looks, has_order, lawful, loose, now_ordered, still_lacks, still_lawful, still_order, still_there, there}
use Rattle.pd_refitting.proofs.RoomLemmas.{both_stay, owner_fits, silent_put}
use Rattle.pd_refitting.proofs.WriteLemmas.{apart, beyond, can_at, forest, homes, is_live, lists, near, no_home_now, owners, ports, small, stands, true_of}
use Rattle.pd_refitting.proofs.refitting.refit.Goals as goal

pub canvas_of-canvas-requires : goal.canvas_of-canvas-requires
canvas_of-canvas-requires g c = is_live c.args.patch.now.grove c.args.room.key c.requires.can.0 c.requires.can.1.is

pub spot_at-spot-requires-clause-here : goal.spot_at-spot-requires-clause-here
spot_at-spot-requires-clause-here g c = is_live c.args.patch.now.grove c.args.room.key c.requires.can.0 c.requires.can.1.is

pub leave_order-requires-clause-here : goal.leave_order-requires-clause-here
leave_order-requires-clause-here g c =
    let p = c.args.patch.now in
    let n = c.requires.can.0 in
    let C = c.requires.can.1 in
    subst (λ x. IsThere (keys_at p.grove x) c.args.room.key) (sym (c.canvas_of-canvas.ensures n C.is)) (there p c.args.room.key n c.args.room.seed C)

pub leave_order-requires-clause-loose : goal.leave_order-requires-clause-loose
leave_order-requires-clause-loose g c =
    loose c.args.patch.now c.args.room.key c.requires.can.0 c.args.room.seed c.requires.can.1 c.keeps_place-stays.result c.keeps_place-stays.ensures

pub leave_order-requires-clause-lawful : goal.leave_order-requires-clause-lawful
leave_order-requires-clause-lawful g c =
    let p = c.args.patch.now in
    let n = c.requires.can.0 in
    let C = c.requires.can.1 in
    subst (λ x. IsLawful (canvas_graph p.grove p.links x) (signal_boxes p.grove x)) (sym (c.canvas_of-canvas.ensures n C.is)) (lawful p c.args.room.key n c.args.room.seed C)

pub leave_order-requires-clause-order : goal.leave_order-requires-clause-order
leave_order-requires-clause-order g c =
    let p = c.args.patch.now in
    let n = c.requires.can.0 in
    let C = c.requires.can.1 in
    subst (λ x. IsOrderIn (canvas_graph p.grove p.links x) (signal_boxes p.grove x) (order_in p.orders.items x)) (sym (c.canvas_of-canvas.ensures n C.is))
    (has_order p c.args.room.key n c.args.room.seed C)

pub become_other-requires : goal.become_other-requires
become_other-requires g c = is_live c.args.patch.now.grove c.args.room.key c.requires.can.0 c.requires.can.1.is

pub refit_box-requires-clause-small : goal.refit_box-requires-clause-small
refit_box-requires-clause-small g c =
    let C = c.requires.can.1 in
    small c.args.patch.now c.args.room.key c.requires.can.0 c.args.room.seed C c.become_other.new.grove (c.become_other.ensures c.requires.can.0 C.is C.bare)

pub refit_box-requires-clause-here : goal.refit_box-requires-clause-here
refit_box-requires-clause-here g c =
    let n = c.requires.can.0 in
    let C = c.requires.can.1 in
    let B = c.become_other.ensures n C.is C.bare in
    is_live c.become_other.new.grove c.args.room.key (node_of n.board c.args.room.seed) B.is

pub refit_box-requires-clause-near : goal.refit_box-requires-clause-near
refit_box-requires-clause-near g c =
    let C = c.requires.can.1 in
    near c.args.patch.now c.args.room.key c.requires.can.0 c.args.room.seed C c.become_other.new.grove (c.become_other.ensures c.requires.can.0 C.is C.bare) c.requires.room.web

pub refit_box-requires-clause-lists : goal.refit_box-requires-clause-lists
refit_box-requires-clause-lists g c =
    let C = c.requires.can.1 in
    lists c.args.patch.now c.args.room.key c.requires.can.0 c.args.room.seed C c.become_other.new.grove (c.become_other.ensures c.requires.can.0 C.is C.bare) c.args.room.ports c.requires.room.ports

pub refit_box-requires-clause-beyond : goal.refit_box-requires-clause-beyond
refit_box-requires-clause-beyond g c =
    let C = c.requires.can.1 in
    beyond c.args.patch.now c.args.room.key c.requires.can.0 c.args.room.seed C c.become_other.new.grove (c.become_other.ensures c.requires.can.0 C.is C.bare)

pub refit_box-requires-clause-homes : goal.refit_box-requires-clause-homes
refit_box-requires-clause-homes g c =
    let C = c.requires.can.1 in
    true_of c.args.patch.now c.args.room.key c.requires.can.0 c.args.room.seed C c.become_other.new.grove (c.become_other.ensures c.requires.can.0 C.is C.bare)

pub refit_box-requires-clause-apart : goal.refit_box-requires-clause-apart
refit_box-requires-clause-apart g c = λ j i is.
    let C = c.requires.can.1 in
    absurd (no_home_now c.args.patch.now c.args.room.key c.requires.can.0 c.args.room.seed C c.become_other.new.grove (c.become_other.ensures c.requires.can.0 C.is C.bare) j i is)

pub bind_box-requires-clause-forest : goal.bind_box-requires-clause-forest
bind_box-requires-clause-forest g c =
    let C = c.requires.can.1 in
    forest c.args.patch.now c.args.room.key c.requires.can.0 c.args.room.seed C c.become_other.new.grove (c.become_other.ensures c.requires.can.0 C.is C.bare)

pub bind_box-requires-clause-labelled : goal.bind_box-requires-clause-labelled
bind_box-requires-clause-labelled g c = (c.become_other.new.grove).labelled

pub bind_box-requires-clause-apart : goal.bind_box-requires-clause-apart
bind_box-requires-clause-apart g c =
    let C = c.requires.can.1 in
    apart c.args.patch.now c.args.room.key c.requires.can.0 c.args.room.seed C c.become_other.new.grove (c.become_other.ensures c.requires.can.0 C.is C.bare)

pub bind_box-requires-clause-here : goal.bind_box-requires-clause-here
bind_box-requires-clause-here g c =
    let C = c.requires.can.1 in
    stands c.args.patch.now c.args.room.key c.requires.can.0 c.args.room.seed C c.become_other.new.grove (c.become_other.ensures c.requires.can.0 C.is C.bare)
    c.spot_at-spot.result c.spot_at-spot.ensures.stands

pub bind_box-requires-clause-room : goal.bind_box-requires-clause-room
bind_box-requires-clause-room g c =
    let n = c.requires.can.0 in
    let C = c.requires.can.1 in
    let B = c.become_other.ensures n C.is C.bare in
    let s = c.args.room.seed in
    subst (λ t. HasRoom c.unbind.new.names (owned_at t (get c.become_other.new.grove.nodes) c.spot_at-spot.result) 1) (sym c.unbind.ensures.table)
    (owner_fits c.args.patch.now.grove c.become_other.new.grove c.args.symbols.now c.args.room.key n (node_of n.board s) C.is B.is c.spot_at-spot.result c.spot_at-spot.ensures.node
    c.unbind.new.names (c.unbind.ensures.room (owned_by c.args.symbols.now true (stand_of s.row).cell) 1 c.requires.room.owner))

pub put_blocks-requires : goal.put_blocks-requires
put_blocks-requires g c = c.requires.room.values

pub join_order-requires-clause-here : goal.join_order-requires-clause-here
join_order-requires-clause-here g c =
    let p = c.args.patch.now in
    let n = c.requires.can.0 in
    let C = c.requires.can.1 in
    let s = c.args.room.seed in
    let key = c.args.room.key in
    let h = c.become_other.new.grove in
    let B = c.become_other.ensures n C.is C.bare in
    let w = c.refit_box.new.web in
    subst (λ x. IsThere (keys_at h x) key) (sym (c.canvas_of-canvas.ensures n C.is))
    (still_there p key n s C h B w (ports p key n s C h B w c.refit_box.ensures.ports) (homes p key n s C h B w c.refit_box.ensures.other_homes))

pub join_order-requires-clause-loose : goal.join_order-requires-clause-loose
join_order-requires-clause-loose g c =
    loose c.args.patch.now c.args.room.key c.requires.can.0 c.args.room.seed c.requires.can.1 c.keeps_place-stays.result c.keeps_place-stays.ensures

pub join_order-requires-clause-lawful : goal.join_order-requires-clause-lawful
join_order-requires-clause-lawful g c =
    let p = c.args.patch.now in
    let n = c.requires.can.0 in
    let C = c.requires.can.1 in
    let s = c.args.room.seed in
    let key = c.args.room.key in
    let h = c.become_other.new.grove in
    let B = c.become_other.ensures n C.is C.bare in
    let w = c.refit_box.new.web in
    subst (λ x. IsLawful (canvas_graph h p.links x) (signal_boxes h x)) (sym (c.canvas_of-canvas.ensures n C.is))
    (still_lawful p key n s C h B w (ports p key n s C h B w c.refit_box.ensures.ports) (homes p key n s C h B w c.refit_box.ensures.other_homes))

pub join_order-requires-clause-lacks : goal.join_order-requires-clause-lacks
join_order-requires-clause-lacks g c = λ f.
    let p = c.args.patch.now in
    let n = c.requires.can.0 in
    let C = c.requires.can.1 in
    let s = c.args.room.seed in
    let key = c.args.room.key in
    let h = c.become_other.new.grove in
    let B = c.become_other.ensures n C.is C.bare in
    let w = c.refit_box.new.web in
    let orders = c.leave_order.new.orders.items in
    let at = c.canvas_of-canvas.ensures n C.is in
    subst (λ x. LacksBox h p.links orders x key) (sym at)
    (still_lacks p key n s C h B w (ports p key n s C h B w c.refit_box.ensures.ports) (homes p key n s C h B w c.refit_box.ensures.other_homes) orders
    (subst (λ x. LacksBox p.grove p.links orders x key) at (c.leave_order.ensures.lacks f)))

pub join_order-requires-clause-order : goal.join_order-requires-clause-order
join_order-requires-clause-order g c = λ t.
    let p = c.args.patch.now in
    let n = c.requires.can.0 in
    let C = c.requires.can.1 in
    let s = c.args.room.seed in
    let key = c.args.room.key in
    let h = c.become_other.new.grove in
    let B = c.become_other.ensures n C.is C.bare in
    let w = c.refit_box.new.web in
    subst (λ os. IsOrderIn (canvas_graph h p.links c.canvas_of-canvas.result) (signal_boxes h c.canvas_of-canvas.result) (order_in os.items c.canvas_of-canvas.result)) (sym (c.leave_order.ensures.same t))
    (subst (λ x. IsOrderIn (canvas_graph h p.links x) (signal_boxes h x) (order_in p.orders.items x)) (sym (c.canvas_of-canvas.ensures n C.is))
    (still_order p key n s C h B w (ports p key n s C h B w c.refit_box.ensures.ports) (homes p key n s C h B w c.refit_box.ensures.other_homes)
    c.keeps_place-stays.result p.orders.items c.keeps_place-stays.ensures t (has_order p key n s C)))

pub join_order-requires-clause-room : goal.join_order-requires-clause-room
join_order-requires-clause-room g c =
    let n = c.requires.can.0 in
    let C = c.requires.can.1 in
    c.leave_order.ensures.places (subst (λ x. HasPlaces (order_in c.args.patch.now.orders.items x) 1) (sym (c.canvas_of-canvas.ensures n C.is)) (c.requires.room.order n C.is))

pub returns-clause-refitted : goal.returns-clause-refitted
returns-clause-refitted g c = λ n is.
    let p = c.args.patch.now in
    let key = c.args.room.key in
    let s = c.args.room.seed in
    let table = c.args.symbols.now in
    let h = c.become_other.new.grove in
    let C = can_at p key c.requires.can.0 n s c.requires.can.1 is in
    let B = c.become_other.ensures n C.is C.bare in
    let spot = c.spot_at-spot.result in
    let same = c.spot_at-spot.ensures.node in
    let mid = c.unbind.new.names in
    let new = c.bind_box.new.names in
    let w = c.refit_box.new.web in
    let G = ports p key n s C h B w c.refit_box.ensures.ports in
    let H = homes p key n s C h B w c.refit_box.ensures.other_homes in
    let orders = c.join_order.new.orders.items in
    let at = c.canvas_of-canvas.ensures n C.is in
    let stay : StayBut p.orders.items orders n.board = subst (λ x. StayBut p.orders.items orders x) at (λ d away. c.join_order.ensures.others d away ∙ c.leave_order.ensures.others d away) in
    record {
      grove = B;
      ports = G;
      homes = H;
      owners = owners p key n s C h B mid new table spot same c.unbind.ensures.unbinds (λ file was.
          subst (λ t. AreOwnersBut new t file h []) c.unbind.ensures.table
          (c.bind_box.ensures.binds file [] refl (subst (λ t. AreOwnersBut mid t file h (spot.node ∷ [])) (sym c.unbind.ensures.table) was)));
      other_owners = both_stay p.grove h table key n (node_of n.board s) C.is B.is spot same p.names mid new c.unbind.ensures.others
          (subst (λ t. OthersStay mid new (owned_at t (get h.nodes) spot)) c.unbind.ensures.table c.bind_box.ensures.others);
      links = refl;
      order = now_ordered p key n s C h B w G H orders stay
          (subst (λ x. IsOrderIn (canvas_graph h p.links x) (signal_boxes h x) (order_in orders x)) at c.join_order.ensures.order);
      other_orders = stay;
      numbers = refl;
      blocks = silent_put w key s.row.kind (blocks_told p) (blocks_told (record p { values = c.put_blocks.new.values })) c.args.room.blocks.items (G.ports Outlets) c.requires.room.blocks
          c.put_blocks.ensures;
      clocks = c.clear.ensures.clocks;
      clock_room = c.clear.ensures.end;
      rate = refl;
      present = refl;
    }

pub returns-clause-room : goal.returns-clause-room
returns-clause-room g c = c.refit_box.ensures.room

pub returns-clause-looks : goal.returns-clause-looks
returns-clause-looks g c = λ n is.
    let p = c.args.patch.now in
    let key = c.args.room.key in
    let s = c.args.room.seed in
    let h = c.become_other.new.grove in
    let C = can_at p key c.requires.can.0 n s c.requires.can.1 is in
    let B = c.become_other.ensures n C.is C.bare in
    few_looks n s.row.kind (get p.grove.nodes key) (get h.nodes key) c.keeps_place-stays.result _ _ C.bare C.is (ap is_signal_node B.is) c.keeps_place-stays.ensures
    c.join_order.ensures.no_looks c.join_order.ensures.none_looks c.join_order.ensures.looks
