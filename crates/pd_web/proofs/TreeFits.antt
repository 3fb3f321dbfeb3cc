-- The ports of boxes that stand are those of the tree.
use Rattle.std.proofs.Common.{◌≡◌, ℕ, ℤ, ◌+◌, Bool, true, false, cond, int_lt, List, [], ◌∷◌, map, filter, Option, Some, None, refl, sym, ap, ◌∙◌}
use Rattle.std.specs.Prelude.{option_map, option_and_then}
use Rattle.std.proofs.lemmas.Option.{none-some, same_Some}
use Rattle.slab.specs.Slab.{get}
use Rattle.pd_object.specs.declared.kinds.Kind.{Kind}
use Rattle.pd_tree.specs.Trees.{Trees, Done, Leaf, Holder, Tree}
use Rattle.pd_tree.specs.Ports.{PortBox, with_port, port_boxes, placed, by_x, inlet_signal, outlet_signal, is_made, sockets_of, sockets_around, sockets_in, fits, trimmed_sheet}
use Rattle.pd_tree.specs.Ports.{Sockets as Seen}
use Rattle.pd_grove.specs.declared.nodes.Node.{Node}
use Rattle.pd_grove.specs.declared.boards.Board.{Board}
use Rattle.pd_grove.specs.declared.grove.Grove.{Grove}
use Rattle.pd_grove.specs.declared.ports.Side.{Side}
use Rattle.pd_grove.specs.declared.ports.Side.TheVariants.{Inlets, Outlets}
use Rattle.pd_grove.specs.declared.ports.PortSpot.{PortSpot}
use Rattle.pd_grove.specs.Ports.{port_signal, spot_by, spot_at, spot_placed, with_spot, ports_among}
use Rattle.pd_grove.specs.Standing.{NodeSeen, node_seen, BoardSeen, board_seen, Stands}
use Rattle.pd_grove.specs.Places.{CanvasStands}
use Rattle.pd_grove.specs.Telling.{keys_in}
use Rattle.pd_web.specs.Jacks.{plain_jack, spot_jack, on_side, canvas_jacks, jacks_by, jacks_in, made_by, made_in}
use Rattle.pd_web.specs.Lines.{signals_of, seen_by, seen_at, wires_in, boxes_in}
use Rattle.pd_web.specs.Canvases.{fitting, HoldersAreNoPorts}

-- where a port stands and whether it carries signals
record Place : Type 0 where
  x : ℤ
  signal : Bool

spot_place : PortSpot → Place
spot_place s = record { x = s.x; signal = s.is_signal }

box_place : PortBox → Place
box_place p = record { x = p.x; signal = p.is_signal }

put : Place → List Place → List Place
put p [] = p ∷ []
put p (q ∷ qs) = cond (int_lt q.x p.x) (q ∷ put p qs) (p ∷ q ∷ qs)

ap-cond : {X Y : Type 0} (f : X → Y) (b : Bool) (x y : X) → f (cond b x y) ≡ cond b (f x) (f y)
ap-cond f true x y = refl
ap-cond f false x y = refl

spots_put : (p : PortSpot) (qs : List PortSpot) → map spot_place (spot_placed p qs) ≡ put (spot_place p) (map spot_place qs)
unfolding spot_place put
spots_put p [] = refl
spots_put p (q ∷ qs) =
    ap-cond (map spot_place) (int_lt q.x p.x) (q ∷ spot_placed p qs) (p ∷ q ∷ qs)
    ∙ ap (λ xs. cond (int_lt q.x p.x) (spot_place q ∷ xs) (spot_place p ∷ spot_place q ∷ map spot_place qs)) (spots_put p qs)

boxes_put : (p : PortBox) (qs : List PortBox) → map box_place (placed p qs) ≡ put (box_place p) (map box_place qs)
unfolding box_place put
boxes_put p [] = refl
boxes_put p (q ∷ qs) =
    ap-cond (map box_place) (int_lt q.x p.x) (q ∷ placed p qs) (p ∷ q ∷ qs)
    ∙ ap (λ xs. cond (int_lt q.x p.x) (box_place q ∷ xs) (box_place p ∷ box_place q ∷ map box_place qs)) (boxes_put p qs)

same_place : (k n : ℕ) (x : ℤ) (b : Bool) → spot_place (record { node = k; x = x; is_signal = b }) ≡ box_place (record { number = n; x = x; is_signal = b })
unfolding spot_place box_place
same_place k n x b = refl

port_next : (k n : ℕ) (x : ℤ) (o : Option Bool) (spots : List PortSpot) (boxes : List PortBox) → map spot_place spots ≡ map box_place (by_x boxes)
    → map spot_place (with_spot (spot_by k x o) spots) ≡ map box_place (by_x (with_port o n x boxes))
port_next k n x None spots boxes h = h
port_next k n x (Some b) spots boxes h =
    spots_put (record { node = k; x = x; is_signal = b }) spots ∙ ap (put (spot_place (record { node = k; x = x; is_signal = b }))) h
    ∙ ap (λ p. put p (map box_place (by_x boxes))) (same_place k n x b) ∙ sym (boxes_put (record { number = n; x = x; is_signal = b }) (by_x boxes))

-- what is known of a box that is seen
record Known (o : Option Node) (s : NodeSeen) : Type 0 where
  node : Node
  is : o ≡ Some node
  kind : node.kind ≡ s.cell.kind
  x : node.element.x ≡ s.cell.head.x
  inner : node.inner ≡ s.inner

known : (o : Option Node) (s : NodeSeen) → option_map node_seen o ≡ Some s → Known o s
known None s h = absurd (none-some s h)
known (Some n) s h =
    let e = same_Some (node_seen n) s h in
    record { node = n; is = refl; kind = ap (λ (y : NodeSeen). y.cell.kind) e; x = ap (λ (y : NodeSeen). y.cell.head.x) e; inner = ap (λ (y : NodeSeen). y.inner) e }

keys_known : (o : Option Board) (s : BoardSeen) → option_map board_seen o ≡ Some s → keys_in o ≡ s.keys
keys_known None s h = absurd (none-some s h)
keys_known (Some b) s h = ap (λ (x : BoardSeen). x.keys) (same_Some (board_seen b) s h)

wires_known : (o : Option Board) (s : BoardSeen) → option_map board_seen o ≡ Some s → wires_in o ≡ s.sheet.wires
wires_known None s h = absurd (none-some s h)
wires_known (Some b) s h = ap (λ (x : BoardSeen). x.sheet.wires) (same_Some (board_seen b) s h)

spot_known : (side : Side) (nodes : ℕ → Option Node) (k : ℕ) (s : NodeSeen) → option_map node_seen (nodes k) ≡ Some s → spot_at side nodes k ≡ spot_by k s.cell.head.x (port_signal side s.cell.kind)
spot_known side nodes k s h =
    let n = known (nodes k) s h in
    ap (option_and_then (λ (m : Node). spot_by k m.element.x (port_signal side m.kind))) n.is
    ∙ ap (λ x. spot_by k x (port_signal side n.node.kind)) n.x ∙ ap (λ (y : Kind). spot_by k s.cell.head.x (port_signal side y)) n.kind

no_port : (side : Side) (k : Kind) → inlet_signal k ≡ None → outlet_signal k ≡ None → port_signal side k ≡ None
no_port Inlets k h o = h
no_port Outlets k h o = o

-- the ports among the boxes that stand are those of the tree
ports_stand : (side : Side) (g : Grove) (b d n : ℕ) (ks : List ℕ) (t : Trees) → Stands (get g.nodes) (get g.boards) b d ks t → HoldersAreNoPorts t
    → map spot_place (ports_among side (get g.nodes) ks) ≡ map box_place (by_x (port_boxes (port_signal side) n t))
ports_stand side g b d n [] Done S H = refl
ports_stand side g b d n (k ∷ ks) Done S H = absurd S
ports_stand side g b d n [] (Leaf c rest) S H = absurd S
ports_stand side g b d n (k ∷ ks) (Leaf c rest) S H =
    ap (λ o. map spot_place (with_spot o (ports_among side (get g.nodes) ks))) (spot_known side (get g.nodes) k _ S.0)
    ∙ port_next k n c.head.x (port_signal side c.kind) (ports_among side (get g.nodes) ks) (port_boxes (port_signal side) (n + 1) rest) (ports_stand side g b d (n + 1) ks rest S.1 H)
ports_stand side g b d n [] (Holder c s inner rest) S H = absurd S
ports_stand side g b d n (k ∷ ks) (Holder c s inner rest) S H =
    ap (λ o. map spot_place (with_spot o (ports_among side (get g.nodes) ks)))
    (spot_known side (get g.nodes) k _ S.2 ∙ ap (spot_by k c.head.x) (no_port side c.kind H.0 H.1))
    ∙ ports_stand side g b d (n + 1) ks rest S.5 H.3

spot_signals : (spots : List PortSpot) → signals_of (map spot_jack spots) ≡ map (λ (p : Place). p.signal) (map spot_place spots)
unfolding spot_place
spot_signals [] = refl
spot_signals (s ∷ ss) = ap (λ xs. s.is_signal ∷ xs) (spot_signals ss)

box_signals : (boxes : List PortBox) → map (λ (p : PortBox). p.is_signal) boxes ≡ map (λ (p : Place). p.signal) (map box_place boxes)
unfolding box_place
box_signals [] = refl
box_signals (p ∷ ps) = ap (λ xs. p.is_signal ∷ xs) (box_signals ps)

around : (side : Side) (g : Grove) (j d : ℕ) (js : List ℕ) (t : Trees) → keys_in (get g.boards j) ≡ js → Stands (get g.nodes) (get g.boards) j d js t → HoldersAreNoPorts t
    → signals_of (canvas_jacks side g j) ≡ map (λ (p : PortBox). p.is_signal) (by_x (port_boxes (port_signal side) 0 t))
around side g j d js t keys S H =
    ap (λ ks. signals_of (map spot_jack (ports_among side (get g.nodes) ks))) keys ∙ spot_signals (ports_among side (get g.nodes) js)
    ∙ ap (map (λ (p : Place). p.signal)) (ports_stand side g j d 0 js t S H) ∙ sym (box_signals (by_x (port_boxes (port_signal side) 0 t)))

plain_signals : (bs : List Bool) → signals_of (map plain_jack bs) ≡ bs
plain_signals [] = refl
plain_signals (b ∷ bs) = ap (λ xs. b ∷ xs) (plain_signals bs)

abbrev seen_of : List Bool → List Bool → Bool → Seen
seen_of i o m = record { inlets = i; outlets = o; made = m }

seen_from : (i i' o o' : List Bool) (m : Bool) → i ≡ i' → o ≡ o' → seen_of i o m ≡ seen_of i' o' m
seen_from i i' o o' m a b = ap (λ x. seen_of x o m) a ∙ ap (λ x. seen_of i' x m) b

box_known : (g : Grove) (k : ℕ) (s : NodeSeen) → option_map node_seen (get g.nodes k) ≡ Some s
    → seen_at g k ≡ seen_by (jacks_by Inlets g s.cell.kind s.inner) (jacks_by Outlets g s.cell.kind s.inner) (made_by s.cell.kind s.inner)
box_known g k s h =
    let n = known (get g.nodes k) s h in
    ap (λ o. seen_by (jacks_in Inlets g o) (jacks_in Outlets g o) (made_in o)) n.is
    ∙ ap (λ (y : Kind). seen_by (jacks_by Inlets g y n.node.inner) (jacks_by Outlets g y n.node.inner) (made_by y n.node.inner)) n.kind
    ∙ ap (λ o. seen_by (jacks_by Inlets g s.cell.kind o) (jacks_by Outlets g s.cell.kind o) (made_by s.cell.kind o)) n.inner

leaf_sockets : (g : Grove) (k : Kind) → seen_by (jacks_by Inlets g k None) (jacks_by Outlets g k None) (made_by k None) ≡ sockets_of k
leaf_sockets g k = seen_from _ _ _ _ (is_made k) (plain_signals (on_side Inlets (sockets_of k))) (plain_signals (on_side Outlets (sockets_of k)))

-- the ports of the boxes of a canvas that stands
boxes_stand : (g : Grove) (b d : ℕ) (ks : List ℕ) (t : Trees) → Stands (get g.nodes) (get g.boards) b d ks t → HoldersAreNoPorts t → map (seen_at g) ks ≡ sockets_in t
boxes_stand g b d [] Done S H = refl
boxes_stand g b d (k ∷ ks) Done S H = absurd S
boxes_stand g b d [] (Leaf c rest) S H = absurd S
boxes_stand g b d (k ∷ ks) (Leaf c rest) S H =
    ap (λ x. x ∷ map (seen_at g) ks) (box_known g k _ S.0 ∙ leaf_sockets g c.kind) ∙ ap (λ xs. sockets_of c.kind ∷ xs) (boxes_stand g b d ks rest S.1 H)
boxes_stand g b d [] (Holder c s inner rest) S H = absurd S
boxes_stand g b d (k ∷ ks) (Holder c s inner rest) S H =
    let keys = keys_known (get g.boards S.0) _ S.3 in
    ap (λ x. x ∷ map (seen_at g) ks)
    (box_known g k _ S.2
    ∙ seen_from _ _ _ _ true (around Inlets g S.0 (d + 1) S.1 inner keys S.4 H.2) (around Outlets g S.0 (d + 1) S.1 inner keys S.4 H.2))
    ∙ ap (λ xs. sockets_around inner ∷ xs) (boxes_stand g b d ks rest S.5 H.3)

pub boxes_are : (g : Grove) (c : ℕ) (u : Tree) → CanvasStands g c u → HoldersAreNoPorts u.boxes → boxes_in g c ≡ sockets_in u.boxes
boxes_are g c u C H = ap (map (seen_at g)) (keys_known (get g.boards c) _ C.board) ∙ boxes_stand g c C.depth C.keys u.boxes C.stands H

pub trimmed_is : (g : Grove) (c : ℕ) (u : Tree) → CanvasStands g c u → HoldersAreNoPorts u.boxes → fitting g c ≡ (trimmed_sheet u.boxes u.sheet).wires
trimmed_is g c u C H =
    ap (λ bs. filter (fits bs) (wires_in (get g.boards c))) (boxes_are g c u C H) ∙ ap (filter (fits (sockets_in u.boxes))) (wires_known (get g.boards c) _ C.board)
