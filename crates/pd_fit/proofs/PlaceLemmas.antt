-- The ports among the boxes of a tree.
use Rattle.std.proofs.Common.{◌≡◌, ℕ, ℤ, ◌+◌, Bool, true, false, cond, int_lt, List, [], ◌∷◌, map, Option, Some, None, refl, sym, ap, ◌∙◌}
use Rattle.pd_object.specs.declared.kinds.Kind.{Kind}
use Rattle.pd_tree.specs.Trees.{Cell, Trees, Done, Leaf, Holder}
use Rattle.pd_tree.specs.Ports.{PortBox, Sockets, with_port, port_boxes, placed, by_x, inlet_signal, outlet_signal, sockets_of, sockets_around, sockets_in}
use Rattle.pd_fit.specs.declared.ports.Side.{Side}
use Rattle.pd_fit.specs.declared.ports.Side.TheVariants.{Inlets, Outlets}
use Rattle.pd_fit.specs.declared.ports.Place.{Place}
use Rattle.pd_fit.specs.Seeing.{View, put, with_place, port_on, places_among, signals_of, leaf_view, holder_view, views_in, sockets_seen}

-- where a port stands and whether it carries signals
place_of : PortBox → Place
place_of p = record { x = p.x; is_signal = p.is_signal }

ap-cond : {X Y : Type 0} (f : X → Y) (b : Bool) (x y : X) → f (cond b x y) ≡ cond b (f x) (f y)
ap-cond f true x y = refl
ap-cond f false x y = refl

boxes_put : (p : PortBox) (qs : List PortBox) → map place_of (placed p qs) ≡ put (place_of p) (map place_of qs)
unfolding place_of
boxes_put p [] = refl
boxes_put p (q ∷ qs) =
    ap-cond (map place_of) (int_lt q.x p.x) (q ∷ placed p qs) (p ∷ q ∷ qs)
    ∙ ap (λ xs. cond (int_lt q.x p.x) (place_of q ∷ xs) (place_of p ∷ place_of q ∷ map place_of qs)) (boxes_put p qs)

port_next : (n : ℕ) (x : ℤ) (o : Option Bool) (places : List Place) (boxes : List PortBox) → places ≡ map place_of (by_x boxes)
    → with_place o x places ≡ map place_of (by_x (with_port o n x boxes))
unfolding place_of
port_next n x None places boxes h = h
port_next n x (Some b) places boxes h =
    ap (put (record { x = x; is_signal = b })) h ∙ sym (boxes_put (record { number = n; x = x; is_signal = b }) (by_x boxes))

-- which kinds are ports on a side
abbrev kind_on : Side → Kind → Option Bool
kind_on Inlets k = inlet_signal k
kind_on Outlets k = outlet_signal k

leaf_on : (side : Side) (c : Cell) → port_on side (leaf_view c) ≡ kind_on side c.kind
leaf_on Inlets c = refl
leaf_on Outlets c = refl

holder_on : (side : Side) (c : Cell) (vs : List View) → port_on side (holder_view c vs) ≡ None
holder_on Inlets c vs = refl
holder_on Outlets c vs = refl

-- the ports among boxes are those of the tree
places_are : (side : Side) (n : ℕ) (t : Trees) → places_among side (views_in t) ≡ map place_of (by_x (port_boxes (kind_on side) n t))
places_are side n Done = refl
places_are side n (Leaf c rest) =
    ap (λ o. with_place o c.head.x (places_among side (views_in rest))) (leaf_on side c)
    ∙ port_next n c.head.x (kind_on side c.kind) (places_among side (views_in rest)) (port_boxes (kind_on side) (n + 1) rest) (places_are side (n + 1) rest)
places_are side n (Holder c s inner rest) =
    ap (λ o. with_place o c.head.x (places_among side (views_in rest))) (holder_on side c (views_in inner)) ∙ places_are side (n + 1) rest

box_signals : (boxes : List PortBox) → signals_of (map place_of boxes) ≡ map (λ (p : PortBox). p.is_signal) boxes
unfolding place_of
box_signals [] = refl
box_signals (p ∷ ps) = ap (λ xs. p.is_signal ∷ xs) (box_signals ps)

signals_are : (side : Side) (t : Trees) → signals_of (places_among side (views_in t)) ≡ map (λ (p : PortBox). p.is_signal) (by_x (port_boxes (kind_on side) 0 t))
signals_are side t = ap signals_of (places_are side 0 t) ∙ box_signals (by_x (port_boxes (kind_on side) 0 t))

abbrev made_with : List Bool → List Bool → Sockets
made_with i o = record { inlets = i; outlets = o; made = true }

around : (c : Cell) (t : Trees) → (holder_view c (views_in t)).sockets ≡ sockets_around t
around c t =
    ap (λ i. made_with i (signals_of (places_among Outlets (views_in t)))) (signals_are Inlets t)
    ∙ ap (made_with (map (λ (p : PortBox). p.is_signal) (by_x (port_boxes (kind_on Inlets) 0 t)))) (signals_are Outlets t)

-- the ports of the boxes of a canvas
pub sockets_are : (t : Trees) → sockets_seen (views_in t) ≡ sockets_in t
sockets_are Done = refl
sockets_are (Leaf c rest) = ap (λ xs. sockets_of c.kind ∷ xs) (sockets_are rest)
sockets_are (Holder c s inner rest) =
    ap (λ x. x ∷ sockets_seen (views_in rest)) (around c inner) ∙ ap (λ xs. sockets_around inner ∷ xs) (sockets_are rest)
