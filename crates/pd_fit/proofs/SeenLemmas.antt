-- Boxes as wires see them.
use Rattle.std.proofs.Common.{◌≡◌, ℕ, ℤ, zero, suc, Bool, List, [], ◌∷◌, take, drop, Option, refl, sym, ap, ◌∙◌}
use Rattle.std.specs.Prelude.{option_map, slice_get}
use Rattle.std.proofs.lemmas.List.{take-map, drop-map}
use Rattle.pd_canvas.specs.declared.wires.Wire.{Wire}
use Rattle.pd_tree.specs.Trees.{Cell}
use Rattle.pd_tree.specs.Ports.{fits, fits_between, is_made, inlet_signal, outlet_signal, sockets_of}
use Rattle.pd_fit.specs.declared.boxes.Seen.{Seen}
use Rattle.pd_fit.specs.Seeing.{View, view_of, views_of, sockets_of_box, sockets_seen, leaf_view, holder_view}

abbrev view_by : List Bool → List Bool → Bool → ℤ → Option Bool → Option Bool → View
view_by i o m x p q = record { sockets = record { inlets = i; outlets = o; made = m }; x = x; inlet = p; outlet = q }

pub leaf_seen : (c : Cell) (i o : List Bool) (m : Bool) (p q : Option Bool) → i ≡ (sockets_of c.kind).inlets → o ≡ (sockets_of c.kind).outlets → m ≡ is_made c.kind
    → p ≡ inlet_signal c.kind → q ≡ outlet_signal c.kind → view_by i o m c.head.x p q ≡ leaf_view c
leaf_seen c i o m p q hi ho hm hp hq =
    ap (λ i. view_by i o m c.head.x p q) hi ∙ ap (λ o. view_by (sockets_of c.kind).inlets o m c.head.x p q) ho
    ∙ ap (λ m. view_by (sockets_of c.kind).inlets (sockets_of c.kind).outlets m c.head.x p q) hm
    ∙ ap (λ p. view_by (sockets_of c.kind).inlets (sockets_of c.kind).outlets (is_made c.kind) c.head.x p q) hp
    ∙ ap (λ q. view_by (sockets_of c.kind).inlets (sockets_of c.kind).outlets (is_made c.kind) c.head.x (inlet_signal c.kind) q) hq

socket_at : (xs : List Seen) (i : ℕ) → option_map sockets_of_box (slice_get xs i) ≡ slice_get (sockets_seen (views_of xs)) i
socket_at [] zero = refl
socket_at [] (suc i) = refl
socket_at (x ∷ xs) zero = refl
socket_at (x ∷ xs) (suc i) = socket_at xs i

-- a wire fits by the boxes that are found
pub fits_at : (xs : List Seen) (w : Wire) (o p : Option Seen) → o ≡ slice_get xs w.source → p ≡ slice_get xs w.sink
    → fits_between (option_map sockets_of_box o) (option_map sockets_of_box p) w ≡ fits (sockets_seen (views_of xs)) w
fits_at xs w o p ho hp =
    ap (λ x. fits_between (option_map sockets_of_box x) (option_map sockets_of_box p) w) ho
    ∙ ap (λ x. fits_between (option_map sockets_of_box (slice_get xs w.source)) (option_map sockets_of_box x) w) hp
    ∙ ap (λ x. fits_between x (option_map sockets_of_box (slice_get xs w.sink)) w) (socket_at xs w.source)
    ∙ ap (λ x. fits_between (slice_get (sockets_seen (views_of xs)) w.source) x w) (socket_at xs w.sink)

pub views_taken : (n : ℕ) (xs ys : List Seen) → ys ≡ take n xs → views_of ys ≡ take n (views_of xs)
views_taken n xs ys h = ap views_of h ∙ sym (take-map view_of n xs)

pub views_dropped : (n : ℕ) (xs ys : List Seen) → ys ≡ drop n xs → views_of ys ≡ drop n (views_of xs)
views_dropped n xs ys h = ap views_of h ∙ sym (drop-map view_of n xs)

-- a box that holds the first boxes, before the others
pub holder_stacked : (c : Cell) (n : ℕ) (seen : Seen) (xs taken rest all : List Seen) → view_of seen ≡ holder_view c (views_of taken) → taken ≡ take n xs → rest ≡ drop n xs
    → all ≡ seen ∷ rest → views_of all ≡ holder_view c (take n (views_of xs)) ∷ drop n (views_of xs)
holder_stacked c n seen xs taken rest all h t r a =
    ap views_of a ∙ ap (λ v. v ∷ views_of rest) (h ∙ ap (holder_view c) (views_taken n xs taken t)) ∙ ap (λ vs. holder_view c (take n (views_of xs)) ∷ vs) (views_dropped n xs rest r)
