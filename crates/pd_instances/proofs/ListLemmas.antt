-- Rooms that are set aside one behind the other.
use Rattle.std.proofs.Common.{◌≡◌, ℕ, zero, suc, ◌+◌, ◌<◌, true, map, Option, Some, None, List, [], ◌∷◌, ◌++◌, append-nil, append_assoc, refl, length, length-append, take, get_or, sym, ap, ◌∙◌, subst, arith}
use Rattle.std.specs.Prelude.{is_some, slice_get, slice_index_or}
use Rattle.std.specs.List.{AllZip}
use Rattle.std.proofs.lemmas.Bool.{false≢true}
use Rattle.std.proofs.lemmas.Option.{none-some, same_Some}
use Rattle.std.proofs.lemmas.List.{take_more, map-append}
use Rattle.pd_canvas.specs.declared.wires.Wire.{Wire}
use Rattle.pd_links.specs.declared.opening.LinkRoom.{LinkRoom}
use Rattle.pd_order.specs.Listing.{Listing}
use Rattle.pd_patch.specs.Telling.{order_in}
use Rattle.pd_placing.specs.Room.{TakesMore, IsSameButRoom as IsSameOrder}
use Rattle.pd_boxes.proofs.ReserveLemmas.{same_order}
use Rattle.pd_tree.specs.declared.rows.Row.{Row}
use Rattle.pd_tree.specs.declared.rows.Sheet.{Sheet}
use Rattle.pd_tree.specs.Trees.{Stand, stand_of, stands_in}
use Rattle.pd_instances.specs.Needs.{inside_of, inside_with, insides_of, wires_all, AreLinkRooms, Inside, IsOrderRoom}

pub zip_last : {X Y : Type 0} (R : X → Y → Type 0) (xs : List X) (ys : List Y) (x : X) (y : Y) → AllZip R xs ys → R x y → AllZip R (xs ++ x ∷ []) (ys ++ y ∷ [])
zip_last R [] [] x y A r = (r, tt)
zip_last R [] (w ∷ ys) x y A r = absurd A
zip_last R (v ∷ xs) [] x y A r = absurd A
zip_last R (v ∷ xs) (w ∷ ys) x y A r = (A.0, zip_last R xs ys x y A.1 r)

-- one more of a list by number
pub zip_next : {X Y : Type 0} (R : X → Y → Type 0) (xs : List X) (ys : List Y) (i : ℕ) (d : X) (y : Y) → i < length xs → AllZip R (take i xs) ys → R (get_or xs i d) y → AllZip R (take (i + 1) xs) (ys ++ y ∷ [])
zip_next R xs ys i d y low A r = subst (λ zs. AllZip R zs (ys ++ y ∷ [])) (sym (take_more xs i d low)) (zip_last R (take i xs) ys (get_or xs i d) y A r)

pub zip_more : {X Y : Type 0} (R : X → Y → Type 0) (xs : List X) (ys zs : List Y) (i : ℕ) (d : X) (y : Y) → i < length xs → zs ≡ ys ++ y ∷ [] → AllZip R (take i xs) ys → R (get_or xs i d) y → AllZip R (take (i + 1) xs) zs
zip_more R xs ys zs i d y low e A r = subst (λ ws. AllZip R (take (i + 1) xs) ws) (sym e) (zip_next R xs ys i d y low A r)

insides_append : (ss ts : List Stand) → insides_of (ss ++ ts) ≡ insides_of ss ++ insides_of ts
insides_append [] ts = refl
insides_append (s ∷ ss) ts = ap (λ is. inside_of s.sheet s.boxes ++ is) (insides_append ss ts) ∙ sym (append_assoc (inside_of s.sheet s.boxes) (insides_of ss) (insides_of ts))

-- the canvases of one row more
pub insides_next : (rows : List Row) (n : ℕ) (row : Row) → n < length rows → row ≡ get_or rows n row
    → insides_of (stands_in (take (n + 1) rows)) ≡ insides_of (stands_in (take n rows)) ++ inside_of row.sheet row.boxes
insides_next rows n row low is =
    ap (λ rs. insides_of (stands_in rs)) (take_more rows n row low ∙ ap (λ r. take n rows ++ r ∷ []) (sym is))
    ∙ ap insides_of (map-append stand_of (take n rows) (row ∷ []))
    ∙ insides_append (stands_in (take n rows)) (stand_of row ∷ [])
    ∙ ap (λ is. insides_of (stands_in (take n rows)) ++ is) (append-nil (inside_of row.sheet row.boxes))

pub wires_append : (is js : List Inside) → wires_all (is ++ js) ≡ wires_all is + wires_all js
wires_append [] js = omega arith
wires_append (i ∷ is) js = let h = wires_append is js in omega (arith, h)

-- a canvas more, where a box holds one
pub order_added : (o : Option Sheet) (n : ℕ) (insides : List Inside) (orders new : List Listing) (x : Listing) → is_some o ≡ true → new ≡ orders ++ x ∷ []
    → (x.chain ≡ []) × (x.stuck ≡ []) × (x.spots ≡ []) × TakesMore x n → AllZip IsOrderRoom insides orders → AllZip IsOrderRoom (insides ++ inside_of o n) new
order_added None n insides orders new x some e R A = absurd (false≢true some)
order_added (Some s) n insides orders new x some e R A = subst (λ os. AllZip IsOrderRoom (insides ++ inside_with s.wires n ∷ []) os) (sym e)
    (zip_last IsOrderRoom insides orders (inside_with s.wires n) x A (record { chain = R.0; stuck = R.1; spots = R.2; takes = R.3 }))

pub rooms_added : {X : Type 0} (f : X → List LinkRoom) (o : Option Sheet) (s : Sheet) (n : ℕ) (ws : List Wire) (insides : List Inside) (xs ys : List X) (x : X) → o ≡ Some s → ws ≡ s.wires → ys ≡ xs ++ x ∷ []
    → AreLinkRooms (inside_with ws n) (f x) → AllZip AreLinkRooms insides (map f xs) → AllZip AreLinkRooms (insides ++ inside_of o n) (map f ys)
rooms_added f o s n ws insides xs ys x is same e R A =
    subst (λ (q : Option Sheet). AllZip AreLinkRooms (insides ++ inside_of q n) (map f ys)) (sym is)
    (subst (λ zs. AllZip AreLinkRooms (insides ++ inside_with s.wires n ∷ []) zs) (sym (ap (map f) e ∙ map-append f xs (x ∷ [])))
    (zip_last AreLinkRooms insides (map f xs) (inside_with s.wires n) (f x) A (subst (λ (vs : List Wire). AreLinkRooms (inside_with vs n) (f x)) same R)))

-- what holds of each of a list, and of one more
last_is : {X : Type 0} (P : ℕ → X → Type 0) (xs : List X) (x : X) → ((n : ℕ) (y : X) → slice_get xs n ≡ Some y → P n y) → P (length xs) x → (n : ℕ) (y : X) → slice_get (xs ++ x ∷ []) n ≡ Some y → P n y
last_is P [] x A here zero y at = subst (λ z. P 0 z) (same_Some x y at) here
last_is P [] x A here (suc n) y at = absurd (none-some y at)
last_is P (z ∷ xs) x A here zero y at = A zero y at
last_is P (z ∷ xs) x A here (suc n) y at = last_is (λ m. P (suc m)) xs x (λ m w. A (suc m) w) here n y at

pub each_next : {X : Type 0} (P : ℕ → X → Type 0) (xs ys : List X) (x : X) (i : ℕ) → ys ≡ xs ++ x ∷ [] → length xs ≡ i → ((n : ℕ) (y : X) → slice_get xs n ≡ Some y → P n y) → P i x
    → (n : ℕ) (y : X) → slice_get ys n ≡ Some y → P n y
each_next P xs ys x i e len A here n y at =
    last_is P xs x A (subst (λ m. P m x) (sym len) here) n y (ap (λ zs. slice_get zs n) (sym e) ∙ at)

pub number_is : (xs : List ℕ) (i r x : ℕ) → slice_get xs i ≡ Some x → r ≡ slice_index_or xs i r → r ≡ x
number_is [] i r x at e = absurd (none-some x at)
number_is (y ∷ xs) zero r x at e = e ∙ same_Some y x at
number_is (y ∷ xs) (suc i) r x at e = number_is xs i r x at e

pub one_longer : {X : Type 0} (xs ys : List X) (x : X) (i : ℕ) → ys ≡ xs ++ x ∷ [] → length xs ≡ i → length ys ≡ i + 1
one_longer xs ys x i e n = let l = ap length e ∙ length-append xs (x ∷ []) in omega (arith, l, n)

pub orders_kept : (old new : List (Option Listing)) → ((c : ℕ) → order_in new c ≡ order_in old c) → (c : ℕ) → IsSameOrder (order_in old c) (order_in new c)
orders_kept old new same c = subst (λ o. IsSameOrder (order_in old c) o) (sym (same c)) (same_order (order_in old c))
