-- The boxes of canvases that have come get room for their signal wires, and keep it while the wires of others are laid.
use Rattle.std.proofs.Common.{◌≡◌, ◌≢◌, ℕ, zero, suc, ◌+◌, ◌-◌, ◌<◌, ◌≤◌, List, [], ◌∷◌, ◌++◌, map, length, take, drop, get_or, Option, Some, None, IsSome, IsTrue, false, true, refl, sym, ap, ◌∙◌, subst, inl, inr, arith}
use Rattle.std.specs.Prelude.{slice_get, vec_len, vec_capacity, ◌⊎◌}
use Rattle.std.specs.List.{AllZip}
use mathlib.Core.Logic.{⊎_elim}
use Rattle.std.proofs.lemmas.Bool.{cases_eq, false≢true}
use Rattle.std.proofs.lemmas.List.{take_more}
use Rattle.std.proofs.lemmas.Option.{none-some, same_Some, slice_get_within}
use Rattle.slab.specs.Slab.{get}
use Rattle.pd_canvas.specs.declared.wires.Wire.{Wire}
use Rattle.pd_links.specs.declared.links.Links.{Links}
use Rattle.pd_links.specs.declared.opening.LinkRoom.{LinkRoom}
use Rattle.pd_links.specs.Linked.{feeders_of, followers_of, spare_from, spare_into, KeepsLinks}
use Rattle.pd_order.specs.Graph.{tally}
use Rattle.pd_grove.specs.declared.boards.Board.{Board}
use Rattle.pd_grove.specs.declared.grove.Grove.{Grove}
use Rattle.pd_grove.specs.Owning.{AreOwn}
use Rattle.pd_grove.specs.Telling.{inner_in, keys_in}
use Rattle.pd_owning.specs.Bound.{is_among}
use Rattle.pd_web.specs.declared.web.Web.{Web}
use Rattle.pd_web.specs.Canvases.{keys_at}
use Rattle.pd_web.specs.Lines.{wires_in}
use Rattle.pd_ports.specs.Known.{HoldAlone}
use Rattle.pd_patch.specs.Listing.{IsThere}
use Rattle.pd_patch.specs.Numbers.{AreApart, IsOut}
use Rattle.pd_placing.specs.Placing.{IsLoose}
use Rattle.pd_wiring.specs.Graphs.{AreWired}
use Rattle.pd_instances.specs.Lay.{AreNextRows, HasSpare, IsEmptyRoom, KeepsRow, OpensRows, TakesWires}
use Rattle.pd_instances.specs.Needs.{AreLinkRooms, Inside, inside_at, inside_held, inside_seen, IsLinkRoom}
use Rattle.pd_instances.proofs.OpenLemmas.{is_true, last_or}
use Rattle.pd_instances.proofs.NumberLemmas.{apart_canvas}
use Rattle.pd_instances.proofs.WireLemmas.{row_same, row_still}

-- Links that stay.

pub links_same : (l : Links) → KeepsLinks l l
links_same l = record { feeders = λ x. refl; followers = λ x. refl; reach = λ end r. r }

pub links_still : (l l' l'' : Links) → KeepsLinks l l' → KeepsLinks l' l'' → KeepsLinks l l''
links_still l l' l'' a b = record { feeders = λ x. b.feeders x ∙ a.feeders x; followers = λ x. b.followers x ∙ a.followers x; reach = λ end r. b.reach end (a.reach end r) }

pub wired_kept : (g : Grove) (w : Web) (l l' : Links) → AreWired g w l → KeepsLinks l l' → AreWired g w l'
wired_kept g w l l' W K = record {
  own = W.own;
  ports = W.ports;
  inside = W.inside;
  linked = record { followers = λ k j. ap (tally j) (K.followers k) ∙ W.linked.followers k j; feeders = λ k j. ap (tally k) (K.feeders j) ∙ W.linked.feeders k j };
}

pub none_still : (l l' : Links) (k : ℕ) → KeepsLinks l l' → IsLoose l k → IsLoose l' k
none_still l l' k K H = record { unfed = K.feeders k ∙ H.unfed; unfollowed = K.followers k ∙ H.unfollowed }

pub kept_row : (l l' : Links) (k : ℕ) → KeepsLinks l l' → spare_from l' k ≡ spare_from l k → spare_into l' k ≡ spare_into l k → KeepsRow l l' k
kept_row l l' k K from into = record { followers = ap length (K.followers k); feeders = ap length (K.feeders k); from = from; into = into }

-- The rooms of one canvas.

room_of : (rooms : List LinkRoom) (n m : ℕ) → n < m → m ≡ length rooms → (room : LinkRoom) × (slice_get rooms n ≡ Some room)
room_of [] n m l e = absurd (omega (arith, l, e))
room_of (r ∷ rooms) zero m l e = (r, refl)
room_of (r ∷ rooms) (suc n) (suc m) l e = room_of rooms n m (omega (arith, l)) (omega (arith, e))
room_of (r ∷ rooms) (suc n) zero l e = absurd (omega (arith, l))

pub takes_opened : (l l' : Links) (keys : List ℕ) (ws : List Wire) (rooms : List LinkRoom) → AreLinkRooms (record { wires = ws; boxes = length keys }) rooms → OpensRows l l' keys rooms
    → ((n k : ℕ) → slice_get keys n ≡ Some k → IsLoose l k) → TakesWires l' keys ws
takes_opened l l' keys ws rooms A O bare = record {
  from = λ n k at.
      let r = room_of rooms n (length keys) (slice_get_within keys n k at) (sym A.all) in
      let a = (A.each n r.0 r.1).from_fits in
      let e = (O.opens n k r.0 at r.1).from in omega (arith, a, e);
  into = λ n k at.
      let r = room_of rooms n (length keys) (slice_get_within keys n k at) (sym A.all) in
      let a = (A.each n r.0 r.1).into_fits in
      let e = (O.opens n k r.0 at r.1).into in omega (arith, a, e);
  few_from = λ n k at.
      let e : length (followers_of l' k) ≡ 0 = ap length (O.keeps.followers k ∙ (bare n k at).unfollowed) in
      let f = A.few in omega (arith, e, f);
  few_into = λ n k at.
      let e : length (feeders_of l' k) ≡ 0 = ap length (O.keeps.feeders k ∙ (bare n k at).unfed) in
      let f = A.few in omega (arith, e, f);
}

-- what a canvas takes, it takes while the rooms of its boxes stay
pub takes_kept : (l l' : Links) (keys : List ℕ) (ws : List Wire) → ((n k : ℕ) → slice_get keys n ≡ Some k → KeepsRow l l' k) → TakesWires l keys ws → TakesWires l' keys ws
takes_kept l l' keys ws K T = record {
  from = λ n k at. (let a = T.from n k at in let e = (K n k at).from in omega (arith, a, e));
  into = λ n k at. (let a = T.into n k at in let e = (K n k at).into in omega (arith, a, e));
  few_from = λ n k at. (let a = T.few_from n k at in let e = (K n k at).followers in omega (arith, a, e));
  few_into = λ n k at. (let a = T.few_into n k at in let e = (K n k at).feeders in omega (arith, a, e));
}

-- Rooms of canvases.

drop_zero : {X : Type 0} (xs : List X) → drop 0 xs ≡ xs
drop_zero [] = refl
drop_zero (x ∷ xs) = refl

pub next_rows : (is js : List Inside) (rows : List (List LinkRoom)) → AllZip AreLinkRooms (is ++ js) rows → length is ≤ 1 → AreNextRows is rows
next_rows [] js rows A l = tt
next_rows (i ∷ is) js [] A l = absurd A
next_rows (i ∷ is) js (r ∷ rows) A l = A.0

-- the first list of rooms
pub front_room : {X : Type 0} (f : X → List LinkRoom) (i : Inside) (x : X) (rest all : List X) → all ≡ x ∷ rest → AreNextRows (i ∷ []) (map f all) → AreLinkRooms i (f x)
front_room f i x rest all e A = subst (λ xs. AreNextRows (i ∷ []) (map f xs)) e A

pub rows_left : (is js : List Inside) (rows : List (List LinkRoom)) → AllZip AreLinkRooms (is ++ js) rows → AllZip AreLinkRooms js (drop (length is) rows)
rows_left [] js rows A = subst (λ rs. AllZip AreLinkRooms js rs) (sym (drop_zero rows)) A
rows_left (i ∷ is) js [] A = absurd A
rows_left (i ∷ is) js (r ∷ rows) A = rows_left is js rows A.1

pub rows_dropped : {X Y : Type 0} (f : X → Y) (n : ℕ) (xs : List X) → map f (drop n xs) ≡ drop n (map f xs)
rows_dropped f zero xs = ap (map f) (drop_zero xs) ∙ sym (drop_zero (map f xs))
rows_dropped f (suc n) [] = refl
rows_dropped f (suc n) (x ∷ xs) = rows_dropped f n xs

-- the canvas that a box holds
pub inside_is : (g : Grove) (k c : ℕ) → inner_in (get g.nodes k) ≡ Some c → IsSome (get g.boards c) → inside_at g k ≡ record { wires = wires_in (get g.boards c); boxes = length (keys_at g c) } ∷ []
inside_is g k c e live = ap (inside_held g) e ∙ seen (get g.boards c) live
  where
    seen : (o : Option Board) → IsSome o → inside_seen o ≡ record { wires = wires_in o; boxes = length (keys_in o) } ∷ []
    seen None l = absurd (false≢true l)
    seen (Some b) l = refl

-- One canvas after the other.

module _ (g : Grove) (own : AreOwn (get g.nodes) (get g.boards)) (alone : HoldAlone g) (mid new : Links) (ks : List ℕ) (k : ℕ) (fresh : is_among ks k ≡ false)
    (others : (c x : ℕ) → inner_in (get g.nodes k) ≡ Some c → IsOut (keys_at g c) x → KeepsRow mid new x) (none : inner_in (get g.nodes k) ≡ None → new ≡ mid) where
  abbrev Taken : Links → ℕ → Type 0
  Taken l c = TakesWires l (keys_at g c) (wires_in (get g.boards c))

  -- the boxes of another canvas keep their rooms
  pub other_rows : (x d y : ℕ) → x ≢ k → inner_in (get g.nodes x) ≡ Some d → IsThere (keys_at g d) y → KeepsRow mid new y
  other_rows x d y differ holds at = by (inner_in (get g.nodes k)) refl
    where
      by : (o : Option ℕ) → inner_in (get g.nodes k) ≡ o → KeepsRow mid new y
      by None e = subst (λ (l : Links). KeepsRow mid l y) (sym (none e)) (row_same mid y)
      by (Some c) e = others c y e (apart_canvas g own d c y (λ s. differ (alone x k d holds (e ∙ ap (λ z. Some z) (sym s)))) at)

  pub taken_other : (x d : ℕ) → x ≢ k → inner_in (get g.nodes x) ≡ Some d → Taken mid d → Taken new d
  taken_other x d differ holds T = takes_kept mid new (keys_at g d) (wires_in (get g.boards d)) (λ n y at. other_rows x d y differ holds (n, at)) T

  pub taken_more : ((x c : ℕ) → IsTrue (is_among ks x) → inner_in (get g.nodes x) ≡ Some c → Taken mid c) → ((c : ℕ) → inner_in (get g.nodes k) ≡ Some c → Taken new c)
      → (x c : ℕ) → IsTrue (is_among (ks ++ k ∷ []) x) → inner_in (get g.nodes x) ≡ Some c → Taken new c
  taken_more before here x c t e = ⊎_elim
      (λ (s : x ≡ k). here c (ap (λ y. inner_in (get g.nodes y)) (sym s) ∙ e))
      (λ (s : IsTrue (is_among ks x)). taken_other x c (λ q. differ s q) e (before x c s e)) (last_or ks k x t)
    where
      differ : IsTrue (is_among ks x) → x ≡ k → ⊥
      differ s q = false≢true (sym fresh ∙ ap (is_among ks) (sym q) ∙ is s)
        where
          is : IsTrue (is_among ks x) → is_among ks x ≡ true
          is v = is_true (is_among ks x) v

-- The rooms of one canvas, from the last one to the first.

last_at : (rows : List LinkRoom) (i : ℕ) → i < length rows → (room : LinkRoom) × (slice_get rows i ≡ Some room) × (take (suc i) rows ≡ take i rows ++ room ∷ [])
last_at [] i l = absurd (omega (arith, l))
last_at (r ∷ rows) zero l = (r, refl, refl)
last_at (r ∷ rows) (suc i) l = let R = last_at rows i (omega (arith, l)) in (R.0, R.1, ap (λ xs. r ∷ xs) R.2)

pub last_room : (rows : List LinkRoom) (i : ℕ) → 0 < i → i ≤ length rows → (room : LinkRoom) × (slice_get rows (i - 1) ≡ Some room) × (take i rows ≡ take (i - 1) rows ++ room ∷ [])
last_room rows i l m =
    let R = last_at rows (i - 1) (omega (arith, l, m)) in
    let e : i ≡ suc (i - 1) = omega (arith, l) in
    (R.0, R.1, ap (λ n. take n rows) e ∙ R.2)

-- from a number on boxes have their rooms
pub record OpensFrom (l l' : Links) (keys : List ℕ) (rooms : List LinkRoom) (i : ℕ) : Type 0 where
  pub keeps : KeepsLinks l l'
  pub opens : (n k : ℕ) (room : LinkRoom) → i ≤ n → slice_get keys n ≡ Some k → slice_get rooms n ≡ Some room → HasSpare l' k room
  pub others : (k : ℕ) → ((n : ℕ) → i ≤ n → slice_get keys n ≢ Some k) → KeepsRow l l' k

pub opens_none : (l : Links) (keys : List ℕ) (rooms : List LinkRoom) (i : ℕ) → length keys ≤ i → OpensFrom l l keys rooms i
opens_none l keys rooms i past = record {
  keeps = links_same l;
  opens = λ n k room low at. (let w = slice_get_within keys n k at in absurd (omega (arith, w, low, past)));
  others = λ k out. row_same l k;
}

pub opens_all : (l l' : Links) (keys : List ℕ) (rooms : List LinkRoom) (i : ℕ) → i ≤ 0 → OpensFrom l l' keys rooms i → OpensRows l l' keys rooms
opens_all l l' keys rooms i z O = record {
  keeps = O.keeps;
  opens = λ n k room at is. O.opens n k room (omega (arith, z)) at is;
  others = λ k out. O.others k (λ n low. out n);
}

pub opens_next : (l mid new : Links) (keys : List ℕ) (rooms : List LinkRoom) (i key : ℕ) (room : LinkRoom) → AreApart keys → 0 < i → slice_get keys (i - 1) ≡ Some key → slice_get rooms (i - 1) ≡ Some room
    → OpensFrom l mid keys rooms i → KeepsLinks mid new → HasSpare new key room → ((k : ℕ) → k ≢ key → KeepsRow mid new k) → OpensFrom l new keys rooms (i - 1)
opens_next l mid new keys rooms i key room apart some at is O K S stay = record {
  keeps = links_still l mid new O.keeps K;
  opens = λ n k r low there got. elim (cases_eq n (i - 1)) [
    | inl e ↦
        let same : k ≡ key = same_Some k key (sym there ∙ ap (slice_get keys) e ∙ at) in
        let alike : r ≡ room = same_Some r room (sym got ∙ ap (slice_get rooms) e ∙ is) in
        subst (λ x. HasSpare new x r) (sym same) (subst (λ (x : LinkRoom). HasSpare new key x) (sym alike) S)
    | inr d ↦
        let H = O.opens n k r (omega (arith, low, d, some)) there got in
        let R = stay k (λ s. d (apart n (i - 1) key (there ∙ ap (λ x. Some x) s) at)) in
        record { into = R.into ∙ H.into; from = R.from ∙ H.from }
  ];
  others = λ k out. row_still l mid new k (O.others k (λ n low. out n (omega (arith, low)))) (stay k (λ s. out (i - 1) (omega arith) (at ∙ ap (λ x. Some x) (sym s))));
}

-- Lists.

pub take_whole : {X : Type 0} (xs : List X) (n : ℕ) → length xs ≡ n → xs ≡ take n xs
take_whole [] zero e = refl
take_whole [] (suc n) e = refl
take_whole (x ∷ xs) zero e = absurd (omega (arith, e))
take_whole (x ∷ xs) (suc n) e = ap (λ ys. x ∷ ys) (take_whole xs n (omega (arith, e)))

pub key_numbered : (ks : List ℕ) (n : ℕ) → n < length ks → slice_get ks n ≡ Some (get_or ks n 0)
key_numbered [] n l = absurd (omega (arith, l))
key_numbered (k ∷ ks) zero l = refl
key_numbered (k ∷ ks) (suc n) l = key_numbered ks n (omega (arith, l))

pub taken_among : (all ks : List ℕ) (k x : ℕ) → all ≡ ks ++ k ∷ [] → IsTrue (is_among all x) → IsTrue (is_among (ks ++ k ∷ []) x)
taken_among all ks k x e t = subst (λ xs. IsTrue (is_among xs x)) e t

no_cons : {X : Type 0} (x : X) (xs : List X) → [] ≡ x ∷ xs → ⊥
no_cons x xs e = let l : 0 ≡ suc (length xs) = ap length e in absurd (omega (arith, l))

abbrev first_of : {X : Type 0} (d : X) → List X → X
first_of d [] = d
first_of d (x ∷ xs) = x

abbrev after_first : {X : Type 0} → List X → List X
after_first [] = []
after_first (x ∷ xs) = xs

not_two : {X : Type 0} (x y z : X) (xs : List X) → x ∷ [] ≡ y ∷ (xs ++ z ∷ []) → ⊥
not_two x y z [] e = no_cons z [] (ap after_first e)
not_two x y z (w ∷ xs) e = no_cons w (xs ++ z ∷ []) (ap after_first e)

-- lists with a last element are the same only where both parts are
pub last_same : {X : Type 0} (xs ys : List X) (x y : X) → xs ++ x ∷ [] ≡ ys ++ y ∷ [] → x ≡ y
last_same [] [] x y e = ap (first_of x) e
last_same [] (z ∷ ys) x y e = absurd (not_two x z y ys e)
last_same (z ∷ xs) [] x y e = absurd (not_two y z x xs (sym e))
last_same (z ∷ xs) (w ∷ ys) x y e = last_same xs ys x y (ap after_first e)

pub last_rest : {X : Type 0} (xs ys : List X) (x y : X) → xs ++ x ∷ [] ≡ ys ++ y ∷ [] → xs ≡ ys
last_rest [] [] x y e = refl
last_rest [] (z ∷ ys) x y e = absurd (not_two x z y ys e)
last_rest (z ∷ xs) [] x y e = absurd (not_two y z x xs (sym e))
last_rest (z ∷ xs) (w ∷ ys) x y e = ap (λ v. v ∷ xs) (ap (first_of z) e) ∙ ap (λ vs. w ∷ vs) (last_rest xs ys x y (ap after_first e))
