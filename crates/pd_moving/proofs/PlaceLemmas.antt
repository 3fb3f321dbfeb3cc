-- Feeds in order, with one more at its place.
use Rattle.std.proofs.Common.{arith, ◌≡◌, ℕ, zero, suc, ◌<◌, ◌≤◌, Bool, true, false, cond, List, [], ◌∷◌, filter, length, refl, ap, subst, inl, inr}
use Rattle.std.specs.Prelude.{Some, slice_get, slice_index_or}
use Rattle.std.specs.List.{insert}
use Rattle.std.proofs.lemmas.Bool.Decides.{nat_tests}
use Rattle.std.proofs.lemmas.Option.{none-some, same_Some, slice_get-get_or}
use Rattle.pd_web.specs.declared.lines.Line.{Line}
use Rattle.pd_web.specs.declared.web.Hop.{Hop}
use Rattle.pd_web.specs.Changes.{hop_at}
use Rattle.pd_seek.specs.Places.{comes_later, IsPlace, IsNoLater, AreInOrder}
use Rattle.pd_moving.proofs.MeetLemmas.{passed}

-- where an element of a list with one more stands
data Stands {X : Type 0} (xs : List X) (p : ℕ) (x : X) (i : ℕ) (y : X) : Type 0 where
  before : i < p → slice_get xs i ≡ Some y → Stands xs p x i y
  here : i ≡ p → x ≡ y → Stands xs p x i y
  behind : (n : ℕ) → i ≡ suc n → p ≤ n → slice_get xs n ≡ Some y → Stands xs p x i y

shifted : {X : Type 0} (z : X) (xs : List X) (p : ℕ) (x : X) (i : ℕ) (y : X) → Stands xs p x i y → Stands (z ∷ xs) (suc p) x (suc i) y
shifted z xs p x i y (before l at) = before (omega (arith, l)) at
shifted z xs p x i y (here e s) = here (ap (λ (n : ℕ). suc n) e) s
shifted z xs p x i y (behind n e l at) = behind (suc n) (ap (λ (m : ℕ). suc m) e) (omega (arith, l)) at

stands_in : {X : Type 0} (xs : List X) (p : ℕ) (x : X) (i : ℕ) (y : X) → p ≤ length xs → slice_get (insert xs p x) i ≡ Some y → Stands xs p x i y
stands_in xs zero x zero y l at = here refl (same_Some x y at)
stands_in xs zero x (suc i) y l at = behind i refl (omega arith) at
stands_in [] (suc p) x i y l at = absurd (omega (arith, l))
stands_in (z ∷ xs) (suc p) x zero y l at = before (omega arith) at
stands_in (z ∷ xs) (suc p) x (suc i) y l at = shifted z xs p x i y (stands_in xs p x i y (omega (arith, l)) at)

not_later : (labels : List ℕ) (l : Line) (g h : Hop) → comes_later labels l h ≡ false → IsNoLater labels g h → comes_later labels l g ≡ false
not_later labels l g h miss (inl less) = grind (arith, nat_tests)
not_later labels l g h miss (inr same) = grind (arith, nat_tests)

none_before : (labels : List ℕ) (l : Line) (feeds : List Hop) (place : ℕ) → AreInOrder labels feeds → IsPlace labels l feeds place → (i : ℕ) (h : Hop) → i < place → slice_get feeds i ≡ Some h → comes_later labels l h ≡ false
none_before labels l feeds zero order p i h low at = absurd (omega (arith, low))
none_before labels l feeds (suc n) order p i h low at =
    let far = p.within in
    let last = slice_get-get_or feeds n h (omega (arith, far)) in
    not_later labels l h (slice_index_or feeds n h) (p.before n (slice_index_or feeds n h) (omega arith) last) (order i n h (slice_index_or feeds n h) (omega (arith, low)) at last)

line_later : (labels : List ℕ) (l : Line) (key : ℕ) (g : Hop) → comes_later labels l g ≡ false → IsNoLater labels g (hop_at key l.source l.outlet)
line_later labels l key g miss = grind (arith, nat_tests)

line_sooner : (labels : List ℕ) (l : Line) (key : ℕ) (h : Hop) → comes_later labels l h ≡ true → IsNoLater labels (hop_at key l.source l.outlet) h
line_sooner labels l key h hit = grind (arith, nat_tests)

pub feeds_ordered : (labels : List ℕ) (l : Line) (key : ℕ) (feeds : List Hop) (place : ℕ) → AreInOrder labels feeds → IsPlace labels l feeds place → AreInOrder labels (insert feeds place (hop_at key l.source l.outlet))
feeds_ordered labels l key feeds place order p i j g h low a b =
    by_places (stands_in feeds place (hop_at key l.source l.outlet) i g p.within a) (stands_in feeds place (hop_at key l.source l.outlet) j h p.within b) where
      X : Hop
      X = hop_at key l.source l.outlet

      by_places : Stands feeds place X i g → Stands feeds place X j h → IsNoLater labels g h
      by_places (before l1 at1) (before l2 at2) = order i j g h low at1 at2
      by_places (before l1 at1) (here e2 s2) = subst (λ (y : Hop). IsNoLater labels g y) s2 (line_later labels l key g (none_before labels l feeds place order p i g l1 at1))
      by_places (before l1 at1) (behind n e2 l2 at2) = order i n g h (omega (arith, l1, l2)) at1 at2
      by_places (here e1 s1) (before l2 at2) = absurd (omega (arith, low, e1, l2))
      by_places (here e1 s1) (here e2 s2) = subst (λ (y : Hop). IsNoLater labels y h) s1 (subst (λ (y : Hop). IsNoLater labels X y) s2 (inr (refl, omega arith)))
      by_places (here e1 s1) (behind n e2 l2 at2) = subst (λ (y : Hop). IsNoLater labels y h) s1 (line_sooner labels l key h (p.behind n h l2 at2))
      by_places (behind m e1 l1 at1) (before l2 at2) = absurd (omega (arith, low, e1, l1, l2))
      by_places (behind m e1 l1 at1) (here e2 s2) = absurd (omega (arith, low, e1, e2, l1))
      by_places (behind m e1 l1 at1) (behind n e2 l2 at2) = order m n g h (omega (arith, low, e1, e2)) at1 at2

-- Feeds in order, with some less.

-- where two elements that are left stand in the whole list
pub record StoodIn {X : Type 0} (xs : List X) (g h : X) : Type 0 where
  pub first : ℕ
  pub second : ℕ
  pub order : first ≤ second
  pub at_first : slice_get xs first ≡ Some g
  pub at_second : slice_get xs second ≡ Some h

stood_later : {X : Type 0} (x : X) (xs : List X) (g h : X) → StoodIn xs g h → StoodIn (x ∷ xs) g h
stood_later x xs g h s = record { first = suc s.first; second = suc s.second; order = (let o = s.order in omega (arith, o)); at_first = s.at_first; at_second = s.at_second }

pub left_in : {X : Type 0} (p : X → Bool) (xs : List X) (i j : ℕ) (g h : X) → i ≤ j → slice_get (filter p xs) i ≡ Some g → slice_get (filter p xs) j ≡ Some h → StoodIn xs g h
left_in p [] i j g h l a b = absurd (none-some g a)
left_in {X} p (x ∷ xs) i j g h l a b = step (p x) i j l a b (λ m n k c d. left_in p xs m n g h k c d)
  where
    step : (t : Bool) (i j : ℕ) → i ≤ j → slice_get (cond t (x ∷ filter p xs) (filter p xs)) i ≡ Some g → slice_get (cond t (x ∷ filter p xs) (filter p xs)) j ≡ Some h
        → ((m n : ℕ) → m ≤ n → slice_get (filter p xs) m ≡ Some g → slice_get (filter p xs) n ≡ Some h → StoodIn xs g h) → StoodIn (x ∷ xs) g h
    step true zero zero l a b rec = record { first = 0; second = 0; order = omega arith; at_first = a; at_second = b }
    step true zero (suc j) l a b rec = let s = passed p xs h j b in record { first = 0; second = suc s.place; order = omega arith; at_first = a; at_second = s.stood }
    step true (suc i) zero l a b rec = absurd (omega (arith, l))
    step true (suc i) (suc j) l a b rec = stood_later x xs g h (rec i j (omega (arith, l)) a b)
    step false i j l a b rec = stood_later x xs g h (rec i j l a b)
