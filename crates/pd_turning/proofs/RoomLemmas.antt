-- Room for wires that come back, and how many of them there are at a box.
use Rattle.std.proofs.Common.{◌≡◌, ℕ, suc, ◌+◌, ◌<◌, ◌≤◌, ◌==◌, cond, List, [], ◌∷◌, ◌++◌, length, slice_get, take, Some, refl, sym, ap, ◌∙◌, subst, inl, inr, eqb-true, arith}
use Rattle.std.specs.Prelude.{◌⊎◌}
use mathlib.Core.Logic.{⊎_elim}
use Rattle.std.proofs.Math.Seq.{take-suc}
use Rattle.std.proofs.lemmas.Bool.{cases_lt}
use Rattle.std.proofs.lemmas.Option.{same_Some, slice_get_within, get_or_from_slice_get}
use Rattle.pd_links.specs.declared.links.Links.{Links}
use Rattle.pd_links.specs.Linked.{SameLinks, TakesFrom, TakesInto}
use Rattle.pd_links.proofs.LinkLemmas.{room_stays, takes_none}
use Rattle.pd_misfits.specs.declared.wires.BoxWire.{BoxWire}
use Rattle.pd_turning.specs.Room.{count_from, count_into, NeedsFrom, NeedsInto}
use Rattle.pd_turning.proofs.ListLemmas.{by_cases}

-- Counts.

take_here : (ms : List BoxWire) (i : ℕ) (m : BoxWire) → slice_get ms i ≡ Some m → take (i + 1) ms ≡ take i ms ++ m ∷ []
take_here ms i m e =
    let on : i + 1 ≡ suc i = omega arith in
    ap (λ n. take n ms) on ∙ take-suc ms i m (slice_get_within ms i m e) ∙ ap (λ (x : BoxWire). take i ms ++ x ∷ []) (get_or_from_slice_get ms i m m e)

from_last : (ms : List BoxWire) (m : BoxWire) (x : ℕ) → count_from (ms ++ m ∷ []) x ≡ count_from ms x + cond (m.line.source == x) 1 0
from_last [] m x = omega arith
from_last (n ∷ ms) m x = let r = from_last ms m x in omega (arith, r)

into_last : (ms : List BoxWire) (m : BoxWire) (x : ℕ) → count_into (ms ++ m ∷ []) x ≡ count_into ms x + cond (m.line.sink == x) 1 0
into_last [] m x = omega arith
into_last (n ∷ ms) m x = let r = into_last ms m x in omega (arith, r)

module _ (ms : List BoxWire) (i : ℕ) (m : BoxWire) (at : slice_get ms i ≡ Some m) (x : ℕ) where
  from_next : count_from (take (i + 1) ms) x ≡ count_from (take i ms) x + cond (m.line.source == x) 1 0
  from_next = ap (λ (ns : List BoxWire). count_from ns x) (take_here ms i m at) ∙ from_last (take i ms) m x

  pub from_step : (count more : ℕ) → count ≡ count_from (take i ms) x → more ≡ count + cond (m.line.source == x) 1 0 → more ≡ count_from (take (i + 1) ms) x
  from_step count more was e = e ∙ ap (λ n. n + cond (m.line.source == x) 1 0) was ∙ sym from_next

  into_next : count_into (take (i + 1) ms) x ≡ count_into (take i ms) x + cond (m.line.sink == x) 1 0
  into_next = ap (λ (ns : List BoxWire). count_into ns x) (take_here ms i m at) ∙ into_last (take i ms) m x

  pub into_step : (count more : ℕ) → count ≡ count_into (take i ms) x → more ≡ count + cond (m.line.sink == x) 1 0 → more ≡ count_into (take (i + 1) ms) x
  into_step count more was e = e ∙ ap (λ n. n + cond (m.line.sink == x) 1 0) was ∙ sym into_next

-- a box from which none comes, or one from which one of them does
from_some : (ms : List BoxWire) (x : ℕ) → (count_from ms x ≡ 0) ⊎ ((j : ℕ) × (m : BoxWire) × (slice_get ms j ≡ Some m) × (m.line.source ≡ x))
from_some [] x = inl refl
from_some (n ∷ ms) x = by_cases (n.line.source == x)
    (λ t. inr (0, n, refl, eqb-true n.line.source x t))
    (λ t. ⊎_elim
    (λ (z : count_from ms x ≡ 0). inl (let e = ap (λ b. cond b 1 0 + count_from ms x) t in omega (arith, e, z)))
    (λ (s : (j : ℕ) × (m : BoxWire) × (slice_get ms j ≡ Some m) × (m.line.source ≡ x)). inr (suc s.0, s.1, s.2, s.3))
    (from_some ms x))

into_some : (ms : List BoxWire) (x : ℕ) → (count_into ms x ≡ 0) ⊎ ((j : ℕ) × (m : BoxWire) × (slice_get ms j ≡ Some m) × (m.line.sink ≡ x))
into_some [] x = inl refl
into_some (n ∷ ms) x = by_cases (n.line.sink == x)
    (λ t. inr (0, n, refl, eqb-true n.line.sink x t))
    (λ t. ⊎_elim
    (λ (z : count_into ms x ≡ 0). inl (let e = ap (λ b. cond b 1 0 + count_into ms x) t in omega (arith, e, z)))
    (λ (s : (j : ℕ) × (m : BoxWire) × (slice_get ms j ≡ Some m) × (m.line.sink ≡ x)). inr (suc s.0, s.1, s.2, s.3))
    (into_some ms x))

-- Room at the boxes of the first wires.

pub record HasRoomTo (ms : List BoxWire) (old new : Links) (i : ℕ) : Type 0 where
  pub same : SameLinks old new
  pub from : (j : ℕ) (m : BoxWire) → j < i → slice_get ms j ≡ Some m → TakesFrom new m.line.source (count_from ms m.line.source)
  pub into : (j : ℕ) (m : BoxWire) → j < i → slice_get ms j ≡ Some m → TakesInto new m.line.sink (count_into ms m.line.sink)

same_more : (a b c : Links) → SameLinks a b → SameLinks b c → SameLinks a c
same_more a b c S T = record {
  feeders = λ x. T.feeders x ∙ S.feeders x;
  followers = λ x. T.followers x ∙ S.followers x;
  spare_into = λ x. let s = S.spare_into x in let t = T.spare_into x in omega (arith, s, t);
  spare_from = λ x. let s = S.spare_from x in let t = T.spare_from x in omega (arith, s, t);
}

pub room_to_none : (ms : List BoxWire) (l : Links) → HasRoomTo ms l l 0
room_to_none ms l = record {
  same = record { feeders = λ x. refl; followers = λ x. refl; spare_into = λ x. omega arith; spare_from = λ x. omega arith };
  from = λ j m below. absurd (omega (arith, below));
  into = λ j m below. absurd (omega (arith, below));
}

from_here : (ms : List BoxWire) (old mid new : Links) (i : ℕ) (m : BoxWire) (n : ℕ) → HasRoomTo ms old mid i → SameLinks mid new → NeedsFrom ms i m n → TakesFrom new m.line.source n
    → TakesFrom new m.line.source (count_from ms m.line.source)
from_here ms old mid new i m n H S N F = ⊎_elim
    (λ (e : n ≡ count_from ms m.line.source). subst (TakesFrom new m.line.source) e F)
    (λ (r : (j : ℕ) × (o : BoxWire) × (j < i) × (slice_get ms j ≡ Some o) × (o.line.source ≡ m.line.source)).
    (room_stays mid new S).from m.line.source (count_from ms m.line.source) (subst (λ x. TakesFrom mid x (count_from ms x)) r.4 (H.from r.0 r.1 r.2 r.3)))
    N

into_here : (ms : List BoxWire) (old mid new : Links) (i : ℕ) (m : BoxWire) (n : ℕ) → HasRoomTo ms old mid i → SameLinks mid new → NeedsInto ms i m n → TakesInto new m.line.sink n
    → TakesInto new m.line.sink (count_into ms m.line.sink)
into_here ms old mid new i m n H S N F = ⊎_elim
    (λ (e : n ≡ count_into ms m.line.sink). subst (TakesInto new m.line.sink) e F)
    (λ (r : (j : ℕ) × (o : BoxWire) × (j < i) × (slice_get ms j ≡ Some o) × (o.line.sink ≡ m.line.sink)).
    (room_stays mid new S).into m.line.sink (count_into ms m.line.sink) (subst (λ x. TakesInto mid x (count_into ms x)) r.4 (H.into r.0 r.1 r.2 r.3)))
    N

pub room_to_next : (ms : List BoxWire) (old mid new : Links) (i : ℕ) (m : BoxWire) (from into : ℕ) → slice_get ms i ≡ Some m → HasRoomTo ms old mid i → SameLinks mid new
    → NeedsFrom ms i m from → NeedsInto ms i m into → TakesFrom new m.line.source from → TakesInto new m.line.sink into → HasRoomTo ms old new (i + 1)
room_to_next ms old mid new i m from into at H S a b F I =
    let K = room_stays mid new S in
    let X = from_here ms old mid new i m from H S a F in
    let Y = into_here ms old mid new i m into H S b I in
    record {
      same = same_more old mid new H.same S;
      from = λ j n below is. ⊎_elim
          (λ (l : j < i). K.from n.line.source (count_from ms n.line.source) (H.from j n l is))
          (λ (l : i ≤ j).
          let e : j ≡ i = omega (arith, below, l) in
          let one : m ≡ n = same_Some m n (sym at ∙ ap (slice_get ms) (sym e) ∙ is) in
          subst (λ (x : BoxWire). TakesFrom new x.line.source (count_from ms x.line.source)) one X)
          (cases_lt j i);
      into = λ j n below is. ⊎_elim
          (λ (l : j < i). K.into n.line.sink (count_into ms n.line.sink) (H.into j n l is))
          (λ (l : i ≤ j).
          let e : j ≡ i = omega (arith, below, l) in
          let one : m ≡ n = same_Some m n (sym at ∙ ap (slice_get ms) (sym e) ∙ is) in
          subst (λ (x : BoxWire). TakesInto new x.line.sink (count_into ms x.line.sink)) one Y)
          (cases_lt j i);
    }

pub room_from_all : (ms : List BoxWire) (old new : Links) (i : ℕ) → length ms ≤ i → HasRoomTo ms old new i → (x : ℕ) → TakesFrom new x (count_from ms x)
room_from_all ms old new i l H x = ⊎_elim
    (λ (z : count_from ms x ≡ 0). subst (TakesFrom new x) (sym z) (takes_none new x).0)
    (λ (s : (j : ℕ) × (m : BoxWire) × (slice_get ms j ≡ Some m) × (m.line.source ≡ x)).
    let w = slice_get_within ms s.0 s.1 s.2 in
    subst (λ y. TakesFrom new y (count_from ms y)) s.3 (H.from s.0 s.1 (omega (arith, w, l)) s.2))
    (from_some ms x)

pub room_into_all : (ms : List BoxWire) (old new : Links) (i : ℕ) → length ms ≤ i → HasRoomTo ms old new i → (x : ℕ) → TakesInto new x (count_into ms x)
room_into_all ms old new i l H x = ⊎_elim
    (λ (z : count_into ms x ≡ 0). subst (TakesInto new x) (sym z) (takes_none new x).1)
    (λ (s : (j : ℕ) × (m : BoxWire) × (slice_get ms j ≡ Some m) × (m.line.sink ≡ x)).
    let w = slice_get_within ms s.0 s.1 s.2 in
    subst (λ y. TakesInto new y (count_into ms y)) s.3 (H.into s.0 s.1 (omega (arith, w, l)) s.2))
    (into_some ms x)
