-- The greatest live key is the first among the clocks of the least time.
use Rattle.std.proofs.Common.{◌≡◌, ◌≢◌, ℕ, zero, suc, ◌+◌, ◌<◌, ◌≤◌, true, false, not, List, [], ◌∷◌, ◌++◌, ◌⊎◌, inl, inr, Option, Some, None, Result, Ok, Err, length, get_or, set, refl, sym, ap, ◌∙◌, subst, arith, eqb, ltb}
use Rattle.std.specs.Prelude.{slice_get, Contains, slice_index_or, IsPermutation, IsSome, IfSome, OnSome, OnOk, is_ok}
use Rattle.std.specs.List.{AllByRecursion, filter}
use Rattle.std.proofs.Common.{take, length-take}
use Rattle.std.proofs.lemmas.List.{take_more}
use Rattle.std.specs.BinaryHeap.{lt_by_cmp, IsUpperBound, IsHeap}
use Rattle.std.proofs.lemmas.Bool.Decides.{nat_tests}
use Rattle.std.proofs.lemmas.Bool.{cases_lt, and_parts}
use Rattle.std.proofs.lemmas.List.Elements.{All-from_recursion}
use Rattle.std.proofs.lemmas.List.Sorted.{Contains-permutation, IsPermutation-sym}
use Rattle.pd_clock.specs.Queue.{Clock}
use Rattle.pd_clock.specs.declared.slots.Slot.{Slot}
use Rattle.pd_clock.specs.Queue.{IsTaken, without}
use Rattle.pd_clock.proofs.QueueLemmas.{by_test}
use Rattle.pd_clock.specs.Slots.{live_clocks, Key, key, order, AreTracked, AreKeys, dead_of, died}

pub eqb-yes : (m n : ℕ) → m ≡ n → eqb m n ≡ true
eqb-yes m n h = grind (arith, nat_tests)

-- what a key that isn't less than another says
not_sooner : (x y : Key) → lt_by_cmp order x y ≡ false → (x.0.0 ≤ y.0.0) × (x.0.0 ≡ y.0.0 → x.0.1 ≤ y.0.1)
not_sooner x y h =
    by_test (ltb y.0.0 x.0.0) (λ e. absurd (let q = rw e at h in cc))
    (λ e. (
      grind (arith, nat_tests),
      λ same.
          let f : ltb y.0.0 x.0.0 ≡ false = e in
          let g : eqb y.0.0 x.0.0 ≡ true = eqb-yes y.0.0 x.0.0 (sym same) in
          by_test (ltb y.0.1 x.0.1) (λ t. absurd (let q = rw (f, g, t) at h in cc)) (λ t. grind (arith, nat_tests)),
    ))

bound_at : (x k : Key) (keys : List Key) → IsUpperBound order x keys → Contains keys k → lt_by_cmp order x k ≡ false
bound_at x k keys h c =
    subst (λ y. lt_by_cmp order x y ≡ false) c.2 (All-from_recursion (λ y. lt_by_cmp order x y ≡ false) keys h c.0 k c.1)

before_later : (keys : List Key) (x : Key) (j : ℕ) (ss : List Slot) → IsUpperBound order x keys → AreTracked keys j ss → j + length ss ≤ x.0.1 →
    AllByRecursion (λ c. x.0.0 < c.time) (live_clocks ss)
before_later keys x j [] h t l = tt
before_later keys x j (s ∷ ss) h t l =
    let r = before_later keys x (suc j) ss h t.1 (omega arith) in
    by_test s.live
    (λ e.
    let n = not_sooner x (key s.time j) (bound_at x (key s.time j) keys h (t.0 e)) in
    let less : x.0.0 < s.time =
    elim (cases_lt x.0.0 s.time) as (λ _. x.0.0 < s.time)
    [ inl y ↦ y | inr y ↦ absurd (let q : x.0.1 ≤ j = n.1 (omega (arith, n.0)) in omega arith) ] in
    rw e (less, r))
    (λ e. rw e r)

after_later : (keys : List Key) (x : Key) (j : ℕ) (ss : List Slot) → IsUpperBound order x keys → AreTracked keys j ss →
    AllByRecursion (λ c. x.0.0 ≤ c.time) (live_clocks ss)
after_later keys x j [] h t = tt
after_later keys x j (s ∷ ss) h t =
    let r = after_later keys x (suc j) ss h t.1 in
    by_test s.live
    (λ e. let n = not_sooner x (key s.time j) (bound_at x (key s.time j) keys h (t.0 e)) in rw e (n.0, r))
    (λ e. rw e r)

tracked_split : (keys : List Key) (j : ℕ) (xs ys : List Slot) → AreTracked keys j (xs ++ ys) →
    AreTracked keys j xs × AreTracked keys (j + length xs) ys
tracked_split keys j [] ys t = (tt, let e : j ≡ j + 0 = omega arith in subst (λ k. AreTracked keys k ys) e t)
tracked_split keys j (x ∷ xs) ys t =
    let r = tracked_split keys (suc j) xs ys t.1 in
    let e : suc j + length xs ≡ j + suc (length xs) = omega arith in
    ((t.0, r.0), subst (λ k. AreTracked keys k ys) e r.1)

tracked_join : (keys : List Key) (j : ℕ) (xs ys : List Slot) → AreTracked keys j xs → AreTracked keys (j + length xs) ys →
    AreTracked keys j (xs ++ ys)
tracked_join keys j [] ys t u = let e : j + 0 ≡ j = omega arith in subst (λ k. AreTracked keys k ys) e u
tracked_join keys j (x ∷ xs) ys t u =
    let e : j + suc (length xs) ≡ suc j + length xs = omega arith in
    (t.0, tracked_join keys (suc j) xs ys t.1 (subst (λ k. AreTracked keys k ys) e u))

cons_cases : (x k : Key) (xs : List Key) (i : ℕ) → i < length (x ∷ xs) → slice_index_or (x ∷ xs) i k ≡ k → (x ≡ k) ⊎ Contains xs k
cons_cases x k xs zero l e = inl e
cons_cases x k xs (suc i) l e = inr (i, omega arith, e)

pub in_pop : (old new : List Key) (x k : Key) → IsPermutation old (x ∷ new) → k.0.1 ≢ x.0.1 → Contains old k → Contains new k
in_pop old new x k p n c =
    let d = Contains-permutation old (x ∷ new) k p c in
    elim (cons_cases x k new d.0 d.1 d.2) as (λ _. Contains new k)
    [ inl e ↦ absurd (n (ap (λ z. z.0.1) (sym e))) | inr y ↦ y ]

tracked_pop : (old new : List Key) (x : Key) (j : ℕ) (ss : List Slot) → IsPermutation old (x ∷ new) →
    ((i : ℕ) → j ≤ i → i < j + length ss → i ≢ x.0.1) → AreTracked old j ss → AreTracked new j ss
tracked_pop old new x j [] p n t = tt
tracked_pop old new x j (s ∷ ss) p n t = (
  (λ e. in_pop old new x (key s.time j) p (n j (omega arith) (omega arith)) (t.0 e)),
  tracked_pop old new x (suc j) ss p (λ i a b. n i (omega arith) (omega arith)) t.1,
)

-- the slots without a dead one's key, or with a slot that died
pub tracked_gone : (old new : List Key) (x : Key) (before after : List Slot) (s dead : Slot) → IsPermutation old (x ∷ new) →
    x.0.1 ≡ length before → dead.live ≡ false → AreTracked old 0 (before ++ s ∷ after) → AreTracked new 0 (before ++ dead ∷ after)
tracked_gone old new x before after s dead p at d t =
    let q = tracked_split old 0 before (s ∷ after) t in
    tracked_join new 0 before (dead ∷ after)
    (tracked_pop old new x 0 before p (λ i a b. (λ e. absurd (let z : ⊥ = omega arith in z))) q.0) (
      (λ e. absurd (let z : true ≡ false = sym e ∙ d in cc)),
      tracked_pop old new x (suc (0 + length before)) after p (λ i a b. (λ e. absurd (let z : ⊥ = omega arith in z))) q.1.1,
    )

pub live-append : (xs ys : List Slot) → live_clocks (xs ++ ys) ≡ live_clocks xs ++ live_clocks ys
live-append [] ys = refl
live-append (x ∷ xs) ys =
    let r = live-append xs ys in
    by_test x.live (λ e. rw e (ap (λ t. record { time = x.time; owner = x.owner } ∷ t) r)) (λ e. rw e r)

pub taken_live : (keys : List Key) (x : Key) (before after : List Slot) (s dead : Slot) → IsUpperBound order x keys →
    AreTracked keys 0 (before ++ s ∷ after) → x.0.1 ≡ length before → x.0.0 ≡ s.time → s.live ≡ true → dead.live ≡ false →
    IsTaken (live_clocks (before ++ s ∷ after)) (live_clocks (before ++ dead ∷ after)) (record { time = s.time; owner = s.owner })
taken_live keys x before after s dead h t at time live gone =
    let q = tracked_split keys 0 before (s ∷ after) t in
    let l = before_later keys x 0 before h q.0 (omega arith) in
    let e = after_later keys x (suc (0 + length before)) after h q.1.1 in
    record {
      before = live_clocks before;
      after = live_clocks after;
      old_is = live-append before (s ∷ after) ∙ rw live refl;
      new_is = live-append before (dead ∷ after) ∙ rw gone refl;
      later = rw time at l;
      not_earlier = rw time at e;
    }

-- ---- a slot at a place

pub record IsAt (ss : List Slot) (i : ℕ) (s : Slot) : Type 0 where
  pub before : List Slot
  pub after : List Slot
  pub ss_is : ss ≡ before ++ s ∷ after
  pub place : i ≡ length before

slot_at : (ss : List Slot) (i : ℕ) (s : Slot) → slice_get ss i ≡ Some s → IsAt ss i s
slot_at [] i s h = absurd (cc)
slot_at (x ∷ ss) zero s h = let e : x ≡ s = cc in record { before = []; after = ss; ss_is = ap (λ y. y ∷ ss) e; place = refl }
slot_at (x ∷ ss) (suc i) s h =
    let r = slot_at ss i s h in
    record { before = x ∷ r.before; after = r.after; ss_is = ap (λ t. x ∷ t) r.ss_is; place = ap suc r.place }

set-middle : (before after : List Slot) (s d : Slot) → set (before ++ s ∷ after) (length before) d ≡ before ++ d ∷ after
set-middle [] after s d = refl
set-middle (x ∷ before) after s d = ap (λ t. x ∷ t) (set-middle before after s d)

set-at : (ss : List Slot) (i : ℕ) (s d : Slot) (a : IsAt ss i s) → set ss i d ≡ a.before ++ d ∷ a.after
set-at ss i s d a = ap (λ t. set t i d) a.ss_is ∙ ap (λ k. set (a.before ++ s ∷ a.after) k d) a.place ∙ set-middle a.before a.after s d

pub get-set-same : (ss : List Slot) (i : ℕ) (s d : Slot) → slice_get ss i ≡ Some s → slice_get (set ss i d) i ≡ Some d
get-set-same [] i s d h = absurd (cc)
get-set-same (x ∷ ss) zero s d h = refl
get-set-same (x ∷ ss) (suc i) s d h = get-set-same ss i s d h

pub get-set-other : (ss : List Slot) (i j : ℕ) (d : Slot) → j ≢ i → slice_get (set ss i d) j ≡ slice_get ss j
get-set-other [] i j d n = refl
get-set-other (x ∷ ss) zero zero d n = absurd (n refl)
get-set-other (x ∷ ss) zero (suc j) d n = refl
get-set-other (x ∷ ss) (suc i) zero d n = refl
get-set-other (x ∷ ss) (suc i) (suc j) d n = get-set-other ss i j d (λ e. n (ap suc e))

pub tracked_set : (old new : List Key) (x : Key) (ss : List Slot) (s dead : Slot) → IsPermutation old (x ∷ new) →
    slice_get ss x.0.1 ≡ Some s → dead.live ≡ false → AreTracked old 0 ss → AreTracked new 0 (set ss x.0.1 dead)
tracked_set old new x ss s dead p g d t =
    let a = slot_at ss x.0.1 s g in
    subst (AreTracked new 0) (sym (set-at ss x.0.1 s dead a))
    (tracked_gone old new x a.before a.after s dead p a.place d (subst (AreTracked old 0) a.ss_is t))

pub keys_set : (old new : List Key) (x : Key) (ss : List Slot) (s dead : Slot) → IsPermutation old (x ∷ new) →
    slice_get ss x.0.1 ≡ Some s → dead.time ≡ s.time → AreKeys ss old → AreKeys (set ss x.0.1 dead) new
keys_set old new x ss s dead p g time h = λ k c.
    let o = h k (Contains-permutation (x ∷ new) old k (IsPermutation-sym old (x ∷ new) p) (suc c.0, omega (arith, c.1), c.2)) in
    by_test (eqb k.0.1 x.0.1)
    (λ e.
    let same : k.0.1 ≡ x.0.1 = grind (arith, nat_tests) in
    let q : Some o.0 ≡ Some s = sym o.1 ∙ ap (slice_get ss) same ∙ g in
    let is : o.0 ≡ s = cc in
    (dead, ap (slice_get (set ss x.0.1 dead)) same ∙ get-set-same ss x.0.1 s dead g, time ∙ sym (ap (λ z. z.time) is) ∙ o.2))
    (λ e.
    let other : k.0.1 ≢ x.0.1 = λ e2. absurd (let z : true ≡ false = sym (eqb-yes k.0.1 x.0.1 e2) ∙ e in cc) in
    (o.0, get-set-other ss x.0.1 k.0.1 dead other ∙ o.1, o.2))

set-same : (ss : List Slot) (i : ℕ) (s : Slot) → slice_get ss i ≡ Some s → set ss i s ≡ ss
set-same [] i s h = absurd (cc)
set-same (x ∷ ss) zero s h = let e : x ≡ s = cc in ap (λ y. y ∷ ss) (sym e)
set-same (x ∷ ss) (suc i) s h = ap (λ t. x ∷ t) (set-same ss i s h)

-- a stale key goes
pub tracked_stale : (old new : List Key) (x : Key) (ss : List Slot) (s : Slot) → IsPermutation old (x ∷ new) →
    slice_get ss x.0.1 ≡ Some s → s.live ≡ false → AreTracked old 0 ss → AreTracked new 0 ss
tracked_stale old new x ss s p g d t = subst (AreTracked new 0) (set-same ss x.0.1 s g) (tracked_set old new x ss s s p g d t)

pub keys_stale : (old new : List Key) (x : Key) (ss : List Slot) → IsPermutation old (x ∷ new) → AreKeys ss old → AreKeys ss new
keys_stale old new x ss p h = λ k c.
    h k (Contains-permutation (x ∷ new) old k (IsPermutation-sym old (x ∷ new) p) (suc c.0, omega (arith, c.1), c.2))

-- a live key that is the greatest
pub taken_set : (keys : List Key) (x : Key) (ss : List Slot) (s dead : Slot) → IsUpperBound order x keys → AreTracked keys 0 ss →
    slice_get ss x.0.1 ≡ Some s → s.time ≡ x.0.0 → s.live ≡ true → dead.live ≡ false →
    IsTaken (live_clocks ss) (live_clocks (set ss x.0.1 dead)) (record { time = s.time; owner = s.owner })
taken_set keys x ss s dead h t g time live gone =
    let a = slot_at ss x.0.1 s g in
    let e = taken_live keys x a.before a.after s dead h (subst (AreTracked keys 0) a.ss_is t) a.place (sym time) live gone in
    let c : Clock = record { time = s.time; owner = s.owner } in
    subst (λ v. IsTaken (live_clocks v) (live_clocks (set ss x.0.1 dead)) c) (sym a.ss_is)
    (subst (λ v. IsTaken (live_clocks (a.before ++ s ∷ a.after)) (live_clocks v) c) (sym (set-at ss x.0.1 s dead a)) e)

pub none_tracked : (j : ℕ) (ss : List Slot) → AreTracked [] j ss → live_clocks ss ≡ []
none_tracked j [] t = refl
none_tracked j (s ∷ ss) t =
    by_test s.live (λ e. absurd (let c = t.0 e in omega (arith, c.1))) (λ e. rw e (none_tracked (suc j) ss t.1))

pub within : (ss : List Slot) (i : ℕ) (s : Slot) → slice_get ss i ≡ Some s → i < length ss
within [] i s h = absurd (cc)
within (x ∷ ss) zero s h = omega arith
within (x ∷ ss) (suc i) s h = omega (arith, within ss i s h)

pub get_is : (ss : List Slot) (i : ℕ) (s d : Slot) → slice_get ss i ≡ Some s → get_or ss i d ≡ s
get_is [] i s d h = absurd (cc)
get_is (x ∷ ss) zero s d h = cc
get_is (x ∷ ss) (suc i) s d h = get_is ss i s d h

-- ---- the top of the heap

pub top_in : (keys : List Key) (k : Key) → 0 < length keys → k ≡ slice_index_or keys 0 k → Contains keys k
top_in keys k some is = (0, some, sym is)

pub top_get : (keys : List Key) (k : Key) → 0 < length keys → k ≡ slice_index_or keys 0 k → slice_get keys 0 ≡ Some k
top_get [] k some is = absurd (omega arith)
top_get (y ∷ ys) k some is = ap Some (sym is)

pub popped : (r : Option Key) (old new : List Key) (k : Key) → IsSome r → IfSome r (λ x. x ≡ slice_index_or old 0 x) →
    IfSome r (λ x. IsPermutation old (x ∷ new)) → IfSome r (λ x. IsHeap order old → IsHeap order new × IsUpperBound order x old) →
    0 < length old → k ≡ slice_index_or old 0 k → IsHeap order old → IsPermutation old (k ∷ new) × IsHeap order new
popped r [] new k v t p h some is heap = absurd (omega arith)
popped None (y ∷ ys) new k v t p h some is heap = absurd (cc)
popped (Some x) (y ∷ ys) new k v t p h some is heap =
    let e : x ≡ k = t ∙ sym is in (subst (λ z. IsPermutation (y ∷ ys) (z ∷ new)) e p, (h heap).0)

pub fewer_pop : (r : Option Key) (m n : ℕ) → IsSome r → OnSome r (n + 1 ≡ m) → n ≤ m
fewer_pop None m n v h = absurd (cc)
fewer_pop (Some x) m n v h = omega arith

pub none_left : (keys : List Key) (ss : List Slot) → (0 < length keys → ⊥) → AreTracked keys 0 ss → live_clocks ss ≡ []
none_left [] ss n t = none_tracked 0 ss t
none_left (k ∷ keys) ss n t = absurd (n (omega arith))

-- a new slot with its key
pub tracked_more : (old new : List Key) (j : ℕ) (ss : List Slot) (s : Slot) → IsPermutation (key s.time (j + length ss) ∷ old) new →
    AreTracked old j ss → AreTracked new j (ss ++ s ∷ [])
tracked_more old new j [] s p t =
    let e : j + 0 ≡ j = omega arith in
    ((λ l. Contains-permutation (key s.time (j + 0) ∷ old) new (key s.time j) p (0, omega arith, ap (key s.time) e)), tt)
tracked_more old new j (x ∷ ss) s p t =
    let e : j + suc (length ss) ≡ suc j + length ss = omega arith in
    let q = subst (λ n. IsPermutation (key s.time n ∷ old) new) e p in (
      (λ l. let c = t.0 l in Contains-permutation (key s.time (j + suc (length ss)) ∷ old) new (key x.time j) p (suc c.0, omega (arith, c.1), c.2)),
      tracked_more old new (suc j) ss s q t.1,
    )

pub get-front : (ss ts : List Slot) (i : ℕ) (s : Slot) → slice_get ss i ≡ Some s → slice_get (ss ++ ts) i ≡ Some s
get-front [] ts i s h = absurd (cc)
get-front (x ∷ ss) ts zero s h = h
get-front (x ∷ ss) ts (suc i) s h = get-front ss ts i s h

pub get-last : (ss : List Slot) (s : Slot) → slice_get (ss ++ s ∷ []) (length ss) ≡ Some s
get-last [] s = refl
get-last (x ∷ ss) s = get-last ss s

pub keys_more : (old new : List Key) (ss : List Slot) (s : Slot) → IsPermutation (key s.time (length ss) ∷ old) new →
    AreKeys ss old → AreKeys (ss ++ s ∷ []) new
keys_more old new ss s p h = λ k c.
    let x = key s.time (length ss) in
    let d = Contains-permutation new (key s.time (length ss) ∷ old) k (IsPermutation-sym (key s.time (length ss) ∷ old) new p) c in
    elim (cons_cases (key s.time (length ss)) k old d.0 d.1 d.2) as (λ _. (t : Slot) × (slice_get (ss ++ s ∷ []) k.0.1 ≡ Some t) × (t.time ≡ k.0.0)) [
      | inl e ↦ (s, ap (slice_get (ss ++ s ∷ [])) (sym (ap (λ z. z.0.1) e)) ∙ get-last ss s, ap (λ z. z.0.0) e)
      | inr y ↦ (let o = h k y in (o.0, get-front ss (s ∷ []) k.0.1 o.0 o.1, o.2))
    ]

pub live_more : (ss : List Slot) (s : Slot) → s.live ≡ true → live_clocks (ss ++ s ∷ []) ≡ live_clocks ss ++ record { time = s.time; owner = s.owner } ∷ []
live_more ss s l = live-append ss (s ∷ []) ∙ rw l refl

pub top_is : (keys : List Key) (k : Key) → slice_get keys 0 ≡ Some k → (0 < length keys) × (k ≡ slice_index_or keys 0 k)
top_is [] k h = absurd (cc)
top_is (y ∷ ys) k h = let e : y ≡ k = cc in (omega arith, sym e)

from_limit : (m n : ℕ) (xs : List Clock) → m ≤ n → AllByRecursion (λ d. n ≤ d.time) xs → AllByRecursion (λ d. m ≤ d.time) xs
from_limit m n [] l h = tt
from_limit m n (x ∷ xs) l h = (omega (arith, h.0), from_limit m n xs l h.1)

pub none_below : (keys : List Key) (x : Key) (ss : List Slot) (limit : ℕ) → IsUpperBound order x keys → AreTracked keys 0 ss → limit ≤ x.0.0 →
    AllByRecursion (λ c. limit ≤ c.time) (live_clocks ss)
none_below keys x ss limit h t l = from_limit limit x.0.0 (live_clocks ss) l (after_later keys x 0 ss h t)

pub from_ok : {A B : Type 0} (P : Type 0) (r : Result A B) → is_ok r ≡ true → OnOk r P → P
from_ok P (Ok x) h p = p
from_ok P (Err e) h p = absurd (cc)

-- ---- an owner's slots die

pub live-dead_of : (o : ℕ) (ss : List Slot) → live_clocks (dead_of o ss) ≡ without o (live_clocks ss)
live-dead_of o [] = refl
live-dead_of o (s ∷ ss) =
    let r = live-dead_of o ss in
    by_test (eqb s.owner o)
    (λ e. by_test s.live (λ l. rw (l, e) r) (λ l. rw l r))
    (λ e. by_test s.live (λ l. rw (l, e) (ap (λ t. record { time = s.time; owner = s.owner } ∷ t) r)) (λ l. rw l r))

pub tracked_dead : (keys : List Key) (o j : ℕ) (ss : List Slot) → AreTracked keys j ss → AreTracked keys j (dead_of o ss)
tracked_dead keys o j [] t = tt
tracked_dead keys o j (s ∷ ss) t = ((λ l. t.0 (and_parts s.live (not (eqb s.owner o)) l).0), tracked_dead keys o (suc j) ss t.1)

get-dead : (o : ℕ) (ss : List Slot) (i : ℕ) (s : Slot) → slice_get ss i ≡ Some s → (t : Slot) × (slice_get (dead_of o ss) i ≡ Some t) × (t.time ≡ s.time)
get-dead o [] i s h = absurd (cc)
get-dead o (x ∷ ss) zero s h = let e : x ≡ s = cc in (died o x, refl, ap (λ z. z.time) e)
get-dead o (x ∷ ss) (suc i) s h = get-dead o ss i s h

pub keys_dead : (keys : List Key) (o : ℕ) (ss : List Slot) → AreKeys ss keys → AreKeys (dead_of o ss) keys
keys_dead keys o ss h = λ k c. let a = h k c in let d = get-dead o ss k.0.1 a.0 a.1 in (d.0, d.1, d.2 ∙ a.2)

-- ---- the heap made again

pub keys_push : (old new : List Key) (ss : List Slot) (i : ℕ) (s : Slot) → IsPermutation (key s.time i ∷ old) new → slice_get ss i ≡ Some s →
    AreKeys ss old → AreKeys ss new
keys_push old new ss i s p g h = λ k c.
    let d = Contains-permutation new (key s.time i ∷ old) k (IsPermutation-sym (key s.time i ∷ old) new p) c in
    elim (cons_cases (key s.time i) k old d.0 d.1 d.2) as (λ _. (t : Slot) × (slice_get ss k.0.1 ≡ Some t) × (t.time ≡ k.0.0))
    [ inl e ↦ (s, ap (slice_get ss) (sym (ap (λ z. z.0.1) e)) ∙ g, ap (λ z. z.0.0) e) | inr y ↦ h k y ]

pub get_some : (ss : List Slot) (i : ℕ) (d : Slot) → i < length ss → slice_get ss i ≡ Some (get_or ss i d)
get_some [] i d h = absurd (omega arith)
get_some (x ∷ ss) zero d h = refl
get_some (x ∷ ss) (suc i) d h = get_some ss i d (omega arith)

pub tracked_next : (old new : List Key) (ss : List Slot) (i : ℕ) (d : Slot) → i < length ss → IsPermutation (key (get_or ss i d).time i ∷ old) new →
    AreTracked old 0 (take i ss) → AreTracked new 0 (take (i + 1) ss)
tracked_next old new ss i d l p t =
    let n : i ≡ 0 + length (take i ss) = omega (arith, length-take i ss) in
    rw (take_more ss i d l) (tracked_more old new 0 (take i ss) (get_or ss i d) (subst (λ j. IsPermutation (key (get_or ss i d).time j ∷ old) new) n p) t)

pub live-filter : (ss : List Slot) → live_clocks (filter (λ s. s.live) ss) ≡ live_clocks ss
live-filter [] = refl
live-filter (s ∷ ss) =
    let r = live-filter ss in
    by_test s.live (λ e. rw e (ap (λ t. record { time = s.time; owner = s.owner } ∷ t) r)) (λ e. rw e r)

pub length-live : (ss : List Slot) → length (filter (λ s. s.live) ss) ≡ length (live_clocks ss)
length-live [] = refl
length-live (s ∷ ss) = let r = length-live ss in by_test s.live (λ e. rw e (ap suc r)) (λ e. rw e r)

pub no_keys : (ss : List Slot) → AreKeys ss []
no_keys ss = λ k c. absurd (let z : ⊥ = omega (arith, c.1) in z)
