-- The index of the owners' places, while slots come, die and go.
use Rattle.std.proofs.Common.{◌≡◌, ◌≢◌, ℕ, zero, suc, ◌+◌, ◌<◌, ◌≤◌, true, false, not, ◌&&◌, cond, if◌then◌else◌, nat_eq, List, [], ◌∷◌, ◌++◌, Option, Some, None, Result, Ok, Err, IsOk, OnOk, IfOk, is_some, slice_get, length, get_or, set, take, length-take, refl, sym, ap, ◌∙◌, subst, arith, eqb, true≢false}
use Rattle.std.specs.List.{AllByRecursion, filter}
use Rattle.std.specs.Map.{lookup}
use Rattle.std.proofs.lemmas.List.{take_more}
use Rattle.indexmap.specs.IndexMap.{IndexMap, IsEmpty}
use Rattle.pd_clock.specs.declared.slots.Slot.{Slot}
use Rattle.pd_clock.specs.Index.{AreNoted, LeadHome, IsIndexOf, IsNoted, place_of}
use Rattle.pd_clock.specs.Queue.{clocks_of, AreApart}
use Rattle.pd_clock.specs.Slots.{live_clocks, dead_of, died}
use Rattle.pd_clock.proofs.HeapLemmas.{eqb-yes, get-set-same, get-set-other, get-front, get-last, get_some}
use Rattle.pd_clock.proofs.QueueLemmas.{by_test, eqb-is}

eqb-no : (m n : ℕ) → m ≢ n → eqb m n ≡ false
eqb-no m n h = by_test (eqb m n) (λ e. absurd (h (eqb-is m n e))) (λ e. e)

eqb-not : (m n : ℕ) → eqb m n ≡ false → m ≢ n
eqb-not m n h = λ e. absurd (let z : true ≡ false = sym (eqb-yes m n e) ∙ h in cc)

-- ---- an owner's slot dies

died_same : (o : ℕ) (s : Slot) → (s.live && not (eqb s.owner o)) ≡ s.live → died o s ≡ s
died_same o s h = ap (λ b. record { time = s.time; owner = s.owner; live = b }) h

died_other : (o : ℕ) (s : Slot) → (s.live ≡ true → s.owner ≢ o) → died o s ≡ s
died_other o s h = died_same o s
    (by_test s.live (λ l. rw (l, eqb-no s.owner o (h l)) refl) (λ l. rw l refl))

died_own : (o : ℕ) (s : Slot) → s.owner ≡ o → died o s ≡ record { time = s.time; owner = s.owner; live = false }
died_own o s h =
    let e : (s.live && not (eqb s.owner o)) ≡ false = by_test s.live (λ l. rw (l, eqb-yes s.owner o h) refl) (λ l. rw l refl) in
    ap (λ b. record { time = s.time; owner = s.owner; live = b }) e

-- no slot is where the owner leads to
pub none_dies : (at : ℕ → Option ℕ) (o i : ℕ) (ss : List Slot) → AreNoted at i ss → ((j : ℕ) → i ≤ j → at o ≢ Some j) → dead_of o ss ≡ ss
none_dies at o i [] n h = refl
none_dies at o i (s ∷ ss) n h =
    let r : dead_of o ss ≡ ss = none_dies at o (suc i) ss n.1 (λ j l. h j (omega (arith, l))) in
    let same : died o s ≡ s = died_other o s (λ l e. h i (omega arith) (ap at (sym e) ∙ n.0 l)) in
    ap (λ x. x ∷ dead_of o ss) same ∙ ap (λ t. s ∷ t) r

some_is : (m n : ℕ) → Some m ≡ Some n → m ≡ n
some_is m n h = cc

-- one slot is
pub one_dies : (at : ℕ → Option ℕ) (o i p : ℕ) (ss : List Slot) (s : Slot) → AreNoted at i ss → at o ≡ Some (i + p) →
    slice_get ss p ≡ Some s → s.owner ≡ o → dead_of o ss ≡ set ss p (record { time = s.time; owner = s.owner; live = false })
one_dies at o i p [] s n h g w = absurd (cc)
one_dies at o i zero (x ∷ ss) s n h g w =
    let e : x ≡ s = cc in
    let r : dead_of o ss ≡ ss =
    none_dies at o (suc i) ss n.1 (λ j l q. absurd (let y : i + 0 ≡ j = some_is (i + 0) j (sym h ∙ q) in let b : ⊥ = omega (arith, y, l) in b)) in
    let d : died o x ≡ record { time = s.time; owner = s.owner; live = false } = ap (died o) e ∙ died_own o s w in
    ap (λ y. y ∷ dead_of o ss) d ∙ ap (λ t. record { time = s.time; owner = s.owner; live = false } ∷ t) r
one_dies at o i (suc p) (x ∷ ss) s n h g w =
    let k : i + suc p ≡ suc i + p = omega arith in
    let r = one_dies at o (suc i) p ss s n.1 (h ∙ ap Some k) g w in
    let same : died o x ≡ x =
    died_other o x
    (λ l e. absurd (let y : i + suc p ≡ i = some_is (i + suc p) i (sym h ∙ ap at (sym e) ∙ n.0 l) in let b : ⊥ = omega (arith, y) in b)) in
    ap (λ y. y ∷ dead_of o ss) same ∙ ap (λ t. x ∷ t) r

noted_dead : (at : ℕ → Option ℕ) (o i : ℕ) (ss : List Slot) → AreNoted at i ss → AreNoted at i (dead_of o ss)
noted_dead at o i [] n = tt
noted_dead at o i (s ∷ ss) n = (
  (λ l. n.0 (by_test s.live (λ e. e) (λ e. absurd (let q : false ≡ true = rw e at l in cc)))),
  noted_dead at o (suc i) ss n.1,
)

get-dead_owner : (o : ℕ) (ss : List Slot) (i : ℕ) (s : Slot) → slice_get ss i ≡ Some s →
    (t : Slot) × (slice_get (dead_of o ss) i ≡ Some t) × (t.owner ≡ s.owner)
get-dead_owner o [] i s h = absurd (cc)
get-dead_owner o (x ∷ ss) zero s h = let e : x ≡ s = cc in (died o x, refl, ap (λ z. z.owner) e)
get-dead_owner o (x ∷ ss) (suc i) s h = get-dead_owner o ss i s h

pub index_dead : (at : ℕ → Option ℕ) (o : ℕ) (ss : List Slot) → IsIndexOf at ss → IsIndexOf at (dead_of o ss)
index_dead at o ss h = record {
  noted = noted_dead at o 0 ss h.noted;
  home = λ q p e. let a = h.home q p e in let d = get-dead_owner o ss p a.0 a.1 in (d.0, d.1, d.2 ∙ a.2);
}

noted_set : (at : ℕ → Option ℕ) (i p : ℕ) (ss : List Slot) (dead : Slot) → dead.live ≡ false → AreNoted at i ss → AreNoted at i (set ss p dead)
noted_set at i p [] dead d n = tt
noted_set at i zero (x ∷ ss) dead d n = ((λ l. absurd (let z : true ≡ false = sym l ∙ d in cc)), n.1)
noted_set at i (suc p) (x ∷ ss) dead d n = (n.0, noted_set at (suc i) p ss dead d n.1)

-- the slot at a place dies
pub index_set : (at : ℕ → Option ℕ) (p : ℕ) (ss : List Slot) (s dead : Slot) → slice_get ss p ≡ Some s → dead.live ≡ false →
    dead.owner ≡ s.owner → IsIndexOf at ss → IsIndexOf at (set ss p dead)
index_set at p ss s dead g d own h = record {
  noted = noted_set at 0 p ss dead d h.noted;
  home = λ o q e.
      let a = h.home o q e in
      by_test (eqb q p)
      (λ t.
      let same : q ≡ p = eqb-is q p t in
      let x : Some a.0 ≡ Some s = sym a.1 ∙ ap (slice_get ss) same ∙ g in
      let is : a.0 ≡ s = cc in
      (dead, ap (slice_get (set ss p dead)) same ∙ get-set-same ss p s dead g, own ∙ sym (ap (λ z. z.owner) is) ∙ a.2))
      (λ t. (a.0, get-set-other ss p q dead (eqb-not q p t) ∙ a.1, a.2));
}

-- ---- a slot comes last

noted_other : (at after : ℕ → Option ℕ) (o p i : ℕ) (ss : List Slot) → clocks_of o (live_clocks ss) ≡ 0 → IsNoted at after o p →
    AreNoted at i ss → AreNoted after i ss
noted_other at after o p i [] z n t = tt
noted_other at after o p i (s ∷ ss) z n t =
    by_test s.live
    (λ l.
    let zs : cond (eqb s.owner o) 1 0 + clocks_of o (live_clocks ss) ≡ 0 = rw l at z in
    let other : s.owner ≢ o = λ e.
    absurd (let b : ⊥ = let c : 1 + clocks_of o (live_clocks ss) ≡ 0 = rw (eqb-yes s.owner o e) at zs in omega (arith, c) in b) in
    let rest : clocks_of o (live_clocks ss) ≡ 0 = omega (arith, zs) in
    ((λ k. n.others s.owner other ∙ t.0 l), noted_other at after o p (suc i) ss rest n t.1))
    (λ l.
    let rest : clocks_of o (live_clocks ss) ≡ 0 = rw l at z in
    ((λ k. absurd (let q : true ≡ false = sym k ∙ l in cc)), noted_other at after o p (suc i) ss rest n t.1))

noted_last : (at : ℕ → Option ℕ) (i : ℕ) (ss : List Slot) (s : Slot) → at s.owner ≡ Some (i + length ss) → AreNoted at i ss →
    AreNoted at i (ss ++ s ∷ [])
noted_last at i [] s h t = let e : i + 0 ≡ i = omega arith in ((λ l. h ∙ ap Some e), tt)
noted_last at i (x ∷ ss) s h t =
    let e : i + suc (length ss) ≡ suc i + length ss = omega arith in (t.0, noted_last at (suc i) ss s (h ∙ ap Some e) t.1)

home_next : (at after : ℕ → Option ℕ) (ss ts : List Slot) (o p : ℕ) (s : Slot) → IsNoted at after o p → slice_get ts p ≡ Some s → s.owner ≡ o →
    ((q : ℕ) (t : Slot) → slice_get ss q ≡ Some t → slice_get ts q ≡ Some t) → LeadHome at ss → LeadHome after ts
home_next at after ss ts o p s n g own more h = λ u q e.
    by_test (eqb u o)
    (λ t.
    let same : u ≡ o = eqb-is u o t in
    let is : q ≡ p = some_is q p (sym e ∙ ap after same ∙ n.here) in
    (s, ap (slice_get ts) is ∙ g, own ∙ sym same))
    (λ t. let a = h u q (sym (n.others u (eqb-not u o t)) ∙ e) in (a.0, more q a.0 a.1, a.2))

pub index_more : (at after : ℕ → Option ℕ) (ss : List Slot) (s : Slot) → clocks_of s.owner (live_clocks ss) ≡ 0 →
    IsNoted at after s.owner (length ss) → IsIndexOf at ss → IsIndexOf after (ss ++ s ∷ [])
index_more at after ss s z n h = record {
  noted = noted_last after 0 ss s (n.here ∙ ap Some (omega arith)) (noted_other at after s.owner (length ss) 0 ss z n h.noted);
  home = home_next at after ss (ss ++ s ∷ []) s.owner (length ss) s n (get-last ss s) refl (λ q t g. get-front ss (s ∷ []) q t g) h.home;
}

-- ---- the index made again

live_at : (ss : List Slot) (i : ℕ) (d : Slot) → i < length ss → AllByRecursion (λ s. s.live ≡ true) ss → (get_or ss i d).live ≡ true
live_at [] i d l a = absurd (omega arith)
live_at (x ∷ ss) zero d l a = a.0
live_at (x ∷ ss) (suc i) d l a = live_at ss i d (omega arith) a.1

before_one : (o : ℕ) (ss : List Slot) (i : ℕ) (d : Slot) → i < length ss → (get_or ss i d).live ≡ true → (get_or ss i d).owner ≡ o →
    clocks_of o (live_clocks (take i ss)) + 1 ≤ clocks_of o (live_clocks ss)
before_one o [] i d l a w = absurd (omega arith)
before_one o (x ∷ ss) zero d l a w = rw (a, eqb-yes x.owner o w) (omega arith)
before_one o (x ∷ ss) (suc i) d l a w =
    let r = before_one o ss i d (omega arith) a w in
    by_test x.live (λ e. rw e (omega (arith, r))) (λ e. rw e r)

pub noted_next : (at after : ℕ → Option ℕ) (ss : List Slot) (i : ℕ) (d : Slot) → i < length ss → AllByRecursion (λ s. s.live ≡ true) ss →
    AreApart (live_clocks ss) → IsNoted at after (get_or ss i d).owner i → AreNoted at 0 (take i ss) → AreNoted after 0 (take (i + 1) ss)
noted_next at after ss i d l a apart n t =
    let s = get_or ss i d in
    let one = before_one s.owner ss i d l (live_at ss i d l a) refl in
    let none : clocks_of s.owner (live_clocks (take i ss)) ≡ 0 = omega (arith, one, apart s.owner) in
    let e : i ≡ 0 + length (take i ss) = omega (arith, length-take i ss) in
    rw (take_more ss i d l) (noted_last after 0 (take i ss) s (n.here ∙ ap Some e) (noted_other at after s.owner i 0 (take i ss) none n t))

pub home_more : (at after : ℕ → Option ℕ) (ss : List Slot) (i : ℕ) (d : Slot) → i < length ss → IsNoted at after (get_or ss i d).owner i →
    LeadHome at ss → LeadHome after ss
home_more at after ss i d l n h =
    home_next at after ss ss (get_or ss i d).owner i (get_or ss i d) n (get_some ss i d l) refl (λ q t g. g) h

pub all_live : (ss : List Slot) → AllByRecursion (λ s. s.live ≡ true) (filter (λ s. s.live) ss)
all_live [] = tt
all_live (s ∷ ss) = let r = all_live ss in by_test s.live (λ e. rw e (refl, r)) (λ e. rw e r)

-- ---- the map

pub noted_by : (at after : ℕ → Option ℕ) (o p : ℕ) → ((q : ℕ) → after q ≡ cond (nat_eq o q) (Some p) (at q)) → IsNoted at after o p
noted_by at after o p h = record {
  here = h o ∙ ap (λ b. cond b (Some p) (at o)) (eqb-yes o o refl);
  others = λ q n. h q ∙ ap (λ b. cond b (Some p) (at q)) (eqb-no o q (λ e. n (sym e)));
}

pub home_empty : {S : Type 0} (m : IndexMap ℕ ℕ S) (ss : List Slot) → IsEmpty m → LeadHome (place_of m) ss
home_empty m ss h = λ o p e. absurd (let q : None ≡ Some p = sym (ap (lookup (eqb o)) h) ∙ e in cc)

pub on_ok : {A E P : Type 0} (r : Result A E) → IsOk r → OnOk r P → P
on_ok (Ok a) ok p = p
on_ok (Err e) ok p = absurd (true≢false (sym ok))

pub longer : {E : Type 0} (r : Result (Option ℕ) E) (m n : ℕ) (was : Option ℕ) → IsOk r → was ≡ None → IfOk r (λ old. old ≡ was) →
    IfOk r (λ old. n ≡ m + (if is_some old then 0 else 1)) → n ≡ m + 1
longer (Ok old) m n was ok none is len = let e : old ≡ None = is ∙ none in rw e at len
longer (Err e) m n was ok none is len = absurd (true≢false (sym ok))

-- a map with the same entries is an index of the same slots
pub index_moved : {S : Type 0} (m n : IndexMap ℕ ℕ S) (ss ts : List Slot) → n.entries ≡ m.entries → ts ≡ ss → IsIndexOf (place_of m) ss →
    IsIndexOf (place_of n) ts
index_moved m n ss ts e t h =
    subst (λ v. IsIndexOf (place_of n) v) (sym t) (subst (λ es. IsIndexOf (λ o. lookup (eqb o) es) ss) (sym e) h)
