-- Wires at some boxes that go, box after box.
use Rattle.std.proofs.Common.{◌≡◌, ◌≢◌, ℕ, zero, suc, ◌+◌, ◌==◌, Bool, true, false, cond, not, ◌||◌, List, [], ◌∷◌, ◌++◌, filter, map, Some, IsSome, IsTrue, nat_eq, inl, inr, refl, sym, ap, ◌∙◌, subst, eqb-true, eq-eqb, length-append, arith}
use Rattle.std.specs.Prelude.{slice_get, ◌⊎◌}
use mathlib.Core.Logic.{⊎_elim}
use Rattle.std.proofs.lemmas.Bool.{cases_eq, or_cases, both_ways, false≢true}
use Rattle.std.proofs.lemmas.List.{length-map}
use Rattle.slab.specs.Slab.{get}
use Rattle.pd_grove.specs.declared.grove.Grove.{Grove}
use Rattle.pd_grove.specs.declared.spots.Spot.{Spot}
use Rattle.pd_grove.specs.Forest.{IsForest}
use Rattle.pd_grove.specs.Owning.{board_in}
use Rattle.pd_grove.specs.TextOrder.{keys_of_spots}
use Rattle.pd_owning.specs.Bound.{is_among}
use Rattle.pd_owning.specs.Parts.{ArePart}
use Rattle.pd_owning.proofs.StandLemmas.{live_there}
use Rattle.pd_web.specs.declared.lines.Line.{Line}
use Rattle.pd_web.specs.declared.web.Hop.{Hop}
use Rattle.pd_web.specs.Changes.{hop_at, Meet}
use Rattle.pd_web.specs.Hops.{fan_hops, feed_hops}
use Rattle.pd_ports.specs.Boxes.{HasNoWires}
use Rattle.pd_patch.specs.declared.patch.Patch.{Patch}
use Rattle.pd_patch.specs.Linked.{ShareCanvas, StayInside}
use Rattle.pd_order.proofs.Basics.{by_test}
use Rattle.pd_wiring.specs.Changes.{CanRewire}
use Rattle.pd_wiring.specs.Plans.{Detaches, most_looks}
use Rattle.pd_wiring.proofs.HeardLemmas.{all_at}
use Rattle.pd_taking.specs.Loosening.{is_of_other, looks_for, AreGone, Gone, IsAt, Loosens, LosesWires}
use Rattle.pd_taking.proofs.LoseLemmas.{kept_on, none_listed}
use Rattle.pd_clearing.specs.Losing.{is_of_none, looks_for_all, AreLost, IsAtOne, LoosensAll, Lost}
use Rattle.pd_clearing.proofs.PartLemmas.{beside, key_among}

-- Lists.

or_false : (b : Bool) → (b || false) ≡ b
or_false true = refl
or_false false = refl

or_more : (a b c : Bool) → (a || (b || c)) ≡ ((a || b) || c)
or_more true b c = refl
or_more false b c = refl

-- whether a key is one of these or one more
pub among_next : (ps : List Spot) (p : Spot) (k : ℕ) → is_among (keys_of_spots (ps ++ p ∷ [])) k ≡ (is_among (keys_of_spots ps) k || nat_eq k p.node)
among_next [] p k = or_false (nat_eq k p.node)
among_next (q ∷ ps) p k = ap (λ b. nat_eq k q.node || b) (among_next ps p k) ∙ or_more (nat_eq k q.node) (is_among (keys_of_spots ps) k) (nat_eq k p.node)

pub among_or_next : (ps : List Spot) (p : Spot) (k : ℕ) → IsTrue (is_among (keys_of_spots (ps ++ p ∷ [])) k) → IsTrue (is_among (keys_of_spots ps) k) ⊎ (k ≡ p.node)
among_or_next ps p k at = by (or_cases (is_among (keys_of_spots ps) k) (nat_eq k p.node) (sym (among_next ps p k) ∙ at))
  where
    by : (is_among (keys_of_spots ps) k ≡ true) ⊎ (nat_eq k p.node ≡ true) → IsTrue (is_among (keys_of_spots ps) k) ⊎ (k ≡ p.node)
    by (inl a) = inl a
    by (inr e) = inr (eqb-true k p.node e)

or_none : (a b : Bool) → (a || b) ≡ false → (a ≡ false) × (b ≡ false)
or_none false false e = (refl, refl)
or_none false true e = absurd (false≢true (sym e))
or_none true b e = absurd (false≢true (sym e))

pub none_next : (ps : List Spot) (p : Spot) (k : ℕ) → is_among (keys_of_spots (ps ++ p ∷ [])) k ≡ false → (is_among (keys_of_spots ps) k ≡ false) × (k ≢ p.node)
none_next ps p k out =
    let both = or_none (is_among (keys_of_spots ps) k) (nat_eq k p.node) (sym (among_next ps p k) ∙ out) in
    (both.0, λ e. both_ways (nat_eq k p.node) both.1 (eq-eqb k p.node e))

or_yes : (b : Bool) → (b || true) ≡ true
or_yes true = refl
or_yes false = refl

pub among_itself : (ps : List Spot) (p : Spot) → IsTrue (is_among (keys_of_spots (ps ++ p ∷ [])) p.node)
among_itself ps p = among_next ps p p.node ∙ ap (λ b. is_among (keys_of_spots ps) p.node || b) (eq-eqb p.node p.node refl) ∙ or_yes (is_among (keys_of_spots ps) p.node)

pub among_still : (ps : List Spot) (p : Spot) (k : ℕ) → IsTrue (is_among (keys_of_spots ps) k) → IsTrue (is_among (keys_of_spots (ps ++ p ∷ [])) k)
among_still ps p k at = among_next ps p k ∙ ap (λ b. b || nat_eq k p.node) at

-- a key of a list is one of its keys
pub among_at : (ps : List Spot) (i : ℕ) (p : Spot) → slice_get ps i ≡ Some p → IsTrue (is_among (keys_of_spots ps) p.node)
among_at [] i p at = cc
among_at (q ∷ ps) zero p at = ap (λ b. b || is_among (keys_of_spots ps) p.node) (eq-eqb p.node q.node (cc))
among_at (q ∷ ps) (suc i) p at = ap (λ b. nat_eq p.node q.node || b) (among_at ps i p at) ∙ or_yes (nat_eq p.node q.node)

-- two tests that agree on a list leave the same of it
same_passed : {X : Type 0} (f g : X → Bool) (xs : List X) → ((i : ℕ) (x : X) → slice_get xs i ≡ Some x → f x ≡ g x) → filter f xs ≡ filter g xs
same_passed f g [] h = refl
same_passed f g (x ∷ xs) h =
    ap (λ (b : Bool). cond b (x ∷ filter f xs) (filter f xs)) (h 0 x refl) ∙ ap (λ ys. cond (g x) (x ∷ ys) ys) (same_passed f g xs (λ i. h (suc i)))

all_pass : {X : Type 0} (f : X → Bool) (xs : List X) → ((i : ℕ) (x : X) → slice_get xs i ≡ Some x → f x ≡ true) → filter f xs ≡ xs
all_pass f [] h = refl
all_pass f (x ∷ xs) h = ap (λ (b : Bool). cond b (x ∷ filter f xs) (filter f xs)) (h 0 x refl) ∙ ap (λ ys. x ∷ ys) (all_pass f xs (λ i. h (suc i)))

-- what leads to one of these boxes doesn't lead to none of them
through : (part : List ℕ) (box : ℕ) → IsTrue (is_among part box) → (hops : List Hop) → filter (is_of_none part) (filter (is_of_other box) hops) ≡ filter (is_of_none part) hops
through part box at [] = refl
through part box at (h ∷ hs) = by_test (h.node == box)
    (λ t. let none : is_of_none part h ≡ false = ap (λ n. not (is_among part n)) (eqb-true h.node box t) ∙ ap not at in
    ap (λ b. filter (is_of_none part) (cond (not b) (h ∷ filter (is_of_other box) hs) (filter (is_of_other box) hs))) t
    ∙ through part box at hs ∙ sym (ap (λ (b : Bool). cond b (h ∷ filter (is_of_none part) hs) (filter (is_of_none part) hs)) none))
    (λ f. ap (λ b. filter (is_of_none part) (cond (not b) (h ∷ filter (is_of_other box) hs) (filter (is_of_other box) hs))) f
    ∙ ap (λ (ys : List Hop). cond (is_of_none part h) (h ∷ ys) ys) (through part box at hs))

-- The wires at one box more.

abbrev lost_of : ℕ → Gone → Lost
lost_of c x = record { key = x.key; canvas = c; line = x.line; before = x.before }

same_grove : (box : ℕ) (p q : Patch) (gone : List Gone) → AreGone box p gone q → q.grove ≡ p.grove
same_grove box p q [] e = ap (λ (x : Patch). x.grove) e
same_grove box p q (x ∷ xs) g = g.0.done.rest.grove ∙ same_grove box p x.before xs g.1

are_lost : (part : List ℕ) (box c : ℕ) (p q : Patch) (gone : List Gone) → IsTrue (is_among part box) → board_in (get p.grove.nodes box) ≡ Some c → AreGone box p gone q
    → AreLost part p (map (lost_of c) gone) q
are_lost part box c p q [] at home e = e
are_lost part box c p q (x ∷ xs) at home g = (
  record { box = box; among = at; at = g.0.at; home = ap (λ (h : Grove). board_in (get h.nodes box)) (same_grove box p x.before xs g.1) ∙ home; told = g.0.told; done = g.0.done },
  are_lost part box c p x.before xs at home g.1,
)

same_looks : (c : ℕ) (gone : List Gone) (q : Patch) → looks_for_all (map (lost_of c) gone) q ≡ looks_for c gone q
same_looks c [] q = refl
same_looks c (x ∷ xs) q = ap (λ n. most_looks (Detaches c x.key x.line) x.before q + n) (same_looks c xs x.before)

lost_on : (part : List ℕ) (p q r : Patch) (xs ys : List Lost) → AreLost part p xs q → AreLost part q ys r → AreLost part p (ys ++ xs) r
lost_on part p q r xs [] a b = subst (AreLost part p xs) (sym b) a
lost_on part p q r xs (y ∷ ys) a b = (b.0, lost_on part p q y.before xs ys a b.1)

looks_add : (part : List ℕ) (q r : Patch) (xs ys : List Lost) → AreLost part q ys r → looks_for_all (ys ++ xs) r ≡ looks_for_all ys r + looks_for_all xs q
looks_add part q r xs [] b = let same = ap (looks_for_all xs) b in omega (arith, same)
looks_add part q r xs (y ∷ ys) b = let rest = looks_add part q y.before xs ys b.1 in omega (arith, rest)

pub loosens_none : (p : Patch) (part : List ℕ) (steps : ℕ) → CanRewire p → Meet p.web → LoosensAll p p part [] steps steps
loosens_none p part steps R meet = record {
  lost = [];
  one_by_one = refl;
  looks = omega arith;
  count = omega arith;
  bare = λ k at. absurd (false≢true at);
  fans = λ k outlet out. refl;
  feeds = λ k inlet out. refl;
  other_lines = λ k l d e. e;
  none_comes = λ k e. e;
  kept = record { ports = λ side k. refl; made = λ k. refl; homes = λ j. refl };
  room = λ k n m r. r;
  meet = meet;
  rest = record { grove = refl; names = refl; timers = refl; numbers = refl; values = refl; rate = refl; present = refl; orders = λ c none. refl };
  rewires = R;
  built = λ names file rate b. b;
}

module _ (p q r : Patch) (part done done' : List ℕ) (box s s' s'' : ℕ) (L : LoosensAll p q part done s s') (M : Loosens q r box s' s'') (W : LosesWires q.web r.web box) (at : IsTrue (is_among part box))
    (live : IsSome (get p.grove.nodes box)) (next : (k : ℕ) → IsTrue (is_among done' k) → IsTrue (is_among done k) ⊎ (k ≡ box)) where
  home : (c : ℕ) × (board_in (get p.grove.nodes box) ≡ Some c)
  home = let N = live_there (get p.grove.nodes box) live in (N.0.board, ap board_in N.1)

  home_now : board_in (get q.grove.nodes box) ≡ Some home.0
  home_now = ap (λ (g : Grove). board_in (get g.nodes box)) L.rest.grove ∙ home.1

  other : (k : ℕ) → is_among part k ≡ false → k ≢ box
  other k out e = both_ways (is_among part k) out (ap (is_among part) e ∙ at)

  bare_more : (k : ℕ) → IsTrue (is_among done' k) → HasNoWires r.web k
  bare_more k there = ⊎_elim
      (λ (e : k ≡ box). subst (λ x. HasNoWires r.web x) (sym e) W.bare)
      (λ (d : k ≢ box). ⊎_elim
      (λ (was : IsTrue (is_among done k)). let b = L.bare k was in record {
        fans = λ outlet. W.fans k outlet d ∙ ap (filter (is_of_other box)) (b.fans outlet);
        feeds = λ inlet. W.feeds k inlet d ∙ ap (filter (is_of_other box)) (b.feeds inlet);
      })
      (λ (e : k ≡ box). absurd (d e)) (next k there))
      (cases_eq k box)

  at_one : (l : Line) → IsAt box l → IsAtOne part l
  at_one l (inl e) = inl (ap (is_among part) e ∙ at)
  at_one l (inr e) = inr (ap (is_among part) e ∙ at)

  pub loosens_next : LoosensAll p r part done' s s''
  loosens_next =
      let c = home.0 in
      let gone : List Lost = map (lost_of c) M.gone in
      let are = are_lost part box c q r M.gone at home_now M.one_by_one in
      record {
        lost = gone ++ L.lost;
        one_by_one = lost_on part p q r L.lost gone L.one_by_one are;
        looks =
            let a = L.looks in
            let b = M.looks c home_now in
            let e = looks_add part q r L.lost gone are in
            let f = same_looks c M.gone r in
            omega (arith, a, b, e, f);
        count =
            let a = L.count in
            let b = M.count in
            let e = length-append gone L.lost in
            let f = length-map M.gone (lost_of c) in
            omega (arith, a, b, e, f);
        bare = bare_more;
        fans = λ k outlet out. ap (filter (is_of_none part)) (W.fans k outlet (other k out)) ∙ through part box at (fan_hops q.web k outlet) ∙ L.fans k outlet out;
        feeds = λ k inlet out. ap (filter (is_of_none part)) (W.feeds k inlet (other k out)) ∙ through part box at (feed_hops q.web k inlet) ∙ L.feeds k inlet out;
        other_lines = λ k l d e. W.other_lines k l (λ here. d (at_one l here)) (L.other_lines k l d e);
        none_comes = λ k e. W.none_comes k (L.none_comes k e);
        kept = kept_on p.web q.web r.web L.kept W.kept;
        room = λ k n m x. W.room k n m (L.room k n m x);
        meet = W.meet;
        rest = record {
          grove = M.rest.grove ∙ L.rest.grove;
          names = M.rest.names ∙ L.rest.names;
          timers = M.rest.timers ∙ L.rest.timers;
          numbers = M.rest.numbers ∙ L.rest.numbers;
          values = M.rest.values ∙ L.rest.values;
          rate = M.rest.rate ∙ L.rest.rate;
          present = M.rest.present ∙ L.rest.present;
          orders = λ d none. M.rest.orders d (λ e. none box at (ap (λ (g : Grove). board_in (get g.nodes box)) (sym L.rest.grove) ∙ e)) ∙ L.rest.orders d none;
        };
        rewires = M.rewires;
        built = λ names file rate b. M.built names file rate (L.built names file rate b);
      }

-- All wires are gone.

module _ (p q : Patch) (key : ℕ) (part : List ℕ) (s s' : ℕ) (L : LoosensAll p q part part s s') where
  -- what is left leads to none of these boxes
  none_at : (h : Hop) → ((IsTrue (is_among part h.node)) → ⊥) → is_of_none part h ≡ true
  none_at h never = by_test (is_among part h.node) (λ t. absurd (never t)) (λ f. ap not f)

  fans_all : (k outlet : ℕ) → filter (is_of_none part) (fan_hops q.web k outlet) ≡ fan_hops q.web k outlet
  fans_all k outlet = all_pass (is_of_none part) (fan_hops q.web k outlet) (λ i h e. none_at h (λ there.
      none_listed (feed_hops q.web h.node h.port) (hop_at h.key k outlet) ((L.bare h.node there).feeds h.port) (L.meet.fed k outlet i h e)))

  feeds_all : (k inlet : ℕ) → filter (is_of_none part) (feed_hops q.web k inlet) ≡ feed_hops q.web k inlet
  feeds_all k inlet = all_pass (is_of_none part) (feed_hops q.web k inlet) (λ i h e. none_at h (λ there.
      none_listed (fan_hops q.web h.node h.port) (hop_at h.key k inlet) ((L.bare h.node there).fans h.port) (L.meet.fanned k inlet i h e)))

  module _ (F : IsForest (get p.grove.nodes) (get p.grove.boards) p.grove.root) (A : ArePart (get p.grove.nodes) (get p.grove.boards) key part) (inside : StayInside p.grove p.web) (meet : Meet p.web) where
    -- of the boxes of its canvas only that of the key goes
    one_test : (k : ℕ) (h : Hop) → is_among part k ≡ false → ShareCanvas p.grove k h.node → is_of_none part h ≡ is_of_other key h
    one_test k h out share = ⊎_elim
        (λ (e : h.node ≡ key). ap (λ n. not (is_among part n)) e ∙ ap not (key_among (get p.grove.nodes) (get p.grove.boards) p.grove.root F key part A) ∙ sym (ap not (eq-eqb h.node key e)))
        (λ (d : h.node ≢ key).
        ap not (beside (get p.grove.nodes) (get p.grove.boards) p.grove.root F key part A k h.node share.canvas out (F.own.home share.canvas share.one.0 k share.one.1)
        (F.own.home share.canvas share.other.0 h.node share.other.1) d)
        ∙ sym (by_test (h.node == key) (λ t. absurd (d (eqb-true h.node key t))) (λ f. ap not f)))
        (cases_eq h.node key)

    share_of : (k outlet i : ℕ) (h : Hop) → slice_get (fan_hops p.web k outlet) i ≡ Some h → ShareCanvas p.grove k h.node
    share_of k outlet i h e = all_at (λ (x : Hop). ShareCanvas p.grove k x.node) (fan_hops p.web k outlet) i h (inside k outlet) e

    turned : (k l : ℕ) → ShareCanvas p.grove k l → ShareCanvas p.grove l k
    turned k l s = record { canvas = s.canvas; one = s.other; other = s.one }

    pub fans_left : (k outlet : ℕ) → is_among part k ≡ false → fan_hops q.web k outlet ≡ filter (is_of_other key) (fan_hops p.web k outlet)
    fans_left k outlet out =
        sym (fans_all k outlet) ∙ L.fans k outlet out
        ∙ same_passed (is_of_none part) (is_of_other key) (fan_hops p.web k outlet) (λ i h e. one_test k h out (share_of k outlet i h e))

    pub feeds_left : (k inlet : ℕ) → is_among part k ≡ false → feed_hops q.web k inlet ≡ filter (is_of_other key) (feed_hops p.web k inlet)
    feeds_left k inlet out =
        sym (feeds_all k inlet) ∙ L.feeds k inlet out
        ∙ same_passed (is_of_none part) (is_of_other key) (feed_hops p.web k inlet) (λ i h e.
        let f = meet.fanned k inlet i h e in
        one_test k h out (turned h.node k (share_of h.node h.port f.0 (hop_at h.key k inlet) f.1)))
