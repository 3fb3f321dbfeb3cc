-- The wires that go are wires at the box, each once, and no other wire at it goes.
use Rattle.std.proofs.Common.{◌≡◌, ℕ, zero, suc, ◌+◌, ◌==◌, Bool, true, false, cond, ◌&&◌, ◌||◌, List, [], ◌∷◌, ◌++◌, length, slice_get, Some, refl, sym, ap, ◌∙◌, subst, inl, inr, eqb-true, eq-eqb, arith}
use Rattle.std.specs.List.{flat_map, range_with_len}
use mathlib.Core.Logic.{⊎_elim}
use Rattle.std.proofs.lemmas.Option.{none-some, same_Some}
use Rattle.pd_object.specs.declared.kinds.Kind.{Kind}
use Rattle.pd_grove.specs.declared.ports.Side.{Side}
use Rattle.pd_grove.specs.declared.ports.Side.TheVariants.{Inlets, Outlets}
use Rattle.pd_web.specs.declared.lines.Line.{Line}
use Rattle.pd_web.specs.declared.web.Hop.{Hop}
use Rattle.pd_web.specs.declared.web.Web.{Web}
use Rattle.pd_web.specs.Canvases.{keys_at}
use Rattle.pd_web.specs.Hops.{ports_told, fan_hops, feed_hops}
use Rattle.pd_web.specs.Changes.{hop_at, line_told, Meet}
use Rattle.pd_patch.specs.declared.patch.Patch.{Patch}
use Rattle.pd_patch.specs.Listing.{IsThere}
use Rattle.pd_wiring.specs.Changes.{CanRewire, LeadsAlong}
use Rattle.pd_taking.specs.Loosening.{hops_at, line_at, IsAt}
use Rattle.pd_misfits.specs.declared.wires.BoxWire.{BoxWire}
use Rattle.pd_misfits.specs.declared.wires.Fate.{Fate}
use Rattle.pd_misfits.specs.Misfits.{box_wires, outlet_wires, picked, picks, wants, wire_from, wire_of}
use Rattle.pd_misfits.specs.Shedding.{is_among, AreWiresAt, IsWired}
use Rattle.pd_misfits.proofs.ListLemmas.{from_flat, from_range, in_either, in_flat, in_listed, in_range, listed_in, IsIn}
use Rattle.pd_misfits.proofs.GatherLemmas.{both_left, both_right, choose, chosen, feeder, port_there}
use Rattle.pd_misfits.proofs.WalkLemmas.{AreOnce}

-- Lists of which each is there once.

-- nothing stands twice
abbrev pub Lone : {X : Type 0} → List X → Type 0
Lone [] = Unit {0}
Lone (x ∷ xs) = (IsIn x xs → ⊥) × Lone xs

lone_from : {X : Type 0} (xs : List X) → ((i j : ℕ) (x : X) → slice_get xs i ≡ Some x → slice_get xs j ≡ Some x → i ≡ j) → Lone xs
lone_from [] h = tt
lone_from (x ∷ xs) h = (
  λ i. let l = listed_in x xs i in let e = h 0 (suc l.0) x refl l.1 in omega (arith, e),
  lone_from xs (λ i j y a b. let e = h (suc i) (suc j) y a b in omega (arith, e)),
)

lone_range : (a n : ℕ) → Lone (range_with_len a n)
lone_range a zero = tt
lone_range a (suc n) = (λ i. let r = from_range (a + 1) n a i in let l = r.0 in omega (arith, l), lone_range (a + 1) n)

-- no two have one key
abbrev pub Apart : List BoxWire → Type 0
Apart [] = Unit {0}
Apart (m ∷ ms) = ((n : BoxWire) → IsIn n ms → m.key ≡ n.key → ⊥) × Apart ms

apart_append : (xs ys : List BoxWire) → Apart xs → Apart ys → ((m n : BoxWire) → IsIn m xs → IsIn n ys → m.key ≡ n.key → ⊥) → Apart (xs ++ ys)
apart_append [] ys a b d = b
apart_append (m ∷ xs) ys a b d = (
  λ n i e. ⊎_elim (λ (l : IsIn n xs). a.0 n l e) (λ (r : IsIn n ys). d m n (inl refl) r e) (in_either n xs ys i),
  apart_append xs ys a.1 b (λ u v i j e. d u v (inr i) j e),
)

apart_flat : {X : Type 0} (f : X → List BoxWire) (xs : List X) → Lone xs → ((x : X) → IsIn x xs → Apart (f x))
    → ((x y : X) (m n : BoxWire) → IsIn x xs → IsIn y xs → IsIn m (f x) → IsIn n (f y) → m.key ≡ n.key → x ≡ y) → Apart (flat_map f xs)
apart_flat f [] l a d = tt
apart_flat f (x ∷ xs) l a d =
    apart_append (f x) (flat_map f xs) (a x (inl refl)) (apart_flat f xs l.1 (λ y i. a y (inr i)) (λ u v m n i j p q e. d u v m n (inr i) (inr j) p q e))
    (λ m n i j e.
    let F = from_flat f xs n j in
    l.0 (subst (λ z. IsIn z xs) (sym (d x F.of m n (inl refl) (inr F.is_in) i F.has e)) F.is_in))

apart_once : (ms : List BoxWire) → Apart ms → (i j : ℕ) (m n : BoxWire) → slice_get ms i ≡ Some m → slice_get ms j ≡ Some n → m.key ≡ n.key → i ≡ j
apart_once [] a i j m n p q e = absurd (none-some m p)
apart_once (x ∷ ms) a zero zero m n p q e = refl
apart_once (x ∷ ms) a zero (suc j) m n p q e = absurd (a.0 n (in_listed n ms j q) (ap (λ (y : BoxWire). y.key) (same_Some x m p) ∙ e))
apart_once (x ∷ ms) a (suc i) zero m n p q e = absurd (a.0 m (in_listed m ms i p) (ap (λ (y : BoxWire). y.key) (same_Some x n q) ∙ sym e))
apart_once (x ∷ ms) a (suc i) (suc j) m n p q e = ap suc (apart_once ms a.1 i j m n p q e)

apart_choice : (b : Bool) (m : BoxWire) → Apart (cond b (m ∷ []) [])
apart_choice true m = (λ n i e. i, tt)
apart_choice false m = tt

-- A wire that goes.

pub record GoesFrom (fate : Fate) (w : Web) (numbers : List ℕ) (key : ℕ) (k : Kind) (node outlet : ℕ) (m : BoxWire) : Type 0 where
  pub hop : Hop
  pub is_in : IsIn hop (fan_hops w node outlet)
  pub goes : picks fate w key k (line_at Outlets node outlet hop) ≡ true
  pub is : wire_of numbers hop.key (line_at Outlets node outlet hop) ≡ m

module _ (fate : Fate) (w : Web) (numbers : List ℕ) (key : ℕ) (k : Kind) where
  from_outlet : (node outlet : ℕ) (m : BoxWire) → IsIn m (outlet_wires fate w numbers key k node outlet) → GoesFrom fate w numbers key k node outlet m
  from_outlet node outlet m i =
      let F = from_flat (wire_from fate w numbers key k node outlet) (fan_hops w node outlet) m i in
      let c = chosen (picks fate w key k (line_at Outlets node outlet F.of)) (wire_of numbers F.of.key (line_at Outlets node outlet F.of)) m F.has in
      record { hop = F.of; is_in = F.is_in; goes = c.0; is = c.1 }

  -- its line is told
  line_is : (node outlet : ℕ) (m : BoxWire) → IsWired w → GoesFrom fate w numbers key k node outlet m → line_told w m.key ≡ Some m.line
  line_is node outlet m W G =
      let l = listed_in G.hop (fan_hops w node outlet) G.is_in in
      subst (λ (x : BoxWire). line_told w x.key ≡ Some x.line) G.is (W.fans node outlet l.0 G.hop l.1)

  pub record AtBox (m : BoxWire) : Type 0 where
    pub node : ℕ
    pub outlet : ℕ
    pub from : GoesFrom fate w numbers key k node outlet m

  from_box : (node : ℕ) (m : BoxWire) → IsIn m (box_wires fate w numbers key k node) → (o : ℕ) × GoesFrom fate w numbers key k node o m
  from_box node m i =
      let F = from_flat (outlet_wires fate w numbers key k node) (range_with_len 0 (length (ports_told w Outlets node))) m i in
      (F.of, from_outlet node F.of m F.has)

  outlet_apart : (node outlet : ℕ) → AreOnce (fan_hops w node outlet) → Apart (outlet_wires fate w numbers key k node outlet)
  outlet_apart node outlet once =
      apart_flat (wire_from fate w numbers key k node outlet) (fan_hops w node outlet) (lone_from (fan_hops w node outlet) (λ i j h a b. once i j h h a b refl))
      (λ h i. apart_choice (picks fate w key k (line_at Outlets node outlet h)) (wire_of numbers h.key (line_at Outlets node outlet h)))
      (λ g h m n i j a b e.
      let c = chosen (picks fate w key k (line_at Outlets node outlet g)) (wire_of numbers g.key (line_at Outlets node outlet g)) m a in
      let d = chosen (picks fate w key k (line_at Outlets node outlet h)) (wire_of numbers h.key (line_at Outlets node outlet h)) n b in
      let p = listed_in g (fan_hops w node outlet) i in
      let q = listed_in h (fan_hops w node outlet) j in
      let keys : g.key ≡ h.key = ap (λ (x : BoxWire). x.key) c.1 ∙ e ∙ sym (ap (λ (x : BoxWire). x.key) d.1) in
      same_Some g h (sym p.1 ∙ ap (slice_get (fan_hops w node outlet)) (once p.0 q.0 g h p.1 q.1 keys) ∙ q.1))

  same_lines : (a b c d : ℕ) (m n : BoxWire) → IsWired w → GoesFrom fate w numbers key k a b m → GoesFrom fate w numbers key k c d n → m.key ≡ n.key → m.line ≡ n.line
  same_lines a b c d m n W G H e = same_Some m.line n.line (sym (line_is a b m W G) ∙ ap (line_told w) e ∙ line_is c d n W H)

  source_is : (a b : ℕ) (m : BoxWire) → GoesFrom fate w numbers key k a b m → m.line.source ≡ a
  source_is a b m G = ap (λ (x : BoxWire). x.line.source) (sym G.is)

  outlet_is : (a b : ℕ) (m : BoxWire) → GoesFrom fate w numbers key k a b m → m.line.outlet ≡ b
  outlet_is a b m G = ap (λ (x : BoxWire). x.line.outlet) (sym G.is)

  box_apart : (node : ℕ) → IsWired w → ((o : ℕ) → AreOnce (fan_hops w node o)) → Apart (box_wires fate w numbers key k node)
  box_apart node W once =
      apart_flat (outlet_wires fate w numbers key k node) (range_with_len 0 (length (ports_told w Outlets node))) (lone_range 0 (length (ports_told w Outlets node)))
      (λ o i. outlet_apart node o (once o))
      (λ x y m n i j a b e.
      let G = from_outlet node x m a in
      let H = from_outlet node y n b in
      sym (outlet_is node x m G) ∙ ap (λ (l : Line). l.outlet) (same_lines node x node y m n W G H e) ∙ outlet_is node y n H)

  all_apart : (keys : List ℕ) → Lone keys → IsWired w → ((node o : ℕ) → AreOnce (fan_hops w node o)) → Apart (flat_map (box_wires fate w numbers key k) keys)
  all_apart keys lone W once =
      apart_flat (box_wires fate w numbers key k) keys lone (λ node i. box_apart node W (once node))
      (λ x y m n i j a b e.
      let G = from_box x m a in
      let H = from_box y n b in
      sym (source_is x G.0 m G.1) ∙ ap (λ (l : Line). l.source) (same_lines x G.0 y H.0 m n W G.1 H.1 e) ∙ source_is y H.0 n H.1)

  -- where it leads
  leads : (node outlet : ℕ) (m : BoxWire) → GoesFrom fate w numbers key k node outlet m → LeadsAlong w m.key m.line
  leads node outlet m G =
      let l = listed_in G.hop (fan_hops w node outlet) G.is_in in
      subst (λ (x : BoxWire). LeadsAlong w x.key x.line) G.is (record { place = l.0; stands = l.1 })

  either_end : (a b : ℕ) (l : Line) → a ≡ l.source → b ≡ l.sink → (a == key || b == key) ≡ true → IsAt key l
  either_end a b l p q e = step (a == key) refl e
    where
      step : (c : Bool) → (a == key) ≡ c → (c || b == key) ≡ true → IsAt key l
      step true f g = inl (sym p ∙ eqb-true a key f)
      step false f g = inr (sym q ∙ eqb-true b key g)

  at_box : (node outlet : ℕ) (m : BoxWire) → GoesFrom fate w numbers key k node outlet m → IsAt key m.line
  at_box node outlet m G =
      subst (λ (x : BoxWire). IsAt key x.line) G.is (either_end node G.hop.node (line_at Outlets node outlet G.hop) refl refl
      (both_left (node == key || G.hop.node == key) (wants fate w key k (line_at Outlets node outlet G.hop)) G.goes))

  meant : (node outlet : ℕ) (m : BoxWire) → GoesFrom fate w numbers key k node outlet m → wants fate w key k m.line ≡ true
  meant node outlet m G =
      subst (λ (x : BoxWire). wants fate w key k x.line ≡ true) G.is (both_right (node == key || G.hop.node == key) (wants fate w key k (line_at Outlets node outlet G.hop)) G.goes)

  pub from_all : (keys : List ℕ) (m : BoxWire) → IsIn m (flat_map (box_wires fate w numbers key k) keys) → AtBox m
  from_all keys m i =
      let F = from_flat (box_wires fate w numbers key k) keys m i in
      let G = from_box F.of m F.has in
      record { node = F.of; outlet = G.0; from = G.1 }

  pub meant_all : (keys : List ℕ) (m : BoxWire) → IsIn m (flat_map (box_wires fate w numbers key k) keys) → wants fate w key k m.line ≡ true
  meant_all keys m i = let A = from_all keys m i in meant A.node A.outlet m A.from

  picked_from : (node outlet : ℕ) (m : BoxWire) → GoesFrom fate w numbers key k node outlet m → picks fate w key k m.line ≡ true
  picked_from node outlet m G = subst (λ (x : BoxWire). picks fate w key k x.line ≡ true) G.is G.goes

  pub picked_all : (keys : List ℕ) (m : BoxWire) → IsIn m (flat_map (box_wires fate w numbers key k) keys) → picks fate w key k m.line ≡ true
  picked_all keys m i = let A = from_all keys m i in picked_from A.node A.outlet m A.from

  -- it comes from one of the boxes
  pub source_among : (keys : List ℕ) (m : BoxWire) → IsIn m (flat_map (box_wires fate w numbers key k) keys) → IsIn m.line.source keys
  source_among keys m i =
      let F = from_flat (box_wires fate w numbers key k) keys m i in
      let G = from_box F.of m F.has in
      subst (λ s. IsIn s keys) (sym (source_is F.of G.0 m G.1)) F.is_in

  pub line_told_all : (keys : List ℕ) (m : BoxWire) → IsWired w → IsIn m (flat_map (box_wires fate w numbers key k) keys) → line_told w m.key ≡ Some m.line
  line_told_all keys m W i = let A = from_all keys m i in line_is A.node A.outlet m W A.from

module _ (fate : Fate) (p : Patch) (canvas key : ℕ) (k : Kind) (R : CanRewire p) (meet : Meet p.web) (here : IsThere (keys_at p.grove canvas) key) where
  pub picked_are_wires : IsWired p.web → ((node o : ℕ) → AreOnce (fan_hops p.web node o)) → AreWiresAt p.web key (picked fate p canvas key k)
  picked_are_wires W once =
      let ms = picked fate p canvas key k in
      let keys = keys_at p.grove canvas in
      let numbers = p.numbers.items in
      record {
        along = λ i m e. let A = from_all fate p.web numbers key k keys m (in_listed m ms i e) in leads fate p.web numbers key k A.node A.outlet m A.from;
        at = λ i m e. let A = from_all fate p.web numbers key k keys m (in_listed m ms i e) in at_box fate p.web numbers key k A.node A.outlet m A.from;
        once = apart_once ms (all_apart fate p.web numbers key k keys (lone_from keys (λ i j x a b. R.own.once canvas i j x a b)) W once);
      }

  -- each wire at the box that doesn't fit is among them
  among : (ms : List BoxWire) (m : BoxWire) → IsIn m ms → is_among ms m.key ≡ true
  among [] m i = absurd i
  among (x ∷ ms) m i = ⊎_elim
      (λ (e : x ≡ m). ap (λ b. b || is_among ms m.key) (eq-eqb m.key x.key (ap (λ (y : BoxWire). y.key) (sym e))))
      (λ (r : IsIn m ms). step (m.key == x.key) (among ms m r)) i
    where
      step : (b : Bool) → is_among ms m.key ≡ true → (b || is_among ms m.key) ≡ true
      step true e = refl
      step false e = e

  pub picked_of : (node outlet place : ℕ) (h : Hop) → slice_get (keys_at p.grove canvas) place ≡ Some node → IsIn h (fan_hops p.web node outlet) → picks fate p.web key k (line_at Outlets node outlet h) ≡ true
      → IsIn (wire_of p.numbers.items h.key (line_at Outlets node outlet h)) (picked fate p canvas key k)
  picked_of node outlet place h at i g =
      let w = p.web in
      let numbers = p.numbers.items in
      let keys = keys_at p.grove canvas in
      let m = wire_of numbers h.key (line_at Outlets node outlet h) in
      let there = port_there w Outlets node outlet h i in
      in_flat (box_wires fate w numbers key k) keys node m (in_listed node keys place at)
      (in_flat (outlet_wires fate w numbers key k node) (range_with_len 0 (length (ports_told w Outlets node))) outlet m (in_range 0 (length (ports_told w Outlets node)) outlet (omega arith) (omega (arith, there)))
      (in_flat (wire_from fate w numbers key k node outlet) (fan_hops w node outlet) h m i (choose (picks fate w key k (line_at Outlets node outlet h)) m g)))

  pub goes_of : (node outlet place : ℕ) (h : Hop) → slice_get (keys_at p.grove canvas) place ≡ Some node → IsIn h (fan_hops p.web node outlet) → picks fate p.web key k (line_at Outlets node outlet h) ≡ true
      → is_among (picked fate p canvas key k) h.key ≡ true
  goes_of node outlet place h at i g =
      among (picked fate p canvas key k) (wire_of p.numbers.items h.key (line_at Outlets node outlet h)) (picked_of node outlet place h at i g)

  pub meant_among : (side : Side) (port : ℕ) (h : Hop) → IsIn h (hops_at p.web side key port) → wants fate p.web key k (line_at side key port h) ≡ true → is_among (picked fate p canvas key k) h.key ≡ true
  meant_among Outlets port h i u =
      goes_of key port here.0 h here.1 i
      (ap (λ b. (b || h.node == key) && wants fate p.web key k (line_at Outlets key port h)) (eq-eqb key key refl) ∙ u)
  meant_among Inlets port h i u =
      let t = feeder fate p canvas key k R meet here port h i in
      let l = listed_in h (feed_hops p.web key port) i in
      let f = meet.fanned key port l.0 h l.1 in
      goes_of h.node h.port t.0 (hop_at h.key key port) t.1 (in_listed (hop_at h.key key port) (fan_hops p.web h.node h.port) f.0 f.1)
      (ap (λ b. (h.node == key || b) && wants fate p.web key k (line_at Inlets key port h)) (eq-eqb key key refl)
      ∙ ap (λ b. b && wants fate p.web key k (line_at Inlets key port h)) (or_true (h.node == key)) ∙ u)
    where
      or_true : (b : Bool) → (b || true) ≡ true
      or_true true = refl
      or_true false = refl
