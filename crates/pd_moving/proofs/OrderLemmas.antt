-- Feeds stay in order where the ports on a side of a box become others.
use Rattle.std.proofs.Common.{◌≡◌, ◌≢◌, ◌⊎◌, ℕ, ◌≤◌, List, [], map, slice_get, Option, Some, None, refl, sym, ap, ◌∙◌, subst, inl, inr, arith}
use Rattle.std.specs.Prelude.{option_map}
use Rattle.std.proofs.lemmas.Bool.{cases_eq, cases_lt}
use Rattle.std.proofs.lemmas.Option.{none-some, same_Some, slice_get-map}
use Rattle.pd_grove.specs.declared.ports.Side.TheVariants.{Inlets, Outlets}
use Rattle.pd_wire.specs.Book.{wire_at}
use Rattle.pd_web.specs.declared.jacks.Jack.{Jack}
use Rattle.pd_web.specs.declared.lines.Line.{Line}
use Rattle.pd_web.specs.declared.sockets.Spot.{Spot}
use Rattle.pd_web.specs.declared.web.Hop.{Hop}
use Rattle.pd_web.specs.declared.web.Web.{Web}
use Rattle.pd_web.specs.Homes.{inner_in}
use Rattle.pd_web.specs.Wiring.{source_at, sink_at}
use Rattle.pd_web.specs.Hops.{ports_told, fan_keys, feed_keys, feed_hops, hop_from, hop_to, hop_by}
use Rattle.pd_web.specs.Changes.{line_by, line_told, hop_at, Meet}
use Rattle.pd_web.proofs.HopLemmas.{key_listed}
use Rattle.pd_seek.specs.Places.{label_at, AreInOrder}
use Rattle.pd_ports.specs.Moves.{Goes, AreOnce, FollowsPorts, keys_at, box_of, port_of, with_port}
use Rattle.pd_ports.specs.Known.{AreBareWithout}
use Rattle.pd_ports.proofs.TakeLemmas.{sought, goes_or_not}
use Rattle.pd_moving.proofs.ListLemmas.{nothing_there}
use Rattle.pd_moving.specs.Orders.{AreAllInOrder, KeepTheirOrder, HasOwnLabel}

-- from where a line comes
pub line_from_hop : (w : Web) (k : ℕ) (l : Line) → line_told w k ≡ Some l → ((hop_from w k).node ≡ l.source) × ((hop_from w k).port ≡ l.outlet)
line_from_hop w k l h = by_wire (wire_at w.book k) (hop_from w k) (hop_to w k) h
  where
    by_wire : (o : Option (ℕ × ℕ)) (from to : Hop) → option_map (λ _. line_by from to) o ≡ Some l → (from.node ≡ l.source) × (from.port ≡ l.outlet)
    by_wire None from to e = absurd (none-some l e)
    by_wire (Some p) from to e = let s = same_Some (line_by from to) l e in (ap (λ (x : Line). x.source) s, ap (λ (x : Line). x.outlet) s)

pub hop_key : (k : ℕ) (o : Option Spot) → (hop_by k o).key ≡ k
hop_key k None = refl
hop_key k (Some s) = refl

-- a feed at a place, by its key
feed_at : (w : Web) (n i p : ℕ) (h : Hop) → slice_get (feed_hops w n i) p ≡ Some h → (slice_get (feed_keys w n i) p ≡ Some h.key) × (hop_from w h.key ≡ h)
feed_at w n i p h e =
    let k = key_listed (λ (x : ℕ). slice_get w.spots.items (source_at w.book x)) (feed_keys w n i) p h e in
    (k, same_Some (hop_from w h.key) h (sym (slice_get-map (hop_from w) (feed_keys w n i) p ∙ ap (option_map (hop_from w)) k) ∙ e))

feed_from : (w : Web) (n i p k : ℕ) → slice_get (feed_keys w n i) p ≡ Some k → slice_get (feed_hops w n i) p ≡ Some (hop_from w k)
feed_from w n i p k e = slice_get-map (hop_from w) (feed_keys w n i) p ∙ ap (option_map (hop_from w)) e

-- the same feeds in the same places, each from the same box
record Alike (xs ys : List Hop) (Rel : Hop → Hop → Type 0) : Type 0 where
  each : (p : ℕ) (h' : Hop) → slice_get ys p ≡ Some h' → (h : Hop) × (slice_get xs p ≡ Some h) × (h'.node ≡ h.node) × Rel h h'

order_kept : (labels : List ℕ) (xs ys : List Hop) (Rel : Hop → Hop → Type 0) → Alike xs ys Rel
    → ((p q : ℕ) (g h g' h' : Hop) → slice_get xs p ≡ Some g → slice_get xs q ≡ Some h → Rel g g' → Rel h h' → label_at labels g.node ≡ label_at labels h.node → g.port ≤ h.port → g'.port ≤ h'.port)
    → AreInOrder labels xs → AreInOrder labels ys
order_kept labels xs ys Rel alike ports order i j g' h' low a b =
    let x = alike.each i g' a in
    let y = alike.each j h' b in
    let lx = ap (label_at labels) x.2 in
    let ly = ap (label_at labels) y.2 in
    elim (order i j x.0 y.0 low x.1 y.1) [
      | inl less ↦ inl (omega (arith, lx, ly, less))
      | inr same ↦ inr (lx ∙ same.0 ∙ sym ly, ports i j x.0 y.0 g' h' x.1 y.1 x.3 y.3 same.0 same.1)
    ]

abbrev IsTold : Web → Type 0
IsTold w = (node inlet i : ℕ) (h : Hop) → slice_get (feed_hops w node inlet) i ≡ Some h → line_told w h.key ≡ Some (line_by h (hop_at h.key node inlet))

-- The outlets of a box get other places.

module _ (w w' : Web) (key : ℕ) (jacks : List Jack) (follows : FollowsPorts w w' key Outlets jacks) (meet : Meet w) (told : IsTold w) (bare : AreBareWithout w key Outlets jacks) (once : AreOnce jacks) (labels : List ℕ)
    (kept : KeepTheirOrder w key jacks) (own : HasOwnLabel labels w key) where
  -- a feed before and after
  Outlet : Hop → Hop → Type 0
  Outlet g g' = ((g.node ≢ key) × (g'.port ≡ g.port)) ⊎ ((g.node ≡ key) × Goes (ports_told w Outlets key) jacks g.port g'.port × (fan_keys w key g.port ≢ []))

  sides_differ : Inlets ≡ Outlets → ⊥
  sides_differ h = cc h

  fan_is : (n i p : ℕ) (h : Hop) → slice_get (feed_hops w n i) p ≡ Some h → h.node ≡ key → fan_keys w key h.port ≢ []
  fan_is n i p h e at none =
      let f = meet.fanned n i p h e in
      let k = key_listed (λ (x : ℕ). slice_get w.spots.items (sink_at w.book x)) (fan_keys w h.node h.port) f.0 (hop_at h.key n i) f.1 in
      nothing_there h.key f.0 (ap (λ (xs : List ℕ). slice_get xs f.0) (sym none) ∙ ap (λ (m : ℕ). slice_get (fan_keys w m h.port) f.0) (sym at) ∙ k)

  each_outlet : (n i p : ℕ) (h' : Hop) → slice_get (feed_hops w' n i) p ≡ Some h' → (h : Hop) × (slice_get (feed_hops w n i) p ≡ Some h) × (h'.node ≡ h.node) × Outlet h h'
  unfolding Outlet
  each_outlet n i p h' e =
      let at = feed_at w' n i p h' e in
      let k = h'.key in
      let stands = ap (λ (xs : List ℕ). slice_get xs p) (sym (follows.other_keys Inlets n i (λ _. sides_differ))) ∙ at.0 in
      let h = hop_from w k in
      let was = feed_from w n i p k stands in
      let l = line_by h (hop_at h.key n i) in
      let line = ap (line_told w) (sym (hop_key k (slice_get w.spots.items (source_at w.book k)))) ∙ told n i p h was in
      elim (cases_eq h.node key) [
        | inr differ ↦
            let now = line_from_hop w' k l (follows.other_lines k l Inlets line (p, stands) differ) in
            (h, was, ap (λ (x : Hop). x.node) (sym at.1) ∙ now.0, inl (differ, ap (λ (x : Hop). x.port) (sym at.1) ∙ now.1))
        | inl same ↦ elim (goes_or_not (ports_told w Outlets key) jacks h.port) [
          | inl g ↦
              let now = line_from_hop w' k (with_port Outlets g.0 l) (follows.lines k g.0 l Inlets line (p, stands) same g.1) in
              let port = ap (λ (x : Hop). x.port) (sym at.1) ∙ now.1 in
              (h, was, ap (λ (x : Hop). x.node) (sym at.1) ∙ now.0, inr (same, subst (λ (m : ℕ). Goes (ports_told w Outlets key) jacks h.port m) (sym port) g.1, fan_is n i p h was same))
          | inr never ↦ absurd (fan_is n i p h was same (bare h.port never))
        ]
      ]

  ports_kept : (n i p q : ℕ) (g h g' h' : Hop) → slice_get (feed_hops w n i) p ≡ Some g → slice_get (feed_hops w n i) q ≡ Some h → Outlet g g' → Outlet h h'
      → label_at labels g.node ≡ label_at labels h.node → g.port ≤ h.port → g'.port ≤ h'.port
  unfolding Outlet
  ports_kept n i p q g h g' h' a b (inl x) (inl y) same low = let e = x.1 in let f = y.1 in omega (arith, e, f, low)
  ports_kept n i p q g h g' h' a b (inl x) (inr y) same low = absurd (x.0 (own n i p g a (same ∙ ap (label_at labels) y.0)))
  ports_kept n i p q g h g' h' a b (inr x) (inl y) same low = absurd (y.0 (own n i q h b (sym same ∙ ap (label_at labels) x.0)))
  ports_kept n i p q g h g' h' a b (inr x) (inr y) same low = elim (cases_lt g.port h.port) [
    | inl less ↦ let e = kept g.port h.port g'.port h'.port x.2 y.2 less x.1 y.1 in omega (arith, e)
    | inr more ↦
        let e : g.port ≡ h.port = omega (arith, low, more) in
        let box = same_Some x.1.0 y.1.0 (sym x.1.1 ∙ ap (λ (m : ℕ). inner_in (slice_get (ports_told w Outlets key) m)) e ∙ y.1.1) in
        let one = once g'.port h'.port y.1.0 (x.1.2 ∙ ap (λ (j : ℕ). Some j) box) y.1.2 in
        omega (arith, one)
  ]

  pub outlets_in_order : AreAllInOrder labels w → AreAllInOrder labels w'
  outlets_in_order order n i = order_kept labels (feed_hops w n i) (feed_hops w' n i) Outlet (record { each = each_outlet n i }) (ports_kept n i) (order n i)

-- The inlets of a box get other places.

-- a port comes from somewhere, or is new
came_or_not : (old new : List Jack) (m : ℕ) → ((i : ℕ) × Goes old new i m) ⊎ ((i : ℕ) → Goes old new i m → ⊥)
came_or_not old new m = by_box (inner_in (slice_get new m)) refl
  where
    by_box : (o : Option ℕ) → inner_in (slice_get new m) ≡ o → ((i : ℕ) × Goes old new i m) ⊎ ((i : ℕ) → Goes old new i m → ⊥)
    by_box None q = inr (λ i g. none-some g.0 (sym q ∙ g.2))
    by_box (Some j) q = elim (sought old j) [
      | inl r ↦ inl (r.0, (j, r.1, q))
      | inr never ↦ inr (λ i g. never i (g.1 ∙ ap (λ (x : ℕ). Some x) (same_Some g.0 j (sym g.2 ∙ q))))
    ]

module _ (w w' : Web) (key : ℕ) (jacks : List Jack) (follows : FollowsPorts w w' key Inlets jacks) (told : IsTold w) (labels : List ℕ) (order : AreAllInOrder labels w) where
  Inlet : Hop → Hop → Type 0
  Inlet g g' = g'.port ≡ g.port

  -- feeds that lead elsewhere now come from where they came
  carried : (n i m : ℕ) → feed_keys w' n m ≡ feed_keys w n i → ((k : ℕ) (l : Line) (p : ℕ) → line_told w k ≡ Some l → l.sink ≡ n → l.inlet ≡ i → slice_get (feed_keys w n i) p ≡ Some k
      → (l' : Line) × (line_told w' k ≡ Some l') × (l'.source ≡ l.source) × (l'.outlet ≡ l.outlet)) → AreInOrder labels (feed_hops w' n m)
  unfolding Inlet
  carried n i m keys lines = order_kept labels (feed_hops w n i) (feed_hops w' n m) Inlet (record {
    each = λ p h' e.
        let at = feed_at w' n m p h' e in
        let k = h'.key in
        let stands = ap (λ (xs : List ℕ). slice_get xs p) (sym keys) ∙ at.0 in
        let h = hop_from w k in
        let was = feed_from w n i p k stands in
        let l = line_by h (hop_at h.key n i) in
        let line = ap (line_told w) (sym (hop_key k (slice_get w.spots.items (source_at w.book k)))) ∙ told n i p h was in
        let now = lines k l p line refl refl stands in
        let from = line_from_hop w' k now.0 now.1 in
        (h, was, ap (λ (x : Hop). x.node) (sym at.1) ∙ from.0 ∙ now.2, ap (λ (x : Hop). x.port) (sym at.1) ∙ from.1 ∙ now.3);
  }) (λ p q g h g' h' a b x y same low. omega (arith, x, y, low)) (order n i)

  no_feeds : (n m : ℕ) → feed_keys w' n m ≡ [] → AreInOrder labels (feed_hops w' n m)
  no_feeds n m none i j g h low a b =
      absurd (nothing_there g i (ap (λ (xs : List ℕ). slice_get (map (hop_from w') xs) i) (sym none) ∙ a))

  pub inlets_in_order : AreAllInOrder labels w'
  inlets_in_order n m = elim (cases_eq n key) [
    | inr differ ↦ carried n m m (follows.other_keys Inlets n m (λ h. absurd (differ h))) (λ k l p line sink inlet stands.
        (l, follows.other_lines k l Inlets line (p, at_line l n m sink inlet p k stands) (λ h. differ (sym sink ∙ h)), refl, refl))
    | inl same ↦ elim (came_or_not (ports_told w Inlets key) jacks m) [
      | inr never ↦ no_feeds n m (ap (λ (x : ℕ). feed_keys w' x m) same ∙ follows.came m never)
      | inl g ↦ carried n g.0 m (ap (λ (x : ℕ). feed_keys w' x m) same ∙ follows.went g.0 m g.1 ∙ ap (λ (x : ℕ). feed_keys w x g.0) (sym same)) (λ k l p line sink inlet stands.
          (with_port Inlets m l, follows.lines k m l Inlets line (p, at_line l n g.0 sink inlet p k stands) (sink ∙ same) (subst (λ (x : ℕ). Goes (ports_told w Inlets key) jacks x m) (sym inlet) g.1), refl, refl))
    ]
  ]
    where
      at_line : (l : Line) (n i : ℕ) → l.sink ≡ n → l.inlet ≡ i → (p k : ℕ) → slice_get (feed_keys w n i) p ≡ Some k → slice_get (keys_at w Inlets (box_of Inlets l) (port_of Inlets l)) p ≡ Some k
      at_line l n i sink inlet p k h = ap (λ (x : ℕ). slice_get (feed_keys w x l.inlet) p) sink ∙ ap (λ (x : ℕ). slice_get (feed_keys w n x) p) inlet ∙ h
