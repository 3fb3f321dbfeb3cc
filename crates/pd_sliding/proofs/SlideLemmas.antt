-- What a web tells where one port of a box went elsewhere.
use Rattle.std.proofs.Common.{◌≡◌, ◌≢◌, ℕ, ◌<◌, ◌≤◌, ◌==◌, Bool, true, false, not, cond, List, [], ◌∷◌, map, length, slice_get, Option, Some, IsSome, inl, inr, eq-eqb, refl, sym, ap, ◌∙◌, subst, arith}
use Rattle.std.proofs.lemmas.Bool.{cases_eq, cases_lt}
use Rattle.std.proofs.lemmas.Option.{same_Some}
use Rattle.pd_grove.specs.declared.ports.Side.TheVariants.{Inlets, Outlets}
use Rattle.pd_web.specs.declared.jacks.Jack.{Jack}
use Rattle.pd_web.specs.declared.sockets.Spot.{Spot}
use Rattle.pd_web.specs.declared.web.Hop.{Hop}
use Rattle.pd_web.specs.declared.web.Web.{Web}
use Rattle.pd_web.specs.Wiring.{sink_at}
use Rattle.pd_web.specs.Changes.{Meet}
use Rattle.pd_web.specs.Homes.{inner_in}
use Rattle.pd_web.specs.Hops.{ports_told, jack_told, fan_keys, fan_hops, feed_hops, hop_by, hop_to, places_of}
use Rattle.pd_seek.specs.Places.{label_at, AreInOrder, IsNoLater}
use Rattle.pd_ports.specs.Known.{KnowsHomes}
use Rattle.pd_ports.specs.Moves.{FollowsPorts}
use Rattle.pd_moving.specs.Outlets.{is_at, is_elsewhere, from_others}
use Rattle.pd_moving.specs.Orders.{MovesBySteps, MovesOutlet}
use Rattle.pd_moving.proofs.ListLemmas.{all_stay, at_no, at_yes}
use Rattle.pd_moving.proofs.MeetLemmas.{passed}
use Rattle.pd_moving.proofs.PlaceLemmas.{left_in}
use Rattle.pd_following.specs.Raising.{up}
use Rattle.pd_following.proofs.FeedLemmas.{mapped_from}
use Rattle.pd_following.proofs.ListLemmas.{up_not, up_or}
use Rattle.pd_following.proofs.RaiseLemmas.{differ_test, hop_key, keys_past, FansTold, FeedsTold}
use Rattle.pd_sliding.specs.Slides.{slid, outlet_slid, place_slid, inlet_slid, hop_slid, IsOneElsewhere, Slides}
use Rattle.pd_sliding.specs.Sliding.{HaveOwnLabel}
use Rattle.pd_sliding.proofs.ListLemmas.{slid_order, slid_to, slid_up}
use Rattle.pd_sliding.proofs.FollowLemmas.{across_hops, comes_low, count_then, far_stays, goes_low, goes_slid, it_was, jack_slid, other_hops, own_hops}

-- the places of hops that lead to other ports
places_slid : (key from to : ℕ) (hops : List Hop) → places_of (map (hop_slid key from to) hops) ≡ map (place_slid Inlets key from to) (places_of hops)
places_slid key from to [] = refl
places_slid key from to (h ∷ hops) = ap (λ ps. (h.node, cond (h.node == key) (slid from to h.port) h.port) ∷ ps) (places_slid key from to hops)

places_stay : (key from to : ℕ) (ps : List (ℕ × ℕ)) → ps ≡ map (place_slid Outlets key from to) ps
places_stay key from to [] = refl
places_stay key from to (p ∷ ps) = ap (λ qs. p ∷ qs) (places_stay key from to ps)

-- the keys of a fan-out, told by its hops
keys_by : (f : ℕ → Option Spot) (xs : List ℕ) → map (λ (h : Hop). h.key) (map (λ (k : ℕ). hop_by k (f k)) xs) ≡ xs
keys_by f [] = refl
keys_by f (x ∷ xs) = ap (λ (k : ℕ). k ∷ map (λ (h : Hop). h.key) (map (λ (n : ℕ). hop_by n (f n)) xs)) (hop_key x (f x)) ∙ ap (λ ks. x ∷ ks) (keys_by f xs)

fan_by : (w : Web) (n o : ℕ) → map (λ (h : Hop). h.key) (fan_hops w n o) ≡ fan_keys w n o
fan_by w n o = keys_by (λ (k : ℕ). slice_get w.spots.items (sink_at w.book k)) (fan_keys w n o)

same_keys : (w v : Web) (n o p : ℕ) → fan_hops v n o ≡ fan_hops w n p → fan_keys v n o ≡ fan_keys w n p
same_keys w v n o p e = sym (fan_by v n o) ∙ ap (map (λ (h : Hop). h.key)) e ∙ fan_by w n p

sides_apart : Outlets ≡ Inlets → ⊥
sides_apart e = cc

-- An inlet went.
module _ (w w' : Web) (jacks : List Jack) (key port from to : ℕ) (O : IsOneElsewhere w jacks key Inlets port from to) (F : FollowsPorts w w' key Inlets jacks)
    (M : Meet w) (fans : FansTold w) (feeds : FeedsTold w) where
  feeds_follow : (n i : ℕ) → feed_hops w' n (inlet_slid Inlets key from to n i) ≡ feed_hops w n i
  feeds_follow n i = elim (cases_eq n key) [
    | inl e ↦
        ap (λ (b : Bool). feed_hops w' n (cond b (slid from to i) i)) (eq-eqb n key e) ∙ ap (λ x. feed_hops w' x (slid from to i)) e
        ∙ own_hops w jacks key Inlets port from to O w' F M fans feeds i ∙ ap (λ x. feed_hops w x i) (sym e)
    | inr d ↦ ap (λ (b : Bool). feed_hops w' n (cond b (slid from to i) i)) (differ_test n key d) ∙ other_hops w jacks key Inlets port from to O w' F M fans feeds n i d
  ]

  pub inlet_slides : Slides w w' key Inlets from to
  inlet_slides = record {
    goes = goes_low w jacks key Inlets port from to O;
    comes = comes_low w jacks key Inlets port from to O;
    as_many = ap length F.ports ∙ count_then w jacks key Inlets port from to O;
    ports = λ i l. ap (λ (js : List Jack). slice_get js (slid from to i)) F.ports ∙ jack_slid w jacks key Inlets port from to O i;
    other_ports = F.other_ports;
    made = F.made;
    places = λ n o. ap places_of (across_hops w jacks key Inlets port from to O w' F M fans feeds n o) ∙ places_slid key from to (fan_hops w n o);
    keys = λ n o ne. F.other_keys Outlets n o (λ _. sides_apart);
    feeds = feeds_follow;
  }

  pub inlet_in_order : (labels : List ℕ) (n i : ℕ) → AreInOrder labels (feed_hops w n i) → AreInOrder labels (feed_hops w' n (inlet_slid Inlets key from to n i))
  inlet_in_order labels n i order = subst (AreInOrder labels) (sym (feeds_follow n i)) order

-- An outlet went.

-- the ports of the box are the same without the wires
still_elsewhere : (w v : Web) (jacks : List Jack) (key : ℕ) (port from to : ℕ) → ports_told v Outlets key ≡ ports_told w Outlets key → IsOneElsewhere w jacks key Outlets port from to
    → IsOneElsewhere v jacks key Outlets port from to
still_elsewhere w v jacks key port from to same O = record {
  rest = O.rest;
  jack = O.jack;
  is_it = O.is_it;
  goes = O.goes;
  comes = O.comes;
  was = same ∙ O.was;
  is = O.is;
  boxes = λ i. subst (λ (js : List Jack). i < length js → IsSome (inner_in (slice_get js i))) (sym same) (O.boxes i);
}

-- feeds from other outlets lead from others then
others_slid : (key from to : ℕ) (h : Hop) → is_elsewhere key from h ≡ true → is_elsewhere key to (hop_slid key from to h) ≡ true
others_slid key from to h e = ap not (at_no key to (hop_slid key from to h) (λ here same.
    let p : h.port ≡ from = slid_to from to h.port (sym (ap (λ (b : Bool). cond b (slid from to h.port) h.port) (eq-eqb h.node key here)) ∙ same) in
    no_both (is_at key from h) (at_yes key from h here p) e))
  where
    no_both : (b : Bool) → b ≡ true → not b ≡ true → ⊥
    no_both true a b = cc
    no_both false a b = cc

-- of these feeds none comes from the port to which another one went
others_apart : (key from to : ℕ) (hops : List Hop) → from_others key to (map (hop_slid key from to) (from_others key from hops)) ≡ map (hop_slid key from to) (from_others key from hops)
others_apart key from to hops = all_stay (is_elsewhere key to) (map (hop_slid key from to) (from_others key from hops)) (λ i x e.
    let m = mapped_from (hop_slid key from to) (from_others key from hops) i x e in
    let p = passed (is_elsewhere key from) hops m.0 i m.1 in
    ap (is_elsewhere key to) (sym m.2) ∙ others_slid key from to m.0 p.passes)

-- what comes no later comes no later then
slid_later : (labels : List ℕ) (key from to : ℕ) (g h : Hop) → (label_at labels g.node ≡ label_at labels key → g.node ≡ key) → (label_at labels h.node ≡ label_at labels key → h.node ≡ key)
    → is_elsewhere key from g ≡ true → is_elsewhere key from h ≡ true → IsNoLater labels g h → IsNoLater labels (hop_slid key from to g) (hop_slid key from to h)
slid_later labels key from to g h own also ge he (inl less) = inl less
slid_later labels key from to g h own also ge he (inr same) = inr (
  same.0,
  elim (cases_eq g.node key) [
    | inl e ↦
        let f : h.node ≡ key = also (sym same.0 ∙ ap (label_at labels) e) in
        let a = ap (λ (b : Bool). cond b (slid from to g.port) g.port) (eq-eqb g.node key e) in
        let b = ap (λ (b : Bool). cond b (slid from to h.port) h.port) (eq-eqb h.node key f) in
        let s = slid_order from to g.port h.port (not_it g e ge) (not_it h f he) same.1 in
        omega (arith, a, b, s)
    | inr d ↦
        let f : h.node ≢ key = (λ e. d (own (same.0 ∙ ap (label_at labels) e))) in
        let a = ap (λ (b : Bool). cond b (slid from to g.port) g.port) (differ_test g.node key d) in
        let b = ap (λ (b : Bool). cond b (slid from to h.port) h.port) (differ_test h.node key f) in
        let l = same.1 in
        omega (arith, a, b, l)
  ],
)
  where
    no_both : (b : Bool) → b ≡ true → not b ≡ true → ⊥
    no_both true a b = cc
    no_both false a b = cc

    not_it : (x : Hop) → x.node ≡ key → is_elsewhere key from x ≡ true → x.port ≢ from
    not_it x here e same = no_both (is_at key from x) (at_yes key from x here same) e

module _ (w x : Web) (jacks : List Jack) (labels : List ℕ) (key port from to : ℕ) (O : IsOneElsewhere w jacks key Outlets port from to) (S : MovesBySteps w x labels key from jacks)
    (P : MovesOutlet w x key jacks) (known : KnowsHomes w) where
  O' : IsOneElsewhere S.lifted jacks key Outlets port from to
  O' = still_elsewhere w S.lifted jacks key port from to (S.lifts.kept.ports Outlets key) O

  -- the outlet is at its number
  place_is : S.place ≡ to
  place_is =
      let box : port ≡ S.goes.0 = same_Some port S.goes.0 (sym (it_was w jacks key Outlets port from to O) ∙ S.goes.1) in
      elim (up_or to S.place) [
        | inl e ↦ e
        | inr o ↦ absurd (apart o.0 (ap (λ m. inner_in (slice_get jacks m)) (sym o.1) ∙ S.goes.2 ∙ ap (λ (j : ℕ). Some j) (sym box)))
      ]
    where
      apart : (m : ℕ) → inner_in (slice_get jacks (up to m)) ≡ Some port → ⊥
      apart m h =
          let was : inner_in (jack_told w Outlets key (up from m)) ≡ Some port = ap inner_in (sym (jack_slid w jacks key Outlets port from to O (up from m))) ∙ ap (λ n. inner_in (slice_get jacks n)) (slid_up from to m) ∙ h in
          let one = known.found Outlets port key (up from m) was in
          let two = known.found Outlets port key from (it_was w jacks key Outlets port from to O) in
          up_not from m (ap (λ (y : ℕ × ℕ). y.1) (same_Some (key, up from m) (key, from) (sym one ∙ two)))

  -- the fan-outs of the other outlets of the box
  fan_else : (i : ℕ) → i ≢ from → fan_hops x key (slid from to i) ≡ fan_hops w key i
  fan_else i d =
      S.lays.other_fans key (slid from to i) (λ _ same. d (slid_to from to i (same ∙ place_is)))
      ∙ own_hops S.lifted jacks key Outlets port from to O' S.followed S.follows S.lifts.meet S.fans S.feeds i ∙ S.lifts.other_fans key i (λ _. d)

  no_fan : (v : Web) (i : ℕ) → length (ports_told v Outlets key) ≤ i → fan_hops v key i ≡ []
  no_fan v i l = ap (map (hop_to v)) (keys_past v Outlets key i l)

  own_places : (i : ℕ) → places_of (fan_hops x key (slid from to i)) ≡ places_of (fan_hops w key i)
  own_places i = elim (cases_lt i (length (ports_told w Outlets key))) [
    | inl l ↦ P.fans i (slid from to i) (goes_slid w jacks key Outlets port from to O i l)
    | inr l ↦
        let c = ap length P.ports ∙ count_then w jacks key Outlets port from to O in
        ap (λ m. places_of (fan_hops x key m)) (far_stays w jacks key Outlets port from to O i l) ∙ ap places_of (no_fan x i (omega (arith, c, l))) ∙ ap places_of (sym (no_fan w i l))
  ]

  places_then : (n o : ℕ) → places_of (fan_hops x n (outlet_slid Outlets key from to n o)) ≡ map (place_slid Outlets key from to) (places_of (fan_hops w n o))
  places_then n o = elim (cases_eq n key) [
    | inl e ↦
        ap (λ (b : Bool). places_of (fan_hops x n (cond b (slid from to o) o))) (eq-eqb n key e) ∙ ap (λ y. places_of (fan_hops x y (slid from to o))) e ∙ own_places o
        ∙ ap (λ y. places_of (fan_hops w y o)) (sym e) ∙ places_stay key from to (places_of (fan_hops w n o))
    | inr d ↦
        ap (λ (b : Bool). places_of (fan_hops x n (cond b (slid from to o) o))) (differ_test n key d) ∙ ap places_of (P.other_fans n o d)
        ∙ places_stay key from to (places_of (fan_hops w n o))
  ]

  keys_then : (n o : ℕ) → (Outlets ≡ Outlets → n ≡ key → o ≢ from) → fan_keys x n (outlet_slid Outlets key from to n o) ≡ fan_keys w n o
  keys_then n o ne = elim (cases_eq n key) [
    | inl e ↦
        ap (λ (b : Bool). fan_keys x n (cond b (slid from to o) o)) (eq-eqb n key e) ∙ ap (λ y. fan_keys x y (slid from to o)) e
        ∙ same_keys w x key (slid from to o) o (fan_else o (ne refl e)) ∙ ap (λ y. fan_keys w y o) (sym e)
    | inr d ↦ ap (λ (b : Bool). fan_keys x n (cond b (slid from to o) o)) (differ_test n key d) ∙ same_keys w x n o o (P.other_fans n o d)
  ]

  -- the feeds of an inlet before the wires of the outlet are in again
  feeds_between : (n i : ℕ) → feed_hops S.followed n i ≡ map (hop_slid key from to) (from_others key from (feed_hops w n i))
  feeds_between n i =
      across_hops S.lifted jacks key Outlets port from to O' S.followed S.follows S.lifts.meet S.fans S.feeds n i ∙ ap (map (hop_slid key from to)) (S.lifts.feeds n i)

  feeds_then : (n i : ℕ) → from_others key to (feed_hops x n i) ≡ map (hop_slid key from to) (from_others key from (feed_hops w n i))
  feeds_then n i =
      ap (λ p. from_others key p (feed_hops x n i)) (sym place_is) ∙ S.lays.others n i ∙ ap (λ p. from_others key p (feed_hops S.followed n i)) place_is
      ∙ ap (from_others key to) (feeds_between n i) ∙ others_apart key from to (feed_hops w n i)

  pub outlet_slides : Slides w x key Outlets from to
  outlet_slides = record {
    goes = goes_low w jacks key Outlets port from to O;
    comes = comes_low w jacks key Outlets port from to O;
    as_many = ap length P.ports ∙ count_then w jacks key Outlets port from to O;
    ports = λ i l. ap (λ (js : List Jack). slice_get js (slid from to i)) P.ports ∙ jack_slid w jacks key Outlets port from to O i;
    other_ports = P.other_ports;
    made = P.made;
    places = places_then;
    keys = keys_then;
    feeds = feeds_then;
  }

  pub outlet_in_order : (n i : ℕ) → HaveOwnLabel labels (feed_hops w n i) key → AreInOrder labels (feed_hops w n i) → AreInOrder labels (feed_hops x n i)
  outlet_in_order n i own order = S.lays.in_order n i (subst (AreInOrder labels) (sym (feeds_between n i)) (λ p q g' h' l a b.
      let g = mapped_from (hop_slid key from to) (from_others key from (feed_hops w n i)) p g' a in
      let h = mapped_from (hop_slid key from to) (from_others key from (feed_hops w n i)) q h' b in
      let gp = passed (is_elsewhere key from) (feed_hops w n i) g.0 p g.1 in
      let hp = passed (is_elsewhere key from) (feed_hops w n i) h.0 q h.1 in
      let s = left_in (is_elsewhere key from) (feed_hops w n i) p q g.0 h.0 l g.1 h.1 in
      subst (λ (y : Hop). IsNoLater labels y h') g.2 (subst (λ (y : Hop). IsNoLater labels (hop_slid key from to g.0) y) h.2
      (slid_later labels key from to g.0 h.0 (own gp.place g.0 gp.stood) (own hp.place h.0 hp.stood) gp.passes hp.passes
      (order s.first s.second g.0 h.0 s.order s.at_first s.at_second)))))
