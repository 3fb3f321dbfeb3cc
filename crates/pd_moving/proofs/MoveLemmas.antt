-- An outlet that gets another place: its wires out, the ports of the box others, and its wires in again.
use Rattle.std.proofs.Common.{◌≡◌, ◌≢◌, ◌⊎◌, ℕ, zero, suc, ◌<◌, List, [], ◌∷◌, ◌++◌, map, length, slice_get, Option, Some, None, IsSome, is_some, refl, sym, ap, ◌∙◌, subst, inl, inr, arith}
use Rattle.std.specs.Prelude.{option_and_then, option_map}
use Rattle.std.proofs.lemmas.Bool.{cases_eq}
use Rattle.std.proofs.lemmas.List.{length-map}
use Rattle.std.proofs.lemmas.Option.{none-some, same_Some, slice_get-map, slice_get_within}
use Rattle.pd_grove.specs.declared.ports.Side.{Side}
use Rattle.pd_grove.specs.declared.ports.Side.TheVariants.{Inlets, Outlets}
use Rattle.pd_wire.specs.Book.{wire_at}
use Rattle.pd_web.specs.declared.jacks.Jack.{Jack}
use Rattle.pd_web.specs.declared.lines.Line.{Line}
use Rattle.pd_web.specs.declared.sockets.Port.{Port}
use Rattle.pd_web.specs.declared.sockets.Spot.{Spot}
use Rattle.pd_web.specs.declared.web.Hop.{Hop}
use Rattle.pd_web.specs.declared.web.Web.{Web}
use Rattle.pd_web.specs.Homes.{inner_in}
use Rattle.pd_web.specs.Lines.{IsRoute}
use Rattle.pd_web.specs.Sockets.{ports_at}
use Rattle.pd_web.specs.Wiring.{sink_at}
use Rattle.pd_web.specs.Hops.{ports_told, jack_told, port_told, feeds_under, fan_keys, fan_hops, feed_hops, hop_from, hop_to, hop_by, places_of}
use Rattle.pd_web.specs.Changes.{line_by, line_told, hop_at, KeepsPorts, Meet}
use Rattle.pd_ports.specs.Moves.{Goes, AreOnce, FollowsPorts, with_port}
use Rattle.pd_ports.specs.Known.{KnowsHomes, AreFreeFor, AreBareWithout}
use Rattle.pd_moving.specs.Outlets.{is_elsewhere, lines_ahead, line_ahead, line_at, sinks_of, Lifts, Lays}
use Rattle.pd_moving.specs.Orders.{AreAllInOrder, KeepTheirOrder, KeepTheirOrderBut, HasOwnLabel, MovesOutlet}
use Rattle.pd_moving.proofs.ListLemmas.{nothing_there}
use Rattle.pd_moving.proofs.MeetLemmas.{passed}
use Rattle.pd_moving.proofs.PlaceLemmas.{left_in}
use Rattle.pd_moving.proofs.OrderLemmas.{hop_key}

-- the keys of a fan-out, told by its hops
keys_by : (f : ℕ → Option Spot) (xs : List ℕ) → map (λ (h : Hop). h.key) (map (λ (k : ℕ). hop_by k (f k)) xs) ≡ xs
keys_by f [] = refl
keys_by f (x ∷ xs) = ap (λ (k : ℕ). k ∷ map (λ (h : Hop). h.key) (map (λ (n : ℕ). hop_by n (f n)) xs)) (hop_key x (f x)) ∙ ap (λ ks. x ∷ ks) (keys_by f xs)

fan_by : (w : Web) (n o : ℕ) → map (λ (h : Hop). h.key) (fan_hops w n o) ≡ fan_keys w n o
fan_by w n o = keys_by (λ (k : ℕ). slice_get w.spots.items (sink_at w.book k)) (fan_keys w n o)

same_fan : (w v : Web) (n o m p : ℕ) → fan_hops v n o ≡ fan_hops w m p → fan_keys v n o ≡ fan_keys w m p
same_fan w v n o m p e = sym (fan_by v n o) ∙ ap (map (λ (h : Hop). h.key)) e ∙ fan_by w m p

no_fan : (v : Web) (n o : ℕ) → fan_hops v n o ≡ [] → fan_keys v n o ≡ []
no_fan v n o e = sym (fan_by v n o) ∙ ap (map (λ (h : Hop). h.key)) e

-- what is known stays where the ports stay
pub kept_known : (w v : Web) → KeepsPorts w v → KnowsHomes w → KnowsHomes v
kept_known w v kept known = record {
  told = λ k j i h. let t = known.told k j i (sym (kept.homes j) ∙ h) in (t.0, ap (λ (js : List Jack). inner_in (slice_get js i)) (kept.ports t.0 k) ∙ t.1);
  found = λ s j k i h. kept.homes j ∙ known.found s j k i (ap (λ (js : List Jack). inner_in (slice_get js i)) (sym (kept.ports s k)) ∙ h);
  apart = λ j k i m p q. known.apart j k i m (ap (λ (js : List Jack). inner_in (slice_get js i)) (sym (kept.ports Inlets k)) ∙ p) (ap (λ (js : List Jack). inner_in (slice_get js m)) (sym (kept.ports Outlets k)) ∙ q);
}

module _ (w v : Web) (key outlet : ℕ) (jacks : List Jack) (lifts : Lifts w v key outlet) where
  pub lifted_free : AreFreeFor w key Outlets jacks → AreFreeFor v key Outlets jacks
  lifted_free free m j h = subst (λ (o : Option (ℕ × ℕ)). (o ≡ None) ⊎ ((i : ℕ) × (inner_in (jack_told v Outlets key i) ≡ Some j))) (sym (lifts.kept.homes j))
      (subst (λ (js : List Jack). (port_told w j ≡ None) ⊎ ((i : ℕ) × (inner_in (slice_get js i) ≡ Some j))) (sym (lifts.kept.ports Outlets key)) (free m j h))

  goes_back : (i m : ℕ) → Goes (ports_told v Outlets key) jacks i m → Goes (ports_told w Outlets key) jacks i m
  goes_back i m g = subst (λ (js : List Jack). Goes js jacks i m) (lifts.kept.ports Outlets key) g

  pub goes_on : (i m : ℕ) → Goes (ports_told w Outlets key) jacks i m → Goes (ports_told v Outlets key) jacks i m
  goes_on i m g = subst (λ (js : List Jack). Goes js jacks i m) (sym (lifts.kept.ports Outlets key)) g

  pub lifted_bare : AreBareWithout w key Outlets jacks → AreBareWithout v key Outlets jacks
  lifted_bare bare i never = elim (cases_eq i outlet) [
    | inl same ↦ ap (fan_keys v key) same ∙ no_fan v key outlet lifts.fan
    | inr differ ↦ same_fan w v key i key i (lifts.other_fans key i (λ a. differ)) ∙ bare i (λ m g. never m (goes_on i m g))
  ]

  -- an outlet with wires is another one
  still_fed : (i : ℕ) → fan_keys v key i ≢ [] → (i ≢ outlet) × (fan_keys w key i ≢ [])
  still_fed i some = (
    λ same. some (ap (fan_keys v key) same ∙ no_fan v key outlet lifts.fan),
    λ none. some (by_place (cases_eq i outlet) none),
  )
    where
      by_place : (i ≡ outlet) ⊎ (i ≢ outlet) → fan_keys w key i ≡ [] → fan_keys v key i ≡ []
      by_place (inl same) none = ap (fan_keys v key) same ∙ no_fan v key outlet lifts.fan
      by_place (inr differ) none = same_fan w v key i key i (lifts.other_fans key i (λ a. differ)) ∙ none

  pub lifted_keep : KeepTheirOrderBut w key outlet jacks → KeepTheirOrder v key jacks
  lifted_keep keep i j m n a b low g h = let x = still_fed i a in let y = still_fed j b in keep i j m n x.0 y.0 x.1 y.1 low (goes_back i m g) (goes_back j n h)

  pub lifted_label : (labels : List ℕ) → HasOwnLabel labels w key → HasOwnLabel labels v key
  lifted_label labels own n i p h e =
      let was = passed (is_elsewhere key outlet) (feed_hops w n i) h p (ap (λ (hs : List Hop). slice_get hs p) (sym (lifts.feeds n i)) ∙ e) in
      own n i was.place h was.stood

  pub lifted_order : (labels : List ℕ) → AreAllInOrder labels w → AreAllInOrder labels v
  lifted_order labels order n i p q g h low a b =
      let s = left_in (is_elsewhere key outlet) (feed_hops w n i) p q g h low (ap (λ (hs : List Hop). slice_get hs p) (sym (lifts.feeds n i)) ∙ a) (ap (λ (hs : List Hop). slice_get hs q) (sym (lifts.feeds n i)) ∙ b) in
      order n i s.first s.second g h s.order s.at_first s.at_second

-- the same wires lead to the same inlets
hops_on : (w v : Web) (xs : List ℕ) → ((i k : ℕ) → slice_get xs i ≡ Some k → hop_to v k ≡ hop_to w k) → map (hop_to v) xs ≡ map (hop_to w) xs
hops_on w v [] h = refl
hops_on w v (x ∷ xs) h = ap (λ (y : Hop). y ∷ map (hop_to v) xs) (h 0 x refl) ∙ ap (λ (ys : List Hop). hop_to w x ∷ ys) (hops_on w v xs (λ i k e. h (suc i) k e))

-- to where a line leads
line_to_hop : (w : Web) (k : ℕ) (l : Line) → line_told w k ≡ Some l → hop_to w k ≡ hop_at k l.sink l.inlet
line_to_hop w k l h = by_wire (wire_at w.book k) (hop_from w k) (hop_to w k) (hop_key k (slice_get w.spots.items (sink_at w.book k))) h
  where
    by_wire : (o : Option (ℕ × ℕ)) (from to : Hop) → to.key ≡ k → option_map (λ _. line_by from to) o ≡ Some l → to ≡ hop_at k l.sink l.inlet
    by_wire None from to key e = absurd (none-some l e)
    by_wire (Some p) from to key e =
        let s = same_Some (line_by from to) l e in
        ap (λ (x : ℕ). hop_at x to.node to.port) key ∙ ap (λ (x : ℕ). hop_at k x to.port) (ap (λ (x : Line). x.sink) s) ∙ ap (hop_at k l.sink) (ap (λ (x : Line). x.inlet) s)

abbrev IsFanned : Web → Type 0
IsFanned w = (node outlet i : ℕ) (h : Hop) → slice_get (fan_hops w node outlet) i ≡ Some h → line_told w h.key ≡ Some (line_by (hop_at h.key node outlet) h)

fan_listed : (w : Web) (n o i k : ℕ) → slice_get (fan_keys w n o) i ≡ Some k → slice_get (fan_hops w n o) i ≡ Some (hop_to w k)
fan_listed w n o i k e = slice_get-map (hop_to w) (fan_keys w n o) i ∙ ap (option_map (hop_to w)) e

fan_line : (w : Web) (n o i k : ℕ) → IsFanned w → slice_get (fan_keys w n o) i ≡ Some k → line_told w k ≡ Some (line_by (hop_at k n o) (hop_to w k))
fan_line w n o i k is e =
    let same = hop_key k (slice_get w.spots.items (sink_at w.book k)) in
    ap (line_told w) (sym same) ∙ is n o i (hop_to w k) (fan_listed w n o i k e) ∙ ap (λ (x : ℕ). Some (line_by (hop_at x n o) (hop_to w k))) same

module _ (w v : Web) (key : ℕ) (jacks : List Jack) (follows : FollowsPorts w v key Outlets jacks) (is : IsFanned w) where
  -- fan-outs of other boxes
  pub others_followed : (n o : ℕ) → n ≢ key → fan_hops v n o ≡ fan_hops w n o
  others_followed n o differ =
      let keys = follows.other_keys Outlets n o (λ h. absurd (differ h)) in
      ap (map (hop_to v)) keys ∙ hops_on w v (fan_keys w n o) (λ i k e.
      let l = line_by (hop_at k n o) (hop_to w k) in
      line_to_hop v k l (follows.other_lines k l Outlets (fan_line w n o i k is e) (i, e) differ)
      ∙ sym (line_to_hop w k l (fan_line w n o i k is e)))

  -- an outlet's wires lead where they led
  pub fan_followed : (i m : ℕ) → Goes (ports_told w Outlets key) jacks i m → fan_hops v key m ≡ fan_hops w key i
  fan_followed i m g =
      ap (map (hop_to v)) (follows.went i m g) ∙ hops_on w v (fan_keys w key i) (λ p k e.
      let l = line_by (hop_at k key i) (hop_to w k) in
      line_to_hop v k (with_port Outlets m l) (follows.lines k m l Outlets (fan_line w key i p k is e) (p, e) refl g)
      ∙ sym (line_to_hop w k l (fan_line w key i p k is e)))

-- a port to which a wire leads is there
fed_there : (w : Web) (n i p : ℕ) (h : Hop) → slice_get (feed_hops w n i) p ≡ Some h → i < length (ports_at w.sockets.items Inlets n)
fed_there w n i p h e = by_port (slice_get (ports_at w.sockets.items Inlets n) i) refl
  where
    by_port : (o : Option Port) → slice_get (ports_at w.sockets.items Inlets n) i ≡ o → i < length (ports_at w.sockets.items Inlets n)
    by_port None q =
        absurd (nothing_there h p (ap (λ (x : Option Port). slice_get (map (hop_from w) (feeds_under w.book (option_and_then (λ (y : Port). y.end) x))) p) (sym q) ∙ e))
    by_port (Some x) q = slice_get_within (ports_at w.sockets.items Inlets n) i x q

port_count : (w v : Web) (side : Side) (k : ℕ) → ports_told v side k ≡ ports_told w side k → length (ports_at v.sockets.items side k) ≡ length (ports_at w.sockets.items side k)
port_count w v side k same =
    let e = ap length same in
    let a = length-map (ports_at w.sockets.items side k) (λ (p : Port). p.jack) in
    let b = length-map (ports_at v.sockets.items side k) (λ (p : Port). p.jack) in
    omega (arith, e, a, b)

inner_within : (jacks : List Jack) (m j : ℕ) → inner_in (slice_get jacks m) ≡ Some j → m < length jacks
inner_within jacks m j h = by_jack (slice_get jacks m) refl h
  where
    by_jack : (o : Option Jack) → slice_get jacks m ≡ o → inner_in o ≡ Some j → m < length jacks
    by_jack None q x = absurd (none-some j x)
    by_jack (Some y) q x = slice_get_within jacks m y q

-- a noted line is that of a wire
ahead_of : (key outlet : ℕ) (hops : List Hop) (i : ℕ) (l : Line) → slice_get (lines_ahead key outlet hops) i ≡ Some l → (h : Hop) × (slice_get hops i ≡ Some h) × (line_ahead key outlet h ≡ l)
ahead_of key outlet [] i l e = absurd (nothing_there l i e)
ahead_of key outlet (h ∷ hops) zero l e = (h, refl, same_Some (line_ahead key outlet h) l e)
ahead_of key outlet (h ∷ hops) (suc i) l e = ahead_of key outlet hops i l e

sinks_ahead : (key outlet : ℕ) (hops : List Hop) → sinks_of (lines_ahead key outlet hops) ≡ places_of hops
sinks_ahead key outlet [] = refl
sinks_ahead key outlet (h ∷ hops) = ap (λ ps. (h.node, h.port) ∷ ps) (sinks_ahead key outlet hops)

pair_of : (k i l m : ℕ) (o : Option (ℕ × ℕ)) → o ≡ Some (k, i) → o ≡ Some (l, m) → i ≡ m
pair_of k i l m o p q = ap (λ (x : ℕ × ℕ). x.1) (same_Some (k, i) (l, m) (sym p ∙ q))

-- it is known which outlet the box is then
pub known_some : (u : Web) (key port : ℕ) (jacks : List Jack) → KnowsHomes u → ports_told u Outlets key ≡ jacks → (m : ℕ) × (inner_in (slice_get jacks m) ≡ Some port) → IsSome (port_told u port)
known_some u key port jacks known told is = ap is_some (known.found Outlets port key is.0 (ap (λ (js : List Jack). inner_in (slice_get js is.0)) told ∙ is.1))

-- the whole of it: a web at first, with the wires out, with the new ports, and with the wires in again
module _ (w v u : Web) (key outlet port place : ℕ) (jacks : List Jack) (lifts : Lifts w v key outlet) (follows : FollowsPorts v u key Outlets jacks) (known : KnowsHomes w) (known_then : KnowsHomes u)
    (free : AreFreeFor w key Outlets jacks) (was : port_told w port ≡ Some (key, outlet)) (is : (m : ℕ) × (inner_in (slice_get jacks m) ≡ Some port)) (told : (k m : ℕ) → port_told u port ≡ Some (k, m) → place ≡ m) where
  -- the box is the outlet of its new place
  pub at_place : inner_in (slice_get jacks place) ≡ Some port
  at_place =
      let found = known_then.found Outlets port key is.0 (ap (λ (js : List Jack). inner_in (slice_get js is.0)) follows.ports ∙ is.1) in
      ap (λ (m : ℕ). inner_in (slice_get jacks m)) (told key is.0 found) ∙ is.1

  was_outlet : inner_in (jack_told w Outlets key outlet) ≡ Some port
  was_outlet = elim (free is.0 port is.1) [
    | inl none ↦ absurd (none-some (key, outlet) (sym none ∙ was))
    | inr old ↦ ap (λ (i : ℕ). inner_in (jack_told w Outlets key i)) (pair_of key outlet key old.0 (port_told w port) was (known.found Outlets port key old.0 old.1)) ∙ old.1
  ]

  pub goes_there : Goes (ports_told w Outlets key) jacks outlet place
  goes_there = (port, was_outlet, at_place)

  pub routes : Meet w → (i : ℕ) (l : Line) → slice_get (lines_ahead key outlet (fan_hops w key outlet)) i ≡ Some l → IsRoute u.sockets.items (line_at key place l)
  routes meet i l e =
      let a = ahead_of key outlet (fan_hops w key outlet) i l e in
      let h = a.0 in
      let f = meet.fed key outlet i h a.1 in
      let there = fed_there w h.node h.port f.0 (hop_at h.key key outlet) f.1 in
      let to = port_count w u Inlets h.node (follows.other_ports Inlets h.node (λ _ x. absurd (inlets_apart x)) ∙ lifts.kept.ports Inlets h.node) in
      let sink : line_at key place (line_ahead key outlet h) ≡ line_at key place l = ap (line_at key place) a.2 in
      let low = inner_within jacks place port at_place in
      let n = ap length follows.ports in
      let c = length-map (ports_at u.sockets.items Outlets key) (λ (p : Port). p.jack) in
      subst (λ (x : Line). IsRoute u.sockets.items x) sink (record { from = omega (arith, low, n, c); to = omega (arith, there, to) })
    where
      inlets_apart : Inlets ≡ Outlets → ⊥
      inlets_apart x = cc x

  module _ (x : Web) (labels : List ℕ) (lines : List Line) (noted : lines ≡ lines_ahead key outlet (fan_hops w key outlet)) (lays : Lays u x labels key place lines) (once : AreOnce jacks) (fanned : IsFanned v) where
    fan_moved : places_of (fan_hops x key place) ≡ places_of (fan_hops w key outlet)
    fan_moved =
        lays.fan ∙ ap (λ (hs : List Hop). places_of hs ++ sinks_of lines) (fan_followed v u key jacks follows fanned outlet place (goes_on w v key outlet jacks lifts outlet place goes_there) ∙ lifts.fan)
        ∙ ap sinks_of noted ∙ sinks_ahead key outlet (fan_hops w key outlet)

    -- another outlet
    fan_else : (i m : ℕ) → Goes (ports_told w Outlets key) jacks i m → m ≢ place → i ≢ outlet → fan_hops x key m ≡ fan_hops w key i
    fan_else i m g there here =
        lays.other_fans key m (λ a. there) ∙ fan_followed v u key jacks follows fanned i m (goes_on w v key outlet jacks lifts i m g) ∙ lifts.other_fans key i (λ a. here)

    -- the box of the outlet that moved
    from_same : (i m : ℕ) → Goes (ports_told w Outlets key) jacks i m → m ≡ place → i ≡ outlet
    from_same i m g same =
        let box = same_Some g.0 port (sym g.2 ∙ ap (λ (n : ℕ). inner_in (slice_get jacks n)) same ∙ at_place) in
        pair_of key i key outlet (port_told w port) (known.found Outlets port key i (g.1 ∙ ap (λ (j : ℕ). Some j) box)) was

    to_same : (i m : ℕ) → Goes (ports_told w Outlets key) jacks i m → i ≡ outlet → m ≡ place
    to_same i m g same =
        let box = same_Some g.0 port (sym g.1 ∙ ap (λ (n : ℕ). inner_in (jack_told w Outlets key n)) same ∙ was_outlet) in
        once m place port (g.2 ∙ ap (λ (j : ℕ). Some j) box) at_place

    pub moved : MovesOutlet w x key jacks
    moved = record {
      ports = lays.kept.ports Outlets key ∙ follows.ports;
      other_ports = λ s k ne. lays.kept.ports s k ∙ follows.other_ports s k ne ∙ lifts.kept.ports s k;
      made = λ k. lays.kept.made k ∙ follows.made k ∙ lifts.kept.made k;
      fans = λ i m g. elim (cases_eq m place) [
        | inl same ↦
            ap (λ (n : ℕ). places_of (fan_hops x key n)) same ∙ fan_moved ∙ ap (λ (n : ℕ). places_of (fan_hops w key n)) (sym (from_same i m g same))
        | inr differ ↦ ap places_of (fan_else i m g differ (λ same. differ (to_same i m g same)))
      ];
      came = λ m never. lays.other_fans key m (λ a same. never outlet (subst (λ (n : ℕ). Goes (ports_told w Outlets key) jacks outlet n) (sym same) goes_there))
          ∙ ap (map (hop_to u)) (follows.came m (λ i g. never i (subst (λ (js : List Jack). Goes js jacks i m) (lifts.kept.ports Outlets key) g)));
      other_fans = λ n o ne. lays.other_fans n o (λ a. absurd (ne a)) ∙ others_followed v u key jacks follows fanned n o ne ∙ lifts.other_fans n o (λ a. absurd (ne a));
    }
