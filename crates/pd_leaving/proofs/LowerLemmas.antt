-- A side of a box that follows its canvas, where that has one port fewer.
use Rattle.std.proofs.Common.{◌≡◌, ℕ, suc, ◌<◌, ◌≤◌, ◌==◌, Bool, cond, List, [], map, length, slice_get, Some, inl, inr, eq-eqb, refl, sym, ap, ◌∙◌, subst, arith}
use Rattle.std.specs.Prelude.{option_map}
use Rattle.std.specs.List.{insert}
use Rattle.std.proofs.lemmas.Bool.{cases_eq, cases_lt}
use Rattle.std.proofs.lemmas.Option.{none-some, slice_get-map}
use Rattle.pd_grove.specs.declared.grove.Grove.{Grove}
use Rattle.pd_grove.specs.declared.ports.Side.{Side}
use Rattle.pd_grove.specs.declared.ports.Side.TheVariants.{Inlets, Outlets}
use Rattle.pd_web.specs.declared.jacks.Jack.{Jack}
use Rattle.pd_web.specs.declared.lines.Line.{Line}
use Rattle.pd_web.specs.declared.web.Hop.{Hop}
use Rattle.pd_web.specs.declared.web.Web.{Web}
use Rattle.pd_web.specs.Changes.{line_told, hop_at, Meet}
use Rattle.pd_web.specs.Homes.{inner_in}
use Rattle.pd_web.specs.Hops.{ports_told, jack_told, fan_keys, feed_keys, fan_hops, feed_hops, hop_from, hop_to}
use Rattle.pd_web.specs.Jacks.{jacks_at}
use Rattle.pd_web.specs.Wiring.{source_at, sink_at}
use Rattle.pd_ports.specs.Known.{AreBareWithout}
use Rattle.pd_ports.specs.Moves.{Goes, FollowsPorts, keys_at, box_of, port_of, with_port, StandsOn}
use Rattle.pd_following.specs.Raising.{up, raised, other, hops_at, Raises, IsOneMore}
use Rattle.pd_following.proofs.ListLemmas.{insert_here, insert_up, insert_length, map_same, up_behind, up_or}
use Rattle.pd_following.proofs.FeedLemmas.{mapped_from}
use Rattle.pd_following.proofs.RaiseLemmas.{differ_test, hop_across, hop_key, hops_keys, keys_past, keys_within, line_at, line_hop, map_then, other_box, other_differs, other_port, own_box, own_port, some_of, twice, FansTold, FeedsTold}

-- a wire that stands at a port stands at the port at its other end
across_stands : (w : Web) → Meet w → (s : Side) (n i p k : ℕ) (l : Line) → slice_get (keys_at w s n i) p ≡ Some k → line_told w k ≡ Some l
    → (q : ℕ) × (slice_get (keys_at w (other s) (box_of (other s) l) (port_of (other s) l)) q ≡ Some k)
across_stands w M Inlets n i p k l e told =
    let h = hop_at k l.source l.outlet in
    let there : slice_get (feed_hops w n i) p ≡ Some h = slice_get-map (hop_from w) (feed_keys w n i) p ∙ ap (option_map (hop_from w)) e ∙ ap (λ (x : Hop). Some x) (line_hop Inlets w k l told) in
    let f = M.fanned n i p h there in
    let x = mapped_from (hop_to w) (fan_keys w l.source l.outlet) f.0 (hop_at k n i) f.1 in
    (f.0, x.1 ∙ ap (λ y. Some y) (sym (hop_key x.0 (slice_get w.spots.items (sink_at w.book x.0))) ∙ ap (λ (y : Hop). y.key) x.2))
across_stands w M Outlets n i p k l e told =
    let h = hop_at k l.sink l.inlet in
    let there : slice_get (fan_hops w n i) p ≡ Some h = slice_get-map (hop_to w) (fan_keys w n i) p ∙ ap (option_map (hop_to w)) e ∙ ap (λ (x : Hop). Some x) (line_hop Outlets w k l told) in
    let f = M.fed n i p h there in
    let x = mapped_from (hop_from w) (feed_keys w l.sink l.inlet) f.0 (hop_at k n i) f.1 in
    (f.0, x.1 ∙ ap (λ y. Some y) (sym (hop_key x.0 (slice_get w.spots.items (source_at w.book x.0))) ∙ ap (λ (y : Hop). y.key) x.2))

-- it stands at its port on either side
either_stands : (w : Web) → Meet w → (s t : Side) (n i p k : ℕ) (l : Line) → slice_get (keys_at w s n i) p ≡ Some k → line_told w k ≡ Some l → box_of s l ≡ n → port_of s l ≡ i
    → (q : ℕ) × (slice_get (keys_at w t (box_of t l) (port_of t l)) q ≡ Some k)
either_stands w M Inlets Inlets n i p k l e told box port = (p, ap (λ x. slice_get (keys_at w Inlets x l.inlet) p) box ∙ ap (λ x. slice_get (keys_at w Inlets n x) p) port ∙ e)
either_stands w M Outlets Outlets n i p k l e told box port = (p, ap (λ x. slice_get (keys_at w Outlets x l.outlet) p) box ∙ ap (λ x. slice_get (keys_at w Outlets n x) p) port ∙ e)
either_stands w M Inlets Outlets n i p k l e told box port = across_stands w M Inlets n i p k l e told
either_stands w M Outlets Inlets n i p k l e told box port = across_stands w M Outlets n i p k l e told

-- the line of a wire in a web where the port is no more
record IsLowered (w : Web) (key : ℕ) (side : Side) (at k : ℕ) (l : Line) : Type 0 where
  line : Line
  told : line_told w k ≡ Some line
  box : box_of side l ≡ box_of side line
  port : port_of side l ≡ cond (box_of side line == key) (up at (port_of side line)) (port_of side line)
  near_box : box_of (other side) line ≡ box_of (other side) l
  near_port : port_of (other side) line ≡ port_of (other side) l

module _ (w w' : Web) (key : ℕ) (side : Side) (g : Grove) (at : ℕ) (jack : Jack) (had : ports_told w side key ≡ jacks_at side g key) (O : IsOneMore w' g key side at jack) (jacks : List Jack)
    (F : FollowsPorts w w' key side jacks) (M : Meet w) (bare : AreBareWithout w key side jacks) (fans : FansTold w) (feeds : FeedsTold w) where
  one_less : ports_told w side key ≡ insert (ports_told w' side key) at jack
  one_less = had ∙ O.ports

  goes_down : (i : ℕ) → i < length (ports_told w' side key) → Goes (ports_told w side key) jacks (up at i) i
  goes_down i l =
      let j = some_of (inner_in (jack_told w' side key i)) (O.boxes i l) in (
        j.0,
        ap (λ (js : List Jack). inner_in (slice_get js (up at i))) one_less ∙ ap inner_in (insert_up (ports_told w' side key) at i jack O.within) ∙ j.1,
        ap (λ (js : List Jack). inner_in (slice_get js i)) (sym F.ports) ∙ j.1,
      )

  -- the port that goes has no wires
  at_bare : keys_at w side key at ≡ []
  at_bare = bare at (λ m t. O.apart m t.0 (ap (λ (js : List Jack). inner_in (slice_get js m)) F.ports ∙ t.2)
      (sym (ap inner_in (insert_here (ports_told w' side key) at jack O.within)) ∙ sym (ap (λ (js : List Jack). inner_in (slice_get js at)) one_less) ∙ t.1))

  count : length (ports_told w side key) ≡ suc (length (ports_told w' side key))
  count = ap length one_less ∙ insert_length (ports_told w' side key) at jack

  own_keys : (i : ℕ) → keys_at w side key (up at i) ≡ keys_at w' side key i
  own_keys i = elim (cases_lt i (length (ports_told w' side key))) [
    | inl l ↦ sym (F.went (up at i) i (goes_down i l))
    | inr l ↦
        let within = O.within in
        let u = up_behind at i (omega (arith, l, within)) in
        let n = count in
        keys_past w side key (up at i) (omega (arith, u, n, l)) ∙ sym (keys_past w' side key i l)
  ]

  still_within : (i n : ℕ) → up at i < suc n → at ≤ n → i < n
  still_within i n l m = elim (cases_lt i at) [
    | inl a ↦ omega (arith, a, m)
    | inr a ↦ let u = up_behind at i a in omega (arith, u, l)
  ]

  lowered : (s : Side) (n i p k : ℕ) (l : Line) → slice_get (keys_at w s n i) p ≡ Some k → line_told w k ≡ Some l → box_of s l ≡ n → port_of s l ≡ i → IsLowered w' key side at k l
  lowered s n i p k l e told box port =
      let stands : StandsOn w s k l = (p, ap (λ x. slice_get (keys_at w s x (port_of s l)) p) box ∙ ap (λ x. slice_get (keys_at w s n x) p) port ∙ e) in
      elim (cases_eq (box_of side l) key) [
        | inl here ↦
            let q = either_stands w M s side n i p k l e told box port in
            let own : slice_get (keys_at w side key (port_of side l)) q.0 ≡ Some k = ap (λ x. slice_get (keys_at w side x (port_of side l)) q.0) (sym here) ∙ q.1 in
            elim (up_or at (port_of side l)) [
              | inl gone ↦ absurd (none-some k (ap (λ (ks : List ℕ). slice_get ks q.0) (sym at_bare) ∙ ap (λ x. slice_get (keys_at w side key x) q.0) (sym gone) ∙ own))
              | inr m ↦
                  let low = keys_within w side key (port_of side l) q.0 k own in
                  let c = count in
                  let u = m.1 in
                  let within = still_within m.0 (length (ports_told w' side key)) (omega (arith, low, c, u)) O.within in
                  let goes : Goes (ports_told w side key) jacks (port_of side l) m.0 = subst (λ x. Goes (ports_told w side key) jacks x m.0) (sym m.1) (goes_down m.0 within) in
                  record {
                    line = with_port side m.0 l;
                    told = F.lines k m.0 l s told stands here goes;
                    box = sym (own_box side m.0 l);
                    port = m.1 ∙ ap (up at) (sym (own_port side m.0 l))
                        ∙ ap (λ (t : Bool). cond t (up at (port_of side (with_port side m.0 l))) (port_of side (with_port side m.0 l))) (sym (eq-eqb (box_of side (with_port side m.0 l)) key (own_box side m.0 l ∙ here)));
                    near_box = other_box side m.0 l;
                    near_port = other_port side m.0 l;
                  }
            ]
        | inr away ↦ record {
          line = l;
          told = F.other_lines k l s told stands away;
          box = refl;
          port = ap (λ (t : Bool). cond t (up at (port_of side l)) (port_of side l)) (sym (differ_test (box_of side l) key away));
          near_box = refl;
          near_port = refl;
        }
      ]

  -- a wire at a port of this side leads where it led
  near_hop : (n i p k : ℕ) → slice_get (keys_at w side n i) p ≡ Some k → hop_across side w k ≡ hop_across side w' k
  near_hop n i p k e =
      let L = line_at w fans feeds side n i p k e in
      let D = lowered side n i p k L.line e L.told L.box L.port in
      line_hop side w k L.line L.told ∙ ap (λ x. hop_at k x (port_of (other side) L.line)) (sym D.near_box) ∙ ap (hop_at k (box_of (other side) D.line)) (sym D.near_port)
      ∙ sym (line_hop side w' k D.line D.told)

  -- one at a port of the other side leads to the same box, and to the port that has moved
  far_hop : (n i p k : ℕ) → slice_get (keys_at w (other side) n i) p ≡ Some k → hop_across (other side) w k ≡ raised key at (hop_across (other side) w' k)
  far_hop n i p k e =
      let L = line_at w fans feeds (other side) n i p k e in
      let l = L.line in
      let D = lowered (other side) n i p k l e L.told L.box L.port in
      let was : hop_across (other side) w k ≡ hop_at k (box_of side l) (port_of side l) =
      subst (λ (t : Side). hop_across (other side) w k ≡ hop_at k (box_of t l) (port_of t l)) (twice side) (line_hop (other side) w k l L.told) in
      let now : hop_across (other side) w' k ≡ hop_at k (box_of side D.line) (port_of side D.line) =
      subst (λ (t : Side). hop_across (other side) w' k ≡ hop_at k (box_of t D.line) (port_of t D.line)) (twice side) (line_hop (other side) w' k D.line D.told) in
      was ∙ ap (λ x. hop_at k x (port_of side l)) D.box ∙ ap (hop_at k (box_of side D.line)) D.port ∙ ap (raised key at) (sym now)

  near_hops : (n i n' i' : ℕ) → keys_at w side n i ≡ keys_at w' side n' i' → hops_at side w n i ≡ hops_at side w' n' i'
  near_hops n i n' i' keys =
      hops_keys side w n i ∙ map_same (hop_across side w) (hop_across side w') (keys_at w side n i) (λ p k e. near_hop n i p k e) ∙ ap (map (hop_across side w')) keys
      ∙ sym (hops_keys side w' n' i')

  pub one_lowered : Raises w' w key side at jack
  one_lowered = record {
    within = O.within;
    ports = one_less;
    other_ports = λ s k d. sym (F.other_ports s k d);
    made = λ k. sym (F.made k);
    came = hops_keys side w key at ∙ ap (map (hop_across side w)) at_bare;
    own = λ i. near_hops key (up at i) key i (own_keys i);
    others = λ k i d. near_hops k i k i (sym (F.other_keys side k i (λ e. absurd (d e))));
    across = λ k i.
        hops_keys (other side) w k i ∙ map_then (hop_across (other side) w) (raised key at) (hop_across (other side) w') (keys_at w (other side) k i) (λ p x e. far_hop k i p x e)
        ∙ ap (λ (ks : List ℕ). map (raised key at) (map (hop_across (other side) w') ks)) (sym (F.other_keys (other side) k i (λ _. other_differs side)))
        ∙ ap (map (raised key at)) (sym (hops_keys (other side) w' k i));
  }
