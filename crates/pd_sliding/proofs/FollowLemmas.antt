-- A side of a box that follows its canvas, where one of its ports stands elsewhere.
use Rattle.std.proofs.Common.{◌≡◌, ◌≢◌, ℕ, zero, suc, ◌<◌, ◌≤◌, ◌==◌, Bool, true, false, cond, List, [], ◌∷◌, map, length, slice_get, Some, inl, inr, eq-eqb, refl, sym, ap, ◌∙◌, subst, arith}
use Rattle.std.specs.Prelude.{option_map}
use Rattle.std.proofs.lemmas.Bool.{cases_eq, cases_lt}
use Rattle.std.proofs.lemmas.Option.{none-some, slice_get-map, slice_get_past}
use Rattle.pd_grove.specs.declared.ports.Side.{Side}
use Rattle.pd_grove.specs.declared.ports.Side.TheVariants.{Inlets, Outlets}
use Rattle.pd_web.specs.declared.jacks.Jack.{Jack}
use Rattle.pd_web.specs.declared.lines.Line.{Line}
use Rattle.pd_web.specs.declared.web.Hop.{Hop}
use Rattle.pd_web.specs.declared.web.Web.{Web}
use Rattle.pd_web.specs.Changes.{line_told, hop_at, Meet}
use Rattle.pd_web.specs.Homes.{inner_in}
use Rattle.pd_web.specs.Hops.{ports_told, jack_told, fan_keys, feed_keys, fan_hops, feed_hops, hop_from, hop_to}
use Rattle.pd_ports.specs.Known.{AreBareWithout, AreFreeFor}
use Rattle.pd_ports.specs.Moves.{Goes, FollowsPorts, keys_at, box_of, port_of, with_port, StandsOn}
use Rattle.pd_following.specs.Raising.{up, other, hops_at}
use Rattle.pd_following.proofs.ListLemmas.{up_or, insert_here, insert_length, map_same}
use Rattle.pd_following.proofs.RaiseLemmas.{hop_across, hops_keys, line_hop, map_then, keys_within, keys_past, differ_test, other_differs, some_of, FansTold, FeedsTold, line_at, other_box, other_port, own_box, own_port, twice}
use Rattle.pd_sliding.specs.Slides.{slid, hop_slid, IsOneElsewhere}
use Rattle.pd_sliding.proofs.ListLemmas.{slid_here, slid_far, slid_stands, slid_up}

-- a mapped list has an element where the list has one
map_back : {X Y : Type 0} (f : X → Y) (xs : List X) (i : ℕ) (y : Y) → slice_get (map f xs) i ≡ Some y → (x : X) × (slice_get xs i ≡ Some x)
map_back f [] i y e = absurd (none-some y e)
map_back f (x ∷ xs) zero y e = (x, refl)
map_back f (x ∷ xs) (suc i) y e = map_back f xs i y e

-- the wire stands at the port at its other end too
across_within : (w : Web) → Meet w → (s : Side) (n i p k : ℕ) (l : Line) → slice_get (keys_at w s n i) p ≡ Some k → line_told w k ≡ Some l
    → port_of (other s) l < length (ports_told w (other s) (box_of (other s) l))
across_within w M Inlets n i p k l e told =
    let h = hop_at k l.source l.outlet in
    let there : slice_get (feed_hops w n i) p ≡ Some h = slice_get-map (hop_from w) (feed_keys w n i) p ∙ ap (option_map (hop_from w)) e ∙ ap (λ (x : Hop). Some x) (line_hop Inlets w k l told) in
    let f = M.fanned n i p h there in
    let x = map_back (hop_to w) (fan_keys w l.source l.outlet) f.0 (hop_at k n i) f.1 in
    keys_within w Outlets l.source l.outlet f.0 x.0 x.1
across_within w M Outlets n i p k l e told =
    let h = hop_at k l.sink l.inlet in
    let there : slice_get (fan_hops w n i) p ≡ Some h = slice_get-map (hop_to w) (fan_keys w n i) p ∙ ap (option_map (hop_to w)) e ∙ ap (λ (x : Hop). Some x) (line_hop Outlets w k l told) in
    let f = M.fed n i p h there in
    let x = map_back (hop_from w) (feed_keys w l.sink l.inlet) f.0 (hop_at k n i) f.1 in
    keys_within w Inlets l.sink l.inlet f.0 x.0 x.1

module _ (w : Web) (jacks : List Jack) (key : ℕ) (side : Side) (port from to : ℕ) (O : IsOneElsewhere w jacks key side port from to) where
  pub count : length (ports_told w side key) ≡ suc (length O.rest)
  count = ap length O.was ∙ insert_length O.rest from O.jack

  pub count_then : length jacks ≡ length (ports_told w side key)
  count_then = ap length O.is ∙ insert_length O.rest to O.jack ∙ sym count

  pub goes_low : from < length (ports_told w side key)
  goes_low = let a = O.goes in let b = count in omega (arith, a, b)

  pub comes_low : to < length (ports_told w side key)
  comes_low = let a = O.comes in let b = count in omega (arith, a, b)

  pub jack_slid : (i : ℕ) → slice_get jacks (slid from to i) ≡ jack_told w side key i
  jack_slid i =
      ap (λ (js : List Jack). slice_get js (slid from to i)) O.is ∙ slid_stands O.rest from to O.jack O.goes O.comes i ∙ ap (λ (js : List Jack). slice_get js i) (sym O.was)

  pub far_stays : (i : ℕ) → length (ports_told w side key) ≤ i → slid from to i ≡ i
  far_stays i l = let a = goes_low in let b = comes_low in slid_far from to i (omega (arith, a, l)) (omega (arith, b, l))

  pub goes_slid : (i : ℕ) → i < length (ports_told w side key) → Goes (ports_told w side key) jacks i (slid from to i)
  goes_slid i l = let j = some_of (inner_in (jack_told w side key i)) (O.boxes i l) in (j.0, j.1, ap inner_in (jack_slid i) ∙ j.1)

  -- the port that goes is the box
  pub it_was : inner_in (jack_told w side key from) ≡ Some port
  it_was = ap (λ (js : List Jack). inner_in (slice_get js from)) O.was ∙ ap inner_in (insert_here O.rest from O.jack O.goes) ∙ O.is_it

  pub it_is : inner_in (slice_get jacks to) ≡ Some port
  it_is = ap (λ (js : List Jack). inner_in (slice_get js to)) O.is ∙ ap inner_in (insert_here O.rest to O.jack O.comes) ∙ O.is_it

  pub free_slid : AreFreeFor w key side jacks
  free_slid m j h = elim (up_or to m) [
    | inl e ↦ inr (from, ap inner_in (sym (jack_slid from)) ∙ ap (λ n. inner_in (slice_get jacks n)) (slid_here from to) ∙ ap (λ n. inner_in (slice_get jacks n)) (sym e) ∙ h)
    | inr o ↦ inr (up from o.0, ap inner_in (sym (jack_slid (up from o.0))) ∙ ap (λ n. inner_in (slice_get jacks n)) (slid_up from to o.0) ∙ ap (λ n. inner_in (slice_get jacks n)) (sym o.1) ∙ h)
  ]

  pub bare_slid : AreBareWithout w key side jacks
  bare_slid i never = elim (cases_lt i (length (ports_told w side key))) [
    | inl l ↦ absurd (never (slid from to i) (goes_slid i l))
    | inr l ↦ keys_past w side key i l
  ]

  module _ (w' : Web) (F : FollowsPorts w w' key side jacks) (M : Meet w) (fans : FansTold w) (feeds : FeedsTold w) where
    side_within : (s t : Side) → t ≡ side → (n i p k : ℕ) (l : Line) → slice_get (keys_at w s n i) p ≡ Some k → line_told w k ≡ Some l → box_of s l ≡ n → port_of s l ≡ i
        → port_of t l < length (ports_told w t (box_of t l))
    side_within Inlets Inlets same n i p k l e told box port =
        subst (λ x. x < length (ports_told w Inlets l.sink)) (sym port) (subst (λ x. i < length (ports_told w Inlets x)) (sym box) (keys_within w Inlets n i p k e))
    side_within Outlets Outlets same n i p k l e told box port =
        subst (λ x. x < length (ports_told w Outlets l.source)) (sym port) (subst (λ x. i < length (ports_told w Outlets x)) (sym box) (keys_within w Outlets n i p k e))
    side_within Inlets Outlets same n i p k l e told box port = across_within w M Inlets n i p k l e told
    side_within Outlets Inlets same n i p k l e told box port = across_within w M Outlets n i p k l e told

    -- the line of a wire then
    abbrev moved : Line → Line
    moved l = cond (box_of side l == key) (with_port side (slid from to (port_of side l)) l) l

    moved_told : (s : Side) (n i p k : ℕ) (l : Line) → slice_get (keys_at w s n i) p ≡ Some k → line_told w k ≡ Some l → box_of s l ≡ n → port_of s l ≡ i → line_told w' k ≡ Some (moved l)
    moved_told s n i p k l e told box port =
        let stands : StandsOn w s k l = (p, ap (λ x. slice_get (keys_at w s x (port_of s l)) p) box ∙ ap (λ x. slice_get (keys_at w s n x) p) port ∙ e) in
        elim (cases_eq (box_of side l) key) [
          | inl here ↦
              let low = subst (λ x. port_of side l < length (ports_told w side x)) here (side_within s side refl n i p k l e told box port) in
              F.lines k (slid from to (port_of side l)) l s told stands here (goes_slid (port_of side l) low)
              ∙ ap (λ (t : Bool). Some (cond t (with_port side (slid from to (port_of side l)) l) l)) (sym (eq-eqb (box_of side l) key here))
          | inr away ↦
              F.other_lines k l s told stands away
              ∙ ap (λ (t : Bool). Some (cond t (with_port side (slid from to (port_of side l)) l) l)) (sym (differ_test (box_of side l) key away))
        ]

    near_box : (l : Line) → box_of (other side) (moved l) ≡ box_of (other side) l
    near_box l = step (box_of side l == key)
      where
        step : (t : Bool) → box_of (other side) (cond t (with_port side (slid from to (port_of side l)) l) l) ≡ box_of (other side) l
        step true = other_box side (slid from to (port_of side l)) l
        step false = refl

    near_port : (l : Line) → port_of (other side) (moved l) ≡ port_of (other side) l
    near_port l = step (box_of side l == key)
      where
        step : (t : Bool) → port_of (other side) (cond t (with_port side (slid from to (port_of side l)) l) l) ≡ port_of (other side) l
        step true = other_port side (slid from to (port_of side l)) l
        step false = refl

    far_box : (l : Line) → box_of side (moved l) ≡ box_of side l
    far_box l = step (box_of side l == key)
      where
        step : (t : Bool) → box_of side (cond t (with_port side (slid from to (port_of side l)) l) l) ≡ box_of side l
        step true = own_box side (slid from to (port_of side l)) l
        step false = refl

    far_port : (l : Line) → port_of side (moved l) ≡ cond (box_of side l == key) (slid from to (port_of side l)) (port_of side l)
    far_port l = step (box_of side l == key)
      where
        step : (t : Bool) → port_of side (cond t (with_port side (slid from to (port_of side l)) l) l) ≡ cond t (slid from to (port_of side l)) (port_of side l)
        step true = own_port side (slid from to (port_of side l)) l
        step false = refl

    -- a wire at a port of this side leads where it led
    near_hop : (n i p k : ℕ) → slice_get (keys_at w side n i) p ≡ Some k → hop_across side w' k ≡ hop_across side w k
    near_hop n i p k e =
        let L = line_at w fans feeds side n i p k e in
        line_hop side w' k (moved L.line) (moved_told side n i p k L.line e L.told L.box L.port)
        ∙ ap (λ x. hop_at k x (port_of (other side) (moved L.line))) (near_box L.line) ∙ ap (hop_at k (box_of (other side) L.line)) (near_port L.line)
        ∙ sym (line_hop side w k L.line L.told)

    -- one at a port of the other side leads to the same box, and to the port that has moved
    far_hop : (n i p k : ℕ) → slice_get (keys_at w (other side) n i) p ≡ Some k → hop_across (other side) w' k ≡ hop_slid key from to (hop_across (other side) w k)
    far_hop n i p k e =
        let L = line_at w fans feeds (other side) n i p k e in
        let l = L.line in
        let now : hop_across (other side) w' k ≡ hop_at k (box_of side (moved l)) (port_of side (moved l)) =
        subst (λ (t : Side). hop_across (other side) w' k ≡ hop_at k (box_of t (moved l)) (port_of t (moved l))) (twice side)
        (line_hop (other side) w' k (moved l) (moved_told (other side) n i p k l e L.told L.box L.port)) in
        let was : hop_across (other side) w k ≡ hop_at k (box_of side l) (port_of side l) =
        subst (λ (t : Side). hop_across (other side) w k ≡ hop_at k (box_of t l) (port_of t l)) (twice side) (line_hop (other side) w k l L.told) in
        now ∙ ap (λ x. hop_at k x (port_of side (moved l))) (far_box l) ∙ ap (hop_at k (box_of side l)) (far_port l) ∙ ap (hop_slid key from to) (sym was)

    pub keys_slid : (i : ℕ) → keys_at w' side key (slid from to i) ≡ keys_at w side key i
    keys_slid i = elim (cases_lt i (length (ports_told w side key))) [
      | inl l ↦ F.went i (slid from to i) (goes_slid i l)
      | inr l ↦
          let past = slice_get_past (ports_told w side key) i l in
          F.came (slid from to i) (λ m t. none-some t.0 (sym (ap inner_in (jack_slid i) ∙ ap inner_in past) ∙ t.2)) ∙ sym (keys_past w side key i l)
    ]

    near_hops : (n i n' i' : ℕ) → keys_at w' side n' i' ≡ keys_at w side n i → hops_at side w' n' i' ≡ hops_at side w n i
    near_hops n i n' i' keys =
        hops_keys side w' n' i' ∙ ap (map (hop_across side w')) keys ∙ map_same (hop_across side w') (hop_across side w) (keys_at w side n i) (λ p k e. near_hop n i p k e)
        ∙ sym (hops_keys side w n i)

    -- the wires at the ports of the side, and those at the ports of other boxes
    pub own_hops : (i : ℕ) → hops_at side w' key (slid from to i) ≡ hops_at side w key i
    own_hops i = near_hops key i key (slid from to i) (keys_slid i)

    pub other_hops : (k i : ℕ) → k ≢ key → hops_at side w' k i ≡ hops_at side w k i
    other_hops k i d = near_hops k i k i (F.other_keys side k i (λ e. absurd (d e)))

    -- the wires at ports of the other side
    pub across_hops : (k i : ℕ) → hops_at (other side) w' k i ≡ map (hop_slid key from to) (hops_at (other side) w k i)
    across_hops k i =
        hops_keys (other side) w' k i ∙ ap (map (hop_across (other side) w')) (F.other_keys (other side) k i (λ _. other_differs side))
        ∙ map_then (hop_across (other side) w') (hop_slid key from to) (hop_across (other side) w) (keys_at w (other side) k i) (λ p x e. far_hop k i p x e)
        ∙ ap (map (hop_slid key from to)) (sym (hops_keys (other side) w k i))
