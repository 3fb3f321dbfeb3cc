-- In a web that was laid each wire stands at both of its ports.
use Rattle.std.proofs.Common.{◌≡◌, ℕ, zero, suc, ◌==◌, Bool, true, false, cond, List, [], ◌∷◌, map, filter, slice_get, Option, Some, None, refl, sym, ap, ◌∙◌, subst}
use Rattle.std.specs.Prelude.{option_map}
use Rattle.std.proofs.lemmas.Bool.{cases_Bool}
use Rattle.std.proofs.lemmas.Option.{none-some, same_Some, slice_get-map, slice_get-get_or}
use Rattle.std.proofs.Common.{eqb-true, inl, inr}
use Rattle.std.specs.Prelude.{◌⊎◌}
use Rattle.pd_wire.specs.Book.{Book, wire_at, fan_of, feeds_of, IsLinked}
use Rattle.pd_grove.specs.declared.ports.Side.{Side}
use Rattle.pd_grove.specs.declared.ports.Side.TheVariants.{Inlets, Outlets}
use Rattle.pd_web.specs.declared.joints.Joint.{Joint}
use Rattle.pd_web.specs.declared.lines.Line.{Line}
use Rattle.pd_web.specs.declared.sockets.Sockets.{Sockets}
use Rattle.pd_web.specs.declared.sockets.Spot.{Spot}
use Rattle.pd_web.specs.declared.web.Hop.{Hop}
use Rattle.pd_web.specs.declared.web.Web.{Web}
use Rattle.pd_web.specs.Sockets.{AreTied, end_at, end_under}
use Rattle.pd_web.specs.Wiring.{source_in, sink_in, source_at, sink_at, sinks_from}
use Rattle.pd_web.specs.Lines.{line_from, line_to, IsJoint, AreJoints, IsLaid}
use Rattle.pd_web.specs.Hops.{hop_by, hop_to, hop_from, fan_under, feeds_under, fan_hops, feed_hops}
use Rattle.pd_web.specs.Changes.{hop_at, IsListed, Meet}
use Rattle.pd_web.proofs.HopLemmas.{fan_listed, feed_listed, key_listed}

-- a joint between two ends
record JointFound (e t : ℕ) (js : List Joint) : Type 0 where
  place : ℕ
  joint : Joint
  stands : slice_get js place ≡ Some joint
  source : joint.source ≡ e
  sink : joint.sink ≡ t

found_later : (e t : ℕ) (j : Joint) (js : List Joint) → JointFound e t js → JointFound e t (j ∷ js)
found_later e t j js f = record { place = suc f.place; joint = f.joint; stands = f.stands; source = f.source; sink = f.sink }

joint_found : (e t : ℕ) (js : List Joint) (i : ℕ) → slice_get (sinks_from e js) i ≡ Some t → JointFound e t js
joint_found e t [] i h = absurd (none-some t h)
joint_found e t (j ∷ js) i h = step (j.source == e) refl i h (λ n k. joint_found e t js n k)
  where
    step : (b : Bool) → (j.source == e) ≡ b → (i : ℕ) → slice_get (map (λ (x : Joint). x.sink) (cond b (j ∷ filter (λ (x : Joint). x.source == e) js) (filter (λ (x : Joint). x.source == e) js))) i ≡ Some t
        → ((n : ℕ) → slice_get (sinks_from e js) n ≡ Some t → JointFound e t js) → JointFound e t (j ∷ js)
    step true s zero h k = record { place = 0; joint = j; stands = refl; source = eqb-true j.source e s; sink = same_Some j.sink t h }
    step true s (suc i) h k = found_later e t j js (k i h)
    step false s i h k = found_later e t j js (k i h)

joint_line : (all : List Sockets) (js : List Joint) (ls : List Line) (n : ℕ) (j : Joint) → AreJoints all js ls → slice_get js n ≡ Some j → (l : Line) × IsJoint all j l
joint_line all [] [] n j a h = absurd (none-some j h)
joint_line all [] (l ∷ ls) n j a h = absurd a
joint_line all (k ∷ js) [] n j a h = absurd a
joint_line all (k ∷ js) (l ∷ ls) zero j a h = (l, subst (λ (x : Joint). IsJoint all x l) (same_Some k j h) a.0)
joint_line all (k ∷ js) (l ∷ ls) (suc n) j a h = joint_line all js ls n j a.1 h

-- the ends of a wire are those of two ports
record PortsOf (all : List Sockets) (e t : ℕ) : Type 0 where
  line : Line
  from : end_at all (line_from line) ≡ Some e
  to : end_at all (line_to line) ≡ Some t

ports_of : (all : List Sockets) (b : Book) (ls : List Line) (k e t : ℕ) → IsLinked b → IsLaid all b ls → wire_at b k ≡ Some (e, t) → PortsOf all e t
ports_of all b ls k e t linked laid h =
    let at = linked.in_fan k e t h in
    let key : slice_get (fan_of b e) at.0 ≡ Some k = slice_get-get_or (fan_of b e) at.0 e at.1 ∙ ap (λ x. Some x) at.2 in
    let sink : slice_get (sinks_from e laid.joints) at.0 ≡ Some t =
    ap (λ (xs : List ℕ). slice_get xs at.0) (sym (laid.held.fans e)) ∙ slice_get-map (sink_at b) (fan_of b e) at.0 ∙ ap (option_map (sink_at b)) key
    ∙ ap (λ (o : Option (ℕ × ℕ)). Some (sink_in o)) h in
    let f = joint_found e t laid.joints at.0 sink in
    let l = joint_line all laid.joints ls f.place f.joint laid.lines f.stands in
    record { line = l.0; from = l.1.from ∙ ap (λ x. Some x) f.source; to = l.1.to ∙ ap (λ x. Some x) f.sink }

module _ (w : Web) (ls : List Line) (linked : IsLinked w.book) (laid : IsLaid w.sockets.items w.book ls) where
  abbrev all : List Sockets
  all = w.sockets.items

  -- a wire and the port of an end
  hop_is : (key e node port : ℕ) (side : Side) → end_under all side node port ≡ Some e → hop_by key (slice_get w.spots.items e) ≡ hop_at key node port
  hop_is key e node port side at = ap (hop_by key) (w.tied.placed (record { node = node; side = side; port = port }) e at).told

  to_is : (key e t : ℕ) → wire_at w.book key ≡ Some (e, t) → hop_to w key ≡ hop_by key (slice_get w.spots.items t)
  to_is key e t h = ap (λ n. hop_by key (slice_get w.spots.items n)) (ap sink_in h)

  from_is : (key e t : ℕ) → wire_at w.book key ≡ Some (e, t) → hop_from w key ≡ hop_by key (slice_get w.spots.items e)
  from_is key e t h = ap (λ n. hop_by key (slice_get w.spots.items n)) (ap source_in h)

  fed_at : (node outlet i : ℕ) (h : Hop) (o : Option ℕ) → end_under all Outlets node outlet ≡ o → slice_get (map (hop_to w) (fan_under w.book o)) i ≡ Some h
      → IsListed (feed_hops w h.node h.port) (hop_at h.key node outlet)
  fed_at node outlet i h None at x = absurd (none-some h x)
  fed_at node outlet i h (Some e) at x =
      let listed = key_listed (λ k. slice_get w.spots.items (sink_at w.book k)) (fan_of w.book e) i h x in
      let wire = fan_listed w.book e i h.key linked listed in
      let t = wire.0 in
      let p = ports_of all w.book ls h.key e t linked laid wire.1 in
      let there : hop_to w h.key ≡ h = same_Some (hop_to w h.key) h (sym (ap (option_map (hop_to w)) listed) ∙ sym (slice_get-map (hop_to w) (fan_of w.book e) i) ∙ x) in
      let is : h ≡ hop_at h.key p.line.sink p.line.inlet = sym there ∙ to_is h.key e t wire.1 ∙ hop_is h.key t p.line.sink p.line.inlet Inlets p.to in
      let m = linked.in_feeds h.key e t wire.1 in
      let key : slice_get (feeds_of w.book t) m.0 ≡ Some h.key = slice_get-get_or (feeds_of w.book t) m.0 t m.1 ∙ ap (λ y. Some y) m.2 in
      let end : end_under all Inlets h.node h.port ≡ Some t = ap (λ (y : Hop). end_under all Inlets y.node y.port) is ∙ p.to in (
        m.0,
        ap (λ y. slice_get (map (hop_from w) (feeds_under w.book y)) m.0) end ∙ slice_get-map (hop_from w) (feeds_of w.book t) m.0 ∙ ap (option_map (hop_from w)) key
            ∙ ap (λ y. Some y) (from_is h.key e t wire.1 ∙ hop_is h.key e node outlet Outlets at),
      )

  fanned_at : (node inlet i : ℕ) (h : Hop) (o : Option ℕ) → end_under all Inlets node inlet ≡ o → slice_get (map (hop_from w) (feeds_under w.book o)) i ≡ Some h
      → IsListed (fan_hops w h.node h.port) (hop_at h.key node inlet)
  fanned_at node inlet i h None at x = absurd (none-some h x)
  fanned_at node inlet i h (Some t) at x =
      let listed = key_listed (λ k. slice_get w.spots.items (source_at w.book k)) (feeds_of w.book t) i h x in
      let wire = feed_listed w.book t i h.key linked listed in
      let e = wire.0 in
      let p = ports_of all w.book ls h.key e t linked laid wire.1 in
      let there : hop_from w h.key ≡ h = same_Some (hop_from w h.key) h (sym (ap (option_map (hop_from w)) listed) ∙ sym (slice_get-map (hop_from w) (feeds_of w.book t) i) ∙ x) in
      let is : h ≡ hop_at h.key p.line.source p.line.outlet = sym there ∙ from_is h.key e t wire.1 ∙ hop_is h.key e p.line.source p.line.outlet Outlets p.from in
      let m = linked.in_fan h.key e t wire.1 in
      let key : slice_get (fan_of w.book e) m.0 ≡ Some h.key = slice_get-get_or (fan_of w.book e) m.0 e m.1 ∙ ap (λ y. Some y) m.2 in
      let end : end_under all Outlets h.node h.port ≡ Some e = ap (λ (y : Hop). end_under all Outlets y.node y.port) is ∙ p.from in (
        m.0,
        ap (λ y. slice_get (map (hop_to w) (fan_under w.book y)) m.0) end ∙ slice_get-map (hop_to w) (fan_of w.book e) m.0 ∙ ap (option_map (hop_to w)) key
            ∙ ap (λ y. Some y) (to_is h.key e t wire.1 ∙ hop_is h.key t node inlet Inlets at),
      )

  pub laid_meet : Meet w
  laid_meet = record {
    fed = λ node outlet i h x. fed_at node outlet i h (end_under all Outlets node outlet) refl x;
    fanned = λ node inlet i h x. fanned_at node inlet i h (end_under all Inlets node inlet) refl x;
  }
