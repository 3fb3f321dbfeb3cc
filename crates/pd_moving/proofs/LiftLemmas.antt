-- The wires of an outlet, taken out one after the other.
use Rattle.std.proofs.Common.{◌≡◌, ◌≢◌, ℕ, suc, ◌+◌, ◌≤◌, Bool, true, false, not, is_some, List, [], ◌∷◌, ◌++◌, length, slice_get, Option, Some, None, refl, sym, ap, ◌∙◌, append_assoc, length-append, arith}
use Rattle.std.proofs.lemmas.List.{length-map, append-nil}
use Rattle.std.proofs.lemmas.Option.{none-some, same_Some}
use Rattle.pd_web.specs.declared.lines.Line.{Line}
use Rattle.pd_web.specs.declared.web.Hop.{Hop}
use Rattle.pd_web.specs.declared.web.Web.{Web}
use Rattle.pd_web.specs.Hops.{fan_keys, fan_hops, feed_hops}
use Rattle.pd_web.specs.Wiring.{sink_at}
use Rattle.pd_web.specs.Changes.{line_by, line_told, wires_told, hop_at, HasRoom, KeepsPorts, CutsWire, Meet}
use Rattle.pd_web.proofs.CountLemmas.{cut_is_one_less}
use Rattle.pd_web.proofs.HopLemmas.{key_listed}
use Rattle.pd_moving.specs.Outlets.{is_at, is_elsewhere, from_others, line_ahead, lines_ahead, Lifts}
use Rattle.pd_moving.proofs.ListLemmas.{at_yes, at_told, all_stay, nothing_there, absent_stays, first_gone, others_cut, empty_list}
use Rattle.pd_moving.proofs.MeetLemmas.{cut_meet}

-- the wires of an outlet that were taken out so far
pub record Lifting (w v : Web) (node outlet : ℕ) (lines : List Line) (next : Option Hop) : Type 0 where
  pub taken : lines ++ lines_ahead node outlet (fan_hops v node outlet) ≡ lines_ahead node outlet (fan_hops w node outlet)
  pub first : next ≡ slice_get (fan_hops v node outlet) 0
  pub other_fans : (n o : ℕ) → (n ≡ node → o ≢ outlet) → fan_hops v n o ≡ fan_hops w n o
  pub others : (n i : ℕ) → from_others node outlet (feed_hops v n i) ≡ from_others node outlet (feed_hops w n i)
  pub other_lines : (k : ℕ) (l : Line) → line_told w k ≡ Some l → (l.source ≡ node → l.outlet ≢ outlet) → line_told v k ≡ Some l
  pub kept : KeepsPorts w v
  pub wires : wires_told v + length lines ≡ wires_told w
  pub room : (k p n : ℕ) → HasRoom w k p n → HasRoom v k p (n + length lines)
  pub meet : Meet v

-- what is true of each web
pub record IsWeb (w : Web) : Type 0 where
  pub fans : (node outlet i : ℕ) (h : Hop) → slice_get (fan_hops w node outlet) i ≡ Some h → line_told w h.key ≡ Some (line_by (hop_at h.key node outlet) h)
  pub feeds : (node inlet i : ℕ) (h : Hop) → slice_get (feed_hops w node inlet) i ≡ Some h → line_told w h.key ≡ Some (line_by h (hop_at h.key node inlet))
  pub once : (node outlet i j k : ℕ) → slice_get (fan_keys w node outlet) i ≡ Some k → slice_get (fan_keys w node outlet) j ≡ Some k → i ≡ j

pub lifting_begun : (w : Web) (node outlet : ℕ) (next : Option Hop) → Meet w → next ≡ slice_get (fan_hops w node outlet) 0 → Lifting w w node outlet [] next
lifting_begun w node outlet next meet first = record {
  taken = refl;
  first = first;
  other_fans = λ n o ne. refl;
  others = λ n i. refl;
  other_lines = λ k l h ne. h;
  kept = record { ports = λ side k. refl; made = λ k. refl; homes = λ j. refl };
  wires = omega arith;
  room = λ k p n r. record { boxes = r.boxes; homes = r.homes; ends = r.ends; wires = (let x = r.wires in omega (arith, x)) };
  meet = meet;
}

kept_on : (w v u : Web) → KeepsPorts w v → KeepsPorts v u → KeepsPorts w u
kept_on w v u a b = record { ports = λ side k. b.ports side k ∙ a.ports side k; made = λ k. b.made k ∙ a.made k; homes = λ j. b.homes j ∙ a.homes j }

noted_count : (w v : Web) (node outlet : ℕ) (lines : List Line) → lines ++ lines_ahead node outlet (fan_hops v node outlet) ≡ lines_ahead node outlet (fan_hops w node outlet)
    → length lines + length (fan_hops v node outlet) ≡ length (fan_hops w node outlet)
noted_count w v node outlet lines taken =
    let a = length-append lines (lines_ahead node outlet (fan_hops v node outlet)) in
    let b = length-map (fan_hops v node outlet) (line_ahead node outlet) in
    let c = length-map (fan_hops w node outlet) (line_ahead node outlet) in
    let e = ap length taken in
    omega (arith, a, b, c, e)

first_there : (hops : List Hop) (hop : Hop) → slice_get hops 0 ≡ Some hop → 1 ≤ length hops
first_there [] hop h = absurd (none-some hop h)
first_there (x ∷ xs) hop h = omega arith

module _ (w v u : Web) (node outlet : ℕ) (lines : List Line) (hop : Hop) (at : Lifting w v node outlet lines (Some hop)) (is : IsWeb v) (cuts : CutsWire v u hop.key) where
  along : line_told v hop.key ≡ Some (line_ahead node outlet hop)
  along = is.fans node outlet 0 hop (sym at.first)

  -- a key stands once in a fan-out
  later_differ : (i : ℕ) (h : Hop) → slice_get (fan_hops v node outlet) (suc i) ≡ Some h → h.key ≢ hop.key
  later_differ i h e same =
      let listed = λ (j : ℕ) (g : Hop) (x : slice_get (fan_hops v node outlet) j ≡ Some g). key_listed (λ (n : ℕ). slice_get v.spots.items (sink_at v.book n)) (fan_keys v node outlet) j g x in
      let one = is.once node outlet 0 (suc i) hop.key (listed 0 hop (sym at.first)) (listed (suc i) h e ∙ ap (λ (x : ℕ). Some x) same) in
      absurd (omega (arith, one))

  fan_was : fan_hops v node outlet ≡ hop ∷ fan_hops u node outlet
  fan_was = first_gone (fan_hops v node outlet) hop (sym at.first) later_differ ∙ ap (λ (hs : List Hop). hop ∷ hs) (sym (cuts.fans node outlet))

  other_fan : (n o : ℕ) → (n ≡ node → o ≢ outlet) → fan_hops u n o ≡ fan_hops v n o
  other_fan n o ne = cuts.fans n o ∙ absent_stays hop.key (fan_hops v n o) (λ i h e same.
      let l = same_Some (line_ahead n o h) (line_ahead node outlet hop) (sym (is.fans n o i h e) ∙ ap (line_told v) same ∙ along) in
      ne (ap (λ (x : Line). x.source) l) (ap (λ (x : Line). x.outlet) l))

  other_feeds : (n i : ℕ) → from_others node outlet (feed_hops u n i) ≡ from_others node outlet (feed_hops v n i)
  other_feeds n i = ap (from_others node outlet) (cuts.feeds n i) ∙ others_cut hop.key (is_elsewhere node outlet) (feed_hops v n i) (λ j h e same.
      let l = same_Some (line_by h (hop_at h.key n i)) (line_ahead node outlet hop) (sym (is.feeds n i j h e) ∙ ap (line_told v) same ∙ along) in
      ap not (at_yes node outlet h (ap (λ (x : Line). x.source) l) (ap (λ (x : Line). x.outlet) l)))

  pub lifting_on : (more : List Line) (next : Option Hop) → more ≡ lines ++ line_ahead node outlet hop ∷ [] → next ≡ slice_get (fan_hops u node outlet) 0 → Lifting w u node outlet more next
  lifting_on more next noted first = record {
    taken =
        ap (λ ls. ls ++ lines_ahead node outlet (fan_hops u node outlet)) noted ∙ append_assoc lines (line_ahead node outlet hop ∷ []) (lines_ahead node outlet (fan_hops u node outlet))
        ∙ ap (λ (hs : List Hop). lines ++ lines_ahead node outlet hs) (sym fan_was) ∙ at.taken;
    first = first;
    other_fans = λ n o ne. other_fan n o ne ∙ at.other_fans n o ne;
    others = λ n i. other_feeds n i ∙ at.others n i;
    other_lines = λ k l h ne. cuts.other_lines k (λ same.
        let e = same_Some l (line_ahead node outlet hop) (sym (at.other_lines k l h ne) ∙ ap (line_told v) same ∙ along) in
        ne (ap (λ (x : Line). x.source) e) (ap (λ (x : Line). x.outlet) e)) ∙ at.other_lines k l h ne;
    kept = kept_on w v u at.kept cuts.kept;
    wires =
        let one = cut_is_one_less v u hop.key cuts (ap is_some along) in
        let so = at.wires in
        let len = ap length noted ∙ length-append lines (line_ahead node outlet hop ∷ []) in
        omega (arith, one, so, len);
    room = λ k p n r.
        let x = cuts.room k p (n + length lines) (at.room k p n r) in
        let len = ap length noted ∙ length-append lines (line_ahead node outlet hop ∷ []) in
        record { boxes = x.boxes; homes = x.homes; ends = x.ends; wires = (let y = x.wires in omega (arith, y, len)) };
    meet = cut_meet v u hop.key cuts at.meet;
  }

  pub lifting_smaller : length (fan_hops v node outlet) ≡ suc (length (fan_hops u node outlet))
  lifting_smaller = ap length fan_was

-- a wire more can be noted
pub lifting_fits : (w v : Web) (node outlet : ℕ) (lines : List Line) (hop : Hop) → Lifting w v node outlet lines (Some hop) → length lines + 1 ≤ length (fan_hops w node outlet)
lifting_fits w v node outlet lines hop at =
    let e = noted_count w v node outlet lines at.taken in
    let some = first_there (fan_hops v node outlet) hop (sym at.first) in
    omega (arith, e, some)

-- the wire leads along a line
pub lifting_wire : (w v : Web) (node outlet : ℕ) (lines : List Line) (hop : Hop) → Lifting w v node outlet lines (Some hop) → IsWeb v → line_told v hop.key ≡ Some (line_ahead node outlet hop)
lifting_wire w v node outlet lines hop at is = is.fans node outlet 0 hop (sym at.first)

-- all wires of the outlet are out
module _ (w v : Web) (node outlet : ℕ) (lines : List Line) (at : Lifting w v node outlet lines None) where
  fan_over : fan_hops v node outlet ≡ []
  fan_over = empty_list (fan_hops v node outlet) (sym at.first)

  none_left : (n i j : ℕ) (h : Hop) → slice_get (feed_hops v n i) j ≡ Some h → is_elsewhere node outlet h ≡ true
  none_left n i j h e = step (is_at node outlet h) refl
    where
      step : (b : Bool) → is_at node outlet h ≡ b → is_elsewhere node outlet h ≡ true
      step false t = ap not t
      step true t =
          let told = at_told node outlet h t in
          let f = at.meet.fanned n i j h e in
          absurd (nothing_there (hop_at h.key n i) f.0 (ap (λ (hs : List Hop). slice_get hs f.0) (sym fan_over)
          ∙ ap (λ (o : ℕ). slice_get (fan_hops v node o) f.0) (sym told.1) ∙ ap (λ (m : ℕ). slice_get (fan_hops v m h.port) f.0) (sym told.0) ∙ f.1))

  pub lifted : Lifts w v node outlet
  lifted = record {
    fan = fan_over;
    other_fans = at.other_fans;
    feeds = λ n i. sym (all_stay (is_elsewhere node outlet) (feed_hops v n i) (none_left n i)) ∙ at.others n i;
    other_lines = at.other_lines;
    kept = at.kept;
    wires = (let so = at.wires in let e = noted_count w v node outlet lines at.taken in let z = ap length fan_over in omega (arith, so, e, z));
    room = λ k p n r.
        let x = at.room k p n r in
        let e = noted_count w v node outlet lines at.taken in
        record { boxes = x.boxes; homes = x.homes; ends = x.ends; wires = (let y = x.wires in let z = ap length fan_over in omega (arith, y, z, e)) };
    meet = at.meet;
  }

  pub lifted_lines : lines ≡ lines_ahead node outlet (fan_hops w node outlet)
  lifted_lines = sym (append-nil lines) ∙ ap (λ (hs : List Hop). lines ++ lines_ahead node outlet hs) (sym fan_over) ∙ at.taken
