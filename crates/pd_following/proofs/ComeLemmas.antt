-- A port box that came in: what the box around asks to get its port.
use Rattle.std.proofs.Common.{◌≡◌, ◌≢◌, ◌⊎◌, ℕ, suc, ◌+◌, ◌<◌, ◌≤◌, List, [], length, slice_get, Option, Some, None, IsSome, inl, inr, true≢false, refl, sym, ap, ◌∙◌, subst, arith}
use Rattle.std.specs.List.{insert}
use Rattle.std.proofs.lemmas.Bool.{cases_eq, cases_lt}
use Rattle.std.proofs.lemmas.Option.{none-some, same_Some}
use Rattle.slab.specs.Slab.{get}
use Rattle.pd_atom.specs.Names.{Names}
use Rattle.pd_grove.specs.declared.seeds.Seed.{Seed}
use Rattle.pd_grove.specs.declared.ports.Side.{Side}
use Rattle.pd_grove.specs.declared.ports.Side.TheVariants.{Inlets, Outlets}
use Rattle.pd_grove.specs.Owning.{AreOwn, board_in}
use Rattle.pd_grove.specs.Telling.{inner_in as canvas_in}
use Rattle.pd_web.specs.declared.jacks.Jack.{Jack}
use Rattle.pd_web.specs.Homes.{inner_in, IsPortOf}
use Rattle.pd_web.specs.Hops.{ports_told, jack_told, port_told}
use Rattle.pd_web.specs.Jacks.{jacks_at}
use Rattle.pd_ports.specs.declared.room.PortRoom.{PortRoom}
use Rattle.pd_ports.specs.Known.{AreBareWithout, AreFreeFor, HoldAlone, KnowsHomes}
use Rattle.pd_ports.specs.Room.{HasLists}
use Rattle.pd_ports.proofs.OnceLemmas.{port_stands}
use Rattle.pd_patch.specs.declared.patch.Patch.{Patch}
use Rattle.pd_boxes.specs.declared.room.Place.{Place}
use Rattle.pd_boxes.specs.Put.{node_of, keys_before, keys_behind, ComesIn}
use Rattle.pd_boxes.proofs.BuiltLemmas.{still_forest}
use Rattle.pd_boxes.proofs.PortLemmas.{jacks_none}
use Rattle.pd_following.specs.Raising.{up, IsOneMore}
use Rattle.pd_following.specs.Ports.{CanPutPort, port_jack}
use Rattle.pd_following.proofs.ListLemmas.{up_or, insert_here, insert_up, insert_length}
use Rattle.pd_following.proofs.SpotLemmas.{HasMore}
use Rattle.pd_following.proofs.JackLemmas.{holds_still, holder_old, holder_boxes, jacks_more, jacks_same, kind_none}
use Rattle.pd_following.proofs.RaiseLemmas.{keys_past}

pub same_side : (s t : Side) → (s ≡ t) ⊎ (s ≢ t)
same_side Inlets Inlets = inl refl
same_side Inlets Outlets = inr (λ e. cc)
same_side Outlets Inlets = inr (λ e. cc)
same_side Outlets Outlets = inl refl

-- room for so many ports is room for fewer
pub fewer_lists : (room : PortRoom) (inlets outlets n m : ℕ) → n ≤ inlets → m ≤ outlets → HasLists room inlets outlets → HasLists room n m
fewer_lists room inlets outlets n m a b h =
    let inlets_fit = h.inlets_fit in
    let outlets_fit = h.outlets_fit in
    let inlet_jacks_fit = h.inlet_jacks_fit in
    let outlet_jacks_fit = h.outlet_jacks_fit in
    let inlet_spots_fit = h.inlet_spots_fit in
    let outlet_spots_fit = h.outlet_spots_fit in
    let few_inlets = h.few_inlets in
    let few_outlets = h.few_outlets in
    record {
      no_inlets = h.no_inlets;
      no_outlets = h.no_outlets;
      no_jacks = h.no_jacks;
      inlets_fit = omega (arith, a, inlets_fit);
      outlets_fit = omega (arith, b, outlets_fit);
      inlet_jacks_fit = omega (arith, a, inlet_jacks_fit);
      outlet_jacks_fit = omega (arith, b, outlet_jacks_fit);
      inlet_spots_fit = omega (arith, a, inlet_spots_fit);
      outlet_spots_fit = omega (arith, b, outlet_spots_fit);
      few_inlets = omega (arith, a, few_inlets);
      few_outlets = omega (arith, b, few_outlets);
    }

-- no two boxes of a patch hold one canvas
pub hold_alone : (p : Patch) (place : Place) (s : Seed) (holder : ℕ) (side : Side) → CanPutPort p place s holder side → HoldAlone p.grove
hold_alone p place s holder side P k l c a b = same_Some k l (sym (P.can.forest.inside k c a) ∙ P.can.forest.inside l c b)

module _ (p r : Patch) (table : Names) (place : Place) (s : Seed) (key holder : ℕ) (side : Side) (P : CanPutPort p place s holder side) (C : ComesIn p r table place s key)
    (known : KnowsHomes p.web) where
  -- the boxes of the patch that is ready lie in one canvas each
  pub ready_own : AreOwn (get r.grove.nodes) (get r.grove.boards)
  ready_own = (still_forest p r table place s key C P.can.forest P.can.runs).own

  pub ready_holds : canvas_in (get r.grove.nodes holder) ≡ Some place.canvas
  ready_holds = holds_still p.grove r.grove place.canvas key (node_of place.canvas s) (keys_before p place) (keys_behind p place) C.grove p.grove.root P.can.forest holder P.at.held side P.at.port

  pub ready_old : holder ≢ key
  ready_old = holder_old p.grove r.grove place.canvas key (node_of place.canvas s) (keys_before p place) (keys_behind p place) C.grove p.grove.root P.can.forest holder P.at.held side P.at.port

  pub ready_more : HasMore (jacks_at side p.grove holder) (jacks_at side r.grove holder) (port_jack side s.row.kind key)
  ready_more = jacks_more p.grove r.grove place.canvas key (node_of place.canvas s) (keys_before p place) (keys_behind p place) C.grove p.grove.root P.can.forest holder P.at.held side P.at.port

  pub ready_same : (t : Side) (l : ℕ) → l ≢ key → (l ≡ holder → t ≢ side) → jacks_at t r.grove l ≡ jacks_at t p.grove l
  ready_same = jacks_same p.grove r.grove place.canvas key (node_of place.canvas s) (keys_before p place) (keys_behind p place) C.grove p.grove.root P.can.forest holder P.at.held side P.at.port

  -- the box around has the ports that its canvas gave it before
  pub ports_before : (t : Side) → ports_told r.web t holder ≡ jacks_at t p.grove holder
  ports_before t = C.ports.other_ports t holder ready_old ∙ P.can.runs.ports.ports t holder

  bare : (t : Side) → ports_told p.web t key ≡ []
  bare t = P.can.runs.ports.ports t key ∙ jacks_none p.grove r.grove place.canvas key (node_of place.canvas s) (keys_before p place) (keys_behind p place) C.grove t

  -- the key was no port's
  no_port : (k i : ℕ) → IsPortOf p.grove key k i → ⊥
  no_port k i is =
      let S = port_stands p.grove is.side k i key is.told in
      none-some S.canvas (sym (ap board_in C.grove.vacant) ∙ P.can.runs.own.home S.canvas S.place key S.at)

  unknown : port_told r.web key ≡ None
  unknown = C.homes key ∙ by (port_told p.web key) refl
    where
      by : (o : Option (ℕ × ℕ)) → port_told p.web key ≡ o → port_told p.web key ≡ None
      by None e = e
      by (Some x) e = absurd (no_port x.0 x.1 (P.can.runs.ports.homes key x.0 x.1 e))

  own_none : (t : Side) (j i : ℕ) → inner_in (jack_told r.web t key i) ≡ Some j → ⊥
  own_none t j i h = none-some j (sym (kind_none t s.row.kind i) ∙ sym (ap (λ (js : List Jack). inner_in (slice_get js i)) (C.ports.ports t)) ∙ h)

  old_told : (t : Side) (k j i : ℕ) → inner_in (jack_told r.web t k i) ≡ Some j → inner_in (jack_told p.web t k i) ≡ Some j
  old_told t k j i h = elim (cases_eq k key) [
    | inl e ↦ absurd (own_none t j i (ap (λ x. inner_in (jack_told r.web t x i)) (sym e) ∙ h))
    | inr d ↦ sym (ap (λ (js : List Jack). inner_in (slice_get js i)) (C.ports.other_ports t k d)) ∙ h
  ]

  told_still : (k j i : ℕ) (t : Side) → inner_in (jack_told p.web t k i) ≡ Some j → inner_in (jack_told r.web t k i) ≡ Some j
  told_still k j i t h = elim (cases_eq k key) [
    | inl e ↦ absurd (none-some j (sym (ap (λ (js : List Jack). inner_in (slice_get js i)) (bare t)) ∙ ap (λ x. inner_in (jack_told p.web t x i)) (sym e) ∙ h))
    | inr d ↦ ap (λ (js : List Jack). inner_in (slice_get js i)) (C.ports.other_ports t k d) ∙ h
  ]

  pub ready_known : KnowsHomes r.web
  ready_known = record {
    told = λ k j i h. let t = known.told k j i (sym (C.homes j) ∙ h) in (t.0, told_still k j i t.0 t.1);
    found = λ t j k i h. C.homes j ∙ known.found t j k i (old_told t k j i h);
    apart = λ j k i m a b. known.apart j k i m (old_told Inlets k j i a) (old_told Outlets k j m b);
  }

  -- the canvas gives the box around one port more
  pub ready_one_more : IsOneMore r.web r.grove holder side ready_more.place (port_jack side s.row.kind key)
  ready_one_more = record {
    within = subst (λ (js : List Jack). ready_more.place ≤ length js) (sym (ports_before side)) ready_more.within;
    ports = ready_more.is ∙ ap (λ (js : List Jack). insert js ready_more.place (port_jack side s.row.kind key)) (sym (ports_before side));
    boxes = λ i. subst (λ (js : List Jack). i < length js → IsSome (inner_in (slice_get js i))) (sym (ports_before side))
        (holder_boxes p.grove r.grove place.canvas key (node_of place.canvas s) (keys_before p place) (keys_behind p place) C.grove p.grove.root P.can.forest holder P.at.held side P.at.port i);
    apart = λ i j h e. no_port holder i (record {
      side = side;
      told = ap (λ (js : List Jack). inner_in (slice_get js i)) (sym (ports_before side)) ∙ h ∙ sym e;
    });
  }

  pub ready_free : AreFreeFor r.web holder side (jacks_at side r.grove holder)
  ready_free m j h = elim (up_or ready_more.place m) [
    | inl e ↦
        let is : key ≡ j = same_Some key j (sym (ap inner_in (insert_here (ports_told r.web side holder) ready_more.place (port_jack side s.row.kind key) ready_one_more.within))
        ∙ sym (ap (λ (js : List Jack). inner_in (slice_get js ready_more.place)) ready_one_more.ports) ∙ ap (λ x. inner_in (slice_get (jacks_at side r.grove holder) x)) (sym e) ∙ h) in
        inl (ap (port_told r.web) (sym is) ∙ unknown)
    | inr i ↦ inr (
      i.0,
      sym (ap inner_in (insert_up (ports_told r.web side holder) ready_more.place i.0 (port_jack side s.row.kind key) ready_one_more.within))
          ∙ sym (ap (λ (js : List Jack). inner_in (slice_get js (up ready_more.place i.0))) ready_one_more.ports) ∙ ap (λ x. inner_in (slice_get (jacks_at side r.grove holder) x)) (sym i.1) ∙ h,
    )
  ]

  pub ready_bare : AreBareWithout r.web holder side (jacks_at side r.grove holder)
  ready_bare i never = elim (cases_lt i (length (ports_told r.web side holder))) [
    | inl l ↦
        let b = box_of_port (inner_in (jack_told r.web side holder i)) (ready_one_more.boxes i l) in
        absurd (never (up ready_more.place i) (
          b.0,
          b.1,
          ap (λ (js : List Jack). inner_in (slice_get js (up ready_more.place i))) ready_one_more.ports
              ∙ ap inner_in (insert_up (ports_told r.web side holder) ready_more.place i (port_jack side s.row.kind key) ready_one_more.within) ∙ b.1,
        ))
    | inr l ↦ keys_past r.web side holder i l
  ]
    where
      box_of_port : (o : Option ℕ) → IsSome o → (x : ℕ) × (o ≡ Some x)
      box_of_port None h = absurd (true≢false (sym h))
      box_of_port (Some x) h = (x, refl)

  port_count : (t : Side) → length (jacks_at t r.grove holder) ≤ length (ports_told p.web t holder) + 1
  port_count t =
      let was = ap length (P.can.runs.ports.ports t holder) in
      elim (same_side t side) [
        | inl e ↦
            let now : length (jacks_at t r.grove holder) ≡ suc (length (jacks_at t p.grove holder)) =
            subst (λ (x : Side). length (jacks_at x r.grove holder) ≡ suc (length (jacks_at x p.grove holder))) (sym e)
            (ap length ready_more.is ∙ insert_length (jacks_at side p.grove holder) ready_more.place (port_jack side s.row.kind key)) in
            omega (arith, was, now)
        | inr d ↦ let now = ap length (ready_same t holder ready_old (λ _. d)) in omega (arith, was, now)
      ]

  pub ready_lists : (room : PortRoom) → HasLists room (length (ports_told p.web Inlets holder) + 1) (length (ports_told p.web Outlets holder) + 1)
      → HasLists room (length (jacks_at Inlets r.grove holder)) (length (jacks_at Outlets r.grove holder))
  ready_lists room h =
      fewer_lists room (length (ports_told p.web Inlets holder) + 1) (length (ports_told p.web Outlets holder) + 1) (length (jacks_at Inlets r.grove holder)) (length (jacks_at Outlets r.grove holder))
      (port_count Inlets) (port_count Outlets) h
