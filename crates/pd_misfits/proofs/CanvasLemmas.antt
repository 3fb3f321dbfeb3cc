-- The wires of the canvas are those that there were less those that don't fit.
use Rattle.std.proofs.Common.{◌≡◌, ℕ, ◌||◌, Bool, true, false, cond, not, List, [], ◌∷◌, ◌++◌, filter, map, length, slice_get, Option, Some, refl, sym, ap, ◌∙◌, subst, inl, inr, arith}
use Rattle.std.specs.List.{flat_map, range_with_len}
use Rattle.std.specs.Option.{option_map_or}
use mathlib.Core.Logic.{⊎_elim}
use Rattle.std.proofs.lemmas.Bool.Decides.{nat_tests}
use Rattle.std.proofs.lemmas.List.Elements.{filter-append}
use Rattle.std.proofs.lemmas.Option.{same_Some}
use Rattle.pd_object.specs.declared.kinds.Kind.{Kind}
use Rattle.pd_canvas.specs.declared.wires.Wire.{Wire}
use Rattle.pd_canvas.specs.Wiring.{is_same}
use Rattle.pd_grove.specs.declared.ports.Side.TheVariants.{Outlets}
use Rattle.pd_web.specs.declared.jacks.Jack.{Jack}
use Rattle.pd_web.specs.declared.lines.Line.{Line}
use Rattle.pd_web.specs.declared.web.Hop.{Hop}
use Rattle.pd_web.specs.declared.web.Web.{Web}
use Rattle.pd_web.specs.Canvases.{keys_at}
use Rattle.pd_web.specs.Hops.{ports_told, fan_hops}
use Rattle.pd_web.specs.Changes.{line_told, KeepsPorts, Meet}
use Rattle.pd_present.specs.Presents.{number_in, wire_along, outlet_wires, box_wires, wires_among}
use Rattle.pd_patch.specs.declared.patch.Patch.{Patch}
use Rattle.pd_patch.specs.Linked.{ShareCanvas}
use Rattle.pd_patch.specs.Listing.{IsThere}
use Rattle.pd_wiring.specs.Changes.{CanRewire}
use Rattle.pd_wiring.proofs.WebLemmas.{line_inside}
use Rattle.pd_taking.specs.Loosening.{line_at}
use Rattle.pd_misfits.specs.declared.wires.Fate.TheVariants.{Goes}
use Rattle.pd_misfits.specs.declared.wires.BoxWire.{BoxWire}
use Rattle.pd_misfits.specs.Misfits.{misfits, picks, wire_of}
use Rattle.pd_misfits.specs.Shedding.{has_wire, is_among, is_left, line_under, numbered, stays_among, without_wires, IsWired, Sheds}
use Rattle.pd_misfits.proofs.GatherLemmas.{number_is}
use Rattle.pd_misfits.proofs.ListLemmas.{from_flat, from_map, in_map, listed_in, IsIn}
use Rattle.pd_misfits.proofs.ShedLemmas.{among_some}
use Rattle.pd_misfits.proofs.WireLemmas.{from_all, goes_of, line_told_all, picked_all, picked_of, source_among}

filter_map : {X Y : Type 0} (f : X → Y) (p : X → Bool) (q : Y → Bool) (xs : List X) → ((x : X) → IsIn x xs → p x ≡ q (f x)) → map f (filter p xs) ≡ filter q (map f xs)
filter_map f p q [] h = refl
filter_map {X} {Y} f p q (x ∷ xs) h = step (p x) (h x (inl refl)) (filter_map f p q xs (λ y i. h y (inr i)))
  where
    step : (b : Bool) → b ≡ q (f x) → map f (filter p xs) ≡ filter q (map f xs) → map f (cond b (x ∷ filter p xs) (filter p xs)) ≡ cond (q (f x)) (f x ∷ filter q (map f xs)) (filter q (map f xs))
    step true e rec = ap (λ (ys : List Y). f x ∷ ys) rec ∙ ap (λ (b : Bool). cond b (f x ∷ filter q (map f xs)) (filter q (map f xs))) e
    step false e rec = rec ∙ ap (λ (b : Bool). cond b (f x ∷ filter q (map f xs)) (filter q (map f xs))) e

filter_flat : {X Y : Type 0} (f g : X → List Y) (q : Y → Bool) (xs : List X) → ((x : X) → IsIn x xs → f x ≡ filter q (g x)) → flat_map f xs ≡ filter q (flat_map g xs)
filter_flat f g q [] h = refl
filter_flat {X} {Y} f g q (x ∷ xs) h =
    ap (λ (ys : List Y). ys ++ flat_map f xs) (h x (inl refl)) ∙ ap (λ (ys : List Y). filter q (g x) ++ ys) (filter_flat f g q xs (λ y i. h y (inr i)))
    ∙ sym (filter-append q (g x) (flat_map g xs))

flat_like : {X Y : Type 0} (f g : X → List Y) (xs : List X) → ((x : X) → IsIn x xs → f x ≡ g x) → flat_map f xs ≡ flat_map g xs
flat_like f g [] h = refl
flat_like {X} {Y} f g (x ∷ xs) h = ap (λ (ys : List Y). ys ++ flat_map f xs) (h x (inl refl)) ∙ ap (λ (ys : List Y). g x ++ ys) (flat_like f g xs (λ y i. h y (inr i)))

filter_like : {X : Type 0} (p q : X → Bool) (xs : List X) → ((x : X) → IsIn x xs → p x ≡ q x) → filter p xs ≡ filter q xs
filter_like p q [] h = refl
filter_like {X} p q (x ∷ xs) h =
    ap (λ (b : Bool). cond b (x ∷ filter p xs) (filter p xs)) (h x (inl refl))
    ∙ ap (λ (ys : List X). cond (q x) (x ∷ ys) ys) (filter_like p q xs (λ y i. h y (inr i)))

-- Wires by the numbers of their boxes.

same_source : (v w : Wire) → is_same v w ≡ true → v.source ≡ w.source
same_source v w t = grind (arith, nat_tests)

same_outlet : (v w : Wire) → is_same v w ≡ true → v.outlet ≡ w.outlet
same_outlet v w t = grind (arith, nat_tests)

same_sink : (v w : Wire) → is_same v w ≡ true → v.sink ≡ w.sink
same_sink v w t = grind (arith, nat_tests)

same_inlet : (v w : Wire) → is_same v w ≡ true → v.inlet ≡ w.inlet
same_inlet v w t = grind (arith, nat_tests)

same_wire : (v w : Wire) → is_same v w ≡ true → v ≡ w
same_wire v w t =
    ap (λ s. record { source = s; outlet = v.outlet; sink = v.sink; inlet = v.inlet }) (same_source v w t)
    ∙ ap (λ o. record { source = w.source; outlet = o; sink = v.sink; inlet = v.inlet }) (same_outlet v w t)
    ∙ ap (λ s. record { source = w.source; outlet = w.outlet; sink = s; inlet = v.inlet }) (same_sink v w t)
    ∙ ap (λ i. record { source = w.source; outlet = w.outlet; sink = w.sink; inlet = i }) (same_inlet v w t)

same_self : (v : Wire) → is_same v v ≡ true
same_self v = grind (arith, nat_tests)

wire_there : (ws : List Wire) (v : Wire) → IsIn v ws → has_wire ws v ≡ true
wire_there [] v i = absurd i
wire_there (w ∷ ws) v i = ⊎_elim
    (λ (e : w ≡ v). ap (λ b. b || has_wire ws v) (ap (is_same v) e ∙ same_self v))
    (λ (r : IsIn v ws). step (is_same v w) (wire_there ws v r)) i
  where
    step : (b : Bool) → has_wire ws v ≡ true → (b || has_wire ws v) ≡ true
    step true e = refl
    step false e = e

wire_found : (ms : List BoxWire) (v : Wire) → has_wire (numbered ms) v ≡ true → (m : BoxWire) × (IsIn m ms × (v ≡ m.wire))
wire_found [] v e = cc
wire_found (x ∷ ms) v e = step (is_same v x.wire) refl e (λ f. wire_found ms v f)
  where
    step : (b : Bool) → is_same v x.wire ≡ b → (b || has_wire (numbered ms) v) ≡ true → (has_wire (numbered ms) v ≡ true → (m : BoxWire) × (IsIn m ms × (v ≡ m.wire)))
        → (m : BoxWire) × (IsIn m (x ∷ ms) × (v ≡ m.wire))
    step true f e rec = (x, (inl refl, same_wire v x.wire f))
    step false f e rec = let r = rec e in (r.0, (inr r.1.0, r.1.1))

key_is : (keys : List ℕ) (i k : ℕ) → slice_get keys i ≡ Some k → number_in keys i ≡ k
key_is keys i k e = ap (λ (o : Option ℕ). option_map_or (λ (n : ℕ). n) o 0) e

module _ (p : Patch) (canvas key : ℕ) (k : Kind) (R : CanRewire p) (meet : Meet p.web) (W : IsWired p.web) (here : IsThere (keys_at p.grove canvas) key) where
  -- a wire leads to a box of its canvas
  fed : (place node outlet : ℕ) (h : Hop) → slice_get (keys_at p.grove canvas) place ≡ Some node → IsIn h (fan_hops p.web node outlet) → IsThere (keys_at p.grove canvas) h.node
  fed place node outlet h at i =
      let l = listed_in h (fan_hops p.web node outlet) i in
      let share : ShareCanvas p.grove node h.node = line_inside p.grove p.web h.key (line_at Outlets node outlet h) R.inside (record { place = l.0; stands = l.1 }) in
      let same : share.canvas ≡ canvas = same_Some share.canvas canvas (sym (R.own.home share.canvas share.one.0 node share.one.1) ∙ R.own.home canvas place node at) in
      subst (λ c. IsThere (keys_at p.grove c) h.node) same share.other

  line_back : (place node outlet : ℕ) (h : Hop) → slice_get (keys_at p.grove canvas) place ≡ Some node → IsIn h (fan_hops p.web node outlet)
      → line_under (keys_at p.grove canvas) (wire_along p.numbers.items node outlet h) ≡ line_at Outlets node outlet h
  line_back place node outlet h at i =
      let keys = keys_at p.grove canvas in
      let t = fed place node outlet h at i in
      let from : number_in keys (number_in p.numbers.items node) ≡ node = ap (number_in keys) (number_is Goes p canvas key k R meet here place node at) ∙ key_is keys place node at in
      let to : number_in keys (number_in p.numbers.items h.node) ≡ h.node = ap (number_in keys) (number_is Goes p canvas key k R meet here t.0 h.node t.1) ∙ key_is keys t.0 h.node t.1 in
      ap (λ s. record { source = s; outlet = outlet; sink = number_in keys (number_in p.numbers.items h.node); inlet = h.port }) from
      ∙ ap (λ s. record { source = node; outlet = outlet; sink = s; inlet = h.port }) to

  left_is : (place node outlet : ℕ) (h : Hop) → slice_get (keys_at p.grove canvas) place ≡ Some node → IsIn h (fan_hops p.web node outlet)
      → is_among (misfits p canvas key k) h.key ≡ picks Goes p.web key k (line_at Outlets node outlet h)
  left_is place node outlet h at i = step (picks Goes p.web key k (line_at Outlets node outlet h)) (is_among (misfits p canvas key k) h.key) refl refl
    where
      both_ways : true ≡ false → ⊥
      both_ways e = cc

      step : (b a : Bool) → picks Goes p.web key k (line_at Outlets node outlet h) ≡ b → is_among (misfits p canvas key k) h.key ≡ a → a ≡ b
      step true a e f = sym f ∙ goes_of Goes p canvas key k R meet here node outlet place h at i e
      step false false e f = refl
      step false true e f =
          let s = among_some (misfits p canvas key k) h.key f in
          let l = listed_in h (fan_hops p.web node outlet) i in
          let line : s.0.line ≡ line_at Outlets node outlet h =
          same_Some s.0.line (line_at Outlets node outlet h) (sym (line_told_all Goes p.web p.numbers.items key k (keys_at p.grove canvas) s.0 W s.1.0) ∙ ap (line_told p.web) (sym s.1.1) ∙ W.fans node outlet l.0 h l.1) in
          absurd (both_ways (sym (picked_all Goes p.web p.numbers.items key k (keys_at p.grove canvas) s.0 s.1.0) ∙ ap (picks Goes p.web key k) line ∙ e))

  pub canvas_left : (v : Web) → KeepsPorts p.web v → Sheds p.web v (misfits p canvas key k)
      → wires_among v p.numbers.items (keys_at p.grove canvas) ≡ filter (stays_among p.web (keys_at p.grove canvas) key k) (wires_among p.web p.numbers.items (keys_at p.grove canvas))
  canvas_left v K S =
      let keys = keys_at p.grove canvas in
      let numbers = p.numbers.items in
      let q = stays_among p.web keys key k in
      let ms = misfits p canvas key k in
      filter_flat (box_wires v numbers) (box_wires p.web numbers) q keys (λ node i.
      let at = listed_in node keys i in
      ap (λ (js : List Jack). flat_map (outlet_wires v numbers node) (range_with_len 0 (length js))) (K.ports Outlets node)
      ∙ filter_flat (outlet_wires v numbers node) (outlet_wires p.web numbers node) q (range_with_len 0 (length (ports_told p.web Outlets node))) (λ outlet j.
      ap (map (wire_along numbers node outlet)) (S.fans node outlet)
      ∙ filter_map (wire_along numbers node outlet) (is_left ms) q (fan_hops p.web node outlet) (λ h l.
      ap not (left_is at.0 node outlet h at.1 l ∙ ap (picks Goes p.web key k) (sym (line_back at.0 node outlet h at.1 l))))))

  -- a wire of the canvas has the numbers of one of those that go just where it is one
  told_is : (place node outlet : ℕ) (h : Hop) → slice_get (keys_at p.grove canvas) place ≡ Some node → IsIn h (fan_hops p.web node outlet)
      → has_wire (numbered (misfits p canvas key k)) (wire_along p.numbers.items node outlet h) ≡ picks Goes p.web key k (line_under (keys_at p.grove canvas) (wire_along p.numbers.items node outlet h))
  told_is place node outlet h at i = step (picks Goes p.web key k (line_under keys v)) (has_wire (numbered ms) v) refl refl
    where
      keys : List ℕ
      keys = keys_at p.grove canvas

      numbers : List ℕ
      numbers = p.numbers.items

      ms : List BoxWire
      ms = misfits p canvas key k

      v : Wire
      v = wire_along numbers node outlet h

      both_ways : true ≡ false → ⊥
      both_ways e = cc

      step : (b a : Bool) → picks Goes p.web key k (line_under keys v) ≡ b → has_wire (numbered ms) v ≡ a → a ≡ b
      step true a e f =
          sym f
          ∙ wire_there (numbered ms) v (in_map (λ (m : BoxWire). m.wire) ms (wire_of numbers h.key (line_at Outlets node outlet h))
          (picked_of Goes p canvas key k R meet here node outlet place h at i (sym (ap (picks Goes p.web key k) (line_back place node outlet h at i)) ∙ e)))
      step false false e f = refl
      step false true e f =
          let s = wire_found ms v f in
          let a = from_all Goes p.web numbers key k keys s.0 s.1.0 in
          let g = a.from in
          let there : IsIn a.node keys = subst (λ (m : BoxWire). IsIn m.line.source keys) (sym g.is) (source_among Goes p.web numbers key k keys s.0 s.1.0) in
          let t = listed_in a.node keys there in
          let line : line_under keys s.0.wire ≡ s.0.line =
          ap (λ (m : BoxWire). line_under keys m.wire) (sym g.is) ∙ line_back t.0 a.node a.outlet g.hop t.1 g.is_in ∙ ap (λ (m : BoxWire). m.line) g.is in
          absurd (both_ways (sym (picked_all Goes p.web numbers key k keys s.0 s.1.0) ∙ ap (picks Goes p.web key k) (sym line ∙ ap (line_under keys) (sym s.1.1)) ∙ e))

  pub canvas_less : (v : Web) → KeepsPorts p.web v → Sheds p.web v (misfits p canvas key k)
      → wires_among v p.numbers.items (keys_at p.grove canvas) ≡ without_wires (numbered (misfits p canvas key k)) (wires_among p.web p.numbers.items (keys_at p.grove canvas))
  canvas_less v K S =
      let keys = keys_at p.grove canvas in
      let numbers = p.numbers.items in
      let ms = misfits p canvas key k in
      let same : Wire → Type 0 = λ x. stays_among p.web keys key k x ≡ not (has_wire (numbered ms) x) in
      canvas_left v K S
      ∙ filter_like (stays_among p.web keys key k) (λ x. not (has_wire (numbered ms) x)) (wires_among p.web numbers keys) (λ x i.
      let f = from_flat (box_wires p.web numbers) keys x i in
      let g = from_flat (outlet_wires p.web numbers f.of) (range_with_len 0 (length (ports_told p.web Outlets f.of))) x f.has in
      let m = from_map (wire_along numbers f.of g.of) (fan_hops p.web f.of g.of) x g.has in
      let at = listed_in f.of keys f.is_in in
      subst same m.1.1 (ap not (sym (told_is at.0 f.of g.of m.0 at.1 m.1.0))))

  -- none of them comes from a box of another canvas
  elsewhere : (c place node outlet : ℕ) (h : Hop) → (c ≡ canvas → ⊥) → slice_get (keys_at p.grove c) place ≡ Some node → IsIn h (fan_hops p.web node outlet) → is_left (misfits p canvas key k) h ≡ true
  elsewhere c place node outlet h d at i = step (is_among (misfits p canvas key k) h.key) refl
    where
      step : (a : Bool) → is_among (misfits p canvas key k) h.key ≡ a → not a ≡ true
      step false f = refl
      step true f =
          let s = among_some (misfits p canvas key k) h.key f in
          let l = listed_in h (fan_hops p.web node outlet) i in
          let line : s.0.line ≡ line_at Outlets node outlet h =
          same_Some s.0.line (line_at Outlets node outlet h) (sym (line_told_all Goes p.web p.numbers.items key k (keys_at p.grove canvas) s.0 W s.1.0) ∙ ap (line_told p.web) (sym s.1.1) ∙ W.fans node outlet l.0 h l.1) in
          let there : IsIn node (keys_at p.grove canvas) =
          subst (λ n. IsIn n (keys_at p.grove canvas)) (ap (λ (x : Line). x.source) line) (source_among Goes p.web p.numbers.items key k (keys_at p.grove canvas) s.0 s.1.0) in
          let t = listed_in node (keys_at p.grove canvas) there in
          absurd (d (same_Some c canvas (sym (R.own.home c place node at) ∙ R.own.home canvas t.0 node t.1)))

  all_left : (xs : List Hop) → ((h : Hop) → IsIn h xs → is_left (misfits p canvas key k) h ≡ true) → filter (is_left (misfits p canvas key k)) xs ≡ xs
  all_left [] h = refl
  all_left (x ∷ xs) h =
      ap (λ (b : Bool). cond b (x ∷ filter (is_left (misfits p canvas key k)) xs) (filter (is_left (misfits p canvas key k)) xs)) (h x (inl refl))
      ∙ ap (λ (ys : List Hop). x ∷ ys) (all_left xs (λ y i. h y (inr i)))

  pub others_left : (v : Web) → KeepsPorts p.web v → Sheds p.web v (misfits p canvas key k) → (c : ℕ) → (c ≡ canvas → ⊥)
      → wires_among v p.numbers.items (keys_at p.grove c) ≡ wires_among p.web p.numbers.items (keys_at p.grove c)
  others_left v K S c d =
      let keys = keys_at p.grove c in
      let numbers = p.numbers.items in
      flat_like (box_wires v numbers) (box_wires p.web numbers) keys (λ node i.
      let at = listed_in node keys i in
      ap (λ (js : List Jack). flat_map (outlet_wires v numbers node) (range_with_len 0 (length js))) (K.ports Outlets node)
      ∙ flat_like (outlet_wires v numbers node) (outlet_wires p.web numbers node) (range_with_len 0 (length (ports_told p.web Outlets node))) (λ outlet j.
      ap (map (wire_along numbers node outlet)) (S.fans node outlet ∙ all_left (fan_hops p.web node outlet) (λ h l. elsewhere c at.0 node outlet h d at.1 l))))
