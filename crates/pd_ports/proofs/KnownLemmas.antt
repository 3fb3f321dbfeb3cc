-- What a web knows of port boxes stays known.
use Rattle.std.proofs.Common.{◌≡◌, ◌≢◌, ◌⊎◌, ℕ, Bool, false, cond, List, [], slice_get, Option, Some, None, IsSome, is_some, true≢false, refl, sym, ap, ◌∙◌, inl, inr, eq-eqb, ne_eqb}
use Rattle.std.proofs.lemmas.Bool.{cases_eq}
use Rattle.std.proofs.lemmas.Option.{none-some, same_Some}
use Rattle.slab.specs.Slab.{get}
use Rattle.pd_grove.specs.declared.grove.Grove.{Grove}
use Rattle.pd_grove.specs.declared.ports.Side.{Side}
use Rattle.pd_grove.specs.declared.ports.Side.TheVariants.{Inlets, Outlets}
use Rattle.pd_grove.specs.Owning.{AreOwn}
use Rattle.pd_web.specs.declared.jacks.Jack.{Jack}
use Rattle.pd_web.specs.declared.web.Web.{Web}
use Rattle.pd_web.specs.Jacks.{jacks_at}
use Rattle.pd_web.specs.Homes.{inner_in, IsPortOf}
use Rattle.pd_web.specs.Hops.{ports_told, jack_told, port_told}
use Rattle.pd_ports.specs.Boxes.{HasPorts, KnowsPorts, but_of}
use Rattle.pd_ports.specs.Moves.{FollowsPorts, KnowsSide}
use Rattle.pd_ports.specs.Known.{KnowsHomes, HoldAlone, AreFreeFor}
use Rattle.pd_ports.proofs.TakeLemmas.{sought}
use Rattle.pd_ports.proofs.MoveLemmas.{cases_side}
use Rattle.pd_ports.proofs.OnceLemmas.{port_stands, sides_apart, same_side, jacks_once, port_once}

-- the port is one on this side of this box
abbrev IsHere : ℕ → Side → ℕ → Side → Type 0
IsHere key side k s = (k ≡ key) × (s ≡ side)

here_or_not : (key : ℕ) (side : Side) (k : ℕ) (s : Side) → IsHere key side k s ⊎ (k ≡ key → s ≢ side)
here_or_not key side k s = elim (cases_eq k key) [
  | inr a ↦ inr (λ h. absurd (a h))
  | inl a ↦ elim (cases_side s side) [
    | inl b ↦ inl (a, b)
    | inr b ↦ inr (λ h. b)
  ]
]

side_differs : Inlets ≡ Outlets → ⊥
side_differs h = cc h

-- two boxes and numbers that are one
pub pair_same : (k i l m : ℕ) (o : Option (ℕ × ℕ)) → o ≡ Some (k, i) → o ≡ Some (l, m) → (k ≡ l) × (i ≡ m)
pair_same k i l m o p q = let e = same_Some (k, i) (l, m) (sym p ∙ q) in (ap (λ (x : ℕ × ℕ). x.0) e, ap (λ (x : ℕ × ℕ). x.1) e)

but_gone : (key i : ℕ) → but_of key (Some (key, i)) ≡ None
but_gone key i = ap (λ (b : Bool). cond b None (Some (key, i))) (eq-eqb key key refl)

but_stays : (key k i : ℕ) → k ≢ key → but_of key (Some (k, i)) ≡ Some (k, i)
but_stays key k i ne = ap (λ (b : Bool). cond b None (Some (k, i))) (ne_eqb k key ne)

-- what is known but for the ports of a box is of another box, and was known
but_was : (key k i : ℕ) (o : Option (ℕ × ℕ)) → but_of key o ≡ Some (k, i) → (o ≡ Some (k, i)) × (k ≢ key)
but_was key k i None h = absurd (none-some (k, i) h)
but_was key k i (Some p) h = elim (cases_eq p.0 key) [
  | inl same ↦ absurd (none-some (k, i) (sym (ap (λ (b : Bool). cond b None (Some p)) (eq-eqb p.0 key same)) ∙ h))
  | inr differ ↦
      let e : Some p ≡ Some (k, i) = sym (ap (λ (b : Bool). cond b None (Some p)) (ne_eqb p.0 key differ)) ∙ h in
      (e, λ x. differ (ap (λ (y : ℕ × ℕ). y.0) (same_Some p (k, i) e) ∙ x))
]

-- the box is a port of a web on both sides of a box
both_sides : (w : Web) (s t : Side) (j key i m : ℕ) → KnowsHomes w → s ≢ t → inner_in (jack_told w s key i) ≡ Some j → inner_in (jack_told w t key m) ≡ Some j → ⊥
both_sides w Inlets Inlets j key i m known ne p q = ne refl
both_sides w Inlets Outlets j key i m known ne p q = known.apart j key i m p q
both_sides w Outlets Inlets j key i m known ne p q = known.apart j key m i q p
both_sides w Outlets Outlets j key i m known ne p q = ne refl

-- The ports on a side of a box become others.

module _ (w w' : Web) (key : ℕ) (side : Side) (jacks : List Jack) (follows : FollowsPorts w w' key side jacks) (knows : KnowsSide w w' key side jacks) (free : AreFreeFor w key side jacks) (known : KnowsHomes w) where
  jack_here : (m : ℕ) → jack_told w' side key m ≡ slice_get jacks m
  jack_here m = ap (λ (js : List Jack). slice_get js m) follows.ports

  jack_there : (s : Side) (k i : ℕ) → (k ≡ key → s ≢ side) → jack_told w' s k i ≡ jack_told w s k i
  jack_there s k i ne = ap (λ (js : List Jack). slice_get js i) (follows.other_ports s k ne)

  -- a box that was a port here is none elsewhere
  was_here : (s : Side) (j k i n : ℕ) → (k ≡ key → s ≢ side) → inner_in (jack_told w s k i) ≡ Some j → inner_in (jack_told w side key n) ≡ Some j → ⊥
  was_here s j k i n ne p q =
      let same = pair_same k i key n (port_told w j) (known.found s j k i p) (known.found side j key n q) in
      both_sides w s side j key i n known (ne same.0) (ap (λ (x : ℕ). inner_in (jack_told w s x i)) (sym same.0) ∙ p) q

  -- a box that is a port here is none elsewhere
  is_here : (s : Side) (j k i m : ℕ) → (k ≡ key → s ≢ side) → inner_in (jack_told w s k i) ≡ Some j → inner_in (slice_get jacks m) ≡ Some j → ⊥
  is_here s j k i m ne p q = elim (free m j q) [
    | inl none ↦ none-some (k, i) (sym none ∙ known.found s j k i p)
    | inr old ↦ was_here s j k i old.0 ne p old.1
  ]

  told_after : (k j i : ℕ) → port_told w' j ≡ Some (k, i) → (s : Side) × (inner_in (jack_told w' s k i) ≡ Some j)
  told_after k j i h = elim (sought jacks j) [
    | inl new ↦
        let same = pair_same key new.0 k i (port_told w' j) (knows.found new.0 j new.1) h in
        (side, ap (λ (x : ℕ). inner_in (jack_told w' side x i)) (sym same.0) ∙ ap (λ (x : ℕ). inner_in (jack_told w' side key x)) (sym same.1) ∙ ap inner_in (jack_here new.0) ∙ new.1)
    | inr never ↦ elim (sought (ports_told w side key) j) [
      | inl old ↦ absurd (none-some (k, i) (sym (but_gone key old.0) ∙ ap (but_of key) (sym (known.found side j key old.0 old.1)) ∙ sym (knows.gone old.0 j old.1 never) ∙ h))
      | inr none ↦
          let before = known.told k j i (sym (knows.others j never none) ∙ h) in
          elim (here_or_not key side k before.0) [
            | inl at ↦
                absurd (none i (ap (λ (x : Side). inner_in (jack_told w x key i)) (sym at.1) ∙ ap (λ (x : ℕ). inner_in (jack_told w before.0 x i)) (sym at.0) ∙ before.1))
            | inr ne ↦ (before.0, ap inner_in (jack_there before.0 k i ne) ∙ before.1)
          ]
    ]
  ]

  found_after : (s : Side) (j k i : ℕ) → inner_in (jack_told w' s k i) ≡ Some j → port_told w' j ≡ Some (k, i)
  found_after s j k i h = elim (here_or_not key side k s) [
    | inl at ↦
        let e = ap inner_in (sym (jack_here i)) ∙ ap (λ (x : Side). inner_in (jack_told w' x key i)) (sym at.1) ∙ ap (λ (x : ℕ). inner_in (jack_told w' s x i)) (sym at.0) ∙ h in
        knows.found i j e ∙ ap (λ (x : ℕ). Some (x, i)) (sym at.0)
    | inr ne ↦
        let was = ap inner_in (sym (jack_there s k i ne)) ∙ h in
        knows.others j (λ m q. is_here s j k i m ne was q) (λ n q. was_here s j k i n ne was q) ∙ known.found s j k i was
  ]

  apart_after : (j k i m : ℕ) → inner_in (jack_told w' Inlets k i) ≡ Some j → inner_in (jack_told w' Outlets k m) ≡ Some j → ⊥
  apart_after j k i m p q = elim (here_or_not key side k Inlets) [
    | inl at ↦
        let other = λ (e : Outlets ≡ side). side_differs (at.1 ∙ sym e) in
        let new = ap inner_in (sym (jack_here i)) ∙ ap (λ (x : Side). inner_in (jack_told w' x key i)) (sym at.1) ∙ ap (λ (x : ℕ). inner_in (jack_told w' Inlets x i)) (sym at.0) ∙ p in
        is_here Outlets j k m i (λ x. other) (ap inner_in (sym (jack_there Outlets k m (λ x. other))) ∙ q) new
    | inr ne ↦ elim (here_or_not key side k Outlets) [
      | inl at ↦
          let new = ap inner_in (sym (jack_here m)) ∙ ap (λ (x : Side). inner_in (jack_told w' x key m)) (sym at.1) ∙ ap (λ (x : ℕ). inner_in (jack_told w' Outlets x m)) (sym at.0) ∙ q in
          is_here Inlets j k i m ne (ap inner_in (sym (jack_there Inlets k i ne)) ∙ p) new
      | inr ne' ↦ known.apart j k i m (ap inner_in (sym (jack_there Inlets k i ne)) ∙ p) (ap inner_in (sym (jack_there Outlets k m ne')) ∙ q)
    ]
  ]

  pub followed_known : KnowsHomes w'
  followed_known = record { told = λ k j i h. told_after k j i h; found = found_after; apart = apart_after }

-- A box loses its ports.

module _ (w w' : Web) (key : ℕ) (has : HasPorts w w' key (λ _. []) false) (gone : (j : ℕ) → port_told w' j ≡ but_of key (port_told w j)) (known : KnowsHomes w) where
  jack_left : (s : Side) (k i j : ℕ) → inner_in (jack_told w' s k i) ≡ Some j → (k ≢ key) × (inner_in (jack_told w s k i) ≡ Some j)
  jack_left s k i j h = elim (cases_eq k key) [
    | inl same ↦
        absurd (none-some j (ap (λ (js : List Jack). inner_in (slice_get js i)) (sym (has.ports s)) ∙ ap (λ (x : ℕ). inner_in (jack_told w' s x i)) (sym same) ∙ h))
    | inr differ ↦ (differ, ap (λ (js : List Jack). inner_in (slice_get js i)) (sym (has.other_ports s k differ)) ∙ h)
  ]

  pub closed_known : KnowsHomes w'
  closed_known = record {
    told = λ k j i h.
        let was = but_was key k i (port_told w j) (sym (gone j) ∙ h) in
        let before = known.told k j i was.0 in
        (before.0, ap (λ (js : List Jack). inner_in (slice_get js i)) (has.other_ports before.0 k was.1) ∙ before.1);
    found = λ s j k i h.
        let was = jack_left s k i j h in
        gone j ∙ ap (but_of key) (known.found s j k i was.1) ∙ but_stays key k i was.0;
    apart = λ j k i m p q. known.apart j k i m (jack_left Inlets k i j p).1 (jack_left Outlets k m j q).1;
  }

-- A box gets its first ports.

module _ (g : Grove) (w w' : Web) (key : ℕ) (is_made : Bool) (own : AreOwn (get g.nodes) (get g.boards)) (has : HasPorts w w' key (λ side. jacks_at side g key) is_made) (knows : KnowsPorts g w w' key)
    (bare : (side : Side) → ports_told w side key ≡ []) (apart : (j i : ℕ) → IsPortOf g j key i → port_told w j ≡ None) (known : KnowsHomes w) where
  jack_new : (s : Side) (i : ℕ) → jack_told w' s key i ≡ slice_get (jacks_at s g key) i
  jack_new s i = ap (λ (js : List Jack). slice_get js i) (has.ports s)

  jack_old : (s : Side) (k i : ℕ) → k ≢ key → jack_told w' s k i ≡ jack_told w s k i
  jack_old s k i ne = ap (λ (js : List Jack). slice_get js i) (has.other_ports s k ne)

  new_told : (s : Side) (i j : ℕ) → inner_in (slice_get (jacks_at s g key) i) ≡ Some j → port_told w' j ≡ Some (key, i)
  new_told s i j p =
      let f = knows.found j i (record { side = s; told = p }) in
      let a = port_stands g s key i j p in
      let b = port_stands g f.2.side key f.0 j f.2.told in
      let side = same_side (get g.nodes) s f.2.side j a.spot b.spot in
      let same = jacks_once g s key own f.0 i j (ap (λ (x : Side). inner_in (slice_get (jacks_at x g key) f.0)) side ∙ f.2.told) p in
      f.1 ∙ ap (λ (x : ℕ). Some (key, x)) same

  new_or_not : (j : ℕ) → ((s : Side) × (m : ℕ) × (inner_in (slice_get (jacks_at s g key) m) ≡ Some j)) ⊎ ((i : ℕ) → IsPortOf g j key i → ⊥)
  new_or_not j = elim (sought (jacks_at Inlets g key) j) [
    | inl a ↦ inl (Inlets, a.0, a.1)
    | inr a ↦ elim (sought (jacks_at Outlets g key) j) [
      | inl b ↦ inl (Outlets, b.0, b.1)
      | inr b ↦ inr (λ i is. none a b i is.side is.told)
    ]
  ]
    where
      none : ((m : ℕ) → inner_in (slice_get (jacks_at Inlets g key) m) ≡ Some j → ⊥) → ((m : ℕ) → inner_in (slice_get (jacks_at Outlets g key) m) ≡ Some j → ⊥)
          → (i : ℕ) (s : Side) → inner_in (slice_get (jacks_at s g key) i) ≡ Some j → ⊥
      none a b i Inlets h = a i h
      none a b i Outlets h = b i h

  not_new : (s : Side) (j k i : ℕ) → inner_in (jack_told w s k i) ≡ Some j → (n : ℕ) → IsPortOf g j key n → ⊥
  not_new s j k i p n is = none-some (k, i) (sym (apart j n is) ∙ known.found s j k i p)

  pub opened_known : KnowsHomes w'
  opened_known = record {
    told = λ k j i h. elim (new_or_not j) [
      | inl new ↦
          let same = pair_same key new.1 k i (port_told w' j) (new_told new.0 new.1 j new.2) h in
          (new.0, ap (λ (x : ℕ). inner_in (jack_told w' new.0 x i)) (sym same.0) ∙ ap (λ (x : ℕ). inner_in (jack_told w' new.0 key x)) (sym same.1) ∙ ap inner_in (jack_new new.0 new.1) ∙ new.2)
      | inr never ↦
          let before = known.told k j i (sym (knows.others j never) ∙ h) in
          elim (cases_eq k key) [
            | inl same ↦
                absurd (none-some j (ap (λ (js : List Jack). inner_in (slice_get js i)) (sym (bare before.0)) ∙ ap (λ (x : ℕ). inner_in (jack_told w before.0 x i)) (sym same) ∙ before.1))
            | inr differ ↦ (before.0, ap inner_in (jack_old before.0 k i differ) ∙ before.1)
          ]
    ];
    found = λ s j k i h. elim (cases_eq k key) [
      | inl same ↦
          new_told s i j (ap inner_in (sym (jack_new s i)) ∙ ap (λ (x : ℕ). inner_in (jack_told w' s x i)) (sym same) ∙ h) ∙ ap (λ (x : ℕ). Some (x, i)) (sym same)
      | inr differ ↦ let was = ap inner_in (sym (jack_old s k i differ)) ∙ h in knows.others j (not_new s j k i was) ∙ known.found s j k i was
    ];
    apart = λ j k i m p q. elim (cases_eq k key) [
      | inl same ↦
          let a = port_stands g Inlets key i j (ap inner_in (sym (jack_new Inlets i)) ∙ ap (λ (x : ℕ). inner_in (jack_told w' Inlets x i)) (sym same) ∙ p) in
          let b = port_stands g Outlets key m j (ap inner_in (sym (jack_new Outlets m)) ∙ ap (λ (x : ℕ). inner_in (jack_told w' Outlets x m)) (sym same) ∙ q) in
          sides_apart (get g.nodes) j a.spot b.spot
      | inr differ ↦ known.apart j k i m (ap inner_in (sym (jack_old Inlets k i differ)) ∙ p) (ap inner_in (sym (jack_old Outlets k m differ)) ∙ q)
    ];
  }

-- A web has the ports of a grove.

module _ (g : Grove) (w : Web) (ports : (side : Side) (k : ℕ) → ports_told w side k ≡ jacks_at side g k) where
  jack_grown : (s : Side) (k i : ℕ) → jack_told w s k i ≡ slice_get (jacks_at s g k) i
  jack_grown s k i = ap (λ (js : List Jack). slice_get js i) (ports s k)

  pub had_known : AreOwn (get g.nodes) (get g.boards) → HoldAlone g → ((j k i : ℕ) → port_told w j ≡ Some (k, i) → IsPortOf g j k i)
      → ((j k i : ℕ) → IsPortOf g j k i → IsSome (port_told w j)) → KnowsHomes w
  had_known own alone homes homes_found = record {
    told = λ k j i h. let is = homes j k i h in (is.side, ap inner_in (jack_grown is.side k i) ∙ is.told);
    found = λ s j k i h.
        let p = ap inner_in (sym (jack_grown s k i)) ∙ h in
        by_home s j k i p (port_told w j) refl (homes_found j k i (record { side = s; told = p }));
    apart = λ j k i m p q.
        let a = port_stands g Inlets k i j (ap inner_in (sym (jack_grown Inlets k i)) ∙ p) in
        let b = port_stands g Outlets k m j (ap inner_in (sym (jack_grown Outlets k m)) ∙ q) in
        sides_apart (get g.nodes) j a.spot b.spot;
  }
    where
      by_home : (s : Side) (j k i : ℕ) → inner_in (slice_get (jacks_at s g k) i) ≡ Some j → (o : Option (ℕ × ℕ)) → port_told w j ≡ o → IsSome o → port_told w j ≡ Some (k, i)
      by_home s j k i p None e some = absurd (true≢false (sym some))
      by_home s j k i p (Some x) e some =
          let is = homes j x.0 x.1 e in
          let same = port_once g is.side s x.0 k x.1 i j own alone is.told p in
          e ∙ ap (λ (n : ℕ). Some (n, x.1)) same.0 ∙ ap (λ (n : ℕ). Some (k, n)) same.1

  pub known_had : KnowsHomes w → (j k i : ℕ) → port_told w j ≡ Some (k, i) → IsPortOf g j k i
  known_had known j k i h = let t = known.told k j i h in record { side = t.0; told = ap inner_in (sym (jack_grown t.0 k i)) ∙ t.1 }

  pub known_found : KnowsHomes w → (j k i : ℕ) → IsPortOf g j k i → IsSome (port_told w j)
  known_found known j k i is = ap is_some (known.found is.side j k i (ap inner_in (jack_grown is.side k i) ∙ is.told))
