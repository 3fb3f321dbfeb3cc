-- Which boxes are known to be ports, where a box gets ports or loses them.
use Rattle.std.proofs.Common.{◌≡◌, ◌≢◌, ◌==◌, ◌⊎◌, ℕ, zero, suc, ◌+◌, ◌<◌, Bool, true, false, cond, List, [], ◌∷◌, length, get_or, take, slice_get, Option, Some, None, IsSome, is_some, true≢false, refl, sym, ap, ◌∙◌, inl, inr, ne_eqb, arith}
use Rattle.std.specs.Prelude.{option_map}
use Rattle.std.proofs.lemmas.Bool.{cases_eq, cases_lt}
use Rattle.std.proofs.lemmas.Option.{none-some}
use Rattle.pd_grove.specs.declared.grove.Grove.{Grove}
use Rattle.pd_grove.specs.declared.ports.Side.{Side}
use Rattle.pd_grove.specs.declared.ports.Side.TheVariants.{Inlets, Outlets}
use Rattle.pd_web.specs.declared.sockets.Port.{Port}
use Rattle.pd_web.specs.declared.sockets.Sockets.{Sockets}
use Rattle.pd_web.specs.declared.sockets.Spot.{Spot}
use Rattle.pd_web.specs.declared.jacks.Jack.{Jack}
use Rattle.pd_web.specs.Jacks.{jacks_at}
use Rattle.pd_web.specs.Sockets.{side_ports, ports_in, ports_at, jacks_of}
use Rattle.pd_web.specs.Homes.{IsPortOf, IsOf, Settles, home_at, inner_in, inner_of}
use Rattle.pd_web.specs.Hops.{place_of}
use Rattle.pd_ports.specs.Boxes.{but_of}
use Rattle.pd_ports.specs.Homes.{less, IsInner, IsInnerOf, Forgets, Knows}
use Rattle.pd_ports.proofs.ListLemmas.{nothing, told_more, told_front, told_here, told_before, told_last, told_still, told_next}

pub inner_jacks : (ports : List Port) (i : ℕ) → inner_in (slice_get (jacks_of ports) i) ≡ inner_of ports i
inner_jacks [] i = refl
inner_jacks (p ∷ ports) zero = refl
inner_jacks (p ∷ ports) (suc i) = inner_jacks ports i

-- a port of a box that was opened, as it has it
inner_own : (g : Grove) (own : Sockets) (key : ℕ) (side : Side) (i : ℕ) → ((s : Side) → jacks_of (side_ports s own) ≡ jacks_at s g key) → inner_in (slice_get (jacks_at side g key) i) ≡ inner_of (side_ports side own) i
inner_own g own key side i told = ap (λ (js : List Jack). inner_in (slice_get js i)) (sym (told side)) ∙ inner_jacks (side_ports side own) i

pub ports_found : (g : Grove) (own : Sockets) (key : ℕ) (homes homes' : List (Option Spot)) → ((s : Side) → jacks_of (side_ports s own) ≡ jacks_at s g key) → Settles homes homes' (IsOf own key)
    → ((j i : ℕ) → IsPortOf g j key i → j < length homes) → ((j i : ℕ) → IsPortOf g j key i → option_map place_of (home_at homes j) ≡ None)
    → (j i : ℕ) → IsPortOf g j key i → (m : ℕ) × (option_map place_of (home_at homes' j) ≡ Some (key, m)) × IsPortOf g j key m
ports_found g own key homes homes' told settles near apart j i is =
    let s : Spot = record { node = key; side = is.side; port = i } in
    let of : IsOf own key s j = record { node = refl; inner = sym (inner_own g own key is.side i told) ∙ is.told } in
    at_home (home_at homes' j) refl (settles.found j s of (near j i is))
  where
    at_home : (o : Option Spot) → home_at homes' j ≡ o → IsSome o → (m : ℕ) × (option_map place_of o ≡ Some (key, m)) × IsPortOf g j key m
    at_home None e some = absurd (true≢false (sym some))
    at_home (Some s) e some = elim (settles.told j s e) [
      | inl old ↦ absurd (none-some (place_of s) (sym (apart j i is) ∙ ap (option_map place_of) old))
      | inr of ↦ (s.port, ap (λ (n : ℕ). Some (n, s.port)) of.node, record { side = s.side; told = inner_own g own key s.side s.port told ∙ of.inner })
    ]

pub others_known : (g : Grove) (own : Sockets) (key : ℕ) (homes homes' : List (Option Spot)) → ((s : Side) → jacks_of (side_ports s own) ≡ jacks_at s g key) → Settles homes homes' (IsOf own key)
    → (j : ℕ) → ((i : ℕ) → IsPortOf g j key i → ⊥) → option_map place_of (home_at homes' j) ≡ option_map place_of (home_at homes j)
others_known g own key homes homes' told settles j never = both (home_at homes' j) (home_at homes j) refl refl
  where
    both : (o' o : Option Spot) → home_at homes' j ≡ o' → home_at homes j ≡ o → option_map place_of o' ≡ option_map place_of o
    both None None e' e = refl
    both None (Some s) e' e = absurd (true≢false (sym (settles.kept j (ap is_some e)) ∙ ap is_some e'))
    both (Some s) o e' e = elim (settles.told j s e') [
      | inl old ↦ ap (option_map place_of) (sym old ∙ e)
      | inr of ↦ absurd (never s.port (record { side = s.side; told = inner_own g own key s.side s.port told ∙ of.inner }))
    ]

-- What is known of the ports of a box is forgotten.

less_twice : (node : ℕ) (o : Option Spot) → less node (less node o) ≡ less node o
less_twice node None = refl
less_twice node (Some s) = by_test (s.node == node) refl
  where
    by_test : (b : Bool) → s.node == node ≡ b → less node (cond b None (Some s)) ≡ cond b None (Some s)
    by_test true e = refl
    by_test false e = ap (λ (v : Bool). cond v None (Some s)) e

pub less_other : (node : ℕ) (s : Spot) → s.node ≢ node → less node (Some s) ≡ Some s
less_other node s differ = ap (λ (v : Bool). cond v None (Some s)) (ne_eqb s.node node differ)

pub forgets_more : (a b c : List (Option Spot)) (node : ℕ) (P Q R : ℕ → Type 0) → Forgets a b node P → Forgets b c node Q → ((j : ℕ) → R j → P j ⊎ Q j) → ((j : ℕ) → P j → R j) → ((j : ℕ) → Q j → R j) → Forgets a c node R
forgets_more a b c node P Q R first then parts left right = record {
  gone = λ j r. elim (parts j r) [
    | inl p ↦ elim (then.told j) [
      | inl u ↦ u ∙ first.gone j p
      | inr v ↦ v ∙ ap (less node) (first.gone j p) ∙ less_twice node (home_at a j)
    ]
    | inr q ↦ then.gone j q ∙ again j
  ];
  stay = λ j h. then.stay j (λ q. h (right j q)) ∙ first.stay j (λ p. h (left j p));
  told = λ j. elim (then.told j) [
    | inl u ↦ elim (first.told j) [
      | inl x ↦ inl (u ∙ x)
      | inr y ↦ inr (u ∙ y)
    ]
    | inr v ↦ inr (v ∙ again j)
  ];
  far = then.far ∙ first.far;
}
  where
    again : (j : ℕ) → less node (home_at b j) ≡ less node (home_at a j)
    again j = elim (first.told j) [
      | inl x ↦ ap (less node) x
      | inr y ↦ ap (less node) y ∙ less_twice node (home_at a j)
    ]

pub forgets_port : (a b c : List (Option Spot)) (node : ℕ) (ports : List Port) (i : ℕ) (d : Port) → i < length ports → Forgets a b node (IsInner (take i ports))
    → Forgets b c node (λ j. (get_or ports i d).jack.inner ≡ Some j) → Forgets a c node (IsInner (take (i + 1) ports))
forgets_port a b c node ports i d l first then =
    forgets_more a b c node (IsInner (take i ports)) (λ j. (get_or ports i d).jack.inner ≡ Some j) (IsInner (take (i + 1) ports)) first then
    (λ j h. told_more (λ (p : Port). p.jack.inner) ports i j d l h) (λ j h. told_still (λ (p : Port). p.jack.inner) ports i j h) (λ j h. told_next (λ (p : Port). p.jack.inner) ports i j d l h)

pub forgets_both : (a b c : List (Option Spot)) (node : ℕ) (own : Sockets) → Forgets a b node (IsInner own.inlets.items) → Forgets b c node (IsInner own.outlets.items) → Forgets a c node (IsInnerOf own)
forgets_both a b c node own first then =
    forgets_more a b c node (IsInner own.inlets.items) (IsInner own.outlets.items) (IsInnerOf own) first then (λ j h. side_of h.0 j h.1) (λ j h. (Inlets, h)) (λ j h. (Outlets, h))
  where
    side_of : (side : Side) (j : ℕ) → IsInner (side_ports side own) j → IsInner own.inlets.items j ⊎ IsInner own.outlets.items j
    side_of Inlets j h = inl h
    side_of Outlets j h = inr h

pub but_told : (key : ℕ) (o : Option Spot) → option_map place_of (less key o) ≡ but_of key (option_map place_of o)
but_told key None = refl
but_told key (Some s) = by_test (s.node == key)
  where
    by_test : (b : Bool) → option_map place_of (cond b None (Some s)) ≡ cond b None (Some (place_of s))
    by_test true = refl
    by_test false = refl

-- nothing is known any more of the ports of a box that lost them
pub forgotten_by : (key : ℕ) (jacks : Side → List Jack) (own : Sockets) (homes homes' : List (Option Spot)) → ((side : Side) → jacks_of (side_ports side own) ≡ jacks side) → Forgets homes homes' key (IsInnerOf own)
    → ((j i : ℕ) → option_map place_of (home_at homes j) ≡ Some (key, i) → (side : Side) × (inner_in (slice_get (jacks side) i) ≡ Some j))
    → (j : ℕ) → option_map place_of (home_at homes' j) ≡ but_of key (option_map place_of (home_at homes j))
forgotten_by key jacks own homes homes' told forgets true' j = ap (option_map place_of) (went (forgets.told j)) ∙ but_told key (home_at homes j)
  where
    is_inner : (s : Spot) → home_at homes j ≡ Some s → s.node ≡ key → IsInnerOf own j
    is_inner s e at =
        let t = true' j s.port (ap (option_map place_of) e ∙ ap (λ (n : ℕ). Some (n, s.port)) at) in
        (t.0, (s.port, sym (inner_jacks (side_ports t.0 own) s.port) ∙ ap (λ (js : List Jack). inner_in (slice_get js s.port)) (told t.0) ∙ t.1))

    by_home : (o : Option Spot) → home_at homes j ≡ o → home_at homes' j ≡ home_at homes j → home_at homes' j ≡ less key (home_at homes j)
    by_home None e same = same ∙ e ∙ sym (ap (less key) e)
    by_home (Some s) e same = elim (cases_eq s.node key) [
      | inl at ↦ forgets.gone j (is_inner s e at)
      | inr differ ↦ same ∙ e ∙ sym (less_other key s differ) ∙ sym (ap (less key) e)
    ]

    went : (home_at homes' j ≡ home_at homes j) ⊎ (home_at homes' j ≡ less key (home_at homes j)) → home_at homes' j ≡ less key (home_at homes j)
    went (inl same) = by_home (home_at homes j) refl same
    went (inr gone) = gone

pub ports_forgotten : (all : List Sockets) (key : ℕ) (own : Sockets) (homes homes' : List (Option Spot)) → slice_get all key ≡ Some own → Forgets homes homes' key (IsInnerOf own)
    → ((j i : ℕ) → option_map place_of (home_at homes j) ≡ Some (key, i) → (side : Side) × (inner_in (slice_get (jacks_of (ports_at all side key)) i) ≡ Some j))
    → (j : ℕ) → option_map place_of (home_at homes' j) ≡ but_of key (option_map place_of (home_at homes j))
ports_forgotten all key own homes homes' was forgets true' j =
    forgotten_by key (λ side. jacks_of (ports_at all side key)) own homes homes' (λ side. ap (λ (o : Option Sockets). jacks_of (ports_in side o)) (sym was)) forgets true' j

-- Which ports the boxes of a side are, one port after the other.

pub knows_begun : (homes : List (Option Spot)) (ports : List Port) (side : Side) (key : ℕ) → Knows homes homes (take 0 ports) side key
knows_begun homes ports side key = record { found = λ m j h l. absurd (nothing (λ (p : Port). p.jack.inner) j m h); others = λ j h. refl; far = refl }

pub knows_port : (a b c : List (Option Spot)) (ports : List Port) (side : Side) (key i : ℕ) (d : Port) → i < length ports → ((n m j : ℕ) → inner_of ports n ≡ Some j → inner_of ports m ≡ Some j → n ≡ m)
    → Knows a b (take i ports) side key → ((j : ℕ) → (get_or ports i d).jack.inner ≡ Some j → j < length b → home_at c j ≡ Some (record { node = key; side = side; port = i }))
    → ((j : ℕ) → ((get_or ports i d).jack.inner ≡ Some j → ⊥) → home_at c j ≡ home_at b j) → length c ≡ length b → Knows a c (take (i + 1) ports) side key
knows_port a b c ports side key i d l once first is others far =
    let inner : Port → Option ℕ = λ p. p.jack.inner in
    let spot : ℕ → Spot = λ n. record { node = key; side = side; port = n } in
    record {
      found = λ m j h near.
          let r = told_front inner ports (i + 1) m j h in
          let below = r.0 in
          elim (cases_lt m i) [
            | inl x ↦
                others j (λ q. let e = once m i j r.1 (told_here inner ports i j d l q) in absurd (omega (arith, e, x)))
                ∙ first.found m j (told_before inner ports i m j x r.1) near
            | inr y ↦
                let e : m ≡ i = omega (arith, below, y) in
                let f = first.far in
                is j (told_last inner ports i m j d l e r.1) (omega (arith, near, f)) ∙ ap (λ (n : ℕ). Some (spot n)) (sym e)
          ];
      others = λ j h. others j (λ q. h (told_next inner ports i j d l q)) ∙ first.others j (λ q. h (told_still inner ports i j q));
      far = far ∙ first.far;
    }

inner_new : (news : List Port) (jacks : List Jack) (m : ℕ) → jacks_of news ≡ jacks → inner_in (slice_get jacks m) ≡ inner_of news m
inner_new news jacks m e = ap (λ (js : List Jack). inner_in (slice_get js m)) (sym e) ∙ inner_jacks news m

-- what is known of the boxes that are ports of a side, after others were ports there
pub record SideKnown (a c : List (Option Spot)) (key : ℕ) (old jacks : List Jack) : Type 0 where
  pub found : (m j : ℕ) → inner_in (slice_get jacks m) ≡ Some j → option_map place_of (home_at c j) ≡ Some (key, m)
  pub gone : (i j : ℕ) → inner_in (slice_get old i) ≡ Some j → ((m : ℕ) → inner_in (slice_get jacks m) ≡ Some j → ⊥) → option_map place_of (home_at c j) ≡ but_of key (option_map place_of (home_at a j))
  pub others : (j : ℕ) → ((m : ℕ) → inner_in (slice_get jacks m) ≡ Some j → ⊥) → ((i : ℕ) → inner_in (slice_get old i) ≡ Some j → ⊥) → option_map place_of (home_at c j) ≡ option_map place_of (home_at a j)

pub side_known : (key : ℕ) (side : Side) (olds news : List Port) (jacks : List Jack) (a b c : List (Option Spot)) → Forgets a b key (IsInner olds) → Knows b c news side key → jacks_of news ≡ jacks
    → ((m j : ℕ) → inner_in (slice_get jacks m) ≡ Some j → j < length a) → SideKnown a c key (jacks_of olds) jacks
side_known key side olds news jacks a b c forgets knows e near = record {
  found = λ m j h.
      let l = near m j h in
      let f = forgets.far in
      ap (option_map place_of) (knows.found m j (sym (inner_new news jacks m e) ∙ h) (omega (arith, l, f)));
  gone = λ i j h never.
      ap (option_map place_of) (knows.others j (λ is. never is.0 (inner_new news jacks is.0 e ∙ is.1)) ∙ forgets.gone j (i, sym (inner_jacks olds i) ∙ h)) ∙ but_told key (home_at a j);
  others = λ j never_new never_old.
      ap (option_map place_of) (knows.others j (λ is. never_new is.0 (inner_new news jacks is.0 e ∙ is.1)) ∙ forgets.stay j (λ is. never_old is.0 (inner_jacks olds is.0 ∙ is.1)));
}
