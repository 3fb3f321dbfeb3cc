-- The ends of ports, as one is given.
use Rattle.std.proofs.Common.{◌≡◌, ◌≢◌, ◌⊎◌, ℕ, zero, suc, ◌<◌, List, [], ◌∷◌, length, get_or, set, slice_get, Option, Some, refl, sym, ap, ◌∙◌, subst, inl, inr, arith}
use Rattle.std.specs.Prelude.{option_and_then}
use Rattle.std.proofs.lemmas.Bool.{cases_eq, cases_lt}
use Rattle.std.proofs.lemmas.Option.{same_Some, slice_get_past, slice_get-get_or}
use Rattle.pd_wire.specs.Book.{Book}
use Rattle.pd_grove.specs.declared.ports.Side.{Side}
use Rattle.pd_grove.specs.declared.ports.Side.TheVariants.{Inlets, Outlets}
use Rattle.pd_web.specs.declared.sockets.Port.{Port}
use Rattle.pd_web.specs.declared.sockets.Sockets.{Sockets}
use Rattle.pd_web.specs.declared.sockets.Spot.{Spot}
use Rattle.pd_web.specs.Sockets.{IsAt, IsThere, AreTied, Grows, Gives, GivesIn, with_end, given, side_ports, ports_in, ports_at, end_at, jacks_of, made_at, made_of}

abbrev end_in : List Port → ℕ → Option ℕ
end_in ports i = option_and_then (λ (p : Port). p.end) (slice_get ports i)

-- what is written into the list of a side
pub set_end : (ports : List Port) (i e : ℕ) (p : Port) → i < length ports → p ≡ get_or ports i p → set ports i (record { end = Some e; jack = p.jack }) ≡ with_end e ports i
set_end [] i e p h at = absurd (omega arith)
set_end (q ∷ ports) zero e p h at = ap (λ (x : Port). record { end = Some e; jack = x.jack } ∷ ports) at
set_end (q ∷ ports) (suc i) e p h at = ap (λ xs. q ∷ xs) (set_end ports i e p (omega arith) at)

jacks_with : (ports : List Port) (i e : ℕ) → jacks_of (with_end e ports i) ≡ jacks_of ports
jacks_with [] i e = refl
jacks_with (p ∷ ports) zero e = refl
jacks_with (p ∷ ports) (suc i) e = ap (λ xs. p.jack ∷ xs) (jacks_with ports i e)

end_here : (ports : List Port) (i e : ℕ) → i < length ports → end_in (with_end e ports i) i ≡ Some e
end_here [] i e h = absurd (omega arith)
end_here (p ∷ ports) zero e h = refl
end_here (p ∷ ports) (suc i) e h = end_here ports i e (omega arith)

port_other : (ports : List Port) (i j e : ℕ) → j ≢ i → slice_get (with_end e ports i) j ≡ slice_get ports j
port_other [] i j e h = refl
port_other (p ∷ ports) zero zero e h = absurd (h refl)
port_other (p ∷ ports) zero (suc j) e h = refl
port_other (p ∷ ports) (suc i) zero e h = refl
port_other (p ∷ ports) (suc i) (suc j) e h = port_other ports i j e (λ s. h (ap suc s))

jacks_given : (side s : Side) (i e : ℕ) (ports : List Port) → jacks_of (given side i e s ports) ≡ jacks_of ports
jacks_given Inlets Inlets i e ports = jacks_with ports i e
jacks_given Inlets Outlets i e ports = refl
jacks_given Outlets Inlets i e ports = refl
jacks_given Outlets Outlets i e ports = jacks_with ports i e

given_here : (side : Side) (i e : ℕ) (ports : List Port) → i < length ports → end_in (given side i e side ports) i ≡ Some e
given_here Inlets i e ports h = end_here ports i e h
given_here Outlets i e ports h = end_here ports i e h

given_other : (side s : Side) (i j e : ℕ) (ports : List Port) → (s ≡ side → j ≡ i → ⊥) → end_in (given side i e s ports) j ≡ end_in ports j
given_other Inlets Inlets i j e ports h = ap (option_and_then (λ (p : Port). p.end)) (port_other ports i j e (h refl))
given_other Inlets Outlets i j e ports h = refl
given_other Outlets Inlets i j e ports h = refl
given_other Outlets Outlets i j e ports h = ap (option_and_then (λ (p : Port). p.end)) (port_other ports i j e (h refl))

-- one of the boxes is written
set_here : {X : Type 0} (xs : List X) (k : ℕ) (x : X) → k < length xs → slice_get (set xs k x) k ≡ Some x
set_here [] k x h = absurd (omega arith)
set_here (y ∷ xs) zero x h = refl
set_here (y ∷ xs) (suc k) x h = set_here xs k x (omega arith)

set_other : {X : Type 0} (xs : List X) (k j : ℕ) (x : X) → j ≢ k → slice_get (set xs k x) j ≡ slice_get xs j
set_other [] k j x h = refl
set_other (y ∷ xs) zero zero x h = absurd (h refl)
set_other (y ∷ xs) zero (suc j) x h = refl
set_other (y ∷ xs) (suc k) zero x h = refl
set_other (y ∷ xs) (suc k) (suc j) x h = set_other xs k j x (λ s. h (ap suc s))

-- the box of a port that is there has a key that is known
pub there_within : (all : List Sockets) (s : Spot) → IsThere all s → s.node < length all
there_within all s h = elim (cases_lt s.node (length all)) [
  | inl l ↦ l
  | inr l ↦ let e = ap (λ o. length (ports_in s.side o)) (slice_get_past all s.node l) in absurd (omega (arith, e, h))
]

pub spot_same : (s t : Spot) → s.node ≡ t.node → s.side ≡ t.side → s.port ≡ t.port → s ≡ t
spot_same s t a b c =
    ap (λ n. record { node = n; side = s.side; port = s.port }) a ∙ ap (λ x. record { node = t.node; side = x; port = s.port }) b
    ∙ ap (λ n. record { node = t.node; side = t.side; port = n }) c

cases_side : (a b : Side) → (a ≡ b) ⊎ (a ≡ b → ⊥)
cases_side Inlets Inlets = inl refl
cases_side Inlets Outlets = inr (λ h. cc h)
cases_side Outlets Inlets = inr (λ h. cc h)
cases_side Outlets Outlets = inl refl

pub cases_spot : (s t : Spot) → (s ≡ t) ⊎ (s ≡ t → ⊥)
cases_spot s t = elim (cases_eq s.node t.node) [
  | inr a ↦ inr (λ h. a (ap (λ (x : Spot). x.node) h))
  | inl a ↦ elim (cases_side s.side t.side) [
    | inr b ↦ inr (λ h. b (ap (λ (x : Spot). x.side) h))
    | inl b ↦ elim (cases_eq s.port t.port) [
      | inr c ↦ inr (λ h. c (ap (λ (x : Spot). x.port) h))
      | inl c ↦ inl (spot_same s t a b c)
    ]
  ]
]

-- a box of which a port has got an end, in its place
record Written (all all' : List Sockets) (own own' : Sockets) (k : ℕ) : Type 0 where
  was : slice_get all k ≡ Some own
  is : slice_get all' k ≡ Some own'
  others : (j : ℕ) → j ≢ k → slice_get all' j ≡ slice_get all j

written : (all : List Sockets) (own own' : Sockets) (k : ℕ) → k < length all → own ≡ get_or all k own → Written all (set all k own') own own' k
written all own own' k l at = record {
  was = slice_get-get_or all k own l ∙ ap (λ (x : Sockets). Some x) (sym at);
  is = set_here all k own' l;
  others = λ j d. set_other all k j own' d;
}

jacks_written : (all all' : List Sockets) (own own' : Sockets) (k : ℕ) (side : Side) (i e : ℕ) → Written all all' own own' k → GivesIn own own' side i e
    → (s : Side) (j : ℕ) → jacks_of (ports_at all' s j) ≡ jacks_of (ports_at all s j)
jacks_written all all' own own' k side i e w g s j = elim (cases_eq j k) [
  | inl same ↦
      let P : ℕ → Type 0 = λ n. jacks_of (ports_at all' s n) ≡ jacks_of (ports_at all s n) in
      subst P (sym same)
      (ap (λ o. jacks_of (ports_in s o)) w.is ∙ ap jacks_of (g.ports s) ∙ jacks_given side s i e (side_ports s own) ∙ sym (ap (λ o. jacks_of (ports_in s o)) w.was))
  | inr differ ↦ ap (λ o. jacks_of (ports_in s o)) (w.others j differ)
]

made_written : (all all' : List Sockets) (own own' : Sockets) (k : ℕ) → Written all all' own own' k → own'.is_made ≡ own.is_made → (j : ℕ) → made_at all' j ≡ made_at all j
made_written all all' own own' k w g j = elim (cases_eq j k) [
  | inl same ↦
      let P : ℕ → Type 0 = λ n. made_at all' n ≡ made_at all n in
      subst P (sym same) (ap made_of w.is ∙ g ∙ sym (ap made_of w.was))
  | inr differ ↦ ap made_of (w.others j differ)
]

end_written : (all all' : List Sockets) (own own' : Sockets) (spot : Spot) (e : ℕ) → Written all all' own own' spot.node → GivesIn own own' spot.side spot.port e → IsThere all spot → end_at all' spot ≡ Some e
end_written all all' own own' spot e w g there =
    let l = ap (λ o. length (ports_in spot.side o)) w.was in
    ap (λ o. end_in (ports_in spot.side o) spot.port) w.is ∙ ap (λ ports. end_in ports spot.port) (g.ports spot.side)
    ∙ given_here spot.side spot.port e (side_ports spot.side own) (omega (arith, l, there))

ends_written : (all all' : List Sockets) (own own' : Sockets) (spot : Spot) (e : ℕ) → Written all all' own own' spot.node → GivesIn own own' spot.side spot.port e
    → (s : Spot) → s ≢ spot → end_at all' s ≡ end_at all s
ends_written all all' own own' spot e w g s ne = elim (cases_eq s.node spot.node) [
  | inl same ↦
      let P : ℕ → Type 0 = λ n. end_in (ports_at all' s.side n) s.port ≡ end_in (ports_at all s.side n) s.port in
      subst P (sym same)
      (ap (λ o. end_in (ports_in s.side o) s.port) w.is ∙ ap (λ ports. end_in ports s.port) (g.ports s.side)
      ∙ given_other spot.side s.side spot.port s.port e (side_ports s.side own) (λ b c. ne (spot_same s spot same b c))
      ∙ sym (ap (λ o. end_in (ports_in s.side o) s.port) w.was))
  | inr differ ↦ ap (λ o. end_in (ports_in s.side o) s.port) (w.others s.node differ)
]

pub gives_at : (all : List Sockets) (own own' : Sockets) (spot : Spot) (e : ℕ) → own ≡ get_or all spot.node own → IsThere all spot → GivesIn own own' spot.side spot.port e → Gives all (set all spot.node own') spot e
gives_at all own own' spot e at there g =
    let w = written all own own' spot.node (there_within all spot there) at in
    record {
      jacks = jacks_written all (set all spot.node own') own own' spot.node spot.side spot.port e w g;
      made = made_written all (set all spot.node own') own own' spot.node w g.made;
      is = end_written all (set all spot.node own') own own' spot e w g there;
      others = ends_written all (set all spot.node own') own own' spot e w g;
    }

-- a port with a new end
pub tied_more : (all all' : List Sockets) (spots spots' : List Spot) (book book' : Book) (spot : Spot) (e : ℕ) → AreTied all spots book → Grows spots spots' book book' → IsAt spots' book' e spot → Gives all all' spot e
    → AreTied all' spots' book'
tied_more all all' spots spots' book book' spot e tied grows at gives = record {
  placed = λ s f h. elim (cases_spot s spot) [
    | inl same ↦
        let P : Spot → Type 0 = λ t. IsAt spots' book' f t in
        let Q : ℕ → Type 0 = λ n. IsAt spots' book' n spot in
        subst P (sym same) (subst Q (same_Some e f (sym gives.is ∙ ap (end_at all') (sym same) ∙ h)) at)
    | inr differ ↦
        let was = tied.placed s f (sym (gives.others s differ) ∙ h) in
        record { live = grows.ends f was.live; told = grows.told f s was.live was.told }
  ];
  spotted = grows.spotted tied.spotted;
}

pub gives_inlet : (own own' : Sockets) (side : Side) (i e : ℕ) → side ≡ Inlets → own'.inlets.items ≡ with_end e own.inlets.items i → own'.outlets.items ≡ own.outlets.items → own'.is_made ≡ own.is_made → GivesIn own own' side i e
gives_inlet own own' side i e at a b made = let P : Side → Type 0 = λ s. GivesIn own own' s i e in subst P (sym at) (record { ports = on; made = made })
  where
    on : (s : Side) → side_ports s own' ≡ given Inlets i e s (side_ports s own)
    on Inlets = a
    on Outlets = b

pub gives_outlet : (own own' : Sockets) (side : Side) (i e : ℕ) → side ≡ Outlets → own'.inlets.items ≡ own.inlets.items → own'.outlets.items ≡ with_end e own.outlets.items i → own'.is_made ≡ own.is_made → GivesIn own own' side i e
gives_outlet own own' side i e at a b made = let P : Side → Type 0 = λ s. GivesIn own own' s i e in subst P (sym at) (record { ports = on; made = made })
  where
    on : (s : Side) → side_ports s own' ≡ given Outlets i e s (side_ports s own)
    on Inlets = a
    on Outlets = b
