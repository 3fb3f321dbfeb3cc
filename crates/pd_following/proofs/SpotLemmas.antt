-- The ports of a canvas that gets one port box more: one port more stands among them.
use Rattle.std.proofs.Common.{◌≡◌, ◌≢◌, ℕ, ℤ, zero, suc, ◌≤◌, Bool, true, false, cond, int_lt, List, [], ◌∷◌, ◌++◌, length, slice_get, Option, Some, None, IsSome, true≢false, refl, sym, ap, ◌∙◌, subst, arith}
use Rattle.std.specs.Prelude.{option_and_then, unwrap_or}
use Rattle.std.specs.List.{insert}
use Rattle.std.proofs.lemmas.Int.{ints}
use Rattle.pd_object.specs.declared.kinds.Kind.{Kind}
use Rattle.pd_object.specs.declared.kinds.Kind.TheVariants as kind
use Rattle.pd_object.specs.declared.kinds.Glue.TheVariants as glue
use Rattle.pd_object.specs.declared.kinds.Side.TheVariants as port_side
use Rattle.pd_object.specs.declared.kinds.Signal.TheVariants as signal
use Rattle.pd_tree.specs.Ports.{inlet_signal, outlet_signal}
use Rattle.pd_grove.specs.declared.nodes.Node.{Node}
use Rattle.pd_grove.specs.declared.ports.Side.{Side}
use Rattle.pd_grove.specs.declared.ports.Side.TheVariants.{Inlets, Outlets}
use Rattle.pd_grove.specs.declared.ports.PortSpot.{PortSpot}
use Rattle.pd_grove.specs.Ports.{port_signal, spot_by, node_spot, spot_at, spot_placed, with_spot, ports_among}
use Rattle.pd_web.specs.declared.jacks.Jack.{Jack}
use Rattle.pd_web.specs.Jacks.{spot_jack}
use Rattle.pd_following.specs.Ports.{port_jack}

-- the first of these ports stands as far to the right as this one, or farther
abbrev IsFirst : PortSpot → List PortSpot → Type 0
IsFirst p [] = Unit {0}
IsFirst p (q ∷ qs) = int_lt q.x p.x ≡ false

-- the ports stand from left to right
abbrev Rise : List PortSpot → Type 0
Rise [] = Unit {0}
Rise (q ∷ qs) = IsFirst q qs × Rise qs

not_left : (x y : ℤ) → int_lt x y ≡ true → int_lt y x ≡ false
not_left x y h = by (int_lt y x) refl
  where
    by : (t : Bool) → int_lt y x ≡ t → int_lt y x ≡ false
    by true e = absurd (omega (arith, ints, h, e))
    by false e = e

further : (x y z : ℤ) → int_lt y x ≡ false → int_lt z y ≡ false → int_lt z x ≡ false
further x y z a b = by (int_lt z x) refl
  where
    by : (t : Bool) → int_lt z x ≡ t → int_lt z x ≡ false
    by true e = absurd (omega (arith, ints, a, b, e))
    by false e = e

first_further : (p x : PortSpot) (qs : List PortSpot) → int_lt x.x p.x ≡ false → IsFirst x qs → IsFirst p qs
first_further p x [] h f = tt
first_further p x (q ∷ qs) h f = further p.x x.x q.x h f

first_placed : (q p : PortSpot) (qs : List PortSpot) → int_lt p.x q.x ≡ false → IsFirst q qs → IsFirst q (spot_placed p qs)
first_placed q p [] h f = h
first_placed q p (r ∷ rs) h f = step (int_lt r.x p.x)
  where
    step : (b : Bool) → IsFirst q (cond b (r ∷ spot_placed p rs) (p ∷ r ∷ rs))
    step true = f
    step false = h

rise_placed : (p : PortSpot) (qs : List PortSpot) → Rise qs → Rise (spot_placed p qs)
rise_placed p [] r = (tt, tt)
rise_placed p (q ∷ qs) r = by (int_lt q.x p.x) refl (rise_placed p qs r.1)
  where
    by : (t : Bool) → int_lt q.x p.x ≡ t → Rise (spot_placed p qs) → Rise (cond t (q ∷ spot_placed p qs) (p ∷ q ∷ qs))
    by true e rest = (first_placed q p qs (not_left q.x p.x e) r.0, rest)
    by false e rest = (e, r)

rise_with : (o : Option PortSpot) (qs : List PortSpot) → Rise qs → Rise (with_spot o qs)
rise_with None qs r = r
rise_with (Some p) qs r = rise_placed p qs r

rise_among : (side : Side) (nodes : ℕ → Option Node) (ks : List ℕ) → Rise (ports_among side nodes ks)
rise_among side nodes [] = tt
rise_among side nodes (k ∷ ks) = rise_with (spot_at side nodes k) (ports_among side nodes ks) (rise_among side nodes ks)

-- the second list is the first with one more at some place
pub record HasMore {X : Type 0} (xs ys : List X) (x : X) : Type 0 where
  pub place : ℕ
  pub within : place ≤ length xs
  pub is : ys ≡ insert xs place x

more_later : {X : Type 0} (y : X) (xs ys : List X) (x : X) → HasMore xs ys x → HasMore (y ∷ xs) (y ∷ ys) x
more_later y xs ys x h = record { place = suc h.place; within = (let w = h.within in omega (arith, w)); is = ap (λ zs. y ∷ zs) h.is }

-- a port is placed among others
placed_in : (p : PortSpot) (qs : List PortSpot) → HasMore qs (spot_placed p qs) p
placed_in p [] = record { place = 0; within = omega arith; is = refl }
placed_in p (q ∷ qs) = step (int_lt q.x p.x) (placed_in p qs)
  where
    step : (b : Bool) → HasMore qs (spot_placed p qs) p → HasMore (q ∷ qs) (cond b (q ∷ spot_placed p qs) (p ∷ q ∷ qs)) p
    step true h = more_later q qs (spot_placed p qs) p h
    step false h = record { place = 0; within = omega arith; is = refl }

placed_first : (p : PortSpot) (qs : List PortSpot) → IsFirst p qs → spot_placed p qs ≡ p ∷ qs
placed_first p [] f = refl
placed_first p (q ∷ qs) f = ap (λ (b : Bool). cond b (q ∷ spot_placed p qs) (p ∷ q ∷ qs)) f

-- where one more stands among ports, it stands among them with another one placed
placed_more : (p x : PortSpot) (qs : List PortSpot) (n : ℕ) → n ≤ length qs → Rise (insert qs n x) → HasMore (spot_placed p qs) (spot_placed p (insert qs n x)) x
placed_more p x qs zero w r = by (int_lt x.x p.x) refl
  where
    by : (t : Bool) → int_lt x.x p.x ≡ t → HasMore (spot_placed p qs) (cond t (x ∷ spot_placed p qs) (p ∷ x ∷ qs)) x
    by true e = record { place = 0; within = omega arith; is = refl }
    by false e = subst (λ (ps : List PortSpot). HasMore ps (p ∷ x ∷ qs) x) (sym (placed_first p qs (first_further p x qs e r.0)))
        (record { place = 1; within = omega arith; is = refl })
placed_more p x [] (suc n) w r = absurd (omega (arith, w))
placed_more p x (q ∷ qs) (suc n) w r = step (int_lt q.x p.x) (placed_more p x qs n (omega (arith, w)) r.1)
  where
    step : (b : Bool) → HasMore (spot_placed p qs) (spot_placed p (insert qs n x)) x
        → HasMore (cond b (q ∷ spot_placed p qs) (p ∷ q ∷ qs)) (cond b (q ∷ spot_placed p (insert qs n x)) (p ∷ q ∷ insert qs n x)) x
    step true h = more_later q (spot_placed p qs) (spot_placed p (insert qs n x)) x h
    step false h = record { place = suc (suc n); within = omega (arith, w); is = refl }

with_more : (o : Option PortSpot) (x : PortSpot) (qs ps : List PortSpot) → Rise ps → HasMore qs ps x → HasMore (with_spot o qs) (with_spot o ps) x
with_more None x qs ps r h = h
with_more (Some p) x qs ps r h =
    subst (λ (zs : List PortSpot). HasMore (spot_placed p qs) (spot_placed p zs) x) (sym h.is) (placed_more p x qs h.place h.within (subst Rise h.is r))

pub among_more : (side : Side) (nodes : ℕ → Option Node) (a b : List ℕ) (k : ℕ) (s : PortSpot) → spot_at side nodes k ≡ Some s
    → HasMore (ports_among side nodes (a ++ b)) (ports_among side nodes (a ++ k ∷ b)) s
among_more side nodes [] b k s e = subst (λ (o : Option PortSpot). HasMore (ports_among side nodes b) (with_spot o (ports_among side nodes b)) s) (sym e) (placed_in s (ports_among side nodes b))
among_more side nodes (x ∷ a) b k s e =
    with_more (spot_at side nodes x) s (ports_among side nodes (a ++ b)) (ports_among side nodes (a ++ k ∷ b)) (rise_among side nodes (a ++ k ∷ b)) (among_more side nodes a b k s e)

pub spots_same : (side : Side) (nodes nodes' : ℕ → Option Node) (ks : List ℕ) → ((i k : ℕ) → slice_get ks i ≡ Some k → nodes' k ≡ nodes k) → ports_among side nodes' ks ≡ ports_among side nodes ks
spots_same side nodes nodes' [] h = refl
spots_same side nodes nodes' (k ∷ ks) h =
    ap (λ (o : Option Node). with_spot (option_and_then (node_spot side k) o) (ports_among side nodes' ks)) (h zero k refl)
    ∙ ap (with_spot (spot_at side nodes k)) (spots_same side nodes nodes' ks (λ i. h (suc i)))

-- a box that is no port changes nothing
pub among_same : (side : Side) (nodes : ℕ → Option Node) (a b : List ℕ) (k : ℕ) → spot_at side nodes k ≡ None → ports_among side nodes (a ++ k ∷ b) ≡ ports_among side nodes (a ++ b)
among_same side nodes [] b k e = ap (λ (o : Option PortSpot). with_spot o (ports_among side nodes b)) e
among_same side nodes (x ∷ a) b k e = ap (with_spot (spot_at side nodes x)) (among_same side nodes a b k e)

pub no_spot : (side : Side) (nodes : ℕ → Option Node) (k : ℕ) (n : Node) → nodes k ≡ Some n → port_signal side n.kind ≡ None → spot_at side nodes k ≡ None
no_spot side nodes k n is e = ap (option_and_then (node_spot side k)) is ∙ ap (spot_by k n.element.x) e

abbrev jack_by : ℕ → Bool → Jack
jack_by k b = record { is_signal = b; inner = Some k }

-- the port that a port box is
pub record IsSpot (side : Side) (nodes : ℕ → Option Node) (k : ℕ) (kind : Kind) : Type 0 where
  pub spot : PortSpot
  pub is : spot_at side nodes k ≡ Some spot
  pub jack : spot_jack spot ≡ port_jack side kind k

pub port_spot : (side : Side) (nodes : ℕ → Option Node) (k : ℕ) (n : Node) → nodes k ≡ Some n → IsSome (port_signal side n.kind) → IsSpot side nodes k n.kind
port_spot side nodes k n is port = by (port_signal side n.kind) refl port
  where
    by : (o : Option Bool) → port_signal side n.kind ≡ o → IsSome o → IsSpot side nodes k n.kind
    by None e h = absurd (true≢false (sym h))
    by (Some b) e h = record {
      spot = record { node = k; x = n.element.x; is_signal = b };
      is = ap (option_and_then (node_spot side k)) is ∙ ap (spot_by k n.element.x) e;
      jack = ap (λ (o : Option Bool). jack_by k (unwrap_or o false)) (sym e);
    }

kinds_apart : (k : Kind) → IsSome (inlet_signal k) → IsSome (outlet_signal k) → ⊥
kinds_apart (kind.Glue (glue.Port port_side.Inlet)) a b = true≢false (sym b)
kinds_apart (kind.Signal signal.Inlet) a b = true≢false (sym b)
kinds_apart _ a b = true≢false (sym a)

-- a port box is a port on one side
pub one_side : (s side : Side) (k : Kind) → IsSome (port_signal side k) → s ≢ side → port_signal s k ≡ None
one_side Inlets Inlets k h d = absurd (d refl)
one_side Outlets Outlets k h d = absurd (d refl)
one_side Inlets Outlets k h d = by (inlet_signal k) refl
  where
    by : (o : Option Bool) → inlet_signal k ≡ o → inlet_signal k ≡ None
    by None e = e
    by (Some b) e = absurd (kinds_apart k (subst (λ o. IsSome o) (sym e) refl) h)
one_side Outlets Inlets k h d = by (outlet_signal k) refl
  where
    by : (o : Option Bool) → outlet_signal k ≡ o → outlet_signal k ≡ None
    by None e = e
    by (Some b) e = absurd (kinds_apart k h (subst (λ o. IsSome o) (sym e) refl))
