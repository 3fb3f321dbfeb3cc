-- No box is two ports of a canvas, and none is one on both sides.
use Rattle.std.proofs.Common.{◌≡◌, ◌≢◌, ℕ, ℤ, zero, suc, Bool, true, false, cond, int_lt, List, [], ◌∷◌, map, slice_get, Option, Some, None, IsSome, is_some, true≢false, refl, sym, ap, ◌∙◌, subst, arith}
use Rattle.std.specs.Prelude.{option_and_then}
use Rattle.std.proofs.lemmas.Option.{none-some, same_Some}
use Rattle.slab.specs.Slab.{get}
use Rattle.pd_object.specs.declared.kinds.Kind.{Kind}
use Rattle.pd_object.specs.declared.kinds.Kind.TheVariants as kind
use Rattle.pd_object.specs.declared.kinds.Glue.TheVariants as glue
use Rattle.pd_object.specs.declared.kinds.Side.TheVariants as side
use Rattle.pd_object.specs.declared.kinds.Signal.TheVariants as signal
use Rattle.pd_tree.specs.Ports.{inlet_signal, outlet_signal}
use Rattle.pd_grove.specs.declared.nodes.Node.{Node}
use Rattle.pd_grove.specs.declared.grove.Grove.{Grove}
use Rattle.pd_grove.specs.declared.ports.Side.{Side}
use Rattle.pd_grove.specs.declared.ports.Side.TheVariants.{Inlets, Outlets}
use Rattle.pd_grove.specs.declared.ports.PortSpot.{PortSpot}
use Rattle.pd_grove.specs.Ports.{port_signal, spot_by, spot_at, spot_placed, with_spot, ports_among}
use Rattle.pd_grove.specs.Owning.{AreOwn}
use Rattle.pd_grove.specs.Telling.{keys_in, inner_in as canvas_in}
use Rattle.pd_web.specs.Jacks.{spot_jack, plain_jack, jacks_by, jacks_in, jacks_at}
use Rattle.pd_web.specs.Homes.{inner_in}
use Rattle.pd_ports.specs.Moves.{AreOnce}
use Rattle.pd_ports.specs.Known.{HoldAlone}

-- what each of these ports is
AllAre : (ℕ → Type 0) → List PortSpot → Type 0
AllAre P [] = Unit {0}
AllAre P (q ∷ qs) = P q.node × AllAre P qs

-- no box is two of these ports
AreApart : List PortSpot → Type 0
AreApart [] = Unit {0}
AreApart (q ∷ qs) = AllAre (λ k. k ≢ q.node) qs × AreApart qs

all_cond : (P : ℕ → Type 0) (b : Bool) (p q : PortSpot) (placed qs : List PortSpot) → P p.node → P q.node → AllAre P qs → AllAre P placed → AllAre P (cond b (q ∷ placed) (p ∷ q ∷ qs))
unfolding AllAre
all_cond P true p q placed qs hp hq hs t = (hq, t)
all_cond P false p q placed qs hp hq hs t = (hp, (hq, hs))

all_placed : (P : ℕ → Type 0) (p : PortSpot) (qs : List PortSpot) → P p.node → AllAre P qs → AllAre P (spot_placed p qs)
unfolding AllAre
all_placed P p [] h t = (h, tt)
all_placed P p (q ∷ qs) h t = all_cond P (int_lt q.x p.x) p q (spot_placed p qs) qs h t.0 t.1 (all_placed P p qs h t.1)

apart_cond : (b : Bool) (p q : PortSpot) (placed qs : List PortSpot) → AllAre (λ k. k ≢ p.node) (q ∷ qs) → AreApart (q ∷ qs) → AllAre (λ k. k ≢ q.node) placed → AreApart placed
    → AreApart (cond b (q ∷ placed) (p ∷ q ∷ qs))
unfolding AllAre AreApart
apart_cond true p q placed qs hp hq n t = (n, t)
apart_cond false p q placed qs hp hq n t = (hp, hq)

apart_placed : (p : PortSpot) (qs : List PortSpot) → AllAre (λ k. k ≢ p.node) qs → AreApart qs → AreApart (spot_placed p qs)
unfolding AllAre AreApart
apart_placed p [] h t = (tt, tt)
apart_placed p (q ∷ qs) h t =
    apart_cond (int_lt q.x p.x) p q (spot_placed p qs) qs h t (all_placed (λ k. k ≢ q.node) p qs (λ e. h.0 (sym e)) t.0) (apart_placed p qs h.1 t.1)

-- the port that a box is, if any, is that box
pub spot_node : (nodes : ℕ → Option Node) (side : Side) (k : ℕ) (s : PortSpot) → spot_at side nodes k ≡ Some s → s.node ≡ k
spot_node nodes side k s h = by_node (nodes k) h
  where
    by_kind : (x : ℤ) (o : Option Bool) → spot_by k x o ≡ Some s → s.node ≡ k
    by_kind x None e = absurd (none-some s e)
    by_kind x (Some b) e = ap (λ (y : PortSpot). y.node) (sym (same_Some (record { node = k; x = x; is_signal = b }) s e))

    by_node : (o : Option Node) → option_and_then (λ (n : Node). spot_by k n.element.x (port_signal side n.kind)) o ≡ Some s → s.node ≡ k
    by_node None e = absurd (none-some s e)
    by_node (Some n) e = by_kind n.element.x (port_signal side n.kind) e

all_with : (P : ℕ → Type 0) (o : Option PortSpot) (qs : List PortSpot) → ((s : PortSpot) → o ≡ Some s → P s.node) → AllAre P qs → AllAre P (with_spot o qs)
all_with P None qs h t = t
all_with P (Some s) qs h t = all_placed P s qs (h s refl) t

apart_with : (o : Option PortSpot) (qs : List PortSpot) → ((s : PortSpot) → o ≡ Some s → AllAre (λ k. k ≢ s.node) qs) → AreApart qs → AreApart (with_spot o qs)
apart_with None qs h t = t
apart_with (Some s) qs h t = apart_placed s qs (h s refl) t

all_among : (P : ℕ → Type 0) (nodes : ℕ → Option Node) (side : Side) (keys : List ℕ) → ((i k : ℕ) → slice_get keys i ≡ Some k → IsSome (spot_at side nodes k) → P k) → AllAre P (ports_among side nodes keys)
unfolding AllAre
all_among P nodes side [] h = tt
all_among P nodes side (k ∷ ks) h =
    all_with P (spot_at side nodes k) (ports_among side nodes ks) (λ s e. subst P (sym (spot_node nodes side k s e)) (h zero k refl (ap is_some e)))
    (all_among P nodes side ks (λ i n e. h (suc i) n e))

apart_among : (nodes : ℕ → Option Node) (side : Side) (keys : List ℕ) → ((i j k : ℕ) → slice_get keys i ≡ Some k → slice_get keys j ≡ Some k → i ≡ j) → AreApart (ports_among side nodes keys)
unfolding AreApart
apart_among nodes side [] once = tt
apart_among nodes side (k ∷ ks) once =
    apart_with (spot_at side nodes k) (ports_among side nodes ks)
    (λ s e. all_among (λ n. n ≢ s.node) nodes side ks (λ i n h is same.
    let x = once zero (suc i) k refl (h ∙ ap (λ (y : ℕ). Some y) (same ∙ spot_node nodes side k s e)) in absurd (omega (arith, x))))
    (apart_among nodes side ks (λ i j n p q. let x = once (suc i) (suc j) n p q in omega (arith, x)))

all_at : (P : ℕ → Type 0) (spots : List PortSpot) (i j : ℕ) → AllAre P spots → inner_in (slice_get (map spot_jack spots) i) ≡ Some j → P j
unfolding AllAre
all_at P [] i j t h = absurd (none-some j h)
all_at P (s ∷ ss) zero j t h = subst P (same_Some s.node j h) t.0
all_at P (s ∷ ss) (suc i) j t h = all_at P ss i j t.1 h

apart_at : (spots : List PortSpot) → AreApart spots → AreOnce (map spot_jack spots)
unfolding AreApart
apart_at [] t i m j p q = absurd (none-some j p)
apart_at (s ∷ ss) t zero zero j p q = refl
apart_at (s ∷ ss) t zero (suc m) j p q = absurd (all_at (λ k. k ≢ s.node) ss m j t.0 q (sym (same_Some s.node j p)))
apart_at (s ∷ ss) t (suc i) zero j p q = absurd (all_at (λ k. k ≢ s.node) ss i j t.0 p (sym (same_Some s.node j q)))
apart_at (s ∷ ss) t (suc i) (suc m) j p q = ap suc (apart_at ss t.1 i m j p q)

no_inner : (bs : List Bool) (i j : ℕ) → inner_in (slice_get (map plain_jack bs) i) ≡ Some j → ⊥
no_inner [] i j h = none-some j h
no_inner (b ∷ bs) zero j h = none-some j h
no_inner (b ∷ bs) (suc i) j h = no_inner bs i j h

-- a box that is a port on a side stands in the canvas that the box around holds, and is such a box by its kind
pub record Stands (g : Grove) (side : Side) (k j : ℕ) : Type 0 where
  pub canvas : ℕ
  pub held : canvas_in (get g.nodes k) ≡ Some canvas
  pub place : ℕ
  pub at : slice_get (keys_in (get g.boards canvas)) place ≡ Some j
  pub spot : IsSome (spot_at side (get g.nodes) j)

record StandsIn (g : Grove) (side : Side) (c j : ℕ) : Type 0 where
  place : ℕ
  at : slice_get (keys_in (get g.boards c)) place ≡ Some j
  spot : IsSome (spot_at side (get g.nodes) j)

pub port_stands : (g : Grove) (side : Side) (k i j : ℕ) → inner_in (slice_get (jacks_at side g k) i) ≡ Some j → Stands g side k j
port_stands g side k i j h = by_node (get g.nodes k) refl h
  where
    by_inner : (n : Node) (o : Option ℕ) → get g.nodes k ≡ Some n → n.inner ≡ o → inner_in (slice_get (jacks_by side g n.kind o) i) ≡ Some j → Stands g side k j
    by_inner n None e x y = absurd (no_inner _ i j y)
    by_inner n (Some c) e x y =
        let s = all_at (StandsIn g side c) (ports_among side (get g.nodes) (keys_in (get g.boards c))) i j
        (all_among (StandsIn g side c) (get g.nodes) side (keys_in (get g.boards c)) (λ m n' at is. record { place = m; at = at; spot = is })) y in
        record { canvas = c; held = ap canvas_in e ∙ x; place = s.place; at = s.at; spot = s.spot }

    by_node : (o : Option Node) → get g.nodes k ≡ o → inner_in (slice_get (jacks_in side g o) i) ≡ Some j → Stands g side k j
    by_node None e y = absurd (none-some j y)
    by_node (Some n) e y = by_inner n n.inner e refl y

-- no box is two ports on one side
pub jacks_once : (g : Grove) (side : Side) (k : ℕ) → AreOwn (get g.nodes) (get g.boards) → AreOnce (jacks_at side g k)
jacks_once g side k own = by_node (get g.nodes k)
  where
    by_inner : (n : Node) (o : Option ℕ) → AreOnce (jacks_by side g n.kind o)
    by_inner n None = λ i m j p q. absurd (no_inner _ i j p)
    by_inner n (Some c) = apart_at (ports_among side (get g.nodes) (keys_in (get g.boards c))) (apart_among (get g.nodes) side (keys_in (get g.boards c)) (own.once c))

    by_node : (o : Option Node) → AreOnce (jacks_in side g o)
    by_node None = λ i m j p q. absurd (none-some j p)
    by_node (Some n) = by_inner n n.inner

kinds_apart : (k : Kind) → IsSome (inlet_signal k) → IsSome (outlet_signal k) → ⊥
kinds_apart (kind.Glue (glue.Port side.Inlet)) a b = true≢false (sym b)
kinds_apart (kind.Signal signal.Inlet) a b = true≢false (sym b)
kinds_apart _ a b = true≢false (sym a)

-- no box is a port on both sides
pub sides_apart : (nodes : ℕ → Option Node) (j : ℕ) → IsSome (spot_at Inlets nodes j) → IsSome (spot_at Outlets nodes j) → ⊥
sides_apart nodes j a b = by_node (nodes j) a b
  where
    some : (x : ℤ) (o : Option Bool) → IsSome (spot_by j x o) → IsSome o
    some x None h = h
    some x (Some v) h = refl

    by_node : (o : Option Node) → IsSome (option_and_then (λ (n : Node). spot_by j n.element.x (port_signal Inlets n.kind)) o)
        → IsSome (option_and_then (λ (n : Node). spot_by j n.element.x (port_signal Outlets n.kind)) o) → ⊥
    by_node None x y = true≢false (sym x)
    by_node (Some n) x y = kinds_apart n.kind (some n.element.x (inlet_signal n.kind) x) (some n.element.x (outlet_signal n.kind) y)

pub same_side : (nodes : ℕ → Option Node) (s t : Side) (j : ℕ) → IsSome (spot_at s nodes j) → IsSome (spot_at t nodes j) → s ≡ t
same_side nodes Inlets Inlets j a b = refl
same_side nodes Inlets Outlets j a b = absurd (sides_apart nodes j a b)
same_side nodes Outlets Inlets j a b = absurd (sides_apart nodes j b a)
same_side nodes Outlets Outlets j a b = refl

-- where a box is a port twice, it is the same port
pub port_once : (g : Grove) (s t : Side) (k l i m j : ℕ) → AreOwn (get g.nodes) (get g.boards) → HoldAlone g → inner_in (slice_get (jacks_at s g k) i) ≡ Some j
    → inner_in (slice_get (jacks_at t g l) m) ≡ Some j → (k ≡ l) × (i ≡ m)
port_once g s t k l i m j own alone p q =
    let a = port_stands g s k i j p in
    let b = port_stands g t l m j q in
    let canvas = same_Some a.canvas b.canvas (sym (own.home a.canvas a.place j a.at) ∙ own.home b.canvas b.place j b.at) in
    let around = alone k l b.canvas (a.held ∙ ap (λ (c : ℕ). Some c) canvas) b.held in
    let side = same_side (get g.nodes) s t j a.spot b.spot in
    (around, jacks_once g t l own i m j (ap (λ (x : Side). inner_in (slice_get (jacks_at x g l) i)) (sym side) ∙ ap (λ (n : ℕ). inner_in (slice_get (jacks_at s g n) i)) (sym around) ∙ p) q)
