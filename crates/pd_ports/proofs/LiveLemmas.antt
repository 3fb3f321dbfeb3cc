-- The boxes that are ports of a canvas live.
use Rattle.std.proofs.Common.{◌≡◌, ℕ, ℤ, zero, suc, Bool, true, false, cond, int_lt, List, [], ◌∷◌, map, slice_get, Option, Some, None, IsSome, is_some, refl, ap, subst}
use Rattle.std.specs.Prelude.{option_and_then}
use Rattle.std.proofs.lemmas.Option.{none-some, same_Some}
use Rattle.slab.specs.Slab.{get}
use Rattle.pd_object.specs.declared.kinds.Kind.{Kind}
use Rattle.pd_grove.specs.declared.nodes.Node.{Node}
use Rattle.pd_grove.specs.declared.grove.Grove.{Grove}
use Rattle.pd_grove.specs.declared.ports.Side.{Side}
use Rattle.pd_grove.specs.declared.ports.PortSpot.{PortSpot}
use Rattle.pd_grove.specs.Ports.{port_signal, spot_by, spot_at, spot_placed, with_spot, ports_among}
use Rattle.pd_grove.specs.Telling.{keys_in}
use Rattle.pd_web.specs.Jacks.{plain_jack, spot_jack, jacks_by, jacks_in}
use Rattle.pd_web.specs.Homes.{inner_in, IsPortOf}

-- every box that is a port lives
AllLive : (ℕ → Option Node) → List PortSpot → Type 0
AllLive nodes [] = Unit {0}
AllLive nodes (s ∷ ss) = IsSome (nodes s.node) × AllLive nodes ss

live_cond : (nodes : ℕ → Option Node) (b : Bool) (p q : PortSpot) (placed qs : List PortSpot) → IsSome (nodes p.node) → IsSome (nodes q.node) → AllLive nodes qs → AllLive nodes placed → AllLive nodes (cond b (q ∷ placed) (p ∷ q ∷ qs))
unfolding AllLive
live_cond nodes true p q placed qs hp hq hs t = (hq, t)
live_cond nodes false p q placed qs hp hq hs t = (hp, (hq, hs))

live_placed : (nodes : ℕ → Option Node) (p : PortSpot) (qs : List PortSpot) → IsSome (nodes p.node) → AllLive nodes qs → AllLive nodes (spot_placed p qs)
unfolding AllLive
live_placed nodes p [] h t = (h, tt)
live_placed nodes p (q ∷ qs) h t = live_cond nodes (int_lt q.x p.x) p q (spot_placed p qs) qs h t.0 t.1 (live_placed nodes p qs h t.1)

live_with : (nodes : ℕ → Option Node) (o : Option PortSpot) (qs : List PortSpot) → ((s : PortSpot) → o ≡ Some s → IsSome (nodes s.node)) → AllLive nodes qs → AllLive nodes (with_spot o qs)
live_with nodes None qs h t = t
live_with nodes (Some s) qs h t = live_placed nodes s qs (h s refl) t

by_key : (nodes : ℕ → Option Node) (k : ℕ) (x : ℤ) (o : Option Bool) (s : PortSpot) → IsSome (nodes k) → spot_by k x o ≡ Some s → IsSome (nodes s.node)
by_key nodes k x None s l h = absurd (none-some s h)
by_key nodes k x (Some b) s l h =
    let P : ℕ → Type 0 = λ n. IsSome (nodes n) in
    subst P (ap (λ (y : PortSpot). y.node) (same_Some (record { node = k; x = x; is_signal = b }) s h)) l

spot_live : (nodes : ℕ → Option Node) (side : Side) (k : ℕ) (o : Option Node) (s : PortSpot) → nodes k ≡ o → option_and_then (λ (n : Node). spot_by k n.element.x (port_signal side n.kind)) o ≡ Some s → IsSome (nodes s.node)
spot_live nodes side k None s e h = absurd (none-some s h)
spot_live nodes side k (Some n) s e h = by_key nodes k n.element.x (port_signal side n.kind) s (ap is_some e) h

ports_live : (nodes : ℕ → Option Node) (side : Side) (keys : List ℕ) → AllLive nodes (ports_among side nodes keys)
unfolding AllLive
ports_live nodes side [] = tt
ports_live nodes side (k ∷ ks) = live_with nodes (spot_at side nodes k) (ports_among side nodes ks) (λ s h. spot_live nodes side k (nodes k) s refl h) (ports_live nodes side ks)

inner_spot : (nodes : ℕ → Option Node) (spots : List PortSpot) (i j : ℕ) → AllLive nodes spots → inner_in (slice_get (map spot_jack spots) i) ≡ Some j → IsSome (nodes j)
unfolding AllLive
inner_spot nodes [] i j t h = absurd (none-some j h)
inner_spot nodes (s ∷ ss) zero j t h = let P : ℕ → Type 0 = λ n. IsSome (nodes n) in subst P (same_Some s.node j h) t.0
inner_spot nodes (s ∷ ss) (suc i) j t h = inner_spot nodes ss i j t.1 h

inner_plain : (bs : List Bool) (i j : ℕ) → inner_in (slice_get (map plain_jack bs) i) ≡ Some j → ⊥
inner_plain [] i j h = none-some j h
inner_plain (b ∷ bs) zero j h = none-some j h
inner_plain (b ∷ bs) (suc i) j h = inner_plain bs i j h

inner_by : (side : Side) (g : Grove) (kind : Kind) (o : Option ℕ) (i j : ℕ) → inner_in (slice_get (jacks_by side g kind o) i) ≡ Some j → IsSome (get g.nodes j)
inner_by side g kind None i j h = absurd (inner_plain _ i j h)
inner_by side g kind (Some c) i j h = inner_spot (get g.nodes) (ports_among side (get g.nodes) (keys_in (get g.boards c))) i j (ports_live (get g.nodes) side (keys_in (get g.boards c))) h

inner_live : (side : Side) (g : Grove) (o : Option Node) (i j : ℕ) → inner_in (slice_get (jacks_in side g o) i) ≡ Some j → IsSome (get g.nodes j)
inner_live side g None i j h = absurd (none-some j h)
inner_live side g (Some n) i j h = inner_by side g n.kind n.inner i j h

pub port_lives : (g : Grove) (j k i : ℕ) → IsPortOf g j k i → IsSome (get g.nodes j)
port_lives g j k i is = inner_live is.side g (get g.nodes k) i j is.told
