-- Signal wires of boxes, found again at their outlets.
use Rattle.std.proofs.Common.{arith, ◌≡◌, ℕ, zero, suc, ◌+◌, ◌<◌, ◌==◌, true, List, [], ◌∷◌, map, length, refl, sym, ap, ◌∙◌, subst}
use Rattle.std.specs.Prelude.{Some, slice_get}
use Rattle.std.specs.List.{AllByRecursion}
use Rattle.std.proofs.lemmas.List.{map-append}
use Rattle.std.proofs.lemmas.Option.{none-some, same_Some}
use Rattle.slab.specs.Slab.{get}
use Rattle.pd_order.specs.Graph.{tally}
use Rattle.pd_order.proofs.Basics.{by_test, same_node, in_rest, tally-append}
use Rattle.pd_chain.specs.declared.graph.SignalWire.{SignalWire}
use Rattle.pd_grove.specs.declared.grove.Grove.{Grove}
use Rattle.pd_grove.specs.declared.ports.Side.{Side}
use Rattle.pd_grove.specs.declared.ports.Side.TheVariants.{Inlets, Outlets}
use Rattle.pd_web.specs.declared.jacks.Jack.{Jack}
use Rattle.pd_web.specs.declared.web.Hop.{Hop}
use Rattle.pd_web.specs.declared.web.Web.{Web}
use Rattle.pd_web.specs.Hops.{ports_told, jack_told, signal_in, fan_hops}
use Rattle.pd_web.specs.Jacks.{jacks_at}
use Rattle.pd_patch.specs.Linked.{signal_sinks, ShareCanvas, StayInside}
use Rattle.pd_patch.specs.Orders.{is_signal_node, is_heard, wires_by, wires_from, wires_below}
use Rattle.pd_patch.proofs.KindLemmas.{signal_node}

abbrev pub sinks_of : List SignalWire → List ℕ
sinks_of ws = map (λ (v : SignalWire). v.sink) ws

-- a hop of these that is heard
pub record FoundIn (w : Web) (hops : List Hop) (x : ℕ) : Type 0 where
  pub place : ℕ
  pub hop : Hop
  pub stands : slice_get hops place ≡ Some hop
  pub to : hop.node ≡ x
  pub heard : is_heard w hop ≡ true

found_later : (w : Web) (h : Hop) (hops : List Hop) (x : ℕ) → FoundIn w hops x → FoundIn w (h ∷ hops) x
found_later w h hops x f = record { place = suc f.place; hop = f.hop; stands = f.stands; to = f.to; heard = f.heard }

hop_found : (w : Web) (u : ℕ) (hops : List Hop) (x : ℕ) → 0 < tally x (sinks_of (wires_by w u hops)) → FoundIn w hops x
hop_found w u [] x l = absurd (omega (arith, l))
hop_found w u (h ∷ hops) x l = by_test (is_heard w h)
    (λ t. let l' : 0 < tally x (h.node ∷ sinks_of (wires_by w u hops)) = rw t at l in
    by_test (h.node == x)
    (λ s. record { place = 0; hop = h; stands = refl; to = same_node h.node x s; heard = t })
    (λ f. found_later w h hops x (hop_found w u hops x (in_rest x h.node (sinks_of (wires_by w u hops)) f l'))))
    (λ f. let l' : 0 < tally x (sinks_of (wires_by w u hops)) = rw f at l in found_later w h hops x (hop_found w u hops x l'))

-- an outlet from which a signal wire leads to a box
pub record IsHeardFrom (w : Web) (u x : ℕ) : Type 0 where
  pub outlet : ℕ
  pub sounds : signal_in (jack_told w Outlets u outlet) ≡ true
  pub found : FoundIn w (fan_hops w u outlet) x

outlet_found : (w : Web) (u o x : ℕ) → 0 < tally x (sinks_of (wires_from w u o)) → IsHeardFrom w u x
outlet_found w u o x l = by_test (signal_in (jack_told w Outlets u o))
    (λ t. let l' : 0 < tally x (sinks_of (wires_by w u (fan_hops w u o))) = rw t at l in
    record { outlet = o; sounds = t; found = hop_found w u (fan_hops w u o) x l' })
    (λ f. let l' : 0 < tally x (sinks_of []) = rw f at l in absurd (omega (arith, l')))

-- the sinks of one outlet more
pub sinks_parts : (w : Web) (u n x : ℕ) → tally x (sinks_of (wires_below w u (suc n))) ≡ tally x (sinks_of (wires_below w u n)) + tally x (sinks_of (wires_from w u n))
sinks_parts w u n x =
    ap (tally x) (map-append (λ (v : SignalWire). v.sink) (wires_below w u n) (wires_from w u n)) ∙ tally-append x (sinks_of (wires_below w u n)) (sinks_of (wires_from w u n))

below_found : (w : Web) (u n x : ℕ) → 0 < tally x (sinks_of (wires_below w u n)) → IsHeardFrom w u x
below_found w u zero x l = absurd (omega (arith, l))
below_found w u (suc n) x l =
    let parts = sinks_parts w u n x in
    either (tally x (sinks_of (wires_below w u n))) (tally x (sinks_of (wires_from w u n))) (below_found w u n x) (outlet_found w u n x) (omega (arith, l, parts)) where
      either : (a b : ℕ) → (0 < a → IsHeardFrom w u x) → (0 < b → IsHeardFrom w u x) → 0 < a + b → IsHeardFrom w u x
      either zero b f g k = g (omega (arith, k))
      either (suc a) b f g k = f (omega arith)

-- a box to which a signal wire leads is fed by an outlet
pub heard_from : (w : Web) (u x : ℕ) → 0 < tally x (signal_sinks w u) → IsHeardFrom w u x
heard_from w u x l = below_found w u (length (ports_told w Outlets u)) x l

pub all_at : {X : Type 0} (P : X → Type 0) (xs : List X) (i : ℕ) (x : X) → AllByRecursion P xs → slice_get xs i ≡ Some x → P x
all_at P [] i x h e = absurd (none-some x e)
all_at P (y ∷ ys) zero x h e = subst P (same_Some y x e) h.0
all_at P (y ∷ ys) (suc i) x h e = all_at P ys i x h.1 e

-- a box with such a port stands in the signal order
pub sounding : (g : Grove) (w : Web) (side : Side) (k i : ℕ) → ports_told w side k ≡ jacks_at side g k → signal_in (jack_told w side k i) ≡ true → is_signal_node (get g.nodes k) ≡ true
sounding g w side k i ports h = signal_node side g (get g.nodes k) i (ap (λ (js : List Jack). signal_in (slice_get js i)) (sym ports) ∙ h)

-- two boxes that a signal wire joins
pub record AreJoined (g : Grove) (u x : ℕ) : Type 0 where
  pub together : ShareCanvas g u x
  pub source : is_signal_node (get g.nodes u) ≡ true
  pub sink : is_signal_node (get g.nodes x) ≡ true

pub joined_boxes : (g : Grove) (w : Web) (u x : ℕ) → ((side : Side) (k : ℕ) → ports_told w side k ≡ jacks_at side g k) → StayInside g w → 0 < tally x (signal_sinks w u) → AreJoined g u x
joined_boxes g w u x ports inside l =
    let h = heard_from w u x l in
    let f = h.found in
    let share : ShareCanvas g u f.hop.node = all_at (λ (y : Hop). ShareCanvas g u y.node) (fan_hops w u h.outlet) f.place f.hop (inside u h.outlet) f.stands in
    let sink : is_signal_node (get g.nodes f.hop.node) ≡ true = sounding g w Inlets f.hop.node f.hop.port (ports Inlets f.hop.node) f.heard in
    record {
      together = subst (λ (y : ℕ). ShareCanvas g u y) f.to share;
      source = sounding g w Outlets u h.outlet (ports Outlets u) h.sounds;
      sink = subst (λ (y : ℕ). is_signal_node (get g.nodes y) ≡ true) f.to sink;
    }
