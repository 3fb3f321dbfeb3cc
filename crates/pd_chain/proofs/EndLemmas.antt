-- How many ends of wires there are.
use Rattle.std.proofs.Common.{◌≡◌, ℕ, ◌+◌, ◌*◌, ◌≤◌, ◌==◌, true, false, List, [], ◌∷◌, length, refl, sym, arith}
use Rattle.pd_order.specs.Graph.{Graph, tally, total, ends}
use Rattle.pd_order.proofs.Basics.{by_test, same_node, same_test, other_node, other_test}
use Rattle.pd_chain.specs.declared.graph.SignalWire.{SignalWire}
use Rattle.pd_chain.specs.Wires.{sources_into, sinks_from, IsCanvas}
use Rattle.pd_chain.specs.Tables.{Draws}
use Rattle.pd_chain.proofs.PlaceLemmas.{length_alike}

none_at : (ss : List ℕ) → total (λ x. 0) ss ≡ 0
none_at [] = refl
none_at (s ∷ ss) = let k = none_at ss in omega (arith, k)

one_more_into : (w : SignalWire) (ws : List SignalWire) (ss : List ℕ) → total (λ x. length (sources_into (w ∷ ws) x)) ss ≡ tally w.sink ss + total (λ x. length (sources_into ws x)) ss
one_more_into w ws [] = refl
one_more_into w ws (s ∷ ss) =
    let k = one_more_into w ws ss in
    by_test (w.sink == s)
    (λ t. let u : (s == w.sink) ≡ true = rw (same_node w.sink s t) (same_test s) in rw (t, u) (omega (arith, k)))
    (λ t. let u : (s == w.sink) ≡ false = other_test s w.sink (λ e. other_node w.sink s t (sym e)) in rw (t, u) (omega (arith, k)))

one_more_from : (w : SignalWire) (ws : List SignalWire) (ss : List ℕ) → total (λ x. length (sinks_from (w ∷ ws) x)) ss ≡ tally w.source ss + total (λ x. length (sinks_from ws x)) ss
one_more_from w ws [] = refl
one_more_from w ws (s ∷ ss) =
    let k = one_more_from w ws ss in
    by_test (w.source == s)
    (λ t. let u : (s == w.source) ≡ true = rw (same_node w.source s t) (same_test s) in rw (t, u) (omega (arith, k)))
    (λ t. let u : (s == w.source) ≡ false = other_test s w.source (λ e. other_node w.source s t (sym e)) in rw (t, u) (omega (arith, k)))

-- each wire comes in at one of them at most
sinks_few : (ws : List SignalWire) (ss : List ℕ) → ((x : ℕ) → tally x ss ≤ 1) → total (λ x. length (sources_into ws x)) ss ≤ length ws
sinks_few [] ss once = let k = none_at ss in omega (arith, k)
sinks_few (w ∷ ws) ss once =
    let k = sinks_few ws ss once in
    let e = one_more_into w ws ss in
    let o = once w.sink in omega (arith, k, e, o)

-- and goes out at one of them at most
sources_few : (ws : List SignalWire) (ss : List ℕ) → ((x : ℕ) → tally x ss ≤ 1) → total (λ x. length (sinks_from ws x)) ss ≤ length ws
sources_few [] ss once = let k = none_at ss in omega (arith, k)
sources_few (w ∷ ws) ss once =
    let k = sources_few ws ss once in
    let e = one_more_from w ws ss in
    let o = once w.source in omega (arith, k, e, o)

drawn_ends : (g : Graph) (ns ss : List ℕ) (ws : List SignalWire) → Draws g ns ws → total (ends g) ss ≡ total (λ x. length (sources_into ws x)) ss + total (λ x. length (sinks_from ws x)) ss
drawn_ends g ns [] ws d = refl
drawn_ends g ns (s ∷ ss) ws d =
    let k = drawn_ends g ns ss ws d in
    let a = length_alike (g.feeders s) (sources_into ws s) (d.feeders s) in
    let b = length_alike (g.followers s) (sinks_from ws s) (d.followers s) in
    omega (arith, k, a, b)

pub few_ends : (g : Graph) (ns ss : List ℕ) (ws : List SignalWire) → Draws g ns ws → IsCanvas ns ss ws → total (ends g) ss ≤ 2 * length ws
few_ends g ns ss ws d c =
    let e = drawn_ends g ns ss ws d in
    let a = sinks_few ws ss c.signal_once in
    let b = sources_few ws ss c.signal_once in
    omega (arith, e, a, b)
