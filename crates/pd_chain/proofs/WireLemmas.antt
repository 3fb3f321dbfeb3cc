-- The graph of a canvas's wires.
use Rattle.std.proofs.Common.{◌≡◌, ℕ, ◌<◌, ◌≤◌, ◌==◌, List, [], ◌∷◌, map, length, refl, sym, ◌∙◌, arith}
use Rattle.pd_order.specs.Graph.{Graph, tally, IsLawful, IsOrder}
use Rattle.pd_order.proofs.Basics.{by_test, in_rest}
use Rattle.pd_order.proofs.SameLemmas.{same_order}
use Rattle.pd_chain.specs.declared.graph.SignalWire.{SignalWire}
use Rattle.pd_chain.specs.Entries.{values_at}
use Rattle.pd_chain.specs.Wires.{place_of, sources_into, sinks_from, graph_of, IsCanvas, entry_into, entry_from}
use Rattle.pd_chain.specs.Tables.{Draws}
use Rattle.pd_chain.proofs.PlaceLemmas.{place_once, length_alike}

pub values_into : (ws : List SignalWire) (x : ℕ) → values_at (map entry_into ws) x ≡ sources_into ws x
values_into [] x = refl
values_into (w ∷ ws) x = by_test (w.sink == x)
    (λ t. rw (t, values_into ws x) refl)
    (λ t. rw t (values_into ws x))

pub values_from : (ws : List SignalWire) (x : ℕ) → values_at (map entry_from ws) x ≡ sinks_from ws x
values_from [] x = refl
values_from (w ∷ ws) x = by_test (w.source == x)
    (λ t. rw (t, values_from ws x) refl)
    (λ t. rw t (values_from ws x))

pub joined : (ws : List SignalWire) (x u : ℕ) → tally u (sources_into ws x) ≡ tally x (sinks_from ws u)
joined [] x u = refl
joined (w ∷ ws) x u = let k : tally u (sources_into ws x) ≡ tally x (sinks_from ws u) = joined ws x u in
    by_test (w.sink == x)
    (λ s. by_test (w.source == u) (λ t. rw (s, t, s) (omega arith)) (λ t. rw (s, t) (omega arith)))
    (λ s. by_test (w.source == u) (λ t. rw (s, t, s) (omega arith)) (λ t. rw (s, t) (omega arith)))

pub source_there : (ws : List SignalWire) (x u : ℕ) → 0 < tally u (sources_into ws x) → 0 < tally u (map (λ (w : SignalWire). w.source) ws)
source_there [] x u h = absurd (omega arith)
source_there (w ∷ ws) x u h = by_test (w.source == u)
    (λ t. rw t (omega arith))
    (λ t. by_test (w.sink == x)
    (λ s. let h' : 0 < tally u (w.source ∷ sources_into ws x) = rw s at h in let k : 0 < tally u (map (λ (v : SignalWire). v.source) ws) = source_there ws x u (in_rest u w.source (sources_into ws x) t h') in omega arith)
    (λ s. let h' : 0 < tally u (sources_into ws x) = rw s at h in let k : 0 < tally u (map (λ (v : SignalWire). v.source) ws) = source_there ws x u h' in omega arith))

pub sink_there : (ws : List SignalWire) (x u : ℕ) → 0 < tally u (sources_into ws x) → 0 < tally x (map (λ (w : SignalWire). w.sink) ws)
sink_there [] x u h = absurd (omega arith)
sink_there (w ∷ ws) x u h = by_test (w.sink == x)
    (λ s. rw s (omega arith))
    (λ s. let h' : 0 < tally u (sources_into ws x) = rw s at h in let k : 0 < tally x (map (λ (v : SignalWire). v.sink) ws) = sink_there ws x u h' in omega arith)

pub few_into : (ws : List SignalWire) (x : ℕ) → length (sources_into ws x) ≤ length ws
few_into [] x = omega arith
few_into (w ∷ ws) x = let k : length (sources_into ws x) ≤ length ws = few_into ws x in
    by_test (w.sink == x) (λ t. rw t (omega arith)) (λ t. rw t (omega arith))

pub drawn_lawful : (g : Graph) (ns ss : List ℕ) (ws : List SignalWire) → Draws g ns ws → IsCanvas ns ss ws → length ws < 4294967295 → IsLawful g ss
drawn_lawful g ns ss ws d c few = record {
  once = c.signal_once;
  apart = λ x y a b e. place_once ns x y (c.among x a) (c.among y b) (sym (d.ranks x (c.among x a)) ∙ e ∙ d.ranks y (c.among y b));
  joined = λ x u. d.feeders x u ∙ joined ws x u ∙ sym (d.followers u x);
  sources = λ x u h. c.sources u (source_there ws x u (let q : tally u (g.feeders x) ≡ tally u (sources_into ws x) = d.feeders x u in omega arith));
  sinks = λ x u h. c.sinks x (sink_there ws x u (let q : tally u (g.feeders x) ≡ tally u (sources_into ws x) = d.feeders x u in omega arith));
  few = λ x. let a : length (g.feeders x) ≡ length (sources_into ws x) = length_alike (g.feeders x) (sources_into ws x) (d.feeders x) in
      let b : length (sources_into ws x) ≤ length ws = few_into ws x in omega arith;
}

pub drawn_order : (g : Graph) (ns ss chain stuck : List ℕ) (ws : List SignalWire) → Draws g ns ws → IsCanvas ns ss ws → IsOrder g ss chain stuck → IsOrder (graph_of ns ws) ss chain stuck
drawn_order g ns ss chain stuck ws d c o = same_order g (graph_of ns ws) ss ss chain stuck
    (record {
      ranks = λ x y a b.
          let p : g.rank x ≡ place_of ns x = d.ranks x (c.among x a) in
          let q : g.rank y ≡ place_of ns y = d.ranks y (c.among y b) in (λ l. omega arith, λ l. omega arith);
      feeders = λ x u _. d.feeders x u;
    }) (λ x. refl) o
