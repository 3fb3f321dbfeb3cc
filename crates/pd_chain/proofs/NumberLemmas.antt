-- Orders by the numbers of boxes.
use Rattle.std.proofs.Common.{◌≡◌, ℕ, ◌<◌, ◌≤◌, ◌==◌, true, false, List, [], ◌∷◌, map, length, refl, sym, ap, subst, arith}
use Rattle.pd_order.specs.Graph.{tally, IsLawful, IsOrder}
use Rattle.pd_order.proofs.Basics.{by_test, same_node, same_test, other_node, other_test}
use Rattle.pd_order.proofs.SameLemmas.{same_order}
use Rattle.pd_order.proofs.UniqueLemmas.{one_order}
use Rattle.pd_chain.specs.declared.graph.SignalWire.{SignalWire}
use Rattle.pd_chain.specs.Wires.{place_of, sources_into, graph_of, IsCanvas}
use Rattle.pd_chain.specs.Numbers.{numbers_of, by_number, graph_by_number, SameByNumber, OrdersAgree}
use Rattle.pd_chain.proofs.PlaceLemmas.{place_once}
use Rattle.pd_chain.proofs.WireLemmas.{joined, source_there, sink_there, few_into}
use Rattle.pd_chain.proofs.RenameLemmas.{IsRenamed, IsApart, AreAmong, tally-map, named, renamed_order}

sources-by_number : (ns ss : List ℕ) (ws : List SignalWire) (x : ℕ) → IsApart (place_of ns) ss → AreAmong (map (λ (w : SignalWire). w.sink) ws) ss → 0 < tally x ss →
    sources_into (map (by_number ns) ws) (place_of ns x) ≡ map (place_of ns) (sources_into ws x)
sources-by_number ns ss [] x p a h = refl
sources-by_number ns ss (w ∷ ws) x p a h =
    let k : sources_into (map (by_number ns) ws) (place_of ns x) ≡ map (place_of ns) (sources_into ws x) = sources-by_number ns ss ws x p (λ z l. a z (omega arith)) h in
    by_test (w.sink == x)
    (λ t. let e : w.sink ≡ x = same_node w.sink x t in
    let s : (place_of ns w.sink == place_of ns x) ≡ true = rw e (same_test (place_of ns x)) in
    rw (t, s) (ap (λ (l : List ℕ). place_of ns w.source ∷ l) k))
    (λ t. let there : 0 < tally w.sink ss = a w.sink (rw (same_test w.sink) (omega arith)) in
    let s : (place_of ns w.sink == place_of ns x) ≡ false = other_test (place_of ns w.sink) (place_of ns x) (λ e. other_node w.sink x t (p w.sink x there h e)) in
    rw (t, s) k)

canvas_apart : (ns ss : List ℕ) (ws : List SignalWire) → IsCanvas ns ss ws → IsApart (place_of ns) ss
canvas_apart ns ss ws c = λ x y a b e. place_once ns x y (c.among x a) (c.among y b) e

canvas_renamed : (ns ss : List ℕ) (ws : List SignalWire) → IsCanvas ns ss ws → IsRenamed (place_of ns) ss (graph_of ns ws) (graph_by_number ns ws)
canvas_renamed ns ss ws c = record {
  apart = canvas_apart ns ss ws c;
  ranks = λ x h. refl;
  feeders = λ x h. sources-by_number ns ss ws x (canvas_apart ns ss ws c) c.sinks h;
  among = λ x u h l. c.sources u (source_there ws x u l);
}

pub order_by_number : (ns ss chain stuck : List ℕ) (ws : List SignalWire) → IsCanvas ns ss ws → IsOrder (graph_of ns ws) ss chain stuck → IsOrder (graph_by_number ns ws) (numbers_of ns ss) (numbers_of ns chain) (numbers_of ns stuck)
order_by_number ns ss chain stuck ws c o = renamed_order (place_of ns) ss chain stuck (graph_of ns ws) (graph_by_number ns ws) (canvas_renamed ns ss ws c) o

-- the number of a source is that of a signal box
source_numbered : (ns ss : List ℕ) (ws : List SignalWire) (y : ℕ) → IsCanvas ns ss ws → 0 < tally y (map (λ (w : SignalWire). w.source) (map (by_number ns) ws)) → 0 < tally y (numbers_of ns (map (λ (w : SignalWire). w.source) ws))
source_numbered ns ss ws y c h = subst (λ (l : List ℕ). 0 < tally y l) (again ws) h
  where
    again : (vs : List SignalWire) → map (λ (w : SignalWire). w.source) (map (by_number ns) vs) ≡ map (place_of ns) (map (λ (w : SignalWire). w.source) vs)
    again [] = refl
    again (v ∷ vs) = ap (λ (l : List ℕ). place_of ns v.source ∷ l) (again vs)

sink_numbered : (ns ss : List ℕ) (ws : List SignalWire) (y : ℕ) → IsCanvas ns ss ws → 0 < tally y (map (λ (w : SignalWire). w.sink) (map (by_number ns) ws)) → 0 < tally y (numbers_of ns (map (λ (w : SignalWire). w.sink) ws))
sink_numbered ns ss ws y c h = subst (λ (l : List ℕ). 0 < tally y l) (again ws) h
  where
    again : (vs : List SignalWire) → map (λ (w : SignalWire). w.sink) (map (by_number ns) vs) ≡ map (place_of ns) (map (λ (w : SignalWire). w.sink) vs)
    again [] = refl
    again (v ∷ vs) = ap (λ (l : List ℕ). place_of ns v.sink ∷ l) (again vs)

numbered_among : (ns ss xs : List ℕ) (y : ℕ) → IsApart (place_of ns) ss → AreAmong xs ss → 0 < tally y (numbers_of ns xs) → 0 < tally y (numbers_of ns ss)
numbered_among ns ss xs y p a h =
    let w : (x : ℕ) × (0 < tally x xs) × (place_of ns x ≡ y) = named (place_of ns) xs y h in
    let n : 0 < tally w.0 ss = a w.0 w.1 in
    let e : tally (place_of ns w.0) (numbers_of ns ss) ≡ tally w.0 ss = tally-map (place_of ns) ss ss w.0 p (λ z l. l) n in
    subst (λ (v : ℕ). 0 < tally v (numbers_of ns ss)) w.2 (omega arith)

numbered_once : (ns ss : List ℕ) (y : ℕ) → IsApart (place_of ns) ss → ((x : ℕ) → tally x ss ≤ 1) → tally y (numbers_of ns ss) ≤ 1
numbered_once ns ss y p once = by_test (tally y (numbers_of ns ss) == 0)
    (λ t. let z : tally y (numbers_of ns ss) ≡ 0 = same_node (tally y (numbers_of ns ss)) 0 t in omega arith)
    (λ t. let o : tally y (numbers_of ns ss) ≡ 0 → ⊥ = other_node (tally y (numbers_of ns ss)) 0 t in
    let w : (x : ℕ) × (0 < tally x ss) × (place_of ns x ≡ y) = named (place_of ns) ss y (positive (tally y (numbers_of ns ss)) o) in
    let e : tally (place_of ns w.0) (numbers_of ns ss) ≡ tally w.0 ss = tally-map (place_of ns) ss ss w.0 p (λ z l. l) w.1 in
    let u : tally w.0 ss ≤ 1 = once w.0 in
    subst (λ (v : ℕ). tally v (numbers_of ns ss) ≤ 1) w.2 (omega arith))
  where
    positive : (n : ℕ) → (n ≡ 0 → ⊥) → 0 < n
    positive n h = grind arith

length-by_number : (ns : List ℕ) (ws : List SignalWire) → length (map (by_number ns) ws) ≡ length ws
length-by_number ns [] = refl
length-by_number ns (w ∷ ws) = let k : length (map (by_number ns) ws) ≡ length ws = length-by_number ns ws in omega arith

numbered_lawful : (ns ss : List ℕ) (ws : List SignalWire) → IsCanvas ns ss ws → length ws < 4294967295 → IsLawful (graph_by_number ns ws) (numbers_of ns ss)
numbered_lawful ns ss ws c few =
    let p : IsApart (place_of ns) ss = canvas_apart ns ss ws c in
    let vs : List SignalWire = map (by_number ns) ws in
    record {
      once = λ y. numbered_once ns ss y p c.signal_once;
      apart = λ x y a b e. e;
      joined = λ x u. joined vs x u;
      sources = λ x u h. numbered_among ns ss (map (λ (w : SignalWire). w.source) ws) u p c.sources (source_numbered ns ss ws u c (source_there vs x u h));
      sinks = λ x u h. numbered_among ns ss (map (λ (w : SignalWire). w.sink) ws) x p c.sinks (sink_numbered ns ss ws x c (sink_there vs x u h));
      few = λ x. (let a : length (sources_into vs x) ≤ length vs = few_into vs x in let b : length vs ≡ length ws = length-by_number ns ws in omega arith);
    }

pub orders_agree : (ns ss ns' ss' : List ℕ) (ws ws' : List SignalWire) → IsCanvas ns ss ws → IsCanvas ns' ss' ws' → length ws < 4294967295 → SameByNumber ns ss ws ns' ss' ws' → OrdersAgree ns ss ws ns' ss' ws'
orders_agree ns ss ns' ss' ws ws' c c' few s chain stuck chain' stuck' o o' =
    let q : IsOrder (graph_by_number ns ws) (numbers_of ns ss) (numbers_of ns chain) (numbers_of ns stuck) = order_by_number ns ss chain stuck ws c o in
    let q' : IsOrder (graph_by_number ns' ws') (numbers_of ns' ss') (numbers_of ns' chain') (numbers_of ns' stuck') = order_by_number ns' ss' chain' stuck' ws' c' o' in
    let m : IsOrder (graph_by_number ns ws) (numbers_of ns ss) (numbers_of ns' chain') (numbers_of ns' stuck') =
    same_order (graph_by_number ns' ws') (graph_by_number ns ws) (numbers_of ns' ss') (numbers_of ns ss) (numbers_of ns' chain') (numbers_of ns' stuck')
    (record { ranks = λ x y a b. (λ l. l, λ l. l); feeders = λ x u _. sym (s.feeders x u) }) (λ x. sym (s.boxes x)) q' in
    one_order (graph_by_number ns ws) (numbers_of ns ss) (numbered_lawful ns ss ws c few) (numbers_of ns chain) (numbers_of ns stuck) (numbers_of ns' chain') (numbers_of ns' stuck') q m
