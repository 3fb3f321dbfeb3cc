-- Links against the signal wires of boxes, and wires within canvases.
use Rattle.std.proofs.Common.{arith, ◌≡◌, ℕ, zero, suc, ◌+◌, ◌<◌, ◌≤◌, ◌==◌, true, false, cond, List, [], ◌∷◌, ◌++◌, map, filter, length, append-nil, refl, sym, ap, ◌∙◌, subst, inl, inr}
use Rattle.std.specs.Prelude.{Option, Some, None, slice_get, slice_index_or, option_map, ◌&&◌}
use Rattle.std.specs.List.{AllByRecursion}
use Rattle.std.proofs.lemmas.Bool.{cases_lt, and_parts}
use Rattle.std.proofs.lemmas.List.{get_or_past}
use Rattle.std.proofs.lemmas.List.Concat.{flat_map-append}
use Rattle.std.proofs.lemmas.Option.{slice_get-map, get_or_from_slice_get}
use Rattle.slab.specs.Slab.{get}
use Rattle.pd_canvas.specs.declared.wires.Wire.{Wire}
use Rattle.pd_order.specs.Graph.{tally}
use Rattle.pd_order.specs.Wired.{numbers_below}
use Rattle.pd_order.proofs.Basics.{by_test, same_node, same_test, tally-append}
use Rattle.pd_chain.specs.declared.graph.SignalWire.{SignalWire}
use Rattle.pd_chain.specs.Wires.{sources_into}
use Rattle.pd_chain.proofs.WireLemmas.{joined}
use Rattle.pd_links.specs.declared.links.Links.{Links}
use Rattle.pd_links.specs.Linked.{AreLinked}
use Rattle.pd_links.proofs.LinkLemmas.{into_parts}
use Rattle.pd_tree.specs.Ports.{fits, fits_between}
use Rattle.pd_tree.specs.Ports.{Sockets as Seen}
use Rattle.pd_grove.specs.declared.grove.Grove.{Grove}
use Rattle.pd_grove.specs.declared.ports.Side.TheVariants.{Outlets}
use Rattle.pd_web.specs.declared.jacks.Jack.{Jack}
use Rattle.pd_web.specs.declared.web.Hop.{Hop}
use Rattle.pd_web.specs.declared.web.Web.{Web}
use Rattle.pd_web.specs.Hops.{ports_told, jack_told, signal_in, fan_hops, places_of}
use Rattle.pd_web.specs.Jacks.{jacks_in}
use Rattle.pd_web.specs.declared.lines.Line.{Line}
use Rattle.pd_web.specs.Lines.{line_of, lines_at, lines_below, all_lines, fed_from, seen_at, boxes_in, wires_in}
use Rattle.pd_web.specs.Canvases.{keys_at}
use Rattle.pd_patch.specs.Grown.{AreLaid}
use Rattle.pd_patch.specs.Linked.{signal_sinks, HasLinks, ShareCanvas, StayInside}
use Rattle.pd_patch.specs.Orders.{is_heard, wires_by, wires_from, wires_below, box_wires, signal_wires_among}
use Rattle.pd_patch.proofs.CanvasLemmas.{all_append, all_passing, all_map, sink_there}

-- all these wires come from one box
abbrev AreFrom : ℕ → List SignalWire → Type 0
AreFrom k ws = AllByRecursion (λ v. v.source ≡ k) ws

hops_from : (w : Web) (k : ℕ) (hops : List Hop) → AreFrom k (wires_by w k hops)
hops_from w k [] = tt
hops_from w k (h ∷ hops) = by_test (is_heard w h)
    (λ t. rw t (refl, hops_from w k hops))
    (λ f. rw f (hops_from w k hops))

outlet_from : (w : Web) (k o : ℕ) → AreFrom k (wires_from w k o)
outlet_from w k o = by_test (signal_in (jack_told w Outlets k o))
    (λ t. rw t (hops_from w k (fan_hops w k o)))
    (λ f. rw f tt)

below_from : (w : Web) (k n : ℕ) → AreFrom k (wires_below w k n)
below_from w k zero = tt
below_from w k (suc n) = all_append (λ (v : SignalWire). v.source ≡ k) (wires_below w k n) (wires_from w k n) (below_from w k n) (outlet_from w k n)

-- wires of one box, counted at a sink
counted_from : (k : ℕ) (ws : List SignalWire) → AreFrom k ws → (u x : ℕ) → tally u (sources_into ws x) ≡ cond (k == u) (tally x (map (λ (v : SignalWire). v.sink) ws)) 0
counted_from k [] h u x = by_test (k == u) (λ t. rw t refl) (λ f. rw f refl)
counted_from k (v ∷ ws) h u x =
    let rest : tally u (sources_into ws x) ≡ cond (k == u) (tally x (map (λ (v : SignalWire). v.sink) ws)) 0 = counted_from k ws h.1 u x in
    one v.source v.sink u x (sources_into ws x) (map (λ (v : SignalWire). v.sink) ws) h.0 rest where
      one : (s t u x : ℕ) (us xs : List ℕ) → s ≡ k → tally u us ≡ cond (k == u) (tally x xs) 0 → tally u (cond (t == x) (s ∷ us) us) ≡ cond (k == u) (tally x (t ∷ xs)) 0
      one s t u x us xs e h = by_test (k == u)
          (λ p. let r : tally u us ≡ tally x xs = rw p at h in
          let q : (s == u) ≡ true = ap (λ z. z == u) e ∙ p in
          by_test (t == x) (λ y. simp (p, y, q) (omega (arith, r))) (λ n. simp (p, n) (omega (arith, r))))
          (λ p. let r : tally u us ≡ 0 = rw p at h in
          let q : (s == u) ≡ false = ap (λ z. z == u) e ∙ p in
          by_test (t == x) (λ y. simp (p, y, q) (omega (arith, r))) (λ n. simp (p, n) (omega (arith, r))))

-- the signal wires of a box, counted at a sink
counted_box : (w : Web) (k u x : ℕ) → tally u (sources_into (box_wires w k) x) ≡ cond (k == u) (tally x (signal_sinks w k)) 0
counted_box w k u x = counted_from k (box_wires w k) (below_from w k (length (ports_told w Outlets k))) u x

counted_parts : (w : Web) (k : ℕ) (ks : List ℕ) (u x : ℕ)
    → tally u (sources_into (signal_wires_among w (k ∷ ks)) x) ≡ tally u (sources_into (box_wires w k) x) + tally u (sources_into (signal_wires_among w ks) x)
counted_parts w k ks u x = ap (tally u) (into_parts (box_wires w k) (signal_wires_among w ks) x) ∙ tally-append u (sources_into (box_wires w k) x) (sources_into (signal_wires_among w ks) x)

-- no wires of a box that isn't among these
pub fed_none : (w : Web) (ks : List ℕ) (u x : ℕ) → tally u ks ≡ 0 → tally u (sources_into (signal_wires_among w ks) x) ≡ 0
fed_none w [] u x h = refl
fed_none w (k ∷ ks) u x h =
    let parts = counted_parts w k ks u x in
    by_test (k == u)
    (λ t. let one : 1 + tally u ks ≡ 0 = rw t at h in absurd (omega (arith, one)))
    (λ f. let none : 0 + tally u ks ≡ 0 = rw f at h in
    let first : tally u (sources_into (box_wires w k) x) ≡ 0 = rw f at (counted_box w k u x) in
    let rest = fed_none w ks u x (omega (arith, none)) in omega (arith, parts, first, rest))

-- of a box that is once among these, its signal wires
pub fed_one : (w : Web) (ks : List ℕ) (u x : ℕ) → tally u ks ≡ 1 → tally u (sources_into (signal_wires_among w ks) x) ≡ tally x (signal_sinks w u)
fed_one w [] u x h = absurd (omega (arith, h))
fed_one w (k ∷ ks) u x h =
    let parts = counted_parts w k ks u x in
    by_test (k == u)
    (λ t. let one : 1 + tally u ks ≡ 1 = rw t at h in
    let first : tally u (sources_into (box_wires w k) x) ≡ tally x (signal_sinks w k) = rw t at (counted_box w k u x) in
    let same : tally x (signal_sinks w k) ≡ tally x (signal_sinks w u) = ap (λ y. tally x (signal_sinks w y)) (same_node k u t) in
    let rest = fed_none w ks u x (omega (arith, one)) in omega (arith, parts, first, same, rest))
    (λ f. let none : 0 + tally u ks ≡ 1 = rw f at h in
    let first : tally u (sources_into (box_wires w k) x) ≡ 0 = rw f at (counted_box w k u x) in
    let rest = fed_one w ks u x (omega (arith, none)) in omega (arith, parts, first, rest))

below_parts : (n u : ℕ) → tally u (numbers_below n ++ n ∷ []) ≡ tally u (numbers_below n) + tally u (n ∷ [])
below_parts n u = tally-append u (numbers_below n) (n ∷ [])

past_none : (n u : ℕ) → n ≤ u → tally u (numbers_below n) ≡ 0
past_none zero u l = refl
past_none (suc n) u l =
    let rest = past_none n u (omega (arith, l)) in
    let parts = below_parts n u in
    by_test (n == u)
    (λ t. let e : n ≡ u = same_node n u t in absurd (omega (arith, l, e)))
    (λ f. let here : tally u (numbers_below n ++ n ∷ []) ≡ tally u (numbers_below n) + 0 = rw f at parts in omega (arith, here, rest))

below_one : (n u : ℕ) → u < n → tally u (numbers_below n) ≡ 1
below_one zero u l = absurd (omega (arith, l))
below_one (suc n) u l =
    let parts = below_parts n u in
    by_test (n == u)
    (λ t. let e : n ≡ u = same_node n u t in
    let here : tally u (numbers_below n ++ n ∷ []) ≡ tally u (numbers_below n) + 1 = rw t at parts in
    let rest = past_none n u (omega (arith, e)) in omega (arith, here, rest))
    (λ f. let here : tally u (numbers_below n ++ n ∷ []) ≡ tally u (numbers_below n) + 0 = rw f at parts in
    let other : n ≡ u → ⊥ = (λ e. not_same n u f e) in
    let rest = below_one n u (under n u l other) in omega (arith, here, rest)) where
      not_same : (n u : ℕ) → (n == u) ≡ false → n ≡ u → ⊥
      not_same n u f e = absurd (true_false (sym (subst (λ y. (n == y) ≡ true) e (same_test n)) ∙ f)) where
        true_false : true ≡ false → ⊥
        true_false q = cc

      under : (n u : ℕ) → u < suc n → (n ≡ u → ⊥) → u < n
      under n u l other = grind arith

-- the signal wires of one box more
pub among_next : (w : Web) (n : ℕ) (now new : List SignalWire) → new ≡ now ++ box_wires w n → now ≡ signal_wires_among w (numbers_below n) → new ≡ signal_wires_among w (numbers_below (n + 1))
among_next w n now new e h =
    let s : suc n ≡ n + 1 = omega arith in
    e ∙ ap (λ ws. ws ++ box_wires w n) h
    ∙ ap (λ ws. signal_wires_among w (numbers_below n) ++ ws) (sym (append-nil (box_wires w n)))
    ∙ sym (flat_map-append (box_wires w) (numbers_below n) (n ∷ []))
    ∙ ap (λ m. signal_wires_among w (numbers_below m)) s

-- where no box is, there is no signal wire
no_sinks : (g : Grove) (w : Web) (k : ℕ) → AreLaid g w → get g.nodes k ≡ None → signal_sinks w k ≡ []
no_sinks g w k L none =
    let no_ports : ports_told w Outlets k ≡ [] = L.ports Outlets k ∙ ap (jacks_in Outlets g) none in
    ap (λ (ports : List Jack). map (λ (v : SignalWire). v.sink) (wires_below w k (length ports))) no_ports

-- the links of all signal wires are those of each box
pub links_told : (g : Grove) (w : Web) (l : Links) (end : ℕ) (wires : List SignalWire) → AreLaid g w → length g.nodes.slots ≤ end → wires ≡ signal_wires_among w (numbers_below end) → AreLinked l wires → HasLinks w l
links_told g w l end wires L high same linked =
    let told : AreLinked l (signal_wires_among w (numbers_below end)) = subst (AreLinked l) same linked in
    let all = signal_wires_among w (numbers_below end) in
    let fed : (k j : ℕ) → tally k (sources_into all j) ≡ tally j (signal_sinks w k) = (λ (k j : ℕ). elim (cases_lt k end) [
      | inl less ↦ fed_one w (numbers_below end) k j (below_one end k less)
      | inr past ↦ fed_none w (numbers_below end) k j (past_none end k past) ∙ sym (ap (tally j) (no_sinks g w k L (get_or_past g.nodes.slots k None (omega (arith, high, past)))))
    ]) in
    record {
      followers = λ k j. told.followers k j ∙ sym (joined all j k) ∙ fed k j;
      feeders = λ k j. told.feeders j k ∙ fed k j;
    }

source_by : (f : ℕ → Seen) (w : Wire) (o : Option ℕ) (d : Option Seen) → fits_between (option_map f o) d w ≡ true → (x : ℕ) × (o ≡ Some x)
source_by f w None d h = cc
source_by f w (Some x) d h = (x, refl)

-- a wire that fits comes from a box of the canvas
source_there : (f : ℕ → Seen) (keys : List ℕ) (w : Wire) → fits (map f keys) w ≡ true → slice_get keys w.source ≡ Some (slice_index_or keys w.source 0)
source_there f keys w h =
    let s = source_by f w (slice_get keys w.source) (slice_get (map f keys) w.sink) (ap (λ o. fits_between o (slice_get (map f keys) w.sink) w) (sym (slice_get-map f keys w.source)) ∙ h) in
    s.1 ∙ ap (λ x. Some x) (sym (get_or_from_slice_get keys w.source s.0 0 s.1))

-- a line within a canvas
abbrev IsInside : Grove → Line → Type 0
IsInside g l = ShareCanvas g l.source l.sink

lines_inside : (g : Grove) (c : ℕ) → AllByRecursion (IsInside g) (lines_at g c)
lines_inside g c =
    let keys = keys_at g c in
    let one : (v : Wire) → fits (boxes_in g c) v ≡ true → IsInside g (line_of keys v) = (λ (v : Wire) (h : fits (boxes_in g c) v ≡ true). record {
      canvas = c;
      one = (v.source, source_there (seen_at g) keys v h);
      other = (v.sink, sink_there (seen_at g) keys v h);
    }) in
    all_map (IsInside g) (line_of keys) (filter (fits (boxes_in g c)) (wires_in (get g.boards c)))
    (all_passing (λ v. IsInside g (line_of keys v)) (fits (boxes_in g c)) (wires_in (get g.boards c)) one)

below_inside : (g : Grove) (n : ℕ) → AllByRecursion (IsInside g) (lines_below g n)
below_inside g zero = tt
below_inside g (suc n) = all_append (IsInside g) (lines_below g n) (lines_at g n) (below_inside g n) (lines_inside g n)

fed_inside : (g : Grove) (k o : ℕ) (ls : List Line) → AllByRecursion (IsInside g) ls → AllByRecursion (λ (p : ℕ × ℕ). ShareCanvas g k p.0) (fed_from k o ls)
fed_inside g k o [] h = tt
fed_inside g k o (l ∷ ls) h = by_test (l.source == k && l.outlet == o)
    (λ t. rw t (subst (λ s. ShareCanvas g s l.sink) (same_node l.source k (and_parts (l.source == k) (l.outlet == o) t).0) h.0, fed_inside g k o ls h.1))
    (λ f. rw f (fed_inside g k o ls h.1))

hops_inside : (g : Grove) (k : ℕ) (hops : List Hop) → AllByRecursion (λ (p : ℕ × ℕ). ShareCanvas g k p.0) (places_of hops) → AllByRecursion (λ (h : Hop). ShareCanvas g k h.node) hops
hops_inside g k [] h = tt
hops_inside g k (x ∷ hops) h = (h.0, hops_inside g k hops h.1)

-- wires that were laid stay in their canvases
pub laid_inside : (g : Grove) (w : Web) → AreLaid g w → StayInside g w
laid_inside g w L k o =
    hops_inside g k (fan_hops w k o)
    (subst (AllByRecursion (λ (p : ℕ × ℕ). ShareCanvas g k p.0)) (sym (L.fans k o)) (fed_inside g k o (all_lines g) (below_inside g (length g.boards.slots))))
