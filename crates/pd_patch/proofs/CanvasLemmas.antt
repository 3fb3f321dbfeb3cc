-- The signal boxes and signal wires of a canvas whose boxes stand in it alone.
use Rattle.std.proofs.Common.{arith, ◌≡◌, ℕ, zero, suc, ◌+◌, ◌<◌, ◌≤◌, ◌==◌, Bool, true, List, [], ◌∷◌, ◌++◌, map, filter, length, refl, sym, ap, ◌∙◌, subst}
use Rattle.std.specs.Prelude.{Option, Some, None, slice_get, slice_index_or, option_map, ◌&&◌}
use Rattle.std.specs.List.{AllByRecursion}
use Rattle.std.proofs.lemmas.Option.{same_Some, slice_get-map, get_or_from_slice_get}
use Rattle.slab.specs.Slab.{get}
use Rattle.pd_canvas.specs.declared.wires.Wire.{Wire}
use Rattle.pd_canvas.specs.Wiring.{fan_out}
use Rattle.pd_order.specs.Graph.{tally}
use Rattle.pd_order.proofs.Basics.{by_test, same_node, same_test}
use Rattle.pd_chain.specs.declared.graph.SignalWire.{SignalWire}
use Rattle.pd_chain.specs.Wires.{IsCanvas}
use Rattle.pd_tree.specs.Ports.{fits, fits_between}
use Rattle.pd_tree.specs.Ports.{Sockets as Seen}
use Rattle.pd_grove.specs.declared.grove.Grove.{Grove}
use Rattle.pd_grove.specs.Owning.{AreOwn}
use Rattle.pd_grove.specs.declared.ports.Side.{Side}
use Rattle.pd_grove.specs.declared.ports.Side.TheVariants.{Inlets, Outlets}
use Rattle.pd_web.specs.declared.web.Hop.{Hop}
use Rattle.pd_web.specs.declared.web.Web.{Web}
use Rattle.pd_web.specs.Hops.{ports_told, jack_told, signal_in, fan_hops, places_of}
use Rattle.pd_web.specs.Jacks.{jacks_at}
use Rattle.pd_web.specs.Lines.{all_lines, fed_from, seen_at, boxes_in, wires_in}
use Rattle.pd_web.specs.Canvases.{keys_at, IsOwn, sink_place, fitting, fed_in}
use Rattle.pd_web.proofs.NumberLemmas.{fed_by_number}
use Rattle.pd_patch.specs.Numbers.{AreApart}
use Rattle.pd_patch.specs.Grown.{AreLaid}
use Rattle.pd_patch.specs.Orders.{is_signal_node, signal_among, is_heard, wires_by, wires_from, wires_below, box_wires, signal_wires_among}
use Rattle.pd_patch.proofs.ListingLemmas.{place_in, counted_at}
use Rattle.pd_patch.proofs.KindLemmas.{signal_node}

apart_rest : (y : ℕ) (ys : List ℕ) → AreApart (y ∷ ys) → AreApart ys
apart_rest y ys h = λ i j k a b. let e : suc i ≡ suc j = h (suc i) (suc j) k a b in omega (arith, e)

apart_none : (y : ℕ) (ys : List ℕ) → AreApart (y ∷ ys) → tally y ys ≡ 0
apart_none y ys h = by_count (tally y ys) refl where
  by_count : (m : ℕ) → m ≡ tally y ys → tally y ys ≡ 0
  by_count zero e = sym e
  by_count (suc m) e =
      let p = place_in y ys (omega (arith, e)) in
      let twice : 0 ≡ suc p.0 = h 0 (suc p.0) y refl p.1 in
      absurd (omega (arith, twice))

-- a list of boxes that stand apart has none twice
pub once_apart : (xs : List ℕ) → AreApart xs → (x : ℕ) → tally x xs ≤ 1
once_apart [] h x = omega arith
once_apart (y ∷ ys) h x = by_test (y == x)
    (λ t. let none : tally x ys ≡ 0 = subst (λ z. tally z ys ≡ 0) (same_node y x t) (apart_none y ys h) in rw t (omega (arith, none)))
    (λ f. let rest = once_apart ys (apart_rest y ys h) x in rw f (omega (arith, rest)))

-- what is left of a list is in it as often at most
pub fewer_kept : (p : ℕ → Bool) (xs : List ℕ) (x : ℕ) → tally x (filter p xs) ≤ tally x xs
fewer_kept p [] x = omega arith
fewer_kept p (y ∷ ys) x = let rest = fewer_kept p ys x in by_test (p y)
    (λ t. rw t (omega (arith, rest)))
    (λ f. rw f (omega (arith, rest)))

-- what passes is left
pub kept_there : (p : ℕ → Bool) (xs : List ℕ) (x : ℕ) → p x ≡ true → 0 < tally x xs → 0 < tally x (filter p xs)
kept_there p [] x h l = absurd (omega (arith, l))
kept_there p (y ∷ ys) x h l = by_test (y == x)
    (λ t. let passes : p y ≡ true = ap p (same_node y x t) ∙ h in rw (passes, t) (omega arith))
    (λ f.
    let less : 0 < 0 + tally x ys = rw f at l in
    let rest = kept_there p ys x h (omega (arith, less)) in
    by_test (p y) (λ t. rw t (omega (arith, rest))) (λ g. rw g (omega (arith, rest))))

pub all_append : {X : Type 0} (P : X → Type 0) (xs ys : List X) → AllByRecursion P xs → AllByRecursion P ys → AllByRecursion P (xs ++ ys)
all_append P [] ys h k = k
all_append P (x ∷ xs) ys h k = (h.0, all_append P xs ys h.1 k)

pub all_kept : {X : Type 0} (P : X → Type 0) (p : X → Bool) (xs : List X) → AllByRecursion P xs → AllByRecursion P (filter p xs)
all_kept P p [] h = tt
all_kept P p (x ∷ xs) h = by_test (p x)
    (λ t. rw t (h.0, all_kept P p xs h.1))
    (λ f. rw f (all_kept P p xs h.1))

pub all_passing : {X : Type 0} (P : X → Type 0) (p : X → Bool) (xs : List X) → ((x : X) → p x ≡ true → P x) → AllByRecursion P (filter p xs)
all_passing P p [] h = tt
all_passing P p (x ∷ xs) h = by_test (p x)
    (λ t. rw t (h x t, all_passing P p xs h))
    (λ f. rw f (all_passing P p xs h))

pub all_map : {X Y : Type 0} (P : Y → Type 0) (f : X → Y) (xs : List X) → AllByRecursion (λ x. P (f x)) xs → AllByRecursion P (map f xs)
all_map P f [] h = tt
all_map P f (x ∷ xs) h = (h.0, all_map P f xs h.1)

-- both ends of a wire are among boxes
record IsWithin (signal : List ℕ) (w : SignalWire) : Type 0 where
  source : 0 < tally w.source signal
  sink : 0 < tally w.sink signal

sources_within : (signal : List ℕ) (ws : List SignalWire) → AllByRecursion (IsWithin signal) ws → (x : ℕ) → 0 < tally x (map (λ w. w.source) ws) → 0 < tally x signal
sources_within signal [] h x l = absurd (omega (arith, l))
sources_within signal (w ∷ ws) h x l = by_test (w.source == x)
    (λ t. subst (λ y. 0 < tally y signal) (same_node w.source x t) h.0.source)
    (λ f. let less : 0 < 0 + tally x (map (λ w. w.source) ws) = rw f at l in sources_within signal ws h.1 x (omega (arith, less)))

sinks_within : (signal : List ℕ) (ws : List SignalWire) → AllByRecursion (IsWithin signal) ws → (x : ℕ) → 0 < tally x (map (λ w. w.sink) ws) → 0 < tally x signal
sinks_within signal [] h x l = absurd (omega (arith, l))
sinks_within signal (w ∷ ws) h x l = by_test (w.sink == x)
    (λ t. subst (λ y. 0 < tally y signal) (same_node w.sink x t) h.0.sink)
    (λ f. let less : 0 < 0 + tally x (map (λ w. w.sink) ws) = rw f at l in sinks_within signal ws h.1 x (omega (arith, less)))

-- if a place is an inlet that carries signals, its box is among these
abbrev IsSafe : Web → List ℕ → ℕ × ℕ → Type 0
IsSafe w signal p = signal_in (jack_told w Inlets p.0 p.1) ≡ true → 0 < tally p.0 signal

hops_within : (w : Web) (signal : List ℕ) (k : ℕ) (hops : List Hop) → 0 < tally k signal → AllByRecursion (IsSafe w signal) (places_of hops) → AllByRecursion (IsWithin signal) (wires_by w k hops)
hops_within w signal k [] l h = tt
hops_within w signal k (hop ∷ hops) l h = by_test (is_heard w hop)
    (λ t. rw t (record { source = l; sink = h.0 t }, hops_within w signal k hops l h.1))
    (λ f. rw f (hops_within w signal k hops l h.1))

sink_by : (f : ℕ → Seen) (w : Wire) (s : Option Seen) (o : Option ℕ) → fits_between s (option_map f o) w ≡ true → (x : ℕ) × (o ≡ Some x)
sink_by f w None None h = cc
sink_by f w (Some s) None h = cc
sink_by f w s (Some x) h = (x, refl)

-- a wire that fits leads to a box of the canvas
pub sink_there : (f : ℕ → Seen) (keys : List ℕ) (w : Wire) → fits (map f keys) w ≡ true → slice_get keys w.sink ≡ Some (slice_index_or keys w.sink 0)
sink_there f keys w h =
    let s = sink_by f w (slice_get (map f keys) w.source) (slice_get keys w.sink) (ap (λ o. fits_between (slice_get (map f keys) w.source) o w) (sym (slice_get-map f keys w.sink)) ∙ h) in
    s.1 ∙ ap (λ x. Some x) (sym (get_or_from_slice_get keys w.sink s.0 0 s.1))

-- each box has the ports that its grove gives it
abbrev HasPorts : Grove → Web → Type 0
HasPorts g w = (side : Side) (k : ℕ) → ports_told w side k ≡ jacks_at side g k

place_safe : (g : Grove) (w : Web) (c : ℕ) → HasPorts g w → (v : Wire) → fits (boxes_in g c) v ≡ true → IsSafe w (signal_among g (keys_at g c)) (sink_place (keys_at g c) v)
place_safe g w c ports v fit heard =
    let keys = keys_at g c in
    let k = slice_index_or keys v.sink 0 in
    let there : 0 < tally k keys = counted_at k keys v.sink (sink_there (seen_at g) keys v fit) in
    let carries : signal_in (slice_get (jacks_at Inlets g k) v.inlet) ≡ true = ap (λ js. signal_in (slice_get js v.inlet)) (sym (ports Inlets k)) ∙ heard in
    kept_there (λ x. is_signal_node (get g.nodes x)) keys k (signal_node Inlets g (get g.nodes k) v.inlet carries) there

fed_safe : (g : Grove) (w : Web) (c i o : ℕ) → HasPorts g w → AllByRecursion (IsSafe w (signal_among g (keys_at g c))) (fed_in g c i o)
fed_safe g w c i o ports =
    let signal = signal_among g (keys_at g c) in
    let place = sink_place (keys_at g c) in
    let one : (v : Wire) → fits (boxes_in g c) v ≡ true → IsSafe w signal (place v) = place_safe g w c ports in
    let all = all_passing (λ v. IsSafe w signal (place v)) (fits (boxes_in g c)) (wires_in (get g.boards c)) one in
    all_map (IsSafe w signal) place (fan_out i o (fitting g c)) (all_kept (λ v. IsSafe w signal (place v)) (λ v. v.source == i && v.outlet == o) (fitting g c) all)

-- the wires of each outlet are those that fit
abbrev HasFans : Grove → Web → Type 0
HasFans g w = (k outlet : ℕ) → places_of (fan_hops w k outlet) ≡ fed_from k outlet (all_lines g)

outlet_within : (g : Grove) (w : Web) (c k o : ℕ) → IsOwn g c → HasPorts g w → HasFans g w → 0 < tally k (signal_among g (keys_at g c))
    → AllByRecursion (IsWithin (signal_among g (keys_at g c))) (wires_from w k o)
outlet_within g w c k o own ports fans l =
    let signal = signal_among g (keys_at g c) in
    let among = fewer_kept (λ x. is_signal_node (get g.nodes x)) (keys_at g c) k in
    let at = place_in k (keys_at g c) (omega (arith, l, among)) in
    let same : fed_in g c at.0 o ≡ places_of (fan_hops w k o) = sym (fed_by_number g c at.0 o k own at.1) ∙ sym (fans k o) in
    by_test (signal_in (jack_told w Outlets k o))
    (λ t. rw t (hops_within w signal k (fan_hops w k o) l (subst (λ ps. AllByRecursion (IsSafe w signal) ps) same (fed_safe g w c at.0 o ports))))
    (λ f. rw f tt)

below_within : (g : Grove) (w : Web) (c k n : ℕ) → IsOwn g c → HasPorts g w → HasFans g w → 0 < tally k (signal_among g (keys_at g c))
    → AllByRecursion (IsWithin (signal_among g (keys_at g c))) (wires_below w k n)
below_within g w c k zero own ports fans l = tt
below_within g w c k (suc n) own ports fans l =
    all_append (IsWithin (signal_among g (keys_at g c))) (wires_below w k n) (wires_from w k n) (below_within g w c k n own ports fans l) (outlet_within g w c k n own ports fans l)

all_within : (g : Grove) (w : Web) (c : ℕ) → IsOwn g c → HasPorts g w → HasFans g w → (ks : List ℕ) → ((k : ℕ) → 0 < tally k ks → 0 < tally k (signal_among g (keys_at g c)))
    → AllByRecursion (IsWithin (signal_among g (keys_at g c))) (signal_wires_among w ks)
all_within g w c own ports fans [] h = tt
all_within g w c own ports fans (k ∷ ks) h =
    let first : 0 < tally k (k ∷ ks) = rw (same_test k) (omega arith) in
    all_append (IsWithin (signal_among g (keys_at g c))) (box_wires w k) (signal_wires_among w ks)
    (below_within g w c k (length (ports_told w Outlets k)) own ports fans (h k first))
    (all_within g w c own ports fans ks (λ x l. h x (omega (arith, l))))

-- each canvas has its boxes alone
own_alone : (g : Grove) (c : ℕ) → AreOwn (get g.nodes) (get g.boards) → IsOwn g c
own_alone g c O = record {
  once = O.once c;
  alone = λ d i j k here there. same_Some d c (sym (O.home d j k there) ∙ O.home c i k here);
}

-- a canvas has what its order needs
pub is_canvas : (g : Grove) (w : Web) (c : ℕ) → AreOwn (get g.nodes) (get g.boards) → AreLaid g w
    → IsCanvas (keys_at g c) (signal_among g (keys_at g c)) (signal_wires_among w (signal_among g (keys_at g c)))
is_canvas g w c O L =
    let own = own_alone g c O in
    let keys = keys_at g c in
    let signal = signal_among g keys in
    let p : ℕ → Bool = λ x. is_signal_node (get g.nodes x) in
    let all = all_within g w c own L.ports L.fans signal (λ k l. l) in
    record {
      once = once_apart keys own.once;
      signal_once = λ x. let a = once_apart keys own.once x in let b = fewer_kept p keys x in omega (arith, a, b);
      among = λ x l. let b = fewer_kept p keys x in omega (arith, l, b);
      sources = sources_within signal (signal_wires_among w signal) all;
      sinks = sinks_within signal (signal_wires_among w signal) all;
    }
