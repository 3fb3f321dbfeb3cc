-- Two canvases that have the same ports and wires by number, and the same boxes that sound: their signal wires and orders.
use Rattle.std.proofs.Common.{◌≡◌, ℕ, zero, suc, ◌+◌, ◌<◌, ◌==◌, Bool, true, false, cond, List, [], ◌∷◌, ◌++◌, map, filter, length, slice_get, Option, Some, None, refl, sym, ap, ◌∙◌, subst, arith}
use Rattle.std.specs.Prelude.{option_map, slice_index_or, if◌then◌else◌}
use Rattle.std.specs.List.{AllByRecursion}
use Rattle.std.proofs.lemmas.List.{map-append, length-map}
use Rattle.std.proofs.lemmas.Option.{none-some, same_Some, slice_get-map, get_or_from_slice_get}
use Rattle.slab.specs.Slab.{get}
use Rattle.pd_canvas.specs.declared.wires.Wire.{Wire}
use Rattle.pd_canvas.specs.Wiring.{fan_out}
use Rattle.pd_order.specs.Graph.{tally, IsOrder}
use Rattle.pd_order.proofs.Basics.{by_test, same_node, same_test, other_node, other_test}
use Rattle.pd_chain.specs.declared.graph.SignalWire.{SignalWire}
use Rattle.pd_chain.specs.Wires.{place_of, sources_into, graph_of}
use Rattle.pd_chain.proofs.RenameLemmas.{IsRenamed, renamed_order}
use Rattle.pd_chain.proofs.WireLemmas.{source_there}
use Rattle.pd_tree.specs.Ports.{Sockets}
use Rattle.pd_grove.specs.declared.grove.Grove.{Grove}
use Rattle.pd_grove.specs.declared.ports.Side.TheVariants.{Inlets, Outlets}
use Rattle.pd_web.specs.declared.jacks.Jack.{Jack}
use Rattle.pd_web.specs.declared.web.Hop.{Hop}
use Rattle.pd_web.specs.declared.web.Web.{Web}
use Rattle.pd_web.specs.Lines.{signals_of, laid_at}
use Rattle.pd_web.specs.Hops.{ports_told, jack_told, signal_in, boxes_told, fan_hops}
use Rattle.pd_present.specs.Presents.{number_in, wire_along, wires_among}
use Rattle.pd_patch.specs.Orders.{is_signal_node, signal_among, is_heard, wire_to, wires_by, wires_from, wires_below, box_wires, signal_wires_among}
use Rattle.pd_patch.proofs.CanvasLemmas.{all_append, all_kept, all_map}
use Rattle.pd_patch.proofs.ListingLemmas.{place_in}
use Rattle.pd_wiring.proofs.HeardLemmas.{all_at}
use Rattle.pd_reload_law.specs.Wires.{AreNumbered, IsAmong, StayAmong}
use Rattle.pd_reload_law.proofs.FanLemmas.{number_is, saved_fan}

-- ---- lists

pub by_option : {X : Type 0} {P : Type 0} (o : Option X) → (o ≡ None → P) → ((x : X) → o ≡ Some x → P) → P
by_option None n s = n refl
by_option (Some x) n s = s x refl

some_of : {X : Type 0} (f : ℕ → X) (o : Option ℕ) (x : X) → option_map f o ≡ Some x → (j : ℕ) × (o ≡ Some j)
some_of f None x e = absurd (none-some x e)
some_of f (Some j) x e = (j, refl)

none_of : {X : Type 0} (f : ℕ → X) (o : Option ℕ) → option_map f o ≡ None → o ≡ None
none_of f None e = refl
none_of f (Some j) e = absurd (none-some (f j) (sym e))

same_list : (xs ys : List ℕ) → ((i : ℕ) → slice_get xs i ≡ slice_get ys i) → xs ≡ ys
same_list [] [] h = refl
same_list [] (y ∷ ys) h = absurd (none-some y (h 0))
same_list (x ∷ xs) [] h = absurd (none-some x (sym (h 0)))
same_list (x ∷ xs) (y ∷ ys) h = ap (λ (z : ℕ). z ∷ xs) (same_Some x y (h 0)) ∙ ap (λ (l : List ℕ). y ∷ l) (same_list xs ys (λ i. h (suc i)))

pub all_of : {X : Type 0} (P : X → Type 0) (xs : List X) → ((i : ℕ) (x : X) → slice_get xs i ≡ Some x → P x) → AllByRecursion P xs
all_of P [] h = tt
all_of P (x ∷ xs) h = (h 0 x refl, all_of P xs (λ i y e. h (suc i) y e))

-- whether a port that is there carries signals
flag_in : Option Bool → Bool
flag_in None = false
flag_in (Some b) = b

flag_of : (o : Option Jack) → signal_in o ≡ flag_in (option_map (λ j. j.is_signal) o)
unfolding flag_in
flag_of None = refl
flag_of (Some j) = refl

signal_flag : (js : List Jack) (n : ℕ) → signal_in (slice_get js n) ≡ flag_in (slice_get (signals_of js) n)
signal_flag js n = flag_of (slice_get js n) ∙ ap flag_in (sym (slice_get-map (λ (j : Jack). j.is_signal) js n))

wire_same : (a b c d : ℕ) → a ≡ c → b ≡ d → ◌≡◌ {A = SignalWire} (record { source = a; sink = b }) (record { source = c; sink = d })
wire_same a b c d e f = ap (λ x. record { source = x; sink = b }) e ∙ ap (λ x. record { source = c; sink = x }) f

place_is : (keys : List ℕ) (i k : ℕ) → ((i j k : ℕ) → slice_get keys i ≡ Some k → slice_get keys j ≡ Some k → i ≡ j) → slice_get keys i ≡ Some k → place_of keys k ≡ i
place_is [] i k once at = absurd (none-some k at)
place_is (x ∷ keys) zero k once at = let t : (x == k) ≡ true = ap (λ y. y == k) (same_Some x k at) ∙ same_test k in rw t refl
place_is (x ∷ keys) (suc i) k once at =
    let differ : x ≡ k → ⊥ = (λ (e : x ≡ k). apart (once 0 (suc i) k (ap (λ y. Some y) e) at)) in
    let f : (x == k) ≡ false = other_test x k differ in
    let rest : place_of keys k ≡ i = place_is keys i k (λ a b y p q. down a b (once (suc a) (suc b) y p q)) at in
    rw f (omega (arith, rest)) where
      apart : 0 ≡ suc i → ⊥
      apart e = omega (arith, e)

      down : (a b : ℕ) → suc a ≡ suc b → a ≡ b
      down a b e = omega (arith, e)

-- ---- two canvases

-- the box of the same number among other keys
abbrev pub moved : List ℕ → List ℕ → ℕ → ℕ
moved numbers keys x = slice_index_or keys (number_in numbers x) 0

abbrev along : (ℕ → ℕ) → SignalWire → SignalWire
along f v = record { source = f v.source; sink = f v.sink }

-- of two canvases: numbers, ports, wires that stay inside, and boxes that sound
pub record Match (g : Grove) (w : Web) (N K : List ℕ) (h : Grove) (v : Web) (M L : List ℕ) : Type 0 where
  pub numbered : AreNumbered N K
  pub numbered2 : AreNumbered M L
  pub boxes : boxes_told v L ≡ boxes_told w K
  pub wires : wires_among v M L ≡ wires_among w N K
  pub inside : StayAmong w K
  pub inside2 : StayAmong v L
  pub sounds : (i k j : ℕ) → slice_get K i ≡ Some k → slice_get L i ≡ Some j → is_signal_node (get h.nodes j) ≡ is_signal_node (get g.nodes k)

module _ (g : Grove) (w : Web) (N K : List ℕ) (h : Grove) (v : Web) (M L : List ℕ) (m : Match g w N K h v M L) where
  abbrev f : ℕ → ℕ
  f x = moved N L x

  seen_same : (i : ℕ) → option_map (laid_at v.sockets.items) (slice_get L i) ≡ option_map (laid_at w.sockets.items) (slice_get K i)
  seen_same i =
      sym (slice_get-map (laid_at v.sockets.items) L i) ∙ ap (λ (x : List Sockets). slice_get x i) m.boxes ∙ slice_get-map (laid_at w.sockets.items) K i

  partner : (i k : ℕ) → slice_get K i ≡ Some k → (j : ℕ) × (slice_get L i ≡ Some j)
  partner i k e = some_of (laid_at v.sockets.items) (slice_get L i) (laid_at w.sockets.items k) (seen_same i ∙ ap (option_map (laid_at w.sockets.items)) e)

  moved_is : (i k j : ℕ) → slice_get K i ≡ Some k → slice_get L i ≡ Some j → f k ≡ j
  moved_is i k j e d = ap (λ n. slice_index_or L n 0) (number_is N k i (m.numbered i k e)) ∙ get_or_from_slice_get L i j 0 d

  -- a box keeps its number
  number_kept : (x : ℕ) → IsAmong K x → number_in M (f x) ≡ number_in N x
  number_kept x a =
      let p = partner a.0 x a.1 in
      ap (number_in M) (moved_is a.0 x p.0 a.1 p.1) ∙ number_is M p.0 a.0 (m.numbered2 a.0 p.0 p.1) ∙ sym (number_is N x a.0 (m.numbered a.0 x a.1))

  one_box : (x y : ℕ) → IsAmong K x → IsAmong K y → f x ≡ f y → x ≡ y
  one_box x y a b e =
      let same : a.0 ≡ b.0 = sym (number_is N x a.0 (m.numbered a.0 x a.1)) ∙ sym (number_kept x a) ∙ ap (number_in M) e ∙ number_kept y b ∙ number_is N y b.0 (m.numbered b.0 y b.1) in
      same_Some x y (sym a.1 ∙ ap (slice_get K) same ∙ b.1)

  box_same : (i k j : ℕ) → slice_get K i ≡ Some k → slice_get L i ≡ Some j → laid_at v.sockets.items j ≡ laid_at w.sockets.items k
  box_same i k j e d =
      same_Some (laid_at v.sockets.items j) (laid_at w.sockets.items k)
      (sym (ap (option_map (laid_at v.sockets.items)) d) ∙ seen_same i ∙ ap (option_map (laid_at w.sockets.items)) e)

  outlets_same : (i k j : ℕ) → slice_get K i ≡ Some k → slice_get L i ≡ Some j → signals_of (ports_told v Outlets j) ≡ signals_of (ports_told w Outlets k)
  outlets_same i k j e d = ap (λ (x : Sockets). x.outlets) (box_same i k j e d)

  outlet_same : (i k j o : ℕ) → slice_get K i ≡ Some k → slice_get L i ≡ Some j → signal_in (jack_told v Outlets j o) ≡ signal_in (jack_told w Outlets k o)
  outlet_same i k j o e d =
      signal_flag (ports_told v Outlets j) o ∙ ap (λ (x : List Bool). flag_in (slice_get x o)) (outlets_same i k j e d) ∙ sym (signal_flag (ports_told w Outlets k) o)

  inlet_same : (i k j o : ℕ) → slice_get K i ≡ Some k → slice_get L i ≡ Some j → signal_in (jack_told v Inlets j o) ≡ signal_in (jack_told w Inlets k o)
  inlet_same i k j o e d =
      signal_flag (ports_told v Inlets j) o ∙ ap (λ (x : Sockets). flag_in (slice_get x.inlets o)) (box_same i k j e d) ∙ sym (signal_flag (ports_told w Inlets k) o)

  -- ---- signal wires

  fans_same : (i k j o : ℕ) → slice_get K i ≡ Some k → slice_get L i ≡ Some j → map (wire_along M j o) (fan_hops v j o) ≡ map (wire_along N k o) (fan_hops w k o)
  fans_same i k j o e d = sym (saved_fan v M L i j o m.numbered2 d) ∙ ap (fan_out i o) m.wires ∙ saved_fan w N K i k o m.numbered e

  hops_same : (i k j o : ℕ) → slice_get K i ≡ Some k → slice_get L i ≡ Some j → (us xs : List Hop)
      → ((n : ℕ) (x : Hop) → slice_get us n ≡ Some x → IsAmong L x.node) → ((n : ℕ) (x : Hop) → slice_get xs n ≡ Some x → IsAmong K x.node)
      → map (wire_along M j o) us ≡ map (wire_along N k o) xs → wires_by v j us ≡ map (along f) (wires_by w k xs)
  hops_same i k j o e d [] [] A B q = refl
  hops_same i k j o e d [] (x ∷ xs) A B q = absurd (cc)
  hops_same i k j o e d (u ∷ us) [] A B q = absurd (cc)
  hops_same i k j o e d (u ∷ us) (x ∷ xs) A B q =
      let first : wire_along M j o u ≡ wire_along N k o x = cc in
      let others : map (wire_along M j o) us ≡ map (wire_along N k o) xs = cc in
      let a : IsAmong L u.node = A 0 u refl in
      let b : IsAmong K x.node = B 0 x refl in
      let same : a.0 ≡ b.0 =
      sym (number_is M u.node a.0 (m.numbered2 a.0 u.node a.1)) ∙ ap (λ (y : Wire). y.sink) first ∙ number_is N x.node b.0 (m.numbered b.0 x.node b.1) in
      let at : slice_get L b.0 ≡ Some u.node = ap (slice_get L) (sym same) ∙ a.1 in
      let heard : is_heard v u ≡ is_heard w x =
      ap (λ n. signal_in (jack_told v Inlets u.node n)) (ap (λ (y : Wire). y.inlet) first) ∙ inlet_same b.0 x.node u.node x.port b.1 at in
      let rest = hops_same i k j o e d us xs (λ n y t. A (suc n) y t) (λ n y t. B (suc n) y t) others in
      ap (λ t. map (wire_to j) (cond t (u ∷ filter (is_heard v) us) (filter (is_heard v) us))) heard
      ∙ step u x (filter (is_heard v) us) (filter (is_heard w) xs) (sym (moved_is i k j e d)) (sym (moved_is b.0 x.node u.node b.1 at)) rest (is_heard w x)
    where
      step : (u x : Hop) (us xs : List Hop) → j ≡ f k → u.node ≡ f x.node → map (wire_to j) us ≡ map (along f) (map (wire_to k) xs) → (t : Bool)
          → map (wire_to j) (cond t (u ∷ us) us) ≡ map (along f) (map (wire_to k) (cond t (x ∷ xs) xs))
      step u x us xs p r e true =
          ap (λ (y : SignalWire). y ∷ map (wire_to j) us) (wire_same j u.node (f k) (f x.node) p r) ∙ ap (λ (l : List SignalWire). along f (wire_to k x) ∷ l) e
      step u x us xs p r e false = e

  from_same : (i k j o : ℕ) → slice_get K i ≡ Some k → slice_get L i ≡ Some j → wires_from v j o ≡ map (along f) (wires_from w k o)
  from_same i k j o e d =
      ap (λ b. if b then wires_by v j (fan_hops v j o) else []) (outlet_same i k j o e d)
      ∙ pick (signal_in (jack_told w Outlets k o)) (wires_by w k (fan_hops w k o)) (wires_by v j (fan_hops v j o))
      (hops_same i k j o e d (fan_hops v j o) (fan_hops w k o) (λ n x t. m.inside2 j o n x (i, d) t) (λ n x t. m.inside k o n x (i, e) t) (fans_same i k j o e d))
    where
      pick : (b : Bool) (xs ys : List SignalWire) → ys ≡ map (along f) xs → (if b then ys else []) ≡ map (along f) (if b then xs else [])
      pick true xs ys e = e
      pick false xs ys e = refl

  below_same : (i k j : ℕ) → slice_get K i ≡ Some k → slice_get L i ≡ Some j → (n : ℕ) → wires_below v j n ≡ map (along f) (wires_below w k n)
  below_same i k j e d zero = refl
  below_same i k j e d (suc n) =
      ap (λ (l : List SignalWire). l ++ wires_from v j n) (below_same i k j e d n)
      ∙ ap (λ (l : List SignalWire). map (along f) (wires_below w k n) ++ l) (from_same i k j n e d)
      ∙ sym (map-append (along f) (wires_below w k n) (wires_from w k n))

  box_moved : (i k j : ℕ) → slice_get K i ≡ Some k → slice_get L i ≡ Some j → box_wires v j ≡ map (along f) (box_wires w k)
  box_moved i k j e d =
      let flag : Jack → Bool = λ x. x.is_signal in
      let count : length (ports_told v Outlets j) ≡ length (ports_told w Outlets k) =
      sym (length-map (ports_told v Outlets j) flag) ∙ ap (λ (l : List Bool). length l) (outlets_same i k j e d) ∙ length-map (ports_told w Outlets k) flag in
      ap (wires_below v j) count ∙ below_same i k j e d (length (ports_told w Outlets k))

  wires_moved : (ks : List ℕ) → AllByRecursion (IsAmong K) ks → signal_wires_among v (map f ks) ≡ map (along f) (signal_wires_among w ks)
  wires_moved [] a = refl
  wires_moved (k ∷ ks) a =
      let i = a.0.0 in
      let p = partner i k a.0.1 in
      ap (λ x. box_wires v x ++ signal_wires_among v (map f ks)) (moved_is i k p.0 a.0.1 p.1)
      ∙ ap (λ (l : List SignalWire). l ++ signal_wires_among v (map f ks)) (box_moved i k p.0 a.0.1 p.1)
      ∙ ap (λ (l : List SignalWire). map (along f) (box_wires w k) ++ l) (wires_moved ks a.1)
      ∙ sym (map-append (along f) (box_wires w k) (signal_wires_among w ks))

  -- ---- signal boxes

  keys_moved : L ≡ map f K
  keys_moved = same_list L (map f K) (λ i. at i (slice_get K i) refl ∙ sym (slice_get-map f K i))
    where
      at : (i : ℕ) (o : Option ℕ) → slice_get K i ≡ o → slice_get L i ≡ option_map f (slice_get K i)
      at i None e = none_of (laid_at v.sockets.items) (slice_get L i) (seen_same i ∙ ap (option_map (laid_at w.sockets.items)) e) ∙ sym (ap (option_map f) e)
      at i (Some k) e = let p = partner i k e in p.1 ∙ ap (λ x. Some x) (sym (moved_is i k p.0 e p.1)) ∙ sym (ap (option_map f) e)

  all_keys : AllByRecursion (IsAmong K) K
  all_keys = all_of (IsAmong K) K (λ i x e. (i, e))

  abbrev signal : List ℕ
  signal = signal_among g K

  all_signal : AllByRecursion (IsAmong K) signal
  all_signal = all_kept (IsAmong K) (λ k. is_signal_node (get g.nodes k)) K all_keys

  kept_moved : (ks : List ℕ) → AllByRecursion (IsAmong K) ks
      → filter (λ k. is_signal_node (get h.nodes k)) (map f ks) ≡ map f (filter (λ k. is_signal_node (get g.nodes k)) ks)
  kept_moved [] a = refl
  kept_moved (k ∷ ks) a =
      let i = a.0.0 in
      let p = partner i k a.0.1 in
      let us = filter (λ k. is_signal_node (get h.nodes k)) (map f ks) in
      let xs = filter (λ k. is_signal_node (get g.nodes k)) ks in
      let same : is_signal_node (get h.nodes (f k)) ≡ is_signal_node (get g.nodes k) =
      ap (λ x. is_signal_node (get h.nodes x)) (moved_is i k p.0 a.0.1 p.1) ∙ m.sounds i k p.0 a.0.1 p.1 in
      ap (λ t. cond t (f k ∷ us) us) same ∙ step k us xs (kept_moved ks a.1) (is_signal_node (get g.nodes k))
    where
      step : (k : ℕ) (us xs : List ℕ) → us ≡ map f xs → (t : Bool) → cond t (f k ∷ us) us ≡ map f (cond t (k ∷ xs) xs)
      step k us xs e true = ap (λ (l : List ℕ). f k ∷ l) e
      step k us xs e false = e

  signal_moved : signal_among h L ≡ map f signal
  signal_moved = ap (filter (λ k. is_signal_node (get h.nodes k))) keys_moved ∙ kept_moved K all_keys

  -- ---- the graph

  -- a signal wire comes from a signal box and leads to a box of the canvas
  abbrev Within : SignalWire → Type 0
  Within x = (0 < tally x.source signal) × IsAmong K x.sink

  from_within : (k o : ℕ) → 0 < tally k signal → IsAmong K k → AllByRecursion Within (wires_from w k o)
  from_within k o l a = pick (signal_in (jack_told w Outlets k o)) (wires_by w k (fan_hops w k o))
      (all_map Within (wire_to k) (filter (is_heard w) (fan_hops w k o))
      (all_kept (λ (x : Hop). Within (wire_to k x)) (is_heard w) (fan_hops w k o) (all_of (λ (x : Hop). Within (wire_to k x)) (fan_hops w k o) (λ n x t. (l, m.inside k o n x a t)))))
    where
      pick : (b : Bool) (xs : List SignalWire) → AllByRecursion Within xs → AllByRecursion Within (if b then xs else [])
      pick true xs h = h
      pick false xs h = tt

  below_within : (k n : ℕ) → 0 < tally k signal → IsAmong K k → AllByRecursion Within (wires_below w k n)
  below_within k zero l a = tt
  below_within k (suc n) l a = all_append Within (wires_below w k n) (wires_from w k n) (below_within k n l a) (from_within k n l a)

  wires_within : (ks : List ℕ) → ((k : ℕ) → 0 < tally k ks → 0 < tally k signal) → AllByRecursion (IsAmong K) ks → AllByRecursion Within (signal_wires_among w ks)
  wires_within [] s a = tt
  wires_within (k ∷ ks) s a =
      all_append Within (box_wires w k) (signal_wires_among w ks)
      (below_within k (length (ports_told w Outlets k)) (s k (rw (same_test k) (omega arith))) a.0)
      (wires_within ks (λ x l. s x (omega (arith, l))) a.1)

  all_within : AllByRecursion Within (signal_wires_among w signal)
  all_within = wires_within signal (λ k l. l) all_signal

  signal_there : (x : ℕ) → 0 < tally x signal → IsAmong K x
  signal_there x l = let p = place_in x signal l in all_at (IsAmong K) signal p.0 x all_signal p.1

  sources_moved : (ws : List SignalWire) (x : ℕ) → AllByRecursion Within ws → IsAmong K x → sources_into (map (along f) ws) (f x) ≡ map f (sources_into ws x)
  sources_moved [] x a h = refl
  sources_moved (y ∷ ws) x a h =
      let rest = sources_moved ws x a.1 h in
      by_test (y.sink == x)
      (λ t. let s : (f y.sink == f x) ≡ true = ap (λ z. f z == f x) (same_node y.sink x t) ∙ same_test (f x) in
      rw (t, s) (ap (λ (l : List ℕ). f y.source ∷ l) rest))
      (λ t. let s : (f y.sink == f x) ≡ false = other_test (f y.sink) (f x) (λ e. other_node y.sink x t (one_box y.sink x a.0.1 h e)) in
      rw (t, s) rest)

  source_within : (ws : List SignalWire) (u : ℕ) → AllByRecursion Within ws → 0 < tally u (map (λ (x : SignalWire). x.source) ws) → 0 < tally u signal
  source_within [] u a l = absurd (omega (arith, l))
  source_within (y ∷ ws) u a l = by_test (y.source == u)
      (λ t. subst (λ z. 0 < tally z signal) (same_node y.source u t) a.0.0)
      (λ t. let less : 0 < 0 + tally u (map (λ (x : SignalWire). x.source) ws) = rw t at l in source_within ws u a.1 (omega (arith, less)))

  once : (i j k : ℕ) → slice_get K i ≡ Some k → slice_get K j ≡ Some k → i ≡ j
  once i j k a b = same_Some i j (sym (m.numbered i k a) ∙ m.numbered j k b)

  once2 : (i j k : ℕ) → slice_get L i ≡ Some k → slice_get L j ≡ Some k → i ≡ j
  once2 i j k a b = same_Some i j (sym (m.numbered2 i k a) ∙ m.numbered2 j k b)

  rank_kept : (x : ℕ) → IsAmong K x → place_of L (f x) ≡ place_of K x
  rank_kept x a =
      let p = partner a.0 x a.1 in
      ap (place_of L) (moved_is a.0 x p.0 a.1 p.1) ∙ place_is L a.0 p.0 once2 p.1 ∙ sym (place_is K a.0 x once a.1)

  graph_moved : IsRenamed f signal (graph_of K (signal_wires_among w signal)) (graph_of L (signal_wires_among v (signal_among h L)))
  graph_moved = record {
    apart = λ x y a b e. one_box x y (signal_there x a) (signal_there y b) e;
    ranks = λ x a. rank_kept x (signal_there x a);
    feeders = λ x a.
        ap (λ (ws : List SignalWire). sources_into ws (f x)) (ap (signal_wires_among v) signal_moved ∙ wires_moved signal all_signal)
        ∙ sources_moved (signal_wires_among w signal) x all_within (signal_there x a);
    among = λ x u a l. source_within (signal_wires_among w signal) u all_within (source_there (signal_wires_among w signal) x u l);
  }

  -- the order of the one, moved, is an order of the other
  pub order_moved : (chain stuck : List ℕ) → IsOrder (graph_of K (signal_wires_among w signal)) signal chain stuck
      → IsOrder (graph_of L (signal_wires_among v (signal_among h L))) (signal_among h L) (map f chain) (map f stuck)
  order_moved chain stuck o =
      subst (λ (l : List ℕ). IsOrder (graph_of L (signal_wires_among v (signal_among h L))) l (map f chain) (map f stuck)) (sym signal_moved)
      (renamed_order f signal chain stuck (graph_of K (signal_wires_among w signal)) (graph_of L (signal_wires_among v (signal_among h L))) graph_moved o)

  pub numbers_kept : (xs : List ℕ) → ((x : ℕ) → 0 < tally x xs → 0 < tally x signal) → map (number_in M) (map f xs) ≡ map (number_in N) xs
  numbers_kept [] a = refl
  numbers_kept (x ∷ xs) a =
      ap (λ n. n ∷ map (number_in M) (map f xs)) (number_kept x (signal_there x (a x (rw (same_test x) (omega arith)))))
      ∙ ap (λ (l : List ℕ). number_in N x ∷ l) (numbers_kept xs (λ y l. a y (omega (arith, l))))
