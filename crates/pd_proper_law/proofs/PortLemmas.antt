-- The ports of the boxes of a canvas are few, and so are the numbers of the wires that fit.
use Rattle.std.proofs.Common.{◌≡◌, ◌≤◌, ◌<◌, ◌+◌, ◌-◌, ◌==◌, ℕ, ℤ, suc, Bool, true, false, cond, List, [], ◌∷◌, ◌++◌, length, map, replicate, slice_get, Option, Some, None, IfSome, refl, sym, ap, ◌∙◌, subst, arith, length-append}
use Rattle.std.specs.Prelude.{option_map, int_lt}
use Rattle.std.specs.List.{AllByRecursion}
use Rattle.std.proofs.lemmas.List.{length-map, length-replicate}
use Rattle.std.proofs.lemmas.Option.{none-some, same_Some, slice_get_within}
use Rattle.slab.specs.Slab.{get}
use Rattle.pd_object.specs.declared.kinds.Arith.{Arith}
use Rattle.pd_object.specs.declared.kinds.Arith.TheVariants as arith_kind
use Rattle.pd_object.specs.declared.kinds.Glue.{Glue}
use Rattle.pd_object.specs.declared.kinds.Glue.TheVariants as glue
use Rattle.pd_object.specs.declared.kinds.Kind.{Kind}
use Rattle.pd_object.specs.declared.kinds.Kind.TheVariants as kind
use Rattle.pd_object.specs.declared.kinds.Side.TheVariants as side
use Rattle.pd_object.specs.declared.kinds.Signal.{Signal}
use Rattle.pd_object.specs.declared.kinds.Signal.TheVariants as signal
use Rattle.pd_object.specs.declared.kinds.Tone.{Tone}
use Rattle.pd_object.specs.declared.kinds.Tone.TheVariants as tone
use Rattle.pd_object.specs.Ports.{Ports, control, choice_ports, operation_ports_of, arith_ports, glue_ports, tone_ports, signal_ports, ports_of, IsSmallGlue, IsSmallSignal, IsSmallKind}
use Rattle.pd_canvas.specs.declared.wires.Wire.{Wire}
use Rattle.pd_canvas.specs.Proper.{IsSmall}
use Rattle.pd_tree.specs.Ports.{Sockets, PortBox, with_port, port_boxes, placed, by_x, signals, sockets_by, sockets_of, sockets_around, sockets_in, is_made, inlet_signal, outlet_signal, joins, fits_between, fits}
use Rattle.pd_tree.specs.Trees.{Cell, Trees, Done, Leaf, Holder, Tree, width, weight}
use Rattle.pd_grove.specs.declared.grove.Grove.{Grove}
use Rattle.pd_grove.specs.declared.nodes.Node.{Node}
use Rattle.pd_grove.specs.declared.boards.Board.{Board}
use Rattle.pd_grove.specs.Standing.{NodeSeen, node_seen, Stands}
use Rattle.pd_grove.specs.States.{NodesSmall}
use Rattle.pd_fit.proofs.KindPorts.{ports_sound}
use Rattle.pd_guards.proofs.FactLemmas.{all-at}

-- ---- kinds

-- at most so many ports on each side
record AreFew (p : Ports) : Type 0 where
  ins : p.inlets ≤ 1025
  outs : p.outlets ≤ 1025

arith_few : (a : Arith) → AreFew (arith_ports a)
arith_few (arith_kind.Operation o z) = record { ins = omega arith; outs = omega arith }
arith_few (arith_kind.Comparison c z) = record { ins = omega arith; outs = omega arith }
arith_few (arith_kind.Division d z) = record { ins = omega arith; outs = omega arith }
arith_few (arith_kind.Function f) = record { ins = omega arith; outs = omega arith }
arith_few (arith_kind.Clip l h) = record { ins = omega arith; outs = omega arith }

control_few : (i o : ℕ) → i ≤ 1025 → o ≤ 1025 → AreFew (control i o)
control_few i o h k = record { ins = h; outs = k }

more : (n m : ℕ) → n ≤ 1024 → n ≤ 1025
more n m h = omega (arith, h)

choice_by : (b : Bool) (n : ℕ) → n ≤ 1024 → AreFew (cond b (control 2 2) (control 1 (n + 1)))
choice_by true n h = record { ins = omega arith; outs = omega arith }
choice_by false n h = record { ins = omega arith; outs = omega (arith, h) }

send_few : (w : _) (o : Option ℕ) → AreFew (glue_ports (glue.Send w o))
send_few w None = record { ins = omega arith; outs = omega arith }
send_few w (Some s) = record { ins = omega arith; outs = omega arith }

one : 1 ≤ 1025
one = omega arith

none : 0 ≤ 1025
none = omega arith

two : 2 ≤ 1025
two = omega arith

three : 3 ≤ 1025
three = omega arith

many : 32 ≤ 1025
many = omega arith

glue_few : (g : Glue) → IsSmallGlue g → AreFew (glue_ports g)
glue_few (glue.Message t) h = control_few 1 1 one one
glue_few (glue.FloatBox t) h = control_few 1 1 one one
glue_few (glue.SymbolBox t) h = control_few 1 1 one one
glue_few glue.Comment h = control_few 0 0 none none
glue_few (glue.Array t vs) h = control_few 0 0 none none
glue_few (glue.Bang w) h = control_few 1 1 one one
glue_few (glue.Float w z) h = control_few 2 1 two one
glue_few (glue.Int w z) h = control_few 2 1 two one
glue_few (glue.Symbol s) h = control_few 2 1 two one
glue_few (glue.Trigger w outs) h = control_few 1 (length outs) one (more (length outs) 0 h)
glue_few (glue.Pack slots) h = control_few (length slots) 1 (more (length slots) 0 h) one
glue_few (glue.Unpack slots) h = control_few 1 (length slots) one (more (length slots) 0 h)
glue_few (glue.Route args) h = choice_by (length args == 1) (length args) h
glue_few (glue.Select w args) h = choice_by (length args == 1) (length args) h
glue_few (glue.Moses z) h = control_few 2 2 two two
glue_few (glue.Spigot z) h = control_few 2 1 two one
glue_few (glue.Swap z) h = control_few 2 2 two two
glue_few (glue.Change z) h = control_few 1 1 one one
glue_few glue.Until h = control_few 2 1 two one
glue_few glue.Loadbang h = control_few 0 1 none one
glue_few (glue.Print ws) h = control_few 1 0 one none
glue_few (glue.Send w name) h = send_few w name
glue_few (glue.Receive w name) h = control_few 0 1 none one
glue_few (glue.Metro z) h = control_few 2 1 two one
glue_few (glue.Delay w z) h = control_few 2 1 two one
glue_few glue.Timer h = control_few 2 1 two one
glue_few (glue.Random z) h = control_few 2 1 two one
glue_few (glue.ListAppend w atoms) h = control_few 2 1 two one
glue_few (glue.ListPrepend atoms) h = control_few 2 1 two one
glue_few (glue.ListSplit z) h = control_few 2 3 two three
glue_few glue.ListTrim h = control_few 1 1 one one
glue_few glue.ListLength h = control_few 1 1 one one
glue_few (glue.Port side.Inlet) h = control_few 0 1 none one
glue_few (glue.Port side.Outlet) h = control_few 1 0 one none
glue_few (glue.Table name z) h = control_few 0 0 none none
glue_few (glue.Tabread name) h = control_few 1 1 one one
glue_few (glue.Tabwrite name) h = control_few 2 0 two none

tone_few : (t : Tone) → AreFew (tone_ports t)
tone_few (tone.Phasor z) = record { ins = two; outs = one }
tone_few (tone.Osc z) = record { ins = two; outs = one }
tone_few tone.Noise = record { ins = one; outs = one }

operation_few : (o : Option ℤ) → AreFew (operation_ports_of o)
operation_few None = record { ins = two; outs = one }
operation_few (Some z) = record { ins = two; outs = one }

signal_few : (s : Signal) → IsSmallSignal s → AreFew (signal_ports s)
signal_few (signal.Sig z) h = record { ins = one; outs = one }
signal_few (signal.Operation o z) h = operation_few z
signal_few (signal.Function f) h = record { ins = one; outs = one }
signal_few (signal.Clip l u) h = record { ins = three; outs = one }
signal_few signal.Line h = record { ins = two; outs = one }
signal_few signal.Samphold h = record { ins = two; outs = one }
signal_few (signal.Lop z) h = record { ins = two; outs = one }
signal_few (signal.Hip z) h = record { ins = two; outs = one }
signal_few (signal.Delwrite name z) h = record { ins = one; outs = none }
signal_few (signal.Delread name z) h = record { ins = one; outs = one }
signal_few (signal.Send w name) h = record { ins = one; outs = none }
signal_few (signal.Receive w name) h = record { ins = one; outs = one }
signal_few (signal.Throw name) h = record { ins = one; outs = none }
signal_few (signal.Catch name) h = record { ins = none; outs = one }
signal_few signal.Snapshot h = record { ins = one; outs = one }
signal_few (signal.Tabread name) h = record { ins = one; outs = one }
signal_few (signal.Dac channels) h = record { ins = more (length channels) 0 h; outs = none }
signal_few signal.Inlet h = record { ins = none; outs = one }
signal_few signal.Outlet h = record { ins = one; outs = none }

kind_few : (k : Kind) → IsSmallKind k → AreFew (ports_of k)
kind_few (kind.Arith a) h = arith_few a
kind_few (kind.Glue g) h = glue_few g h
kind_few (kind.Tone t) h = tone_few t
kind_few (kind.Signal s) h = signal_few s h
kind_few (kind.Panel p) h = control_few 1 1 one one
kind_few kind.Vline h = record { ins = three; outs = one }
kind_few kind.Unmade h = control_few 32 32 many many
kind_few kind.Canvas h = control_few 0 0 none none

-- ---- boxes

abbrev pub HasFew : Sockets → Type 0
HasFew s = (length s.inlets ≤ 65536) × (length s.outlets ≤ 65536)

all_signals : (first all : ℕ) → first ≤ all → length (signals first all) ≡ all
all_signals first all h =
    let whole = length-append (replicate first true) (replicate (all - first) false) in
    let front : length (replicate first true) ≡ first = length-replicate first true in
    let back : length (replicate (all - first) false) ≡ all - first = length-replicate (all - first) false in
    omega (arith, whole, front, back, h)

below : (n m : ℕ) → n ≡ m → m ≤ 1025 → n ≤ 65536
below n m e h = omega (arith, e, h)

leaf_few : (k : Kind) → IsSmallKind k → HasFew (sockets_of k)
leaf_few k h =
    let s = ports_sound k in
    let f = kind_few k h in (
      below (length (signals (ports_of k).signal_inlets (ports_of k).inlets)) (ports_of k).inlets (all_signals (ports_of k).signal_inlets (ports_of k).inlets s.ins) f.ins,
      below (length (signals (ports_of k).signal_outlets (ports_of k).outlets)) (ports_of k).outlets (all_signals (ports_of k).signal_outlets (ports_of k).outlets s.outs) f.outs,
    )

-- ports of a box around
placed_length : (p : PortBox) (qs : List PortBox) → length (placed p qs) ≡ suc (length qs)
placed_length p [] = refl
placed_length p (q ∷ qs) = by (int_lt q.x p.x) (placed_length p qs)
  where
    by : (b : Bool) → length (placed p qs) ≡ suc (length qs) → length (cond b (q ∷ placed p qs) (p ∷ q ∷ qs)) ≡ suc (suc (length qs))
    by true e = ap suc e
    by false e = refl

sorted_length : (ps : List PortBox) → length (by_x ps) ≡ length ps
sorted_length [] = refl
sorted_length (p ∷ ps) = placed_length p (by_x ps) ∙ ap suc (sorted_length ps)

one_more : (o : Option Bool) (n : ℕ) (x : ℤ) (ps : List PortBox) (w : ℕ) → length ps ≤ w → length (with_port o n x ps) ≤ w + 1
one_more None n x ps w h = omega (arith, h)
one_more (Some b) n x ps w h = omega (arith, h)

no_more : (a w : ℕ) → a ≤ w → a ≤ w + 1
no_more a w h = omega (arith, h)

few_ports : (f : Kind → Option Bool) (n : ℕ) (t : Trees) → length (port_boxes f n t) ≤ width t
few_ports f n Done = omega arith
few_ports f n (Leaf c rest) = one_more (f c.kind) n c.head.x (port_boxes f (n + 1) rest) (width rest) (few_ports f (n + 1) rest)
few_ports f n (Holder c s inner rest) = no_more (length (port_boxes f (n + 1) rest)) (width rest) (few_ports f (n + 1) rest)

pub width_less : (t : Trees) → width t ≤ weight t
width_less Done = omega arith
width_less (Leaf c rest) = omega (arith, width_less rest)
width_less (Holder c s inner rest) = omega (arith, width_less rest)

in_all : (a b w v : ℕ) → a ≡ b → b ≤ w → w ≤ v → v ≤ 16384 → a ≤ 65536
in_all a b w v e h k l = omega (arith, e, h, k, l)

side_few : (f : Kind → Option Bool) (t : Trees) → weight t ≤ 16384 → length (map (λ (p : PortBox). p.is_signal) (by_x (port_boxes f 0 t))) ≤ 65536
side_few f t l =
    in_all (length (map (λ (p : PortBox). p.is_signal) (by_x (port_boxes f 0 t)))) (length (port_boxes f 0 t)) (width t) (weight t)
    (length-map {B = Bool} (by_x (port_boxes f 0 t)) (λ (p : PortBox). p.is_signal) ∙ sorted_length (port_boxes f 0 t)) (few_ports f 0 t) (width_less t) l

around_few : (t : Trees) → weight t ≤ 16384 → HasFew (sockets_around t)
around_few t l = (side_few inlet_signal t l, side_few outlet_signal t l)

-- ---- the boxes of a canvas that stands

small_seen : (o : Option Node) (x : NodeSeen) → ((n : Node) → o ≡ Some n → IsSmallKind n.kind) → option_map node_seen o ≡ Some x → IsSmallKind x.cell.kind
small_seen None x h e = absurd (none-some x e)
small_seen (Some n) x h e = subst (λ (y : NodeSeen). IsSmallKind y.cell.kind) (same_Some (node_seen n) x e) (h n refl)

first_inside : (a b : ℕ) → a + b + 1 ≤ 16384 → a ≤ 16384
first_inside a b h = omega (arith, h)

rest_inside : (a b : ℕ) → a + b + 1 ≤ 16384 → b ≤ 16384
rest_inside a b h = omega (arith, h)

rest_one : (b : ℕ) → b + 1 ≤ 16384 → b ≤ 16384
rest_one b h = omega (arith, h)

pub boxes_few : (g : Grove) (b d : ℕ) (keys : List ℕ) (t : Trees) → NodesSmall (get g.nodes) → Stands (get g.nodes) (get g.boards) b d keys t → weight t ≤ 16384
    → AllByRecursion HasFew (sockets_in t)
boxes_few g b d [] Done small S l = tt
boxes_few g b d (k ∷ ks) Done small S l = absurd S
boxes_few g b d [] (Leaf c rest) small S l = absurd S
boxes_few g b d (k ∷ ks) (Leaf c rest) small S l =
    (leaf_few c.kind (small_seen (get g.nodes k) _ (λ n e. small k n e) S.0), boxes_few g b d ks rest small S.1 (rest_one (weight rest) l))
boxes_few g b d [] (Holder c s inner rest) small S l = absurd S
boxes_few g b d (k ∷ ks) (Holder c s inner rest) small S l =
    (around_few inner (first_inside (weight inner) (weight rest) l), boxes_few g b d ks rest small S.5 (rest_inside (weight inner) (weight rest) l))

pub sockets_many : (t : Trees) → length (sockets_in t) ≡ width t
sockets_many Done = refl
sockets_many (Leaf c rest) = by (length (sockets_in rest)) (width rest) (sockets_many rest)
  where
    by : (a b : ℕ) → a ≡ b → suc a ≡ b + 1
    by a b e = omega (arith, e)
sockets_many (Holder c s inner rest) = by (length (sockets_in rest)) (width rest) (sockets_many rest)
  where
    by : (a b : ℕ) → a ≡ b → suc a ≡ b + 1
    by a b e = omega (arith, e)

-- ---- a wire that fits

low : (i n : ℕ) → i < n → n ≤ 65536 → i ≤ 65535
low i n h k = omega (arith, h, k)

within : {A : Type 0} (xs : List A) (i : ℕ) (x : A) → slice_get xs i ≡ Some x → length xs ≤ 65536 → i ≤ 65535
within xs i x e h = low i (length xs) (slice_get_within xs i x e) h

joins_small : (made : Bool) (outs ins : List Bool) (v : Wire) (from to : Option Bool) → slice_get outs v.outlet ≡ from → slice_get ins v.inlet ≡ to → length outs ≤ 65536 → length ins ≤ 65536
    → joins made from to ≡ true → (v.outlet ≤ 65535) × (v.inlet ≤ 65535)
joins_small made outs ins v (Some a) (Some b) e f h k t = (within outs v.outlet a e h, within ins v.inlet b f k)
joins_small made outs ins v (Some a) None e f h k t = cc
joins_small made outs ins v None to e f h k t = cc

small_by : (boxes : List Sockets) (v : Wire) (s d : Option Sockets) → slice_get boxes v.source ≡ s → slice_get boxes v.sink ≡ d → length boxes ≤ 65536 → IfSome s HasFew → IfSome d HasFew
    → fits_between s d v ≡ true → IsSmall v
small_by boxes v (Some s) (Some d) e f h a b t =
    let r = joins_small d.made s.outlets d.inlets v (slice_get s.outlets v.outlet) (slice_get d.inlets v.inlet) refl refl a.1 b.0 t in
    record { source = within boxes v.source s e h; outlet = r.0; sink = within boxes v.sink d f h; inlet = r.1 }
small_by boxes v (Some s) None e f h a b t = cc
small_by boxes v None d e f h a b t = cc

pub fit_small : (boxes : List Sockets) (v : Wire) → length boxes ≤ 65536 → AllByRecursion HasFew boxes → fits boxes v ≡ true → IsSmall v
fit_small boxes v h few t = small_by boxes v (slice_get boxes v.source) (slice_get boxes v.sink) refl refl h (all-at HasFew boxes v.source few) (all-at HasFew boxes v.sink few) t
